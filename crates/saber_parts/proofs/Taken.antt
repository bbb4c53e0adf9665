-- What comes of a piece that a store takes in, where windows print their lines and where they print what they gain or lose.
use Rattle.std.proofs.Common.{◌≡◌, ℕ, List, [], ◌++◌, sym, ◌∙◌, ap}
use Rattle.std.specs.FinMap.{empty}
use Rattle.saber_plan.specs.Trees.{Tree}
use Rattle.saber_plan.specs.Inputs.{Input, first_arrivals}
use Rattle.saber_plan.specs.Answers.{alike, by_change, way, by_way}
use Rattle.saber_plan.specs.Shares.{Shares, piece_in, shares_between, handed_between}
use Rattle.saber_plan.specs.Tasks.{Parts, Kept, by_windows, unclosed, unclosed_by_list, closed_at, last_answers, kept_behind, plain_added, list_added, change_added, added_text, written_by, left_by}
use Rattle.saber_plan.specs.Facts.Kept.{alike_added, alike_kept, alike_parts}
use Rattle.saber_laws.specs.Shares.{Between}
use Rattle.saber_laws.proofs.StepLaws.{open_goes_on, pieces_print}
use Rattle.saber_laws.proofs.SharesLaws.{shares_make_piece}
use Rattle.saber_fragment.specs.Stores.{Continues, Follows}
use Rattle.saber_changes.specs.declared.cancel.Change.{Change}
use Rattle.saber_changes.specs.declared.walk.Walk.{Walk}
use Rattle.saber_changes.specs.declared.output.Output.{Output}
use Rattle.saber_changes.specs.declared.output.Output.TheVariants.{Each, Delta}
use Rattle.saber_changes.specs.Counts.{change_of}
use Rattle.saber_parts.specs.Changing.{Hands, Handed}
use Rattle.saber_parts.specs.Taking.{kept_by, HasTaken, IsGiven}

-- the piece is the next one
abbrev pub Next : Tree → Parts → Output → Shares → Input → ℕ → ℕ → Type 0
Next q parts output s = Follows q (kept_by parts output) (HasTaken q output) (IsGiven q s)

-- what comes of it
pub record Took (q : Tree) (left : Parts) (output : Output) (before after : List ℕ) (r : Input) (x y : ℕ) : Type 0 where
  pub adds : after ≡ before ++ added_text q r x y
  pub stays : kept_by left output ≡ kept_behind q (first_arrivals r y)
  pub taken : HasTaken q output (first_arrivals r y)

module _ (q : Tree) (parts : Parts) (s : Shares) (r : Input) (x y : ℕ) where
  -- ---- windows that print their lines

  module _ (f : Next q parts Each s r x y) where
    lines : way q ≡ alike
    lines = f.taken_is.way_is

    given : s ≡ shares_between q r x y
    given = f.of_is ∙ ap (λ w. by_way w (shares_between q r x y) (shares_between q r x y) (λ change. handed_between q r x y)) lines

    held : parts ≡ unclosed q (first_arrivals r x)
    held = alike_parts q lines parts (first_arrivals r x) f.kept_is

    between : Between q r x y
    between = record { fits = f.windows; ordered = f.fits.ordered; rises = f.rises }

    pub continues : Continues q parts s
    continues = record { input = r; from = x; to = y; windows = f.windows; fits = f.fits; rises = f.rises; unclosed_is = held; shares_are = given }

    lines_added : written_by q parts (piece_in s) ≡ added_text q r x y
    lines_added = (λ j. written_by q (held j) (piece_in (given j))) ∙ ap (written_by q (unclosed q (first_arrivals r x))) (shares_make_piece q r x y between)
        ∙ sym (alike_added q lines r x y ∙ pieces_print q f.windows r x y f.fits.ordered f.rises)

    parts_left : left_by q parts (piece_in s) ≡ unclosed q (first_arrivals r y)
    parts_left = (λ j. left_by q (held j) (piece_in (given j))) ∙ ap (left_by q (unclosed q (first_arrivals r x))) (shares_make_piece q r x y between)
        ∙ sym (open_goes_on q f.windows r x y f.fits.ordered f.rises)

    pub each_took : (left : Parts) (before after : List ℕ) → after ≡ before ++ written_by q parts (piece_in s) → left ≡ left_by q parts (piece_in s) → Took q left Each before after r x y
    each_took left before after text stays = record {
      adds = text ∙ ap (λ l. before ++ l) lines_added;
      stays = ap by_windows (stays ∙ parts_left) ∙ sym (alike_kept q lines (first_arrivals r y));
      taken = record { way_is = lines; is_before = tt };
    }

  -- ---- windows that print what they gain or lose

  module _ (change : Change) (walk : Walk) (f : Next q parts (Delta change walk) s r x y) where
    changes : way q ≡ by_change (change_of change)
    changes = f.taken_is.way_is

    added_is : added_text q r x y ≡ change_added (change_of change) q r x y
    unfolding added_text
    added_is = ap (λ w. by_way w (plain_added q r x y) (list_added q r x y) (λ c. change_added c q r x y)) changes

    kept_is : (u : Input) → kept_behind q u ≡ record { parts = unclosed q u; lists = empty; answers = last_answers q u }
    unfolding kept_behind
    kept_is u = ap (λ w. by_way w (by_windows (unclosed q u)) (record { parts = empty; lists = unclosed_by_list q u; answers = [] })
        (λ c. record { parts = unclosed q u; lists = empty; answers = last_answers q u })) changes

    pub hands : Hands q parts walk s r x y
    hands =
        let kept = f.kept_is ∙ kept_is (first_arrivals r x) in
        record {
          windows = f.windows;
          fits = f.fits;
          rises = f.rises;
          unclosed_is = ap (λ (k : Kept). k.parts) kept;
          next_is = f.taken_is.is_before;
          last_is = ap (λ (k : Kept). k.answers) kept;
          handed_is = f.of_is ∙ ap (λ w. by_way w (shares_between q r x y) (shares_between q r x y) (λ change. handed_between q r x y)) changes;
        }

    pub closed_is : closed_at q r y ≡ s.closed
    unfolding handed_between
    closed_is = sym (ap (λ (t : Shares). t.closed) hands.handed_is)

    pub delta_took : (left : Parts) (new : Walk) (before after : List ℕ) → Handed change q left new before after r x y → Took q left (Delta change new) before after r x y
    delta_took left new before after h = record {
      adds = h.text ∙ ap (λ l. before ++ l) (sym added_is);
      stays = (λ j. kept_by (h.stays j) (Delta change (record { next = new.next; last = h.last j }))) ∙ sym (kept_is (first_arrivals r y));
      taken = record { way_is = changes; is_before = h.next };
    }
