-- What the second query read of a pipe, and what the first one wrote.
use Rattle.std.proofs.Common.{◌≡◌, ◌≢◌, ℕ, List, [], ◌∷◌, ◌++◌, refl, sym, ◌∙◌, ap, subst, append_assoc, append-nil, length, length-append, arith}
use Rattle.std.specs.Prelude.{Option, Some, None}
use Rattle.saber_io.specs.declared.feeds.EndMark.{EndMark}
use Rattle.saber_io.specs.declared.feeds.EndMark.TheVariants as marks
use Rattle.saber_plan.specs.declared.sizes.Sizes.{Sizes}
use Rattle.saber_plan.specs.Trees.{Tree}
use Rattle.saber_pipe.specs.Receipts.{Settled}
use Rattle.saber_pipe.specs.Relays.{Drains}
use Rattle.saber_plan.specs.declared.rows.Side.{Side}
use Rattle.saber_plan.specs.declared.ends.RunEnd.{RunEnd}
use Rattle.saber_plan.specs.declared.ends.RunEnd.TheVariants.{AllRead, ReadFault}
use Rattle.saber_engine.specs.FedRuns.{GoesOn, TakesWhole, GivesFed, WritesFed, CutLeavesWhole}
use Rattle.saber_chain.specs.Sinks.{SinkSeen}
use Rattle.saber_chain.specs.Texts.{between_limits}
use Rattle.saber_chain.specs.Seconds.{RunsSecond, ReadsBetween, second_sizes}

no_mark : {m : EndMark} (mark : Option EndMark) → mark ≡ Some m → mark ≢ None
no_mark mark is none = let e = sym is ∙ none in cc

-- no bytes were added to a list that they leave as it is
no_length : (xs : List ℕ) → length xs ≡ 0 → xs ≡ []
no_length [] e = refl
no_length (x ∷ xs) e = absurd (omega arith)

nothing_more : (taken more : List ℕ) → taken ≡ taken ++ more → more ≡ []
nothing_more taken more e = let sums = length-append taken more in let lengths = ap length e in no_length more (omega (arith, lengths, sums))

module _ {q : Tree} {s : Sizes} {had has : SinkSeen} {end : RunEnd} {tasks : ℕ} where
  -- what the engine tells of its run over what was taken
  pub ran_fed : {x : Sizes} → x ≡ second_sizes s → {taken : List ℕ} {mark : Option EndMark}
      → GivesFed q x taken mark had.written has.written end tasks → WritesFed q x taken mark had.writes has.writes end tasks → CutLeavesWhole q x taken end tasks
      → (end ≡ AllRead → mark ≡ Some marks.End) → ((side : Side) → end ≡ ReadFault side → mark ≡ Some marks.Cut) → RunsSecond q s taken mark had has end tasks
  ran_fed is {taken} {mark} gives writes whole all cut =
      let g : GivesFed q (second_sizes s) taken mark had.written has.written end tasks = subst (λ z. GivesFed q z taken mark had.written has.written end tasks) is gives in
      record {
        out = g.0;
        written = g.1;
        gives = g.2;
        one_write = subst (λ z. WritesFed q z taken mark had.writes has.writes end tasks) is writes;
        whole = subst (λ z. CutLeavesWhole q z taken end tasks) is whole;
        all_read = all;
        cut = cut;
      }

  -- what is taken behind the run changes nothing
  pub drained : {taken taken' : List ℕ} {mark mark' : Option EndMark} → RunsSecond q s taken mark had has end tasks → Drains taken taken' mark mark' → RunsSecond q s taken' mark' had has end tasks
  drained {taken} {taken'} {mark} {mark'} runs d = record {
    out = runs.out;
    written = runs.written;
    gives = λ all g. runs.gives all (goes_on all g);
    one_write = λ all g. runs.one_write all (goes_on all g);
    whole = λ side e. subst (λ z. TakesWhole q s.task between_limits tasks z) (sym (same (runs.cut side e))) (runs.whole side e);
    all_read = λ e. let m = runs.all_read e in (d.behind (no_mark mark m)).0 ∙ m;
    cut = λ side e. let m = runs.cut side e in (d.behind (no_mark mark m)).0 ∙ m;
  }
    where
      goes_on : (all : List ℕ) → GoesOn taken' mark' all → GoesOn taken mark all
      goes_on all g = record {
        more = d.more ++ g.more;
        all_is = g.all_is ∙ ap (λ z. z ++ g.more) d.taken_is ∙ append_assoc taken d.more g.more;
        ended = λ e. let b = d.behind (no_mark mark e) in ap (λ z. z ++ g.more) b.1 ∙ g.ended (b.0 ∙ e);
      }

      same : {m : EndMark} → mark ≡ Some m → taken' ≡ taken
      same m = d.taken_is ∙ ap (λ z. taken ++ z) (d.behind (no_mark mark m)).1 ∙ append-nil taken

  -- what was taken is what it needs of the text
  pub settled : {taken between : List ℕ} {mark : Option EndMark} {m : EndMark} → RunsSecond q s taken mark had has end tasks → Settled between (Some m) taken mark → ReadsBetween q s between m had has end tasks
  settled {taken} {between} {mark} {m} runs done = record {
    out = runs.out;
    written = runs.written;
    gives = runs.gives between goes_on;
    one_write = runs.one_write between goes_on;
    whole = λ side e. subst (λ z. TakesWhole q s.task between_limits tasks z) (done.whole (no_mark mark (runs.cut side e))).0 (runs.whole side e);
    all_read = λ e. mark_is (runs.all_read e);
    cut = λ side e. mark_is (runs.cut side e);
  }
    where
      goes_on : GoesOn taken mark between
      goes_on = record {
        more = done.front.0;
        all_is = done.front.1;
        ended = λ e. nothing_more taken done.front.0 ((done.whole (no_mark mark e)).0 ∙ done.front.1);
      }

      mark_is : {n : EndMark} → mark ≡ Some n → m ≡ n
      mark_is {n} e = let both = sym (done.whole (no_mark mark e)).1 ∙ e in cc
