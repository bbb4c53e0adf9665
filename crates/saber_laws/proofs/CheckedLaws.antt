-- What a checked plan's windows are good for.
use Rattle.std.proofs.Common.{◌≡◌, List, [], ◌∷◌, Option, Some, None, IfSome, refl, sym, ◌∙◌, ap, subst, subst₂}
use Rattle.std.specs.Option.{option_map_or}
use Rattle.std.proofs.lemmas.Bool.{le-leb}
use Rattle.saber_plan.specs.declared.windows.Window.{Window}
use Rattle.saber_plan.specs.declared.windows.Stream.{Stream}
use Rattle.saber_plan.specs.declared.plans.Word.{Word}
use Rattle.saber_plan.specs.declared.plans.Shape.{Shape}
use Rattle.saber_plan.specs.declared.plans.Shape.TheVariants.{Select, Group, Join}
use Rattle.saber_plan.specs.Trees.{Tree}
use Rattle.saber_plan.specs.Windows.{Frame, unwindowed, one, two, frame_of, Fits}
use Rattle.saber_plan.specs.Answers.{frame}
use Rattle.saber_plan.specs.Checked.{IsChecked, StreamsFit, WordFits, WindowFits}
use Rattle.saber_laws.specs.Plans.{NoWindow, OneWindow, TwoWindows, SelectionsHaveNoWindow, WordsHaveOneWindow, GroupsHaveOneWindow, JoinsHaveTwoWindows}

abbrev one_frame : Option Window → Frame
one_frame o = option_map_or (λ w. one w.measure w.slide w.size) o unwindowed

abbrev two_frame : Option Window → Option Window → Frame
two_frame a b = option_map_or (λ v. option_map_or (λ w. two v.measure v.slide v.size w.size) b unwindowed) a unwindowed

any_frame : (o : Option Window) → IfSome o WindowFits → Fits (one_frame o)
any_frame None h = tt
any_frame (Some w) h = (le-leb 1 w.slide h.slide.0, le-leb 1 w.size h.size.0)

streams_fit : (s : Shape) (ss : List Stream) → StreamsFit s ss → Fits (frame_of ss)
streams_fit Select [] h = absurd h
streams_fit Select (s ∷ []) h = any_frame s.window h
streams_fit Select (s ∷ t ∷ ts) h = absurd h
streams_fit Group [] h = absurd h
streams_fit Group (s ∷ []) (w, e, f) = subst (λ o. Fits (one_frame o)) (sym e) (le-leb 1 w.slide f.slide.0, le-leb 1 w.size f.size.0)
streams_fit Group (s ∷ t ∷ ts) h = absurd h
streams_fit Join [] h = absurd h
streams_fit Join (s ∷ []) h = absurd h
streams_fit Join (s ∷ t ∷ []) (v, w, e, f, g, k, p) =
    subst (λ o. Fits (two_frame o t.window)) (sym e) (subst (λ o. Fits (two_frame (Some v) o)) (sym f) (le-leb 1 v.slide g.slide.0, le-leb 1 v.size g.size.0, le-leb 1 w.size k.size.0))
streams_fit Join (s ∷ t ∷ u ∷ us) h = absurd h

-- sizes and slides are at least 1
pub checked_fit : (q : Tree) → IsChecked q → Fits (frame q)
checked_fit q h = streams_fit q.shape q.streams h.streams

-- ---- which windows they are

select_case : (q : Tree) (ss : List Stream) → q.streams ≡ ss → StreamsFit Select ss → WordFits Select ss None → NoWindow q
select_case q [] e h k = absurd h
select_case q (s ∷ []) e h k = record { stream = s; streams = e; plain = k; has_frame = ap frame_of e ∙ ap one_frame k }
select_case q (s ∷ t ∷ ts) e h k = absurd h

word_case : (q : Tree) (ss : List Stream) (word : Word) → q.streams ≡ ss → StreamsFit Select ss → WordFits Select ss (Some word) → OneWindow q
word_case q [] word e h k = absurd h
word_case q (s ∷ []) word e h (w, g) = record { stream = s; window = w; streams = e; windowed = g; fits = subst (λ o. IfSome o WindowFits) g h; has_frame = ap frame_of e ∙ ap one_frame g }
word_case q (s ∷ t ∷ ts) word e h k = absurd h

group_case : (q : Tree) (ss : List Stream) → q.streams ≡ ss → StreamsFit Group ss → OneWindow q
group_case q [] e h = absurd h
group_case q (s ∷ []) e (w, g, f) = record { stream = s; window = w; streams = e; windowed = g; fits = f; has_frame = ap frame_of e ∙ ap one_frame g }
group_case q (s ∷ t ∷ ts) e h = absurd h

join_case : (q : Tree) (ss : List Stream) → q.streams ≡ ss → StreamsFit Join ss → TwoWindows q
join_case q [] e h = absurd h
join_case q (s ∷ []) e h = absurd h
join_case q (s ∷ t ∷ []) e (v, w, g, k, f, l, p) = record {
  left_stream = s;
  right_stream = t;
  left_window = v;
  right_window = w;
  streams = e;
  left_windowed = g;
  right_windowed = k;
  left_fits = f;
  right_fits = l;
  pair = p;
  has_frame = ap frame_of e ∙ ap (λ o. two_frame o t.window) g ∙ ap (two_frame (Some v)) k;
}
join_case q (s ∷ t ∷ u ∷ us) e h = absurd h

pub selections_have_no_window : SelectionsHaveNoWindow
selections_have_no_window q h e n = select_case q q.streams refl (subst (λ s. StreamsFit s q.streams) e h.streams) (subst₂ (λ s o. WordFits s q.streams o) e n h.word)

pub words_have_one_window : WordsHaveOneWindow
words_have_one_window q word h e n = word_case q q.streams word refl (subst (λ s. StreamsFit s q.streams) e h.streams) (subst₂ (λ s o. WordFits s q.streams o) e n h.word)

pub groups_have_one_window : GroupsHaveOneWindow
groups_have_one_window q h e = group_case q q.streams refl (subst (λ s. StreamsFit s q.streams) e h.streams)

pub joins_have_two_windows : JoinsHaveTwoWindows
joins_have_two_windows q h e = join_case q q.streams refl (subst (λ s. StreamsFit s q.streams) e h.streams)
