-- Which checked plans have windows, so that the end of the input counts as a task of theirs where that is asked for.
use Rattle.std.proofs.Common.{◌≡◌, Bool, true, false, ◌&&◌, Some, None, refl, sym, ap}
use Rattle.saber_plan.specs.declared.sizes.Sizes.{Sizes}
use Rattle.saber_plan.specs.declared.plans.Word.{Word}
use Rattle.saber_plan.specs.declared.plans.Shape.TheVariants.{Select, Group, Join}
use Rattle.saber_plan.specs.Trees.{Tree}
use Rattle.saber_plan.specs.Windows.{has_windows}
use Rattle.saber_plan.specs.Checked.{IsChecked}
use Rattle.saber_laws.proofs.CheckedLaws.{selections_have_no_window, words_have_one_window, groups_have_one_window, joins_have_two_windows}
use Rattle.saber_dispatch.specs.Cutting.{end_counts}

none_counts : (asked has : Bool) → has ≡ false → false ≡ (asked && has)
none_counts true has e = sym e
none_counts false has e = refl

asked_counts : (asked has : Bool) → has ≡ true → asked ≡ (asked && has)
asked_counts true has e = sym e
asked_counts false has e = refl

pub of_selection : (q : Tree) (s : Sizes) → IsChecked q → q.shape ≡ Select → q.word ≡ None → false ≡ end_counts q s
of_selection q s checked select word = none_counts s.flush _ (ap has_windows (selections_have_no_window q checked select word).has_frame)

pub of_word : (q : Tree) (s : Sizes) (word : Word) → IsChecked q → q.shape ≡ Select → q.word ≡ Some word → s.flush ≡ end_counts q s
of_word q s word checked select is = asked_counts s.flush _ (ap has_windows (words_have_one_window q word checked select is).has_frame)

pub of_group : (q : Tree) (s : Sizes) → IsChecked q → q.shape ≡ Group → s.flush ≡ end_counts q s
of_group q s checked group = asked_counts s.flush _ (ap has_windows (groups_have_one_window q checked group).has_frame)

pub of_join : (q : Tree) (s : Sizes) → IsChecked q → q.shape ≡ Join → s.flush ≡ end_counts q s
of_join q s checked join = asked_counts s.flush _ (ap has_windows (joins_have_two_windows q checked join).has_frame)

pub ruleset counts = (of_selection, of_word, of_group, of_join)
