-- Laws of checked plans: which windows they have.
use Rattle.std.specs.Prelude.{◌≡◌, [], ◌∷◌, Some, None}
use Rattle.saber_plan.specs.declared.windows.Window.{Window}
use Rattle.saber_plan.specs.declared.windows.Stream.{Stream}
use Rattle.saber_plan.specs.declared.plans.Word.{Word}
use Rattle.saber_plan.specs.declared.plans.Shape.TheVariants.{Select, Group, Join}
use Rattle.saber_plan.specs.Trees.{Tree}
use Rattle.saber_plan.specs.Windows.{unwindowed, one, two}
use Rattle.saber_plan.specs.Answers.{frame}
use Rattle.saber_plan.specs.Checked.{IsChecked, WindowFits, Pairs}

-- a selection without a stream word has one stream, without a window
pub record NoWindow (q : Tree) : Type 0 where
  pub stream : Stream
  pub streams : q.streams ≡ stream ∷ []
  pub plain : stream.window ≡ None
  pub has_frame : frame q ≡ unwindowed

abbrev pub SelectionsHaveNoWindow : Type 0
SelectionsHaveNoWindow = (q : Tree) → IsChecked q → q.shape ≡ Select → q.word ≡ None → NoWindow q

-- a group query one with a window
pub record OneWindow (q : Tree) : Type 0 where
  pub stream : Stream
  pub window : Window
  pub streams : q.streams ≡ stream ∷ []
  pub windowed : stream.window ≡ Some window
  pub fits : WindowFits window
  pub has_frame : frame q ≡ one window.measure window.slide window.size

abbrev pub GroupsHaveOneWindow : Type 0
GroupsHaveOneWindow = (q : Tree) → IsChecked q → q.shape ≡ Group → OneWindow q

-- and so has a selection with a stream word
abbrev pub WordsHaveOneWindow : Type 0
WordsHaveOneWindow = (q : Tree) (word : Word) → IsChecked q → q.shape ≡ Select → q.word ≡ Some word → OneWindow q

-- a join two with windows of one measure and slide
pub record TwoWindows (q : Tree) : Type 0 where
  pub left_stream : Stream
  pub right_stream : Stream
  pub left_window : Window
  pub right_window : Window
  pub streams : q.streams ≡ left_stream ∷ right_stream ∷ []
  pub left_windowed : left_stream.window ≡ Some left_window
  pub right_windowed : right_stream.window ≡ Some right_window
  pub left_fits : WindowFits left_window
  pub right_fits : WindowFits right_window
  pub pair : Pairs left_window right_window
  pub has_frame : frame q ≡ two left_window.measure left_window.slide left_window.size right_window.size

abbrev pub JoinsHaveTwoWindows : Type 0
JoinsHaveTwoWindows = (q : Tree) → IsChecked q → q.shape ≡ Join → TwoWindows q
