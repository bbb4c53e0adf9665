-- How the first query's text ends.
use Rattle.std.specs.Prelude.{◌≡◌}
use Rattle.saber_io.specs.declared.feeds.EndMark.{EndMark}
use Rattle.saber_io.specs.declared.feeds.EndMark.TheVariants as marks
use Rattle.saber_plan.specs.declared.ends.RunEnd.{RunEnd}
use Rattle.saber_plan.specs.declared.ends.RunEnd.TheVariants.{AllRead, Bad}

-- it is whole where all was read, or a line was refused; else it is cut off
abbrev pub mark_after : RunEnd → EndMark
mark_after AllRead = marks.End
mark_after (Bad side line cause) = marks.End
mark_after _ = marks.Cut

-- the text is whole
abbrev pub IsWhole : RunEnd → Type 0
IsWhole end = mark_after end ≡ marks.End

-- the text is cut off
abbrev pub IsShort : RunEnd → Type 0
IsShort end = mark_after end ≡ marks.Cut
