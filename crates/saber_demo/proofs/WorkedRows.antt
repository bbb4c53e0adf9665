-- Worked rows and summaries.
use Rattle.std.specs.Prelude.{◌≡◌, [], ◌∷◌, map, codes, refl}
use Rattle.std.specs.Fmt.{digits}
use Rattle.saber_plan.specs.Windows.{from}
use Rattle.saber_plan.specs.Rows.{lines_of}
use Rattle.saber_demo.specs.Generator.{state, drawn_number}
use Rattle.saber_demo.specs.Rows.{generated_file}
use Rattle.saber_demo.specs.Summary.{summary}

-- the numbers of the C standard's example for the seed 1
first_draws : map (drawn_number 1) (from 0 8) ≡ 16838 ∷ 5758 ∷ 10113 ∷ 17515 ∷ 31051 ∷ 5627 ∷ 23010 ∷ 7419 ∷ []
unfolding state from
first_draws = refl

first_lines : generated_file 1 3 ≡ codes "0,2,16838\n1,2,5758\n2,1,10113\n"
unfolding state from digits
first_lines = refl

-- the greatest seed
greatest_seed : map (drawn_number 2147483647) (from 0 2) ≡ 15929 ∷ 4409 ∷ []
unfolding state from
greatest_seed = refl

of_three_lines : summary 9 (codes "0,1,1,10113\n0,2,3,45606\n0,3,4,61612\n") ≡ codes "rows 9\nlines 3\nbytes 36\nlast 0,3,4,61612\n"
unfolding summary lines_of digits
of_three_lines = refl

of_no_line : summary 8 [] ≡ codes "rows 8\nlines 0\nbytes 0\nlast -\n"
unfolding summary lines_of digits
of_no_line = refl

-- a last line that lacks its line feed, and an empty one
of_part_of_a_line : summary 1 (codes "5\n67") ≡ codes "rows 1\nlines 1\nbytes 4\nlast 67\n"
unfolding summary lines_of digits
of_part_of_a_line = refl

of_an_empty_line : summary 1 (codes "5\n\n") ≡ codes "rows 1\nlines 2\nbytes 3\nlast \n"
unfolding summary lines_of digits
of_an_empty_line = refl
