-- What the words of `many` come to, and some others by a program that has it alone.
use Rattle.std.proofs.Common.{◌≡◌, ◌^◌, ℕ, refl, codes, Bool, true, false, List, [], ◌∷◌, Option, Some, None}
use Rattle.clap.specs.Walk.{Text}
use Rattle.clap.proofs.OnLiterals.{clap_on_literals}
use Rattle.saber_words.specs.Commands.{command_of, is_taken}
use Rattle.saber_words.specs.Many.{AskedMany, many_of}

many : List Text → Option AskedMany
many words = many_of (codes "saber" ∷ codes "many" ∷ words)

-- these queries over `l`, with no option
asking : List Text → Option AskedMany
asking queries = Some (record { left = codes "l"; queries = queries; sizes = record { task = 1024; ring = 64; threads = 2; max_lines = 2 ^ 40; slack = 0; flush = false } })

many_of_one : many (codes "l" ∷ codes "a" ∷ []) ≡ asking (codes "a" ∷ [])
unfolding many asking many_of clap_on_literals
many_of_one = refl

many_of_two : many (codes "l" ∷ codes "a" ∷ codes "b" ∷ []) ≡ asking (codes "a" ∷ codes "b" ∷ [])
unfolding many asking many_of clap_on_literals
many_of_two = refl

many_of_eight : many (codes "l" ∷ codes "a" ∷ codes "b" ∷ codes "c" ∷ codes "d" ∷ codes "e" ∷ codes "f" ∷ codes "g" ∷ codes "h" ∷ []) ≡ asking (codes "a" ∷ codes "b" ∷ codes "c" ∷ codes "d" ∷ codes "e" ∷ codes "f" ∷ codes "g" ∷ codes "h" ∷ [])
unfolding many asking many_of clap_on_literals
many_of_eight = refl

-- one name twice
many_of_one_twice : many (codes "l" ∷ codes "a" ∷ codes "a" ∷ []) ≡ asking (codes "a" ∷ codes "a" ∷ [])
unfolding many asking many_of clap_on_literals
many_of_one_twice = refl

-- after `--` each word is a value
many_after_dashes : many (codes "l" ∷ codes "a" ∷ codes "--" ∷ codes "-b" ∷ []) ≡ asking (codes "a" ∷ codes "-b" ∷ [])
unfolding many asking many_of clap_on_literals
many_after_dashes = refl

-- no file, no query, and a query too many
many_of_nothing : many [] ≡ None
unfolding many many_of clap_on_literals
many_of_nothing = refl

many_of_no_query : many (codes "l" ∷ []) ≡ None
unfolding many many_of clap_on_literals
many_of_no_query = refl

many_of_nine : many (codes "l" ∷ codes "a" ∷ codes "b" ∷ codes "c" ∷ codes "d" ∷ codes "e" ∷ codes "f" ∷ codes "g" ∷ codes "h" ∷ codes "i" ∷ []) ≡ None
unfolding many many_of clap_on_literals
many_of_nine = refl

many_of_nine_with_options : many (codes "l" ∷ codes "a" ∷ codes "b" ∷ codes "c" ∷ codes "d" ∷ codes "--task=2" ∷ codes "e" ∷ codes "f" ∷ codes "g" ∷ codes "h" ∷ codes "--final" ∷ codes "i" ∷ []) ≡ None
unfolding many many_of clap_on_literals
many_of_nine_with_options = refl

-- each of its options with the least that it takes and the most
sized_many : List Text → ℕ → ℕ → ℕ → ℕ → ℕ → Bool → Option AskedMany
sized_many queries task ring threads most slack flush = Some (record { left = codes "l"; queries = queries; sizes = record { task = task; ring = ring; threads = threads; max_lines = most; slack = slack; flush = flush } })

least_of_many : many (codes "l" ∷ codes "a" ∷ codes "--task" ∷ codes "1" ∷ codes "--ring=1" ∷ codes "--threads" ∷ codes "0" ∷ codes "--max-lines" ∷ codes "1" ∷ codes "--slack" ∷ codes "0" ∷ []) ≡ sized_many (codes "a" ∷ []) 1 1 0 1 0 false
unfolding many sized_many many_of clap_on_literals
least_of_many = refl

most_of_many : many (codes "--task=65536" ∷ codes "l" ∷ codes "--ring" ∷ codes "1024" ∷ codes "a" ∷ codes "--threads=8" ∷ codes "b" ∷ codes "--max-lines" ∷ codes "1099511627776" ∷ codes "--slack=1099511627776" ∷ codes "c" ∷ codes "--final" ∷ []) ≡ sized_many (codes "a" ∷ codes "b" ∷ codes "c" ∷ []) 65536 1024 8 (2 ^ 40) (2 ^ 40) true
unfolding many sized_many many_of clap_on_literals
most_of_many = refl

-- and past them
task_of_many_of_0 : many (codes "l" ∷ codes "a" ∷ codes "--task" ∷ codes "0" ∷ []) ≡ None
unfolding many many_of clap_on_literals
task_of_many_of_0 = refl

task_of_many_past_most : many (codes "l" ∷ codes "a" ∷ codes "--task" ∷ codes "65537" ∷ []) ≡ None
unfolding many many_of clap_on_literals
task_of_many_past_most = refl

ring_of_many_of_0 : many (codes "l" ∷ codes "a" ∷ codes "--ring" ∷ codes "0" ∷ []) ≡ None
unfolding many many_of clap_on_literals
ring_of_many_of_0 = refl

ring_of_many_past_most : many (codes "l" ∷ codes "a" ∷ codes "--ring" ∷ codes "1025" ∷ []) ≡ None
unfolding many many_of clap_on_literals
ring_of_many_past_most = refl

threads_of_many_past_most : many (codes "l" ∷ codes "a" ∷ codes "--threads" ∷ codes "9" ∷ []) ≡ None
unfolding many many_of clap_on_literals
threads_of_many_past_most = refl

lines_of_many_of_0 : many (codes "l" ∷ codes "a" ∷ codes "--max-lines" ∷ codes "0" ∷ []) ≡ None
unfolding many many_of clap_on_literals
lines_of_many_of_0 = refl

lines_of_many_past_most : many (codes "l" ∷ codes "a" ∷ codes "--max-lines" ∷ codes "1099511627777" ∷ []) ≡ None
unfolding many many_of clap_on_literals
lines_of_many_past_most = refl

slack_of_many_past_most : many (codes "l" ∷ codes "a" ∷ codes "--slack" ∷ codes "1099511627777" ∷ []) ≡ None
unfolding many many_of clap_on_literals
slack_of_many_past_most = refl

-- an option twice, and the flag twice
threads_of_many_twice : many (codes "l" ∷ codes "a" ∷ codes "--threads" ∷ codes "2" ∷ codes "--threads" ∷ codes "2" ∷ []) ≡ None
unfolding many many_of clap_on_literals
threads_of_many_twice = refl

final_of_many_twice : many (codes "l" ∷ codes "--final" ∷ codes "a" ∷ codes "--final" ∷ []) ≡ None
unfolding many many_of clap_on_literals
final_of_many_twice = refl

-- no query is an option, and no file is one
many_dash_query : many (codes "l" ∷ codes "a" ∷ codes "-b" ∷ []) ≡ None
unfolding many many_of clap_on_literals
many_dash_query = refl

many_second_as_option : many (codes "l" ∷ codes "a" ∷ codes "--second" ∷ codes "b" ∷ []) ≡ None
unfolding many many_of clap_on_literals
many_second_as_option = refl

many_left_as_option : many (codes "--left" ∷ codes "l" ∷ codes "a" ∷ []) ≡ None
unfolding many many_of clap_on_literals
many_left_as_option = refl

-- no help
help_of_many : many (codes "--help" ∷ codes "l" ∷ codes "a" ∷ []) ≡ None
unfolding many many_of clap_on_literals
help_of_many = refl

-- no word at all, the name of the program alone, and the words of other commands
many_without_words : many_of [] ≡ None
unfolding many_of clap_on_literals
many_without_words = refl

many_name_alone : many_of (codes "saber" ∷ []) ≡ None
unfolding many_of clap_on_literals
many_name_alone = refl

many_of_run : many_of (codes "saber" ∷ codes "run" ∷ codes "q" ∷ codes "l" ∷ []) ≡ None
unfolding many_of clap_on_literals
many_of_run = refl

many_of_check : many_of (codes "saber" ∷ codes "check" ∷ codes "q" ∷ []) ≡ None
unfolding many_of clap_on_literals
many_of_check = refl

many_of_demo : many_of (codes "saber" ∷ codes "demo" ∷ codes "1" ∷ codes "9" ∷ []) ≡ None
unfolding many_of clap_on_literals
many_of_demo = refl

many_of_chain : many_of (codes "saber" ∷ codes "chain" ∷ codes "a" ∷ codes "b" ∷ codes "l" ∷ []) ≡ None
unfolding many_of clap_on_literals
many_of_chain = refl

many_behind_dashes : many_of (codes "saber" ∷ codes "--" ∷ codes "many" ∷ codes "l" ∷ codes "a" ∷ []) ≡ None
unfolding many_of clap_on_literals
many_behind_dashes = refl

-- and `many` is no other command
many_of_program : command_of (codes "saber" ∷ codes "many" ∷ codes "l" ∷ codes "a" ∷ []) ≡ None
unfolding command_of is_taken clap_on_literals
many_of_program = refl
