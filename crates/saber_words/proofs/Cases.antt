-- What the words of the table's forms, and of some others, come to.
use Rattle.std.proofs.Common.{◌≡◌, ◌^◌, ℕ, refl, codes, true, false, List, [], ◌∷◌, Option, Some, None}
use Rattle.clap.specs.Walk.{Text}
use Rattle.clap.proofs.OnLiterals.{clap_on_literals}
use Rattle.saber_words.specs.Commands.{Asked, chain, check, command_of, demo, plain_chain, plain_demo, is_taken, plain_run, run, usual_sizes}

saber : List Text → Option Asked
saber words = command_of (codes "saber" ∷ words)

one_file : saber (codes "run" ∷ codes "q" ∷ codes "l" ∷ []) ≡ Some (plain_run (codes "q") (codes "l") None)
unfolding saber command_of is_taken clap_on_literals
one_file = refl

two_files : saber (codes "run" ∷ codes "q" ∷ codes "l" ∷ codes "r" ∷ []) ≡ Some (plain_run (codes "q") (codes "l") (Some (codes "r")))
unfolding saber command_of is_taken clap_on_literals
two_files = refl

checked : saber (codes "check" ∷ codes "q" ∷ []) ≡ Some (check (record { query = codes "q" }))
unfolding saber command_of is_taken clap_on_literals
checked = refl

-- after `--` each word is a value
after_dashes : saber (codes "run" ∷ codes "--" ∷ codes "q" ∷ codes "l" ∷ []) ≡ Some (plain_run (codes "q") (codes "l") None)
unfolding saber command_of is_taken clap_on_literals
after_dashes = refl

flag_after_dashes : saber (codes "check" ∷ codes "--" ∷ codes "-q" ∷ []) ≡ Some (check (record { query = codes "-q" }))
unfolding saber command_of is_taken clap_on_literals
flag_after_dashes = refl

-- `-` alone is a value, and so is the empty word
dash_alone : saber (codes "run" ∷ codes "-" ∷ codes "" ∷ []) ≡ Some (plain_run (codes "-") (codes "") None)
unfolding saber command_of is_taken clap_on_literals
dash_alone = refl

-- two numbers in their ranges, with `+` and leading zeros too
generated : saber (codes "demo" ∷ codes "1" ∷ codes "9" ∷ []) ≡ Some (plain_demo 1 9)
unfolding saber command_of is_taken clap_on_literals
generated = refl

greatest_numbers : saber (codes "demo" ∷ codes "2147483647" ∷ codes "1048576" ∷ []) ≡ Some (plain_demo 2147483647 1048576)
unfolding saber command_of is_taken clap_on_literals
greatest_numbers = refl

seed_too_great : saber (codes "demo" ∷ codes "2147483648" ∷ codes "0" ∷ []) ≡ None
unfolding saber command_of is_taken clap_on_literals
seed_too_great = refl

too_many_rows : saber (codes "demo" ∷ codes "0" ∷ codes "1048577" ∷ []) ≡ None
unfolding saber command_of is_taken clap_on_literals
too_many_rows = refl

sizes_of_demo : saber (codes "demo" ∷ codes "1" ∷ codes "--task" ∷ codes "3" ∷ codes "9" ∷ codes "--ring=1" ∷ codes "--threads" ∷ codes "0" ∷ []) ≡ Some (demo (record { seed = 1; rows = 9; sizes = record usual_sizes { task = 3; ring = 1; threads = 0 } }))
unfolding saber command_of is_taken clap_on_literals
sizes_of_demo = refl

-- no word at all, and the name of the program alone
no_words : command_of [] ≡ None
unfolding command_of is_taken clap_on_literals
no_words = refl

name_alone : saber [] ≡ None
unfolding saber command_of is_taken clap_on_literals
name_alone = refl

-- too few files, and too many
no_left : saber (codes "run" ∷ codes "q" ∷ []) ≡ None
unfolding saber command_of is_taken clap_on_literals
no_left = refl

no_query : saber (codes "check" ∷ []) ≡ None
unfolding saber command_of is_taken clap_on_literals
no_query = refl

four_files : saber (codes "run" ∷ codes "a" ∷ codes "b" ∷ codes "c" ∷ codes "d" ∷ []) ≡ None
unfolding saber command_of is_taken clap_on_literals
four_files = refl

checked_with_file : saber (codes "check" ∷ codes "q" ∷ codes "l" ∷ []) ≡ None
unfolding saber command_of is_taken clap_on_literals
checked_with_file = refl

-- no help and no version
help_flag : saber (codes "--help" ∷ []) ≡ None
unfolding saber command_of is_taken clap_on_literals
help_flag = refl

short_help_flag : saber (codes "-h" ∷ []) ≡ None
unfolding saber command_of is_taken clap_on_literals
short_help_flag = refl

help_word : saber (codes "help" ∷ []) ≡ None
unfolding saber command_of is_taken clap_on_literals
help_word = refl

version_flag : saber (codes "--version" ∷ []) ≡ None
unfolding saber command_of is_taken clap_on_literals
version_flag = refl

help_of_run : saber (codes "run" ∷ codes "--help" ∷ codes "q" ∷ []) ≡ None
unfolding saber command_of is_taken clap_on_literals
help_of_run = refl

-- an unknown command, and one after `--`
unknown : saber (codes "foo" ∷ []) ≡ None
unfolding saber command_of is_taken clap_on_literals
unknown = refl

run_after_dashes : saber (codes "--" ∷ codes "run" ∷ codes "q" ∷ codes "l" ∷ []) ≡ None
unfolding saber command_of is_taken clap_on_literals
run_after_dashes = refl

-- ---- options

-- a run of `q` over `l`, in tasks of so many rows, over files of at most so many lines
sized : ℕ → ℕ → Option Asked
sized task most = Some (run (record { query = codes "q"; left = codes "l"; right = None; sizes = record { task = task; ring = 64; threads = 2; max_lines = most; slack = 0; flush = false } }))

-- a number in its range, in a word of its own or behind `=`, and at any place among the files
least_task : saber (codes "run" ∷ codes "q" ∷ codes "l" ∷ codes "--task" ∷ codes "1" ∷ []) ≡ sized 1 (2 ^ 40)
unfolding saber sized command_of is_taken clap_on_literals
least_task = refl

most_task : saber (codes "run" ∷ codes "q" ∷ codes "l" ∷ codes "--task" ∷ codes "65536" ∷ []) ≡ sized 65536 (2 ^ 40)
unfolding saber sized command_of is_taken clap_on_literals
most_task = refl

joined_task : saber (codes "run" ∷ codes "--task=5" ∷ codes "q" ∷ codes "l" ∷ []) ≡ sized 5 (2 ^ 40)
unfolding saber sized command_of is_taken clap_on_literals
joined_task = refl

task_between : saber (codes "run" ∷ codes "q" ∷ codes "--task" ∷ codes "+5" ∷ codes "l" ∷ []) ≡ sized 5 (2 ^ 40)
unfolding saber sized command_of is_taken clap_on_literals
task_between = refl

-- a value out of range, one that is no number, and none; given twice
task_of_0 : saber (codes "run" ∷ codes "q" ∷ codes "l" ∷ codes "--task" ∷ codes "0" ∷ []) ≡ None
unfolding saber sized command_of is_taken clap_on_literals
task_of_0 = refl

task_past_most : saber (codes "run" ∷ codes "q" ∷ codes "l" ∷ codes "--task" ∷ codes "65537" ∷ []) ≡ None
unfolding saber sized command_of is_taken clap_on_literals
task_past_most = refl

task_of_no_number : saber (codes "run" ∷ codes "q" ∷ codes "l" ∷ codes "--task" ∷ codes "x" ∷ []) ≡ None
unfolding saber sized command_of is_taken clap_on_literals
task_of_no_number = refl

task_of_nothing : saber (codes "run" ∷ codes "q" ∷ codes "l" ∷ codes "--task" ∷ []) ≡ None
unfolding saber sized command_of is_taken clap_on_literals
task_of_nothing = refl

task_below_0 : saber (codes "run" ∷ codes "q" ∷ codes "l" ∷ codes "--task" ∷ codes "-1" ∷ []) ≡ None
unfolding saber sized command_of is_taken clap_on_literals
task_below_0 = refl

empty_task : saber (codes "run" ∷ codes "q" ∷ codes "l" ∷ codes "--task=" ∷ []) ≡ None
unfolding saber sized command_of is_taken clap_on_literals
empty_task = refl

task_twice : saber (codes "run" ∷ codes "q" ∷ codes "l" ∷ codes "--task" ∷ codes "2" ∷ codes "--task" ∷ codes "2" ∷ []) ≡ None
unfolding saber sized command_of is_taken clap_on_literals
task_twice = refl

-- the other option
least_lines : saber (codes "run" ∷ codes "q" ∷ codes "l" ∷ codes "--max-lines" ∷ codes "1" ∷ []) ≡ sized 1024 1
unfolding saber sized command_of is_taken clap_on_literals
least_lines = refl

most_lines : saber (codes "run" ∷ codes "q" ∷ codes "l" ∷ codes "--max-lines" ∷ codes "1099511627776" ∷ []) ≡ sized 1024 (2 ^ 40)
unfolding saber sized command_of is_taken clap_on_literals
most_lines = refl

lines_of_0 : saber (codes "run" ∷ codes "q" ∷ codes "l" ∷ codes "--max-lines" ∷ codes "0" ∷ []) ≡ None
unfolding saber sized command_of is_taken clap_on_literals
lines_of_0 = refl

lines_past_most : saber (codes "run" ∷ codes "q" ∷ codes "l" ∷ codes "--max-lines" ∷ codes "1099511627777" ∷ []) ≡ None
unfolding saber sized command_of is_taken clap_on_literals
lines_past_most = refl

both : saber (codes "run" ∷ codes "--max-lines=2" ∷ codes "q" ∷ codes "l" ∷ codes "--task" ∷ codes "3" ∷ []) ≡ sized 3 2
unfolding saber sized command_of is_taken clap_on_literals
both = refl

-- the ring and the threads
placed : ℕ → ℕ → Option Asked
placed ring threads = Some (run (record { query = codes "q"; left = codes "l"; right = None; sizes = record { task = 1024; ring = ring; threads = threads; max_lines = 2 ^ 40; slack = 0; flush = false } }))

least_ring : saber (codes "run" ∷ codes "q" ∷ codes "l" ∷ codes "--ring" ∷ codes "1" ∷ codes "--threads" ∷ codes "0" ∷ []) ≡ placed 1 0
unfolding saber placed command_of is_taken clap_on_literals
least_ring = refl

most_ring : saber (codes "run" ∷ codes "--threads=64" ∷ codes "q" ∷ codes "l" ∷ codes "--ring" ∷ codes "1024" ∷ []) ≡ placed 1024 64
unfolding saber placed command_of is_taken clap_on_literals
most_ring = refl

ring_of_0 : saber (codes "run" ∷ codes "q" ∷ codes "l" ∷ codes "--ring" ∷ codes "0" ∷ []) ≡ None
unfolding saber command_of is_taken clap_on_literals
ring_of_0 = refl

ring_past_most : saber (codes "run" ∷ codes "q" ∷ codes "l" ∷ codes "--ring" ∷ codes "1025" ∷ []) ≡ None
unfolding saber command_of is_taken clap_on_literals
ring_past_most = refl

threads_past_most : saber (codes "run" ∷ codes "q" ∷ codes "l" ∷ codes "--threads" ∷ codes "65" ∷ []) ≡ None
unfolding saber command_of is_taken clap_on_literals
threads_past_most = refl

-- the slack
slacked : ℕ → Option Asked
slacked slack = Some (run (record { query = codes "q"; left = codes "l"; right = None; sizes = record { task = 1024; ring = 64; threads = 2; max_lines = 2 ^ 40; slack = slack; flush = false } }))

least_slack : saber (codes "run" ∷ codes "q" ∷ codes "l" ∷ codes "--slack" ∷ codes "0" ∷ []) ≡ slacked 0
unfolding saber slacked command_of is_taken clap_on_literals
least_slack = refl

most_slack : saber (codes "run" ∷ codes "--slack=1099511627776" ∷ codes "q" ∷ codes "l" ∷ []) ≡ slacked (2 ^ 40)
unfolding saber slacked command_of is_taken clap_on_literals
most_slack = refl

slack_past_most : saber (codes "run" ∷ codes "q" ∷ codes "l" ∷ codes "--slack" ∷ codes "1099511627777" ∷ []) ≡ None
unfolding saber command_of is_taken clap_on_literals
slack_past_most = refl

check_slack : saber (codes "check" ∷ codes "q" ∷ codes "--slack" ∷ codes "1" ∷ []) ≡ None
unfolding saber command_of is_taken clap_on_literals
check_slack = refl

-- an option where it has no place, by a short name, and by a part of its name

short_task : saber (codes "run" ∷ codes "q" ∷ codes "l" ∷ codes "-t" ∷ codes "5" ∷ []) ≡ None
unfolding saber sized command_of is_taken clap_on_literals
short_task = refl

prefix_of_task : saber (codes "run" ∷ codes "q" ∷ codes "l" ∷ codes "--tas" ∷ codes "5" ∷ []) ≡ None
unfolding saber sized command_of is_taken clap_on_literals
prefix_of_task = refl

check_task : saber (codes "check" ∷ codes "q" ∷ codes "--task" ∷ codes "5" ∷ []) ≡ None
unfolding saber sized command_of is_taken clap_on_literals
check_task = refl

task_before_run : saber (codes "--task" ∷ codes "5" ∷ codes "run" ∷ codes "q" ∷ codes "l" ∷ []) ≡ None
unfolding saber sized command_of is_taken clap_on_literals
task_before_run = refl

-- ---- the flag

-- a run of `q` over `l` whose input's end closes windows
ending : Option Asked
ending = Some (run (record { query = codes "q"; left = codes "l"; right = None; sizes = record { task = 1024; ring = 64; threads = 2; max_lines = 2 ^ 40; slack = 0; flush = true } }))

final_behind : saber (codes "run" ∷ codes "q" ∷ codes "l" ∷ codes "--final" ∷ []) ≡ ending
unfolding saber ending command_of is_taken clap_on_literals
final_behind = refl

final_before : saber (codes "run" ∷ codes "--final" ∷ codes "q" ∷ codes "l" ∷ []) ≡ ending
unfolding saber ending command_of is_taken clap_on_literals
final_before = refl

-- with a value, given twice, and of another command
final_of_true : saber (codes "run" ∷ codes "q" ∷ codes "l" ∷ codes "--final=true" ∷ []) ≡ None
unfolding saber command_of is_taken clap_on_literals
final_of_true = refl

final_twice : saber (codes "run" ∷ codes "q" ∷ codes "l" ∷ codes "--final" ∷ codes "--final" ∷ []) ≡ None
unfolding saber command_of is_taken clap_on_literals
final_twice = refl

check_final : saber (codes "check" ∷ codes "q" ∷ codes "--final" ∷ []) ≡ None
unfolding saber command_of is_taken clap_on_literals
check_final = refl

-- ---- `chain`

chain_of_one_file : saber (codes "chain" ∷ codes "a" ∷ codes "b" ∷ codes "l" ∷ []) ≡ Some (plain_chain (codes "a") (codes "b") (codes "l") None)
unfolding saber command_of is_taken clap_on_literals
chain_of_one_file = refl

chain_of_two_files : saber (codes "chain" ∷ codes "a" ∷ codes "b" ∷ codes "l" ∷ codes "r" ∷ []) ≡ Some (plain_chain (codes "a") (codes "b") (codes "l") (Some (codes "r")))
unfolding saber command_of is_taken clap_on_literals
chain_of_two_files = refl

chain_after_dashes : saber (codes "chain" ∷ codes "a" ∷ codes "--" ∷ codes "-b" ∷ codes "l" ∷ []) ≡ Some (plain_chain (codes "a") (codes "-b") (codes "l") None)
unfolding saber command_of is_taken clap_on_literals
chain_after_dashes = refl

-- too few files, and too many
chain_of_nothing : saber (codes "chain" ∷ []) ≡ None
unfolding saber command_of is_taken clap_on_literals
chain_of_nothing = refl

chain_of_one_query : saber (codes "chain" ∷ codes "a" ∷ []) ≡ None
unfolding saber command_of is_taken clap_on_literals
chain_of_one_query = refl

chain_without_left : saber (codes "chain" ∷ codes "a" ∷ codes "b" ∷ []) ≡ None
unfolding saber command_of is_taken clap_on_literals
chain_without_left = refl

chain_of_three_files : saber (codes "chain" ∷ codes "a" ∷ codes "b" ∷ codes "l" ∷ codes "r" ∷ codes "x" ∷ []) ≡ None
unfolding saber command_of is_taken clap_on_literals
chain_of_three_files = refl

-- each of its options with the least that it takes and the most
chained : ℕ → ℕ → ℕ → ℕ → ℕ → Option Asked
chained task ring threads most slack = Some (chain (record { first = codes "a"; second = codes "b"; left = codes "l"; right = None; sizes = record { task = task; ring = ring; threads = threads; max_lines = most; slack = slack; flush = false } }))

least_of_chain : saber (codes "chain" ∷ codes "a" ∷ codes "b" ∷ codes "l" ∷ codes "--task" ∷ codes "1" ∷ codes "--ring=1" ∷ codes "--threads" ∷ codes "0" ∷ codes "--max-lines" ∷ codes "1" ∷ codes "--slack" ∷ codes "0" ∷ []) ≡ chained 1 1 0 1 0
unfolding saber chained command_of is_taken clap_on_literals
least_of_chain = refl

most_of_chain : saber (codes "chain" ∷ codes "--task=65536" ∷ codes "a" ∷ codes "--ring" ∷ codes "1024" ∷ codes "b" ∷ codes "--threads=64" ∷ codes "l" ∷ codes "--max-lines" ∷ codes "1099511627776" ∷ codes "--slack=1099511627776" ∷ []) ≡ chained 65536 1024 64 (2 ^ 40) (2 ^ 40)
unfolding saber chained command_of is_taken clap_on_literals
most_of_chain = refl

-- and past them
task_of_chain_of_0 : saber (codes "chain" ∷ codes "a" ∷ codes "b" ∷ codes "l" ∷ codes "--task" ∷ codes "0" ∷ []) ≡ None
unfolding saber command_of is_taken clap_on_literals
task_of_chain_of_0 = refl

task_of_chain_past_most : saber (codes "chain" ∷ codes "a" ∷ codes "b" ∷ codes "l" ∷ codes "--task" ∷ codes "65537" ∷ []) ≡ None
unfolding saber command_of is_taken clap_on_literals
task_of_chain_past_most = refl

ring_of_chain_of_0 : saber (codes "chain" ∷ codes "a" ∷ codes "b" ∷ codes "l" ∷ codes "--ring" ∷ codes "0" ∷ []) ≡ None
unfolding saber command_of is_taken clap_on_literals
ring_of_chain_of_0 = refl

ring_of_chain_past_most : saber (codes "chain" ∷ codes "a" ∷ codes "b" ∷ codes "l" ∷ codes "--ring" ∷ codes "1025" ∷ []) ≡ None
unfolding saber command_of is_taken clap_on_literals
ring_of_chain_past_most = refl

threads_of_chain_past_most : saber (codes "chain" ∷ codes "a" ∷ codes "b" ∷ codes "l" ∷ codes "--threads" ∷ codes "65" ∷ []) ≡ None
unfolding saber command_of is_taken clap_on_literals
threads_of_chain_past_most = refl

lines_of_chain_of_0 : saber (codes "chain" ∷ codes "a" ∷ codes "b" ∷ codes "l" ∷ codes "--max-lines" ∷ codes "0" ∷ []) ≡ None
unfolding saber command_of is_taken clap_on_literals
lines_of_chain_of_0 = refl

lines_of_chain_past_most : saber (codes "chain" ∷ codes "a" ∷ codes "b" ∷ codes "l" ∷ codes "--max-lines" ∷ codes "1099511627777" ∷ []) ≡ None
unfolding saber command_of is_taken clap_on_literals
lines_of_chain_past_most = refl

slack_of_chain_past_most : saber (codes "chain" ∷ codes "a" ∷ codes "b" ∷ codes "l" ∷ codes "--slack" ∷ codes "1099511627777" ∷ []) ≡ None
unfolding saber command_of is_taken clap_on_literals
slack_of_chain_past_most = refl

-- the flag of `run` is not its own, and no query is one of its options
chain_final : saber (codes "chain" ∷ codes "a" ∷ codes "b" ∷ codes "l" ∷ codes "--final" ∷ []) ≡ None
unfolding saber command_of is_taken clap_on_literals
chain_final = refl

final_of_chain_before : saber (codes "chain" ∷ codes "--final" ∷ codes "a" ∷ codes "b" ∷ codes "l" ∷ []) ≡ None
unfolding saber command_of is_taken clap_on_literals
final_of_chain_before = refl

chain_first_as_option : saber (codes "chain" ∷ codes "--first" ∷ codes "a" ∷ codes "b" ∷ codes "l" ∷ []) ≡ None
unfolding saber command_of is_taken clap_on_literals
chain_first_as_option = refl
