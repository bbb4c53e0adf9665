-- From what is due for a command to what is due for the words.
use Rattle.std.proofs.Common.{◌≡◌, inl, inr, ℕ, List, [], Option, Some, None, refl, sym, ◌∙◌, subst}
use Rattle.saber_words.specs.Commands.{Asked, run, check, demo, chain, command_of}
use Rattle.saber_words.specs.declared.commands.WordsFault.{WordsFault}
use Rattle.saber_words.specs.declared.commands.WordsFault.TheVariants as fault
use Rattle.saber_notes.specs.declared.outcome.InputFile.{InputFile}
use Rattle.saber_notes.specs.declared.outcome.Outcome.{Outcome}
use Rattle.saber_notes.specs.declared.outcome.Outcome.TheVariants.{Usage, ReadFault, NoMemory}
use Rattle.saber_io.specs.Outside.{FilesView}
use Rattle.saber_cli.specs.Due.{AreNoChain, Contents, Due, usage, IsDueFor, IsDue, no_command, by_command, names_of}
use Rattle.saber_cli.specs.Leaving.{AsksFile, LeavesTold, query_count}
use Rattle.saber_cli.specs.Causes.{Allows}
use Rattle.saber_cli.specs.Puts.{PutsOut}
use Rattle.saber_cli.specs.Gives.{Does, Gives}
use Rattle.saber_cli.specs.Unread.{unread}
use Rattle.saber_cli.proofs.DueLemmas.{memory_allowed_for, early_puts}
use Rattle.saber_cli.proofs.SomeDue.{some_due}
use Rattle.saber_cli.proofs.LeavesLemmas.{none_asked}

-- what is due for the words was done
abbrev pub Answers : List (List ℕ) → Contents → Outcome → ℕ → List ℕ → Type 0
Answers ws files o tasks out = Does (IsDue ws files) o tasks out

-- ---- words that are a command

-- the words have one command
one_due : (P : Due → Type 0) (ws : List (List ℕ)) (files : Contents) (c : Asked) (d : Due) → command_of ws ≡ Some c → ((e : Due) → IsDueFor files c e → P e) → IsDue ws files d → P d
one_due P ws files c d e f (no_command n u) = let clash : Some c ≡ None = sym e ∙ n in cc
one_due P ws files c d e f (by_command b k h) = let same_command : Some b ≡ Some c = sym k ∙ e in let same : b ≡ c = cc in f d (subst (λ a. IsDueFor files a d) same h)

pub answers_of : (ws : List (List ℕ)) (files : Contents) (c : Asked) (o : Outcome) (tasks : ℕ) (out : List ℕ) → command_of ws ≡ Some c → Gives files c o tasks out → Answers ws files o tasks out
answers_of ws files c o tasks out e g = record {
  something = (g.something.0, by_command c e g.something.1);
  allows = λ d h. one_due (λ x. Allows x o) ws files c d e g.allows h;
  puts = λ d h. one_due (λ x. PutsOut x o tasks out) ws files c d e g.puts h;
}

-- ---- words that are none, or not read

usage_allowed : (ws : List (List ℕ)) (files : Contents) (d : Due) → command_of ws ≡ None → IsDue ws files d → Allows d Usage
usage_allowed ws files d e (no_command n u) = subst (λ x. Allows x Usage) (sym u) (inl refl)
usage_allowed ws files d e (by_command c k h) = let clash : Some c ≡ None = sym k ∙ e in cc

usage_puts : (ws : List (List ℕ)) (files : Contents) (d : Due) → command_of ws ≡ None → IsDue ws files d → PutsOut d Usage 0 []
usage_puts ws files d e (no_command n u) = subst (λ x. PutsOut x Usage 0 []) (sym u) (refl, refl)
usage_puts ws files d e (by_command c k h) = let clash : Some c ≡ None = sym k ∙ e in cc

usage_answers : (ws : List (List ℕ)) (files : Contents) → command_of ws ≡ None → Answers ws files Usage 0 []
usage_answers ws files e = record { something = (usage, no_command e refl); allows = λ d h. usage_allowed ws files d e h; puts = λ d h. usage_puts ws files d e h }

memory_allowed : (ws : List (List ℕ)) (files : Contents) (d : Due) → IsDue ws files d → Allows d NoMemory
memory_allowed ws files d (no_command n u) = subst (λ x. Allows x NoMemory) (sym u) (inr refl)
memory_allowed ws files d (by_command c k h) = memory_allowed_for files c d h

memory_puts : (ws : List (List ℕ)) (files : Contents) (d : Due) → IsDue ws files d → PutsOut d NoMemory 0 []
memory_puts ws files d (no_command n u) = subst (λ x. PutsOut x NoMemory 0 []) (sym u) (refl, refl)
memory_puts ws files d (by_command c k h) = early_puts files c NoMemory d tt h

-- something is due for the words, whatever they are but a chain
due_for_words : (ws : List (List ℕ)) (files : Contents) → AreNoChain ws → (o : Option Asked) → command_of ws ≡ o → (d : Due) × IsDue ws files d
due_for_words ws files n None e = (usage, no_command e refl)
due_for_words ws files n (Some (chain a)) e = absurd (n a e)
due_for_words ws files n (Some (run r)) e = let s = some_due files (run r) tt in (s.0, by_command (run r) e s.1)
due_for_words ws files n (Some (check c)) e = let s = some_due files (check c) tt in (s.0, by_command (check c) e s.1)
due_for_words ws files n (Some (demo d)) e = let s = some_due files (demo d) tt in (s.0, by_command (demo d) e s.1)

-- nothing was read for want of words
pub unread_not_read : (f : WordsFault) (file : InputFile) → unread f ≡ ReadFault file → ⊥
unread_not_read fault.NoMemory file e = cc
unread_not_read fault.Usage file e = cc

-- words of which no command was read
pub unread_answers : (ws : List (List ℕ)) (files : Contents) (f : WordsFault) → AreNoChain ws → (f ≡ fault.Usage → command_of ws ≡ None) → Answers ws files (unread f) 0 []
unread_answers ws files fault.NoMemory n h = record { something = due_for_words ws files n (command_of ws) refl; allows = memory_allowed ws files; puts = memory_puts ws files }
unread_answers ws files fault.Usage n h = usage_answers ws files (h refl)

-- none of their files is asked for
pub unread_leave : (ws : List (List ℕ)) (c : Asked) (f : WordsFault) (told : Option FilesView) → (f ≡ fault.Usage → command_of ws ≡ None) → command_of ws ≡ Some c → LeavesTold c (unread f) told told
unread_leave ws c fault.NoMemory told h is = none_asked (query_count c) (names_of c) (λ t. AsksFile t.contents c) NoMemory told refl
unread_leave ws c fault.Usage told h is = let clash : Some c ≡ None = sym is ∙ h refl in cc
