-- Words that are no command.
use Rattle.std.specs.Prelude.{◌≡◌, ◌⊎◌, ℕ}
use Rattle.saber_words.specs.declared.commands.WordsFault.{WordsFault}
use Rattle.saber_words.specs.declared.commands.WordsFault.TheVariants as fault
use Rattle.saber_notes.specs.declared.outcome.Outcome.{Outcome}
use Rattle.saber_notes.specs.declared.outcome.Outcome.TheVariants.{Usage, NoMemory}

-- why no command was read
abbrev pub unread : WordsFault → Outcome
unread fault.NoMemory = NoMemory
unread fault.Usage = Usage

-- how a call ends over words that are no command: nothing is opened, run or written
pub record EndsUnread {F K : Type 0} (o : Outcome) (tasks : ℕ) (old new : F) (sink result : K) : Type 0 where
  pub outcome : (o ≡ Usage) ⊎ (o ≡ NoMemory)
  pub tasks_is : tasks ≡ 0
  pub files : new ≡ old
  pub sink_is : result ≡ sink
