-- What words that choose no command come to.
use Rattle.std.specs.Prelude.{◌≡◌, true, false, Result, Ok, Err}
use Rattle.std.specs.String.{string_bytes}
use Rattle.command_words.specs.declared.words.WordsFault.{WordsFault}
use Rattle.command_words.specs.declared.words.WordsFault.TheVariants.{Usage, Memory}
use Rattle.command_answers.specs.declared.answer.Answer.{Answer}
use Rattle.command_answers.specs.declared.command_fault.CommandFault.{CommandFault}
use Rattle.command_answers.specs.declared.command_fault.CommandFault.TheVariants.{Memory as OutOfMemory}
use Rattle.command_run.specs.declared.unchosen.Unchosen.{Unchosen}
use Rattle.command_run.specs.declared.unchosen.Unchosen.TheVariants.{Ends, Usage as Wrong}

-- help or the version that was asked for is a good answer, and out of memory is a fault
abbrev pub IsOutcomeOf : WordsFault → Result Answer CommandFault → Type 0
IsOutcomeOf (Usage true text) (Ok answer) = (answer.text.items ≡ string_bytes text) × (answer.status ≡ 0)
IsOutcomeOf Memory (Err fault) = fault ≡ OutOfMemory
IsOutcomeOf fault outcome = ⊥

abbrev pub Comes : WordsFault → Unchosen → Type 0
Comes fault (Ends outcome) = IsOutcomeOf fault outcome
Comes (Usage false text) (Wrong message) = message ≡ text
Comes fault (Wrong message) = ⊥
