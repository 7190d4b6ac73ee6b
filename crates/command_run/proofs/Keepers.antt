-- Which commands keep a log of their own.
use Rattle.std.proofs.Common.{◌≡◌, ◌<◌, ℕ, List, Option, Some, length, option_map, string_bytes, Result, subst, sym, arith, refl}
use Rattle.command_words.specs.Choice.{IsChoiceWithin, TakesFiles}
use Rattle.command_words.specs.declared.words.Chosen.{Chosen}
use Rattle.command_words.specs.declared.words.CommandName.{CommandName}
use Rattle.command_words.specs.declared.words.CommandName.TheVariants.{Input as NoWords, Facts, Shape, Check, Explain, Schedule, Bounds, Margin, Plan as Search, Improve, Decide, Revise, Drive, Resume, Hub, Digest, Audit, State, Gantt}
use Rattle.command_answers.specs.declared.answer.Answer.{Answer}
use Rattle.command_answers.specs.declared.command_fault.CommandFault.{CommandFault}
use Rattle.command_run.specs.Streams.{Output, Errors}
use Rattle.command_run.specs.Ending.{Ends, EndsBy}
use Rattle.command_run.specs.Program.{draws, draws_in, keeps_log, kept_log_in, log_kept_by}

-- only `drive` keeps a log
pub keeper : (name : CommandName) (log : Option (List ℕ)) (path : List ℕ) → log_kept_by (keeps_log name) log ≡ Some path → name ≡ Drive
keeper NoWords log path is = absurd (cc is)
keeper Facts log path is = absurd (cc is)
keeper Shape log path is = absurd (cc is)
keeper Check log path is = absurd (cc is)
keeper Explain log path is = absurd (cc is)
keeper Schedule log path is = absurd (cc is)
keeper Bounds log path is = absurd (cc is)
keeper Margin log path is = absurd (cc is)
keeper Search log path is = absurd (cc is)
keeper Improve log path is = absurd (cc is)
keeper Decide log path is = absurd (cc is)
keeper Revise log path is = absurd (cc is)
keeper Drive log path is = refl
keeper Resume log path is = absurd (cc is)
keeper Hub log path is = absurd (cc is)
keeper Digest log path is = absurd (cc is)
keeper Audit log path is = absurd (cc is)
keeper State log path is = absurd (cc is)
keeper Gantt log path is = absurd (cc is)

-- which has an instance and a plan
pub keepers_files : (chosen : Chosen) (path : List ℕ) → IsChoiceWithin chosen → kept_log_in chosen ≡ Some path → 1 < length chosen.files.items
keepers_files chosen path within keeps =
    let two : length chosen.files.items ≡ 2 =
    subst (λ (name : CommandName). TakesFiles name (length chosen.files.items)) (keeper chosen.name (option_map string_bytes chosen.log) path keeps) within.files in
    omega (arith, two)

-- and which draws nothing
pub kept_ends : (chosen : Chosen) (path : List ℕ) (outcome : Result Answer CommandFault) (before after : Output) (printed_before printed_after : Errors) (status : ℕ) → kept_log_in chosen ≡ Some path
    → Ends outcome before after printed_before printed_after status → EndsBy (draws_in chosen) outcome before after printed_before printed_after status
kept_ends chosen path outcome before after printed_before printed_after status keeps ends =
    subst (λ (name : CommandName). EndsBy (draws name chosen.svg) outcome before after printed_before printed_after status) (sym (keeper chosen.name (option_map string_bytes chosen.log) path keeps)) ends
