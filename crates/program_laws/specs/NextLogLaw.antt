-- The laws of the log that `revise` prints with all its texts: no beginning of it is driven, and without what is over the run goes on from it.
use Rattle.std.specs.Prelude.{◌≡◌, ◌⊎◌, ◌≢◌, ℕ, ◌<◌, List, [], ◌++◌, Bool, true, length, take, Option, Some, Result}
use Rattle.shop_base.specs.Plan.{PlannedShop, machines, IsWellShaped}
use Rattle.shop_base.specs.Run.{Event, IsRun, ends_in}
use Rattle.text_lines.specs.{Cuts.HasNone, Lines.ended_lines}
use Rattle.cell_tables.specs.{declared.entry.Entry.Entry, Events.events_of}
use Rattle.event_lines.specs.RunDigits.{AreDigits}
use Rattle.event_lines.specs.declared.run_digits.RunDigits.{RunDigits}
use Rattle.run_log.specs.Digits.{digits_of}
use Rattle.log_chapters.specs.declared.parts.Origin.{Origin}
use Rattle.log_chapters.specs.Chapters.{no_digits, chapter_text}
use Rattle.log_chapters.specs.ChapterLaw.{IsWholeOrNone, RecordsEvents}
use Rattle.run_pruning.specs.{Over.DropsAllThatIsOver, PruningLaw.pruned_run, PruningLaw.run_owner, PruningLaw.left_cell, Spare.narrowed_cell, SpareLaw.IsLeftWithRest}
use Rattle.run_revising.specs.declared.next.NextRun.{NextRun}
use Rattle.run_revising.specs.NextRuns.{IsNextRun, numbers_kept}
use Rattle.run_journal.specs.Folders.{NamedLog, held}
use Rattle.run_journal.specs.Logged.{Held}
use Rattle.people_names.specs.NameBooks.{NameBook}
use Rattle.command_words.specs.declared.words.log_start.LogStart.TheVariants.{Continue, HandOver}
use Rattle.command_words.specs.Choice.{kept_in, start_chosen, rows_found, found_in}
use Rattle.command_answers.specs.declared.answer.Answer.{Answer}
use Rattle.command_answers.specs.declared.command_fault.CommandFault.{CommandFault}
use Rattle.command_answers.specs.Chapters.{IsLogFor, IsRunChapter}
use Rattle.command_run.specs.Streams.{Devices}
use Rattle.command_run.specs.Logs.{Driven, digits_in}
use Rattle.command_run.specs.Program.{RunsProgram}

-- these bytes are a beginning of a log that isn't all of it; behind it may stand bytes that end no line
pub record IsBeginning (log bytes : List ℕ) : Type 0 where
  pub count : ℕ
  pub behind : List ℕ
  pub short : count < length log
  pub unended : HasNone 10 behind
  pub is : bytes ≡ take count log ++ behind

-- such a log of a plan and its texts
pub record IsBegunChapter (bytes : List ℕ) : Type 0 where
  pub file : List ℕ
  pub plan : List ℕ
  pub names : Option (List ℕ)
  pub origins : List Origin
  pub entries : List Entry
  pub digits : RunDigits
  pub are_digits : AreDigits digits
  pub begins : IsBeginning (chapter_text file plan names origins entries digits) bytes

-- by a plan whose digits aren't zeros no cell is driven with a beginning of such a log: where a log that has begun is asked for, and, where the beginning has a line, however it is asked but by a hand-over
abbrev pub NoBeginningDrives : {W : Type 0} → (W → List ℕ → Result (List ℕ) CommandFault → W → Type 0) → Type 0
NoBeginningDrives {W} gives = (words : List (List ℕ)) (before after : Devices W) (status : ℕ) (logs : List NamedLog) (path bytes : List ℕ) (p : PlannedShop) (events : List Entry) (run : Held)
    → before.folder.logs ≡ Some logs → kept_in (rows_found (found_in words)) ≡ Some path → held logs path ≡ Some bytes → IsBegunChapter bytes
    → (start_chosen (rows_found (found_in words)) ≡ Continue) ⊎ ((ended_lines bytes ≢ []) × (start_chosen (rows_found (found_in words)) ≢ HandOver))
    → digits_in p ≢ no_digits → RunsProgram gives words before status after (Some (Driven p events run)) → ⊥

-- nor is a beginning that has a line told anew for such a plan, unless the plan of the log isn't asked for
abbrev pub NoBeginningIsRevised : Type 0
NoBeginningIsRevised = (p : PlannedShop) (bytes : List ℕ) → IsBegunChapter bytes → ended_lines bytes ≢ [] → digits_of p.shop p.plan ≢ no_digits → IsLogFor p (ended_lines bytes) → ⊥

-- what is printed of a run without what is over: the run of the jobs that stay, of which the same is ahead as before, by the new numbers; every reader of logs reads its events, and by its last line it is the log of its plan, as no beginning of it is
pub record IsNextLog (p : PlannedShop) (es : List Event) (next : NextRun) (text : List ℕ) : Type 0 where
  pub marks : List Bool
  pub dropped : DropsAllThatIsOver p (ends_in p es) (run_owner p es) marks
  pub numbers : next.were.items ≡ numbers_kept 0 marks
  pub events : events_of next.entries.items ≡ pruned_run marks p es
  pub rest : IsLeftWithRest (λ c. narrowed_cell (machines next.shaped) (left_cell marks c)) marks p es next.shaped
  pub recorded : RecordsEvents next.shaped next.entries.items text
  pub whole : IsWholeOrNone (digits_of next.shaped.shop next.shaped.plan) text

-- so the run goes on from it
abbrev pub TheNextLogGoesOn : Type 0
TheNextLogGoesOn = (p : PlannedShop) (es : List Event) (t : ℕ) (next : NextRun) (description : List ℕ) (book : NameBook) (named : Bool) (answer : Answer) → IsWellShaped p → IsRun p es
    → IsNextRun p (ends_in p es) t es [] true next → IsRunChapter description [] book named next answer → IsNextLog p es next answer.text.items
