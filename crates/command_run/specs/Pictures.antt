-- What drawing a picture comes to.
use Rattle.std.specs.Prelude.{◌≡◌, ℕ, List, [], Bool, true, false, Option, Result, Ok, Err}
use Rattle.std.specs.Io.KnownBytes.{Appends}
use Rattle.byte_streams.specs.Sinks.{TookPart}
use Rattle.command_answers.specs.declared.answer.Answer.{Answer}
use Rattle.command_answers.specs.declared.command_fault.CommandFault.{CommandFault}
use Rattle.command_answers.specs.declared.command_fault.CommandFault.TheVariants.{Write}
use Rattle.command_answers.specs.declared.logs.LogAnswer.TheVariants.{Drawing}
use Rattle.command_answers.specs.declared.pictures.Drawn.{Drawn}
use Rattle.command_answers.specs.declared.pictures.Drawn.TheVariants.{Picture, Line}
use Rattle.command_answers.specs.declared.rests.PlanAnswer.TheVariants.{Moments}
use Rattle.command_answers.specs.Commands.{InputPaths, RunPaths, RunsLog, RunsMoves, RunsRest}
use Rattle.command_answers.specs.Pictures.{DrawsLog, DrawsRest}
use Rattle.command_run.specs.Streams.{Streams, Output}
use Rattle.command_run.specs.declared.pictures.Timetable.{Timetable}
use Rattle.command_run.specs.declared.pictures.Timetable.TheVariants.{Moments as ByMoments, Moves as ByMoves, Picture as AsPicture}

-- the picture was written and shown, so that no more is answered, with this status; or its first bytes were, up to a write that failed
abbrev pub IsPictureOut : List ℕ → ℕ → Output → Output → Result Answer CommandFault → Type 0
IsPictureOut picture status before after (Ok answer) =
    (answer.text.items ≡ []) × (answer.status ≡ status) × Appends before.written after.written picture × (after.failed ≡ before.failed) × (after.pending ≡ [])
IsPictureOut picture status before after (Err fault) = (fault ≡ Write) × TookPart before.written after.written picture × (after.failed ≡ true)

-- what follows what came to be drawn: a picture is written; a line is answered, and a fault is printed, with no byte read or written
abbrev pub Draws : Result Drawn CommandFault → Streams → Streams → Result Answer CommandFault → Type 0
Draws (Err fault) before after outcome = (outcome ≡ Err fault) × (after ≡ before)
Draws (Ok (Line answer)) before after outcome = (outcome ≡ Ok answer) × (after ≡ before)
Draws (Ok (Picture picture status)) before after outcome = (after.input ≡ before.input) × IsPictureOut picture status before.output after.output outcome

-- what is to be drawn comes by this, and is drawn
pub record RunsPicture {W : Type 0} (comes : W → Result Drawn CommandFault → W → Type 0) (texts : W) (before : Streams) (outcome : Result Answer CommandFault) (texts_after : W) (after : Streams) : Type 0 where
  pub drawn : Result Drawn CommandFault
  pub came : comes texts drawn texts_after
  pub draws : Draws drawn before after outcome

module _ {W : Type 0} (gives : W → List ℕ → Result (List ℕ) CommandFault → W → Type 0) where
  -- `schedule`: the schedule of the rest of the run is printed; or with `--moves` the moves ahead are, or with `--svg` it is drawn
  abbrev pub RunsTimetable : Timetable → RunPaths → W → Streams → Result Answer CommandFault → W → Streams → Type 0
  RunsTimetable ByMoments run texts before outcome texts_after after = RunsRest gives Moments run texts outcome texts_after × (after ≡ before)
  RunsTimetable ByMoves run texts before outcome texts_after after = RunsMoves gives run texts outcome texts_after × (after ≡ before)
  RunsTimetable AsPicture run texts before outcome texts_after after = RunsPicture (DrawsRest gives run) texts before outcome texts_after after

  -- `gantt`: the log is drawn in text, or with `--svg` as a picture
  abbrev pub RunsDrawing : Bool → InputPaths → Option (List ℕ) → List ℕ → W → Streams → Result Answer CommandFault → W → Streams → Type 0
  RunsDrawing false inputs names log texts before outcome texts_after after = RunsLog gives Drawing inputs names log texts outcome texts_after × (after ≡ before)
  RunsDrawing true inputs names log texts before outcome texts_after after = RunsPicture (DrawsLog gives inputs names log) texts before outcome texts_after after
