-- How the program ends: the answer on the standard output, or what went wrong on the standard error, and the status.
use Rattle.std.specs.Prelude.{◌≡◌, ℕ, List, [], ◌++◌, ◌⊎◌, Bool, true, false, Result, Ok, Err, codes}
use Rattle.std.specs.Io.KnownBytes.{Appends}
use Rattle.byte_streams.specs.Sinks.{TookPart}
use Rattle.command_answers.specs.declared.answer.Answer.{Answer}
use Rattle.command_answers.specs.declared.command_fault.CommandFault.{CommandFault}
use Rattle.command_answers.specs.declared.command_fault.CommandFault.TheVariants.{Instance, Plan, Names, Read, Write, InputTooLong, Log, LogInUse, Memory}
use Rattle.command_answers.specs.Statuses.{command_status_of}
use Rattle.command_run.specs.Streams.{Output, Errors}

-- a line was printed whole; or its first bytes were, and a write of the error output has failed
abbrev pub WasPrinted : List ℕ → Errors → Errors → Type 0
WasPrinted line before after = (Appends before.written after.written line × (after.failed ≡ before.failed))
    ⊎ ((after.failed ≡ true) × TookPart before.written after.written line)

-- a line with the words of a fault behind what is refused
abbrev pub IsRefusalLine : List ℕ → List ℕ → Type 0
IsRefusalLine what line = (words : List ℕ) × (line ≡ what ++ words ++ codes "\n")

-- what is said of a fault
abbrev pub IsErrorLine : CommandFault → List ℕ → Type 0
IsErrorLine (Instance fault) line = IsRefusalLine (codes "cellplan: instance: ") line
IsErrorLine (Plan fault) line = IsRefusalLine (codes "cellplan: plan: ") line
IsErrorLine (Names fault) line = IsRefusalLine (codes "cellplan: names: ") line
IsErrorLine Read line = line ≡ codes "cellplan: read\n"
IsErrorLine Write line = line ≡ codes "cellplan: write\n"
IsErrorLine InputTooLong line = line ≡ codes "cellplan: input too long\n"
IsErrorLine Log line = line ≡ codes "cellplan: log\n"
IsErrorLine LogInUse line = line ≡ codes "cellplan: log in use\n"
IsErrorLine Memory line = line ≡ codes "cellplan: out of memory\n"

-- a text is refused, whose words take memory
abbrev pub IsTextRefusal : CommandFault → Type 0
IsTextRefusal (Instance fault) = Unit {0}
IsTextRefusal (Plan fault) = Unit {0}
IsTextRefusal (Names fault) = Unit {0}
IsTextRefusal other = ⊥

-- the line of a refused text; of another fault anything
abbrev pub IsTextLine : CommandFault → List ℕ → Type 0
IsTextLine (Instance fault) line = IsErrorLine (Instance fault) line
IsTextLine (Plan fault) line = IsErrorLine (Plan fault) line
IsTextLine (Names fault) line = IsErrorLine (Names fault) line
IsTextLine other line = Unit {0}

-- the line of the fault was printed on the standard error, and the status is its own
pub record IsLineOut (fault : CommandFault) (before after : Errors) (status : ℕ) : Type 0 where
  pub line : List ℕ
  pub is : IsErrorLine fault line
  pub printed : WasPrinted line before after
  pub own : status ≡ command_status_of fault

-- the fault was printed; or out of memory in its place, where its words take memory
abbrev pub IsFaultPrinted : CommandFault → Errors → Errors → ℕ → Type 0
IsFaultPrinted fault before after status = IsLineOut fault before after status ⊎ (IsTextRefusal fault × IsLineOut Memory before after status)

-- the answer was printed and shown, or its first bytes up to a write that failed
abbrev pub IsPrinted : Answer → Output → Output → Result ℕ CommandFault → Type 0
IsPrinted answer before after (Ok status) = (status ≡ answer.status) × Appends before.written after.written answer.text.items × (after.failed ≡ before.failed) × (after.pending ≡ [])
IsPrinted answer before after (Err fault) = (fault ≡ Write) × TookPart before.written after.written answer.text.items × (after.failed ≡ true)

-- nothing is printed where all is printed
abbrev pub IsPrintedAfter : Result ℕ CommandFault → Errors → Errors → ℕ → Type 0
IsPrintedAfter (Ok printed) before after status = (after ≡ before) × (status ≡ printed)
IsPrintedAfter (Err fault) before after status = IsFaultPrinted fault before after status

-- the answer is printed, and where that fails, this is printed
pub record IsAnswerEnd (answer : Answer) (before after : Output) (printed_before printed_after : Errors) (status : ℕ) : Type 0 where
  pub printed : Result ℕ CommandFault
  pub is : IsPrinted answer before after printed
  pub reported : IsPrintedAfter printed printed_before printed_after status

-- an answer is printed on the standard output, a fault is printed on the standard error, and not the other way round
abbrev pub Ends : Result Answer CommandFault → Output → Output → Errors → Errors → ℕ → Type 0
Ends (Ok answer) before after printed_before printed_after status = IsAnswerEnd answer before after printed_before printed_after status
Ends (Err fault) before after printed_before printed_after status = (after ≡ before) × IsFaultPrinted fault printed_before printed_after status

-- where a picture is asked for: what is answered in its place is printed on the standard error
abbrev pub EndsAside : Result Answer CommandFault → Output → Output → Errors → Errors → ℕ → Type 0
EndsAside (Ok answer) before after printed_before printed_after status = (after ≡ before) × WasPrinted answer.text.items printed_before printed_after × (status ≡ answer.status)
EndsAside (Err fault) before after printed_before printed_after status = (after ≡ before) × IsFaultPrinted fault printed_before printed_after status

-- how a command ends, by whether a picture is asked for
abbrev pub EndsBy : Bool → Result Answer CommandFault → Output → Output → Errors → Errors → ℕ → Type 0
EndsBy false = Ends
EndsBy true = EndsAside
