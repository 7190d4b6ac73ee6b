-- The law that a line of version 2 has at most 128 bytes.
use Rattle.std.specs.Prelude.{◌≡◌, ℕ, ◌<◌, ◌≤◌, List, [], ◌++◌, length, Option, Some, None}
use Rattle.shop_base.specs.{declared.limits.TheConstants.MAX_MOMENT, declared.report.Report.Report, Cell.Cell}
use Rattle.shop_base.specs.{declared.move_order.Spot.Spot, Report.at, Report.CanReport, Run.IsRun}
use Rattle.shop_base.specs.declared.move_order.Spot.TheVariants.{Out, At}
use Rattle.shop_base.specs.Plan.{PlannedShop, IsWellShaped, jobs, machines}
use Rattle.text_lines.specs.declared.limits.TheConstants.{MAX_INPUT}
use Rattle.byte_streams.specs.Lines.{input_lines}
use Rattle.cell_tables.specs.{declared.claim.Claim.Claim, Claims.claimed}
use Rattle.cell_tables.specs.{declared.entry.Entry.Entry, declared.standing.{Standing.Standing, Visit.Visit}, Events.events_of}
use Rattle.cell_tables.specs.declared.standing.Standing.TheVariants.{Awaited, Outside, Worked, Done, Gone, Cleaned, Clean}
use Rattle.cell_tables.specs.Standings.{job_standing, machine_standing}
use Rattle.event_lines.specs.declared.details.Detail.{Detail}
use Rattle.event_lines.specs.declared.details.Detail.TheVariants.{Nothing, Last, Stands}
use Rattle.event_lines.specs.declared.details.Overdue.{Overdue}
use Rattle.event_lines.specs.StandingLines.{unfinished_standing_line, refused_detail_line, late_overdue_line}
use Rattle.cell_drive.specs.{declared.protocol.Protocol.Protocol, declared.refusals.Refusal.Refusal, OneRun.cell_after}
use Rattle.cell_drive.specs.{ProtocolText.IsClaimAccepted, States.overdue_in}
use Rattle.cell_drive.specs.Refusals.{IsRefusal, refusal_detail, refusal_word, standing_of}

-- the number of a job or of a machine has at most three digits
abbrev pub IsShort : ℕ → Type 0
IsShort n = n < 1000

-- that of a moment, thirteen
abbrev pub IsMoment : ℕ → Type 0
IsMoment t = t < 10000000000000

abbrev pub IsShortSpot : Spot → Type 0
IsShortSpot Out = Unit {0}
IsShortSpot (At machine) = IsShort machine

-- so has that of a step, and a visit is told by it or not
abbrev pub IsShortStep : Option ℕ → Type 0
IsShortStep None = Unit {0}
IsShortStep (Some step) = IsShort step

abbrev pub IsShortVisit : Visit → Type 0
IsShortVisit visit = IsShort visit.job × IsShortStep visit.step

-- so it is with all numbers of a state
abbrev pub IsShortStanding : Standing → Type 0
IsShortStanding (Awaited job due) = IsShort job × IsMoment due
IsShortStanding (Outside job to) = IsShort job × IsShortSpot to
IsShortStanding (Worked visit machine since due) = IsShortVisit visit × IsShort machine × IsMoment since × IsMoment due
IsShortStanding (Done visit machine to) = IsShortVisit visit × IsShort machine × IsShortSpot to
IsShortStanding (Gone job at) = IsShort job × IsMoment at
IsShortStanding (Cleaned machine visit since due) = IsShort machine × IsShortVisit visit × IsMoment since × IsMoment due
IsShortStanding (Clean machine) = IsShort machine

-- and with those that are printed of a refusal
abbrev pub IsShortDetail : Detail → Type 0
IsShortDetail Nothing = Unit {0}
IsShortDetail (Last at) = IsMoment at
IsShortDetail (Stands standing) = IsShortStanding standing

-- with a number of a cell before it, of at most nine digits and a space, the line of what is under way has at most 128 bytes
abbrev pub StateLinesAreShort : Type 0
StateLinesAreShort = (prefix : List ℕ) (standing : Standing) → length prefix ≤ 10 → IsShortStanding standing → length (prefix ++ unfinished_standing_line standing) ≤ 128

-- so has that of a refusal, by the number of one of the first 99,999,999 lines
abbrev pub RefusalsAreShort : Type 0
RefusalsAreShort = (prefix : List ℕ) (number : ℕ) (refusal : Refusal) (detail : Detail) → length prefix ≤ 10 → number < 100000000 → IsShortDetail detail
    → length (prefix ++ refused_detail_line number (refusal_word refusal) detail) ≤ 128

-- and that of a late report
abbrev pub LateLinesAreShort : Type 0
LateLinesAreShort = (prefix : List ℕ) (at : ℕ) (overdue : Overdue) → length prefix ≤ 10 → IsMoment at → IsShortStanding overdue.first → IsShort overdue.others
    → length (prefix ++ late_overdue_line at overdue) ≤ 128

-- at the end of any run the numbers of each job and of each machine are so
abbrev pub StandingsAreShort : Type 0
StandingsAreShort = (p : PlannedShop) (entries : List Entry) → IsWellShaped p → IsRun p (events_of entries)
    → ((j : ℕ) → j < jobs p → IsShortStanding (job_standing p (cell_after p entries) j)) × ((m : ℕ) → m < machines p → IsShortStanding (machine_standing p (cell_after p entries) m))

-- and those that are printed of a refusal
abbrev pub DetailsAreShort : Type 0
DetailsAreShort = (p : PlannedShop) (protocol : Protocol) (entries : List Entry) (claim : Claim) (refusal : Refusal) → IsWellShaped p → IsRun p (events_of entries) → protocol.from ≤ MAX_MOMENT
    → IsRefusal protocol p (cell_after p entries) claim refusal → IsShortDetail (refusal_detail protocol p (cell_after p entries) (claimed p claim) refusal)

-- and those that are printed as overdue as a report comes
abbrev pub OverdueIsShort : Type 0
OverdueIsShort = (p : PlannedShop) (entries : List Entry) (report : Report) (overdue : Overdue) → IsWellShaped p → IsRun p (events_of entries) → CanReport p (cell_after p entries) report
    → overdue_in p (cell_after p entries) (standing_of p (cell_after p entries) report) (at report) ≡ Some overdue → IsMoment (at report) × IsShortStanding overdue.first × IsShort overdue.others

-- an input has no line of a higher number
abbrev pub LineNumbersAreShort : Type 0
LineNumbersAreShort = (input : List ℕ) → length input ≤ MAX_INPUT → length (input_lines input) < 100000000

-- at the end of any run the answer to a report that is accepted has at most 16,384 bytes
abbrev pub AnswersAreShort : Type 0
AnswersAreShort = (p : PlannedShop) (protocol : Protocol) (entries : List Entry) (claim : Claim) (text : List ℕ) (more : List Entry) (next : Cell) → IsWellShaped p → IsRun p (events_of entries)
    → IsClaimAccepted p protocol [] (cell_after p entries) claim text more next → length text ≤ 16384
