-- A run that was recovered from its log, and which logs are recovered.
use Rattle.std.specs.Prelude.{◌≡◌, ℕ, ◌≤◌, Bool, List, [], ◌++◌, length, map, take, Option, unwrap_or}
use Rattle.shop_base.specs.{Plan.PlannedShop, Cell.Cell, Cell.start, Run.IsRun}
use Rattle.plan_verifier.specs.Accepted.{HasNoCycle, IsAcceptable}
use Rattle.cell_tables.specs.{declared.entry.Entry.Entry, declared.entry.Entry.TheVariants.Order as OrderEntry}
use Rattle.cell_tables.specs.{Events.events_of, declared.tables.Tables.Tables, Tables.AreSound, Tables.cell_of}
use Rattle.event_lines.specs.LogLines.{LinesParse}
use Rattle.cell_control.specs.{Begun.IsBegun, Control.Control}
use Rattle.run_log.specs.Log.{Noted}
use Rattle.cell_drive.specs.{AnswerText.DrivenCell, OneRun.cell_after, LateEvents.AreLate, Session.HoldsRun}

-- a controller, the log of the whole run, and of each event that the log recorded whether it is a late report
pub record Recovered : Type 0 where
  pub control : Control
  pub log : Noted
  pub late : List Bool

-- these three as one value
abbrev pub recovered_by : Control → Noted → List Bool → Recovered
recovered_by control log late = record { control = control; log = log; late = late }

-- its cell, and what was accepted and ordered in the whole run
abbrev pub seen_in : Recovered → DrivenCell
seen_in recovered = record { cell = recovered.control.cell; entries = recovered.log.entries }

-- the plan
abbrev pub plan_of : Recovered → PlannedShop
plan_of recovered = recovered.control.planned

-- the events that the log recorded; the others are orders that are due
abbrev pub replayed_events : Recovered → List Entry
replayed_events recovered = take (length recovered.late) recovered.log.entries

-- the cell after them
abbrev pub replayed_cell : Recovered → Cell
replayed_cell recovered = cell_after (plan_of recovered) (replayed_events recovered)

-- after the events that the log recorded, the controller begins with the cell to which they lead; what it then orders is due
pub record IsRecoveredRun (recovered : Recovered) : Type 0 where
  pub kept : HoldsRun recovered.control recovered.log
  pub begun : IsBegun (plan_of recovered) (replayed_cell recovered) recovered.control.began recovered.control
  pub due : recovered.log.entries ≡ replayed_events recovered ++ map OrderEntry recovered.control.orders
  pub within : length recovered.late ≤ length recovered.log.entries
  pub are_late : AreLate (plan_of recovered) (start (plan_of recovered)) (replayed_events recovered) recovered.late

-- the tables are those of the cell at the start of a run
abbrev pub AreAtStart : PlannedShop → Tables → Type 0
AreAtStart p tables = AreSound p tables × (cell_of p tables ≡ start p)

-- it was recovered by this plan behind these events, at the moment that was given or else at their last one; where there are no events, the plan is to be accepted
pub record IsRecoveredFrom (p : PlannedShop) (recorded : List Entry) (at : Option ℕ) (recovered : Recovered) : Type 0 where
  pub run : IsRecoveredRun recovered
  pub planned : plan_of recovered ≡ p
  pub replayed_is : replayed_events recovered ≡ recorded
  pub began : recovered.control.began ≡ unwrap_or at (cell_after p recorded).last
  pub accepted : recorded ≡ [] → IsAcceptable p

-- so behind the events that these lines record, which are a run of the plan
pub record IsRecovered (p : PlannedShop) (lines : List (List ℕ)) (at : Option ℕ) (recovered : Recovered) : Type 0 where
  pub recorded : List Entry
  pub parses : LinesParse p lines recorded
  pub is_run : IsRun p (events_of recorded)
  pub recovered_from : IsRecoveredFrom p recorded at recovered

-- the lines record a run that can be recovered by this plan: the moment isn't before its last one, the plan has no cycle, and where there are no events, it is to be accepted
pub record IsRecoverable (p : PlannedShop) (lines : List (List ℕ)) (at : Option ℕ) : Type 0 where
  pub recorded : List Entry
  pub parses : LinesParse p lines recorded
  pub is_run : IsRun p (events_of recorded)
  pub not_past : (cell_after p recorded).last ≤ unwrap_or at (cell_after p recorded).last
  pub acyclic : HasNoCycle p
  pub accepted : recorded ≡ [] → IsAcceptable p
