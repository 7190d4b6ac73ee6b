-- The law that what a driven cell writes is a log, which an audit keeps.
use Rattle.std.specs.Prelude.{◌≡◌, ℕ, ◌+◌, List, Bool}
use Rattle.shop_base.specs.{Plan.PlannedShop, Plan.IsWellShaped, Run.IsRun, Ends.stated_number, Ends.moves_in}
use Rattle.text_lines.specs.Lines.{lines_of}
use Rattle.cell_tables.specs.{declared.entry.Entry.Entry, Events.events_of}
use Rattle.run_log.specs.declared.audit_result.Audit.{Audit}
use Rattle.event_lines.specs.LogLines.{LinesParse}
use Rattle.cell_drive.specs.{declared.protocol.Protocol.Protocol, AnswerText.DrivenCell, OneRun.cell_after}
use Rattle.cell_drive.specs.ProtocolText.{IsProtocolText}

-- the lines of the text record exactly what was accepted and ordered, which is a run of the plan that leads to the cell
pub record IsLogOf (p : PlannedShop) (text : List ℕ) (end : DrivenCell) : Type 0 where
  pub parses : LinesParse p (lines_of text) end.entries
  pub run : IsRun p (events_of end.entries)
  pub cell : end.cell ≡ cell_after p end.entries

-- the answer text of an input, by any protocol, is a log of what was accepted and ordered
abbrev pub AnAnswerTextIsALog : Type 0
AnAnswerTextIsALog = (p : PlannedShop) (protocol : Protocol) (input text : List ℕ) (end : DrivenCell) → IsWellShaped p → IsProtocolText p protocol input text end → IsLogOf p text end

-- the audit has found what driving came to: the same events, so many reports that exactly those are left, and the end of the run exactly where it was done
pub record IsFoundAgain (p : PlannedShop) (entries : List Entry) (done : Bool) (last left : ℕ) (audit : Audit) : Type 0 where
  pub recorded : audit.entries.items ≡ entries
  pub reports : audit.reports + left ≡ stated_number p
  pub orders : audit.orders ≡ moves_in (events_of entries)
  pub moment : audit.last ≡ last
  pub complete : audit.complete ≡ done
