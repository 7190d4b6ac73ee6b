-- What is to be accepted. No public clause cites this module.
use Rattle.std.specs.Prelude.{◌≡◌, ℕ, List}
use Rattle.cell_control.specs.{Control.Control, Examined.IsExamined}
use Rattle.cell_tables.specs.{declared.claim.Claim.Claim, Claims.claimed}
use Rattle.event_lines.specs.declared.requests.Request.{Request}
use Rattle.event_lines.specs.declared.requests.Request.TheVariants.{Claim as ClaimRequest}
use Rattle.cell_drive.specs.{declared.protocol.Protocol.Protocol, declared.requests.Acceptance.Acceptance}
use Rattle.cell_drive.specs.{Refusals.IsAdmissible, ProtocolText.printed_overdue, Replies.reported_lines}

-- the request claims what is accepted: so it was examined, and this is what the line that it was late says to be overdue
pub record IsToAccept (protocol : Protocol) (v : Control) (request : Request) (acceptance : Acceptance) : Type 0 where
  pub claim : Claim
  pub asked : request ≡ ClaimRequest claim
  pub admissible : IsAdmissible protocol v.planned v.cell claim
  pub examined : IsExamined v.planned v.cell (claimed v.planned claim) acceptance.possible
  pub overdue_is : acceptance.overdue ≡ printed_overdue protocol v.planned v.cell (claimed v.planned claim)

-- its lines, with this before each, where the controller is such behind it
abbrev pub accepted_lines : Protocol → List ℕ → Control → Acceptance → List ℕ
accepted_lines protocol prefix new acceptance = reported_lines protocol prefix new acceptance.possible.report acceptance.possible.late acceptance.overdue
