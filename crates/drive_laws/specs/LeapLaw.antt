-- The law that no punctual report leaps, where no time of the plan is longer than the longest that may pass.
use Rattle.std.specs.Prelude.{◌≡◌, ℕ, ◌<◌, ◌≤◌, List, Some}
use Rattle.shop_base.specs.Plan.{PlannedShop, IsWellShaped, jobs, machines, steps, release, nominal, clean}
use Rattle.shop_base.specs.{Run.IsRun, Punctual.IsPunctual}
use Rattle.cell_tables.specs.{declared.claim.Claim.Claim, Claims.claimed, declared.entry.Entry.Entry, Events.events_of}
use Rattle.cell_control.specs.Claims.{CanClaim}
use Rattle.cell_drive.specs.{declared.protocol.Protocol.Protocol, OneRun.cell_after}
use Rattle.cell_drive.specs.Refusals.{IsAdmissible}

-- no release, no nominal time and no cleaning time of the plan is longer than this
pub record HasNoLongerTime (p : PlannedShop) (max_gap : ℕ) : Type 0 where
  pub releases : (j : ℕ) → j < jobs p → release p j ≤ max_gap
  pub nominals : (j k : ℕ) → j < jobs p → k < steps p j → nominal p j k ≤ max_gap
  pub cleanings : (m : ℕ) → m < machines p → clean p m ≤ max_gap

-- at the end of any run a claim that is possible and punctual is then accepted
abbrev pub NoPunctualReportLeaps : Type 0
NoPunctualReportLeaps = (p : PlannedShop) (protocol : Protocol) (max_gap : ℕ) (entries : List Entry) (claim : Claim) → IsWellShaped p → protocol.max_gap ≡ Some max_gap → HasNoLongerTime p max_gap
    → IsRun p (events_of entries) → CanClaim p (cell_after p entries) claim → IsPunctual p (cell_after p entries) (claimed p claim) → IsAdmissible protocol p (cell_after p entries) claim
