-- What a search gives: the first proposal that is accepted, or else the serial plan; and why it gives none.
use Rattle.std.specs.Prelude.{◌≡◌, ℕ, ◌<◌, ◌≤◌, List, ◌⊎◌}
use Rattle.shop_base.specs.declared.node.Node.{Node}
use Rattle.shop_base.specs.Plan.{IsWellShaped}
use Rattle.shop_base.specs.ShapeFault.{IsFirstShapeFault}
use Rattle.plan_verifier.specs.Accepted.{VerifiedPlan}
use Rattle.plan_verifier.specs.Verdicts.{IsFirstLate}
use Rattle.plan_seek.specs.declared.seek_fault.NotFound.{NotFound}
use Rattle.plan_seek.specs.declared.search.TheConstants.{MAX_ROUNDS}
use Rattle.plan_seek.specs.declared.seek_fault.SeekFault.{SeekFault}
use Rattle.plan_seek.specs.declared.seek_fault.SeekFault.TheVariants.{BadNumbers, Exhausted, TooManyRounds, Memory}
use Rattle.plan_seek.specs.Orders.{serial_order}
use Rattle.plan_seek.specs.Tasks.{PlanTask, serial_plan}
use Rattle.plan_seek.specs.Turns.{PlanSearch, IsFirstFound, EachMayFail}

-- the numbers are as many as they should be and within the limits: the serial plan is well shaped
abbrev pub AreSoundNumbers : PlanTask → Type 0
AreSoundNumbers t = IsWellShaped (serial_plan t)

-- these orders are the search's: the first proposal that is accepted, or else the serial plan's
abbrev pub IsSought : PlanSearch → ℕ → List (List ℕ) → Type 0
IsSought s rounds order = IsFirstFound s rounds order ⊎ (EachMayFail s rounds × (order ≡ serial_order s.task.shop))

-- the verified plan has orders that are the search's
abbrev pub IsSoughtPlan : PlanSearch → ℕ → VerifiedPlan → Type 0
IsSoughtPlan s rounds verified = IsSought s rounds verified.planned.plan.order

-- the serial plan is late: it has no cycle, and this is its first late job
pub record IsSeriallyLate (t : PlanTask) : Type 0 where
  pub job : ℕ
  pub leaves : ℕ
  pub chain : List Node
  pub late : IsFirstLate (serial_plan t) job leaves chain

-- the numbers are sound, and the rounds aren't too many
pub record CanSeek (t : PlanTask) (rounds : ℕ) : Type 0 where
  pub sound : AreSoundNumbers t
  pub few : rounds ≤ MAX_ROUNDS

-- why there is no plan: the first fault of the numbers, which is that of the serial plan's shape; else too many rounds; else that all proposals may fail and the serial plan is late, or out of memory
abbrev pub IsSeekFault : PlanSearch → ℕ → SeekFault → Type 0
IsSeekFault s rounds (BadNumbers fault) = IsFirstShapeFault (serial_plan s.task) fault
IsSeekFault s rounds TooManyRounds = AreSoundNumbers s.task × (MAX_ROUNDS < rounds)
IsSeekFault s rounds Exhausted = CanSeek s.task rounds × EachMayFail s rounds × IsSeriallyLate s.task
IsSeekFault s rounds Memory = CanSeek s.task rounds

-- the search is refused for the reason why there is no plan
abbrev pub IsSearchRefused : PlanSearch → ℕ → NotFound → Type 0
IsSearchRefused s rounds refused = IsSeekFault s rounds refused.fault
