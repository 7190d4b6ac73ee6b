-- The laws of the next run: it is a run of its plan, and where no machine is held it is the run so far.
use Rattle.std.specs.Prelude.{◌≡◌, ℕ, ◌<◌, List, Bool, length, slice_index}
use Rattle.shop_base.specs.Plan.{PlannedShop, IsWellShaped}
use Rattle.shop_base.specs.Cell.{job_in}
use Rattle.shop_base.specs.Report.{IsNextMoment}
use Rattle.shop_base.specs.Run.{Event, IsRun, ends_in}
use Rattle.cell_tables.specs.Events.{events_of}
use Rattle.plan_verifier.specs.Accepted.{HasNoCycle}
use Rattle.plan_revise.specs.declared.change.Change.{Change}
use Rattle.plan_revise.specs.Revised.{IsRevisedWithin}
use Rattle.run_pruning.specs.Spare.{without_spare}
use Rattle.run_revising.specs.declared.next.NextRun.{NextRun}
use Rattle.run_revising.specs.Holding.{HoldNone}
use Rattle.run_revising.specs.NextRuns.{IsRevisedTo, IsNextRun}

-- the events are a run of the new plan, which is well shaped; the present moment isn't before the last one; each job that stays is where it was; where the plan that was given has no cycle, the new one has none
pub record GoesOnFrom (p : PlannedShop) (es : List Event) (t : ℕ) (next : NextRun) : Type 0 where
  pub shaped : IsWellShaped next.shaped
  pub run : IsRun next.shaped (events_of next.entries.items)
  pub moment : IsNextMoment (ends_in next.shaped (events_of next.entries.items)) t
  pub jobs_same : (i : ℕ) → i < length next.were.items → job_in (ends_in next.shaped (events_of next.entries.items)) i ≡ job_in (ends_in p es) (slice_index next.were.items i)
  pub acyclic : HasNoCycle p → HasNoCycle next.shaped

-- whatever run is revised, by whatever changes, the next run is one of its plan
abbrev pub TheNextRunIsARun : Type 0
TheNextRunIsARun = (p : PlannedShop) (es : List Event) (t : ℕ) (changes : List Change) (leaves_out : Bool) (next : NextRun) → IsWellShaped p → IsRun p es → IsNextMoment (ends_in p es) t
    → IsNextRun p (ends_in p es) t es changes leaves_out next → GoesOnFrom p es t next

-- the changes are made of the plan alone, by the cell at the end of these events, which stay
pub record IsRevisedAlone (plant t : ℕ) (p : PlannedShop) (es : List Event) (changes : List Change) (q : PlannedShop) (fs : List Event) : Type 0 where
  pub revised : PlannedShop
  pub made : IsRevisedWithin p (ends_in p es) t plant changes revised
  pub left : q ≡ without_spare revised plant
  pub events : fs ≡ es

-- so where none of them holds a machine
abbrev pub WithoutAHoldTheRunStays : Type 0
WithoutAHoldTheRunStays = (plant t : ℕ) (p : PlannedShop) (es : List Event) (changes : List Change) (q : PlannedShop) (fs : List Event) → HoldNone changes → IsRevisedTo plant t p es changes q fs
    → IsRevisedAlone plant t p es changes q fs
