-- The laws of a run without jobs.
use Rattle.std.specs.Prelude.{◌≡◌, ℕ, ◌<◌, ◌≤◌, List, Bool, true, length, Option, None, replicate}
use Rattle.shop_base.specs.Plan.{PlannedShop, jobs, machines, IsWellShaped}
use Rattle.shop_base.specs.Cell.{Cell, job_in, cleaning}
use Rattle.shop_base.specs.Run.{Event, IsRun, ends_in}
use Rattle.shop_base.specs.ReportsLeft.{reports_left}
use Rattle.run_pruning.specs.Staying.{stays, new_number}
use Rattle.run_pruning.specs.{Pruned.pruned, Pruned.pruned_cell, Over.IsJobOver, Over.DropsWhatIsOver, Over.DropsAllThatIsOver}
use Rattle.run_pruning.specs.PrunedEvents.{pruned_events, last_owner}

-- before a run nobody has left a machine, and there is no cleaning to be told whose
abbrev pub nobody_left : PlannedShop → List ℕ
nobody_left p = replicate (machines p) 0

-- the events of the run of the jobs that stay
abbrev pub pruned_run : List Bool → PlannedShop → List Event → List Event
pruned_run marks p es = pruned_events marks (nobody_left p) es

-- whose the last event of a run is
abbrev pub run_owner : PlannedShop → List Event → Option ℕ
run_owner p es = last_owner None (nobody_left p) es

-- a choice of jobs: a mark for each, and at least one stays
pub record IsChoice (p : PlannedShop) (marks : List Bool) : Type 0 where
  pub count : length marks ≡ jobs p
  pub some : ℕ
  pub some_stays : stays marks some ≡ true

-- whatever jobs stay, the planned shop of them alone is well shaped, and their events are a run of it, which ends in the cell without the others
pub record IsRunOfThose (marks : List Bool) (p : PlannedShop) (es : List Event) : Type 0 where
  pub shaped : IsWellShaped (pruned marks p)
  pub run : IsRun (pruned marks p) (pruned_run marks p es)
  pub last : ℕ
  pub not_later : last ≤ (ends_in p es).last
  pub ends : ends_in (pruned marks p) (pruned_run marks p es) ≡ pruned_cell marks (ends_in p es) last

abbrev pub AnyJobsHaveTheirRun : Type 0
AnyJobsHaveTheirRun = (p : PlannedShop) (es : List Event) (marks : List Bool) → IsWellShaped p → IsRun p es → IsChoice p marks → IsRunOfThose marks p es

-- what is left of a run of the jobs that stay is a run too, of planned shop q: it ends in a cell that is told by the one in which the run ended
pub record IsLeftAs (cell : Cell → Cell) (marks : List Bool) (p : PlannedShop) (es : List Event) (q : PlannedShop) : Type 0 where
  pub choice : IsChoice p marks
  pub shaped : IsWellShaped q
  pub run : IsRun q (pruned_run marks p es)
  pub ends : ends_in q (pruned_run marks p es) ≡ cell (ends_in p es)
  -- each job that stays is at its step, ready or not, since the same moment
  pub jobs_same : (j : ℕ) → stays marks j ≡ true → job_in (ends_in q (pruned_run marks p es)) (new_number marks j) ≡ job_in (ends_in p es) j
  -- each machine is being cleaned since the same moment, or isn't
  pub cleaning_same : (m : ℕ) → cleaning (ends_in q (pruned_run marks p es)) m ≡ cleaning (ends_in p es) m
  -- and as many reports are left
  pub reports_same : reports_left q (ends_in q (pruned_run marks p es)) ≡ reports_left p (ends_in p es)

-- the cell without the jobs that don't stay, at the same moment
abbrev pub left_cell : List Bool → Cell → Cell
left_cell marks c = pruned_cell marks c c.last

-- without jobs that are over it is a run of the planned shop without them, and ends in the cell without them, at the same moment
abbrev pub IsWhatIsLeft : List Bool → PlannedShop → List Event → Type 0
IsWhatIsLeft marks p es = IsLeftAs (left_cell marks) marks p es (pruned marks p)

-- what is left is a run: whatever jobs that are over at the end of a run are dropped
abbrev pub WhatIsLeftIsARun : Type 0
WhatIsLeftIsARun = (p : PlannedShop) (es : List Event) (marks : List Bool) → IsWellShaped p → IsRun p es
    → DropsWhatIsOver p (ends_in p es) (run_owner p es) marks → IsWhatIsLeft marks p es

-- nothing more is over: of what is left of a run without all jobs that are over, no job is
abbrev pub NothingMoreIsOver : Type 0
NothingMoreIsOver = (p : PlannedShop) (es : List Event) (marks : List Bool) → IsWellShaped p → IsRun p es → DropsAllThatIsOver p (ends_in p es) (run_owner p es) marks
    → (i : ℕ) → i < jobs (pruned marks p) → IsJobOver (pruned marks p) (ends_in (pruned marks p) (pruned_run marks p es)) (run_owner (pruned marks p) (pruned_run marks p es)) i → ⊥
