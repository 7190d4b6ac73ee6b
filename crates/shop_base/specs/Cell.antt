-- A cell without buffers: how far each job is, which jobs entered each machine, and which machines are being cleaned.
use Rattle.std.specs.Prelude.{◌≡◌, ℕ, ◌+◌, ◌<◌, List, [], replicate, drop, slice_index_or, slice_set, Option, None, Bool, false}
use Rattle.shop_base.specs.declared.shop.Step.{Step}
use Rattle.shop_base.specs.declared.job_state.JobState.{JobState}
use Rattle.shop_base.specs.Plan.{PlannedShop, jobs, machines, route, steps, Visits}

-- a machine in the cell: the jobs that entered it, in order, and since when it is being cleaned, if it is
pub record MachineState : Type 0 where
  pub entries : List ℕ
  pub cleaning : Option ℕ

-- a cell without buffers, and the moment of its last event (Pinedo, Scheduling: block)
pub record Cell : Type 0 where
  pub jobs : List JobState
  pub machines : List MachineState
  pub last : ℕ

-- a job that isn't of the shop counts as gone
abbrev pub absent : JobState
absent = record { made = 1; ready = false; since = 0 }

-- a machine that nobody entered
abbrev pub unused : MachineState
unused = record { entries = []; cleaning = None }

module _ (c : Cell) where
  -- job j in the cell
  abbrev pub job_in : ℕ → JobState
  job_in j = slice_index_or c.jobs j absent

  -- machine m in it
  abbrev pub machine_in : ℕ → MachineState
  machine_in m = slice_index_or c.machines m unused

  -- the cell with job j in another state
  abbrev pub with_job : ℕ → JobState → Cell
  with_job j state = record c { jobs = slice_set c.jobs j state }

  -- with machine m in another state
  abbrev pub with_machine : ℕ → MachineState → Cell
  with_machine m state = record c { machines = slice_set c.machines m state }

  -- how many moves job j has made
  abbrev pub made : ℕ → ℕ
  made j = (job_in j).made

  -- whether it is ready for the next
  abbrev pub ready : ℕ → Bool
  ready j = (job_in j).ready

  -- the moment of its last move
  abbrev pub since : ℕ → ℕ
  since j = (job_in j).since

  -- the jobs that entered machine m, in order
  abbrev pub entries : ℕ → List ℕ
  entries m = (machine_in m).entries

  -- since when it is being cleaned, if it is
  abbrev pub cleaning : ℕ → Option ℕ
  cleaning m = (machine_in m).cleaning

  -- job j hasn't entered the cell
  abbrev pub IsOutside : ℕ → Type 0
  IsOutside j = made j ≡ 0

module _ (p : PlannedShop) (c : Cell) where
  -- job j is on machine m: its last move was into step k, which is there
  pub record IsOn (j k m : ℕ) : Type 0 where
    pub entered : made c j ≡ k + 1
    pub visits : Visits p j k m

  -- job j has made a move for each step, and one to leave
  abbrev pub IsGone : ℕ → Type 0
  IsGone j = steps p j < made c j

  -- the steps that job j hasn't entered
  abbrev pub remaining_route : ℕ → List Step
  remaining_route j = drop (made c j) (route p j)

  -- no job is on machine m
  abbrev pub IsFree : ℕ → Type 0
  IsFree m = (j k : ℕ) → IsOn j k m → ⊥

-- the start: all jobs outside and not ready, no machine entered or being cleaned, the last moment 0
abbrev pub start : PlannedShop → Cell
start p = record {
  jobs = replicate (jobs p) (record { made = 0; ready = false; since = 0 });
  machines = replicate (machines p) unused;
  last = 0;
}
