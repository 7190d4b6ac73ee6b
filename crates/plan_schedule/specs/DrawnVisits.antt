-- The visits of a run, as a picture draws them: those that are known so far, and those ahead.
use Rattle.std.specs.Prelude.{◌≡◌, ℕ, zero, suc, ◌+◌, ◌-◌, ◌<◌, ◌==◌, nat_le, if◌then◌else◌, List, ◌++◌, map, flat_map, Option, None, Some, unwrap_or}
use Rattle.std.specs.List.{range_with_len}
use Rattle.shop_base.specs.declared.node.Node.{Node}
use Rattle.shop_base.specs.Plan.{PlannedShop, jobs, steps, machine_of, nominal, clean}
use Rattle.shop_base.specs.{Cell.Cell, Cell.made, Cell.since, Cell.cleaning, Cell.IsGone, Graph.node, Graph.leaving}
use Rattle.run_picture.specs.declared.visit.Cleaned.{Cleaned}
use Rattle.run_picture.specs.declared.visit.Cleaned.TheVariants.{Never, NotYet, By}
use Rattle.run_picture.specs.declared.visit.DrawnVisit.{DrawnVisit}
use Rattle.plan_schedule.specs.{declared.lines.Cleaning.Cleaning, declared.picture_visits.DrawnRun.DrawnRun}
use Rattle.plan_schedule.specs.{ScheduleLines.operation_end, ScheduleLines.cleaned_by, Scheduled.AreEarliest, Lateness.lateness}

-- the end of a cleaning, if there is one
abbrev pub known_cleaning : Option Cleaning → Cleaned
known_cleaning None = Never
known_cleaning (Some cleaning) = By cleaning.to

module _ (p : PlannedShop) (at : Node → ℕ) where
  -- the cleaning behind the visit of job j by its step k, if the machine has a cleaning time: it begins as the job leaves
  abbrev pub cleaned_behind : ℕ → ℕ → Cleaned
  cleaned_behind j k = if clean p (machine_of p j k) == 0 then Never else By (at (node j (k + 1)) + clean p (machine_of p j k))

  -- the visit of job j by its step k: it begins as the job enters, and takes its nominal time; the job leaves with its next move
  abbrev pub drawn_visit : ℕ → ℕ → DrawnVisit
  drawn_visit j k = record {
    job = j;
    machine = machine_of p j k;
    enter = at (node j k);
    finish = Some (at (node j k) + nominal p j k);
    leave = Some (at (node j (k + 1)));
    cleaned = cleaned_behind j k;
  }

  -- so many visits of job j, from a place of its route on
  abbrev pub job_visits : ℕ → ℕ → ℕ → List DrawnVisit
  job_visits j first count = map (drawn_visit j) (range_with_len first count)

-- the place of the step behind so many moves of a job, if there is one
abbrev pub place_behind : ℕ → Option ℕ
place_behind zero = None
place_behind (suc k) = Some k

-- a cleaning whose end isn't known ends so
abbrev pub ended_cleaning : Cleaned → Option ℕ → Cleaned
ended_cleaning Never end = Never
ended_cleaning (By at) end = By at
ended_cleaning NotYet None = NotYet
ended_cleaning NotYet (Some end) = By end

module _ (p : PlannedShop) (c : Cell) where
  -- the place in the route of job j of the step by which it is on a machine, if it is on one
  abbrev pub place_inside : ℕ → Option ℕ
  place_inside j = if nat_le (made c j) (steps p j) then place_behind (made c j) else None

module _ (p : PlannedShop) (c : Cell) (t : ℕ) where
  -- when the cleaning of machine m ends that goes on since a moment, if one does
  abbrev pub end_since : ℕ → Option ℕ → Option ℕ
  end_since m None = None
  end_since m (Some from) = Some (cleaned_by p c t m from)

  -- when the cleaning of machine m that goes on ends, if one does
  abbrev pub cleaning_end : ℕ → Option ℕ
  cleaning_end m = end_since m (cleaning c m)

  -- a visit that is over, with the end of the cleaning behind it
  abbrev pub left_visit : DrawnVisit → DrawnVisit
  left_visit visit = record {
    job = visit.job;
    machine = visit.machine;
    enter = visit.enter;
    finish = visit.finish;
    leave = visit.leave;
    cleaned = ended_cleaning visit.cleaned (cleaning_end visit.machine);
  }

module _ (p : PlannedShop) (c : Cell) (t : ℕ) (at : Node → ℕ) where
  -- the visit that a job is in by its step k: its operation ends as it is known, or else when it is due; the job leaves with its next move
  abbrev pub going_visit : DrawnVisit → ℕ → DrawnVisit
  going_visit visit k = record {
    job = visit.job;
    machine = visit.machine;
    enter = visit.enter;
    finish = Some (unwrap_or visit.finish (operation_end p c t visit.job k));
    leave = Some (at (node visit.job (k + 1)));
    cleaned = cleaned_behind p at visit.job k;
  }

  -- a visit whose job hasn't left: that which the job is in, if it is on a machine
  abbrev pub staying_visit : DrawnVisit → Option ℕ → DrawnVisit
  staying_visit visit None = visit
  staying_visit visit (Some k) = going_visit visit k

  -- a visit that is known so far, with its ends
  abbrev pub ended_by : DrawnVisit → Option ℕ → DrawnVisit
  ended_by visit None = staying_visit visit (place_inside p c visit.job)
  ended_by visit (Some left) = left_visit p c t visit

  abbrev pub ended_visit : DrawnVisit → DrawnVisit
  ended_visit visit = ended_by visit visit.leave

module _ (p : PlannedShop) (c : Cell) (at : Node → ℕ) where
  -- the visits of job j that are ahead, in the order of its route
  abbrev pub job_ahead : ℕ → List DrawnVisit
  job_ahead j = job_visits p at j (made c j) (steps p j - made c j)

  -- those of the first jobs, ascending
  abbrev pub visits_ahead : ℕ → List DrawnVisit
  visits_ahead count = flat_map job_ahead (range_with_len 0 count)

-- when each of the first jobs leaves, or has left
abbrev pub leavings_by : PlannedShop → (Node → ℕ) → ℕ → List (Option ℕ)
leavings_by p at count = map (λ j. Some (at (leaving p j))) (range_with_len 0 count)

-- the run that goes on from a cell c and a present moment t, of which these visits are known so far: they end, and those ahead follow, by the earliest moments; a job that is gone leaves when it left, and doesn't count as late
pub record IsDrawnRun (p : PlannedShop) (c : Cell) (t : ℕ) (drawn : List DrawnVisit) (run : DrawnRun) : Type 0 where
  pub moments : Node → ℕ
  pub earliest : AreEarliest p c t moments
  pub left : (j : ℕ) → j < jobs p → IsGone p c j → moments (leaving p j) ≡ since c j
  pub visits : run.visits.items ≡ map (ended_visit p c t moments) drawn ++ visits_ahead p c moments (jobs p)
  pub leavings : run.leavings.items ≡ leavings_by p moments (jobs p)
  pub late_by : run.late_by ≡ lateness p c moments (jobs p)
