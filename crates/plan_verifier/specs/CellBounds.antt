-- The bounds of the nodes of a cell from a present moment on, as a table.
use Rattle.std.specs.Prelude.{◌≢◌, ℕ, ◌+◌, ◌<◌, ◌≤◌, Bool, ◌&&◌, max, nat_lt, nat_eq, if◌then◌else◌, map, length, Option, None, Some}
use Rattle.std.specs.List.{range_with_len}
use Rattle.shop_base.specs.declared.node.Node.{Node}
use Rattle.shop_base.specs.declared.job_state.JobState.{JobState}
use Rattle.shop_base.specs.Plan.{PlannedShop, jobs, steps, order, machine_of, job_at, visits_before, places_before}
use Rattle.shop_base.specs.Cell.{Cell, job_in, made, since, entries, cleaning}
use Rattle.shop_base.specs.Movers.{due_of_job, due_of_cleaning}
use Rattle.shop_base.specs.Graph.{node}
use Rattle.alt_graph.specs.Bounds.{NodeBounds}
use Rattle.plan_verifier.specs.Held.{later_than}

-- the same of the other alone: none where there is none
abbrev pub held_to : ℕ → Option ℕ → Option ℕ
held_to n None = None
held_to n (Some m) = Some (max n m)

module _ (p : PlannedShop) (c : Cell) where
  -- the job of v enters machine m by none of the nodes ahead before v
  abbrev pub IsFirstAhead : ℕ → Node → Type 0
  IsFirstAhead m v = (k : ℕ) → made c v.job ≤ k → k < v.place → machine_of p v.job k ≢ m

  -- v's visit to machine m is the next in the order there: the turn is its job's, which had as many turns there before as it has visits before v
  abbrev pub is_next_in : ℕ → Node → Bool
  is_next_in m v = nat_lt (length (entries c m)) (length (order p m))
      && (nat_eq (job_at p m (length (entries c m))) v.job && nat_eq (places_before p m v.job (length (entries c m))) (visits_before p v.job m v.place))

  -- when the cleaning of the machine that v's job enters by v is due, if that is the next entry there and the machine is being cleaned
  abbrev pub cleaned_at : Node → Option ℕ
  cleaned_at v =
      if nat_lt v.place (steps p v.job) then (if is_next_in (machine_of p v.job v.place) v then due_of_cleaning p (machine_of p v.job v.place) (cleaning c (machine_of p v.job v.place)) else None) else None

  module _ (t : ℕ) where
    -- the bound of v: where it is passed, the moment of its job's last move; where it is its job's next node, the present moment or, if that is later, when what goes on with the job is due; and where a cleaning holds it up, when that is due
    abbrev pub bound_in : Node → Option ℕ
    bound_in v =
        if nat_lt v.place (made c v.job) then Some (since c v.job)
        else if nat_lt (made c v.job) v.place then held_to t (cleaned_at v)
        else Some (later_than (later_than t (due_of_job p v.job (job_in c v.job))) (cleaned_at v))

    -- the table of these
    abbrev pub rest_bounds : NodeBounds
    rest_bounds = record {
      made = map (λ (s : JobState). s.made) c.jobs;
      recorded = map (λ j. map (λ k. bound_in (node j k)) (range_with_len 0 (steps p j + 1))) (range_with_len 0 (jobs p));
    }
