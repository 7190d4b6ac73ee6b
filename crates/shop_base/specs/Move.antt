-- The move of a job to its next machine or out of the cell: when it is possible, when it keeps the plan, and
-- the cell after it.
use Rattle.std.specs.Prelude.{◌≡◌, ℕ, zero, suc, ◌+◌, List, [], ◌∷◌, ◌++◌, drop, None, Some, true, false, nat_lt, if◌then◌else◌, ◌⊎◌}
use Rattle.shop_base.specs.declared.shop.Step.{Step}
use Rattle.shop_base.specs.declared.move_order.Spot.{Spot}
use Rattle.shop_base.specs.declared.move_order.Spot.TheVariants.{Out, At}
use Rattle.shop_base.specs.declared.move_order.MoveOrder.{MoveOrder}
use Rattle.shop_base.specs.Plan.{PlannedShop, route, clean, order, Visits}
use Rattle.shop_base.specs.Cell.{Cell, machine_in, with_job, with_machine, made, ready, entries, cleaning, remaining_route, IsFree}
use Rattle.shop_base.specs.Report.{IsNextMoment}

-- the first machine of what is left of a route, out of the cell where nothing is left
abbrev pub first_stop : List Step → Spot
first_stop [] = Out
first_stop (step ∷ rest) = At step.machine

-- where job j is after n moves: outside, and then where the last of them took it
abbrev pub spot_after : PlannedShop → ℕ → ℕ → Spot
spot_after p j zero = Out
spot_after p j (suc k) = first_stop (drop k (route p j))

-- one list begins another
abbrev pub IsPrefix : List ℕ → List ℕ → Type 0
IsPrefix front whole = (rest : List ℕ) × (whole ≡ front ++ rest)

module _ (p : PlannedShop) (c : Cell) where
  -- the source of job j's next move: where it is
  abbrev pub source : ℕ → Spot
  source j = spot_after p j (made c j)

  -- its target: the first machine of its remaining route, or out of the cell
  abbrev pub target : ℕ → Spot
  target j = first_stop (remaining_route p c j)

  -- job j can leave the cell: it has no remaining route
  abbrev pub CanLeave : ℕ → Type 0
  CanLeave j = remaining_route p c j ≡ []

  -- job j can enter machine m: its next step is there, no job is on it, and it isn't being cleaned
  pub record CanEnter (j m : ℕ) : Type 0 where
    pub next : Visits p j (made c j) m
    pub free : IsFree p c m
    pub is_clean : cleaning c m ≡ None

  -- a move of job j at moment t is possible
  pub record CanMove (j t : ℕ) : Type 0 where
    pub is_ready : ready c j ≡ true
    pub way : CanLeave j ⊎ ((m : ℕ) × CanEnter j m)
    pub moment : IsNextMoment c t

  -- a move of job j keeps the plan: it is a leaving, or the entries of its machine, and then j, begin that machine's order
  abbrev pub KeepsPlan : ℕ → Type 0
  KeepsPlan j = (m : ℕ) → Visits p j (made c j) m → IsPrefix (entries c m ++ j ∷ []) (order p m)

  -- the cell once a job has left a spot at moment t: a machine with a cleaning time is being cleaned since then
  abbrev pub after_leaving : Spot → ℕ → Cell
  after_leaving Out t = c
  after_leaving (At m) t = if nat_lt 0 (clean p m) then with_machine c m (record (machine_in c m) { cleaning = Some t }) else c

module _ (c : Cell) (j : ℕ) where
  -- the cell once job j has come to a spot: it is the last entrant there
  abbrev pub with_entry : Spot → Cell
  with_entry Out = c
  with_entry (At m) = with_machine c m (record (machine_in c m) { entries = entries c m ++ j ∷ [] })

  -- once it has made one more move, at moment t
  abbrev pub with_moved : ℕ → Cell
  with_moved t = record (with_job c j (record { made = made c j + 1; ready = false; since = t })) { last = t }

module _ (p : PlannedShop) (c : Cell) where
  -- the cell after a move of job j at moment t: it leaves its source, comes to its target, and has moved
  abbrev pub after_move : ℕ → ℕ → Cell
  after_move j t = with_moved (with_entry (after_leaving p c (source p c j) t) j (target p c j)) j t

  -- the order to make that move
  abbrev pub order_for : ℕ → ℕ → MoveOrder
  order_for j t = record { job = j; source = source p c j; target = target p c j; at = t }

  -- the order is a possible move: it names that job's source and target
  pub record CanObey (o : MoveOrder) : Type 0 where
    pub can : CanMove p c o.job o.at
    pub is_move : o ≡ order_for o.job o.at
