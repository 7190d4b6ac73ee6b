-- What a rest costs, from the moments of its nodes; it is the only cost.
use Rattle.std.proofs.Common.{◌≡◌, ℕ, suc, ◌+◌, ◌*◌, ◌-◌, ◌<◌, ◌≤◌, if◌then◌else◌, nat_lt, lt-ltb, le-ltb, inl, inr, arith, refl, sym, ap, ◌∙◌, subst}
use Rattle.shop_base.specs.declared.node.Node.{Node}
use Rattle.plan_verifier.specs.Held.{AreBegun}
use Rattle.plan_verifier.proofs.Soon.{node_soon}
use Rattle.plan_improve.proofs.Common.{AreLeavingsAhead, AreOrderedAhead, Cell, Cost, IsCostFrom, IsGreatestAhead, IsLastLeaving, IsRestCost, IsSound, LeaveSoon, MAX_MOMENT, NodeTimes, PlannedShop, acyclic, budget, cases_lt, jobs, late_by, leaves_in, leaving, leaving_ahead, leaving_node, leavings_ahead, made, rank_of, steps, sum_below, sum_below_same, the_last_leaving}
use Rattle.plan_improve.proofs.Comparing.{cost_same}

module _ (p : PlannedShop) (c : Cell) (t : ℕ) where
  greatest_once : (v : Node) (m n : ℕ) → IsGreatestAhead p c t v m → IsGreatestAhead p c t v n → m ≡ n
  greatest_once v m n one other = omega (arith, other.longest one.reached.0 m one.reached.1, one.longest other.reached.0 n other.reached.1)

  leaves_once : (f g : ℕ → ℕ) → AreLeavingsAhead p c t f → AreLeavingsAhead p c t g → (j : ℕ) → j < jobs p → f j ≡ g j
  leaves_once f g one other j inside = elim (cases_lt (steps p j) (made c j)) [
    | inl gone ↦ one.left j inside gone ∙ sym (other.left j inside gone)
    | inr here ↦ greatest_once (leaving p j) (f j) (g j) (one.ahead j inside (λ gone. omega arith)) (other.ahead j inside (λ gone. omega arith))
  ]

  late_once : (f g : ℕ → ℕ) → AreLeavingsAhead p c t f → AreLeavingsAhead p c t g → sum_below (late_by p c f) (jobs p) ≡ sum_below (late_by p c g) (jobs p)
  late_once f g one other = sum_below_same _ _ (jobs p)
      (λ j inside. ap (λ n. if nat_lt (steps p j) (made c j) then 0 else n - budget p j) (leaves_once f g one other j inside))

  last_le : (f g : ℕ → ℕ) (m n : ℕ) → ((j : ℕ) → j < jobs p → f j ≡ g j) → IsLastLeaving p f m → IsLastLeaving p g n → m ≤ n
  last_le f g m n same one other = (let (j, inside, is) = one.reached in omega (arith, is, same j inside, other.bound j inside))

  once_from : (a b : Cost) → IsCostFrom p c t a → IsCostFrom p c t b → a ≡ b
  once_from a b one other = cost_same a b (one.late ∙ late_once one.leaves other.leaves one.are other.are ∙ sym other.late) (omega (
    arith,
    last_le one.leaves other.leaves a.makespan b.makespan (leaves_once one.leaves other.leaves one.are other.are) one.makespan other.makespan,
    last_le other.leaves one.leaves b.makespan a.makespan (leaves_once other.leaves one.leaves other.are one.are) other.makespan one.makespan,
  ))

  -- the moments of the leavings give the cost
  pub cost_is : (times : NodeTimes) (cost : Cost) → AreOrderedAhead p c t times → cost.late ≡ sum_below (late_by p c (leaves_in p times)) (jobs p)
      → IsLastLeaving p (leaves_in p times) cost.makespan → IsCostFrom p c t cost
  cost_is times cost ordered late makespan =
      record { acyclic = acyclic p (rank_of times) ordered.schedule.ranks; leaves = leaves_in p times; are = leavings_ahead p c t times ordered; late = late; makespan = makespan }

-- the total lateness of the first n jobs
pub record IsLateBelow (p : PlannedShop) (c : Cell) (leaves : ℕ → ℕ) (n late : ℕ) : Type 0 where
  pub sum : late ≡ sum_below (late_by p c leaves) n
  pub few : late ≤ n * 2020200000000

pub late_none : (p : PlannedShop) (c : Cell) (leaves : ℕ → ℕ) → IsLateBelow p c leaves 0 0
late_none p c leaves = record { sum = refl; few = omega arith }

-- a job isn't later than it leaves
pub late_few : (p : PlannedShop) (c : Cell) (times : NodeTimes) (j : ℕ) → LeaveSoon p c (leaves_in p times) → j < jobs p → late_by p c (leaves_in p times) j ≤ the_last_leaving
late_few p c times j soon inside = elim (cases_lt (steps p j) (made c j)) [
  | inl gone ↦ rw (lt-ltb (steps p j) (made c j) gone) (omega arith)
  | inr here ↦ rw (le-ltb (steps p j) (made c j) here) (omega (arith, soon j inside (λ gone. omega arith)))
]

pub late_more : (p : PlannedShop) (c : Cell) (leaves : ℕ → ℕ) (n late x : ℕ) → IsLateBelow p c leaves n late → x ≡ late_by p c leaves n → late_by p c leaves n ≤ the_last_leaving
    → IsLateBelow p c leaves (n + 1) (late + x)
late_more p c leaves n late x below is few =
    let next : suc n ≡ n + 1 = omega arith in
    let more : late + x ≡ sum_below (late_by p c leaves) n + late_by p c leaves n = omega (arith, below.sum, is) in
    record {
      sum = subst (λ k. late + x ≡ sum_below (late_by p c leaves) k) next more;
      few = omega (arith, below.few, is, few);
    }

pub same_rest_cost : (c : Cell) (t : ℕ) (p : PlannedShop) (a b : Cost) → IsRestCost c t p a → IsRestCost c t p b → a ≡ b
same_rest_cost c t p a b one other = once_from p c t a b one.costs other.costs

-- how late the jobs of a rest can leave
pub leave_soon : (p : PlannedShop) (c : Cell) (t : ℕ) (times : NodeTimes) → IsSound p c → AreBegun c → t ≤ MAX_MOMENT → AreOrderedAhead p c t times → LeaveSoon p c (leaves_in p times)
leave_soon p c t times sound begun early ordered j inside here =
    omega (arith, node_soon p c t sound ordered.schedule.shaped begun early times ordered (leaving p j) (leaving_node p j inside) (leaving_ahead p c j here))
