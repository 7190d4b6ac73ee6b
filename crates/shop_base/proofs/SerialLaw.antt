-- The serial plan has no cycle: every arc rises in the order of nodes by job, then by place.
use Rattle.std.proofs.Common.{◌≡◌, ℕ, zero, suc, ◌+◌, ◌<◌, ◌≤◌, ap, arith, ⊎_elim, inl, inr, subst, sym, ◌∙◌}
use Rattle.std.proofs.lemmas.Bool.{cases_lt, cases_eq}
use Rattle.shop_base.specs.declared.node.Node.{Node}
use Rattle.shop_base.specs.Plan.{PlannedShop, steps, Stands, IsWellShaped}
use Rattle.shop_base.specs.Ends.{sum_below}
use Rattle.shop_base.specs.Graph.{node, job_arc, blocking_arc, RanksRise, IsSerial}
use Rattle.shop_base.specs.SerialLaw.{TheSerialPlanHasNoCycle}
use Rattle.shop_base.proofs.Cycles.{ranks_exclude_cycle}
use Rattle.shop_base.proofs.Visits.{visits_apart, stands_in_turn}

-- how many nodes job j has
abbrev nodes_of : PlannedShop → ℕ → ℕ
nodes_of p j = steps p j + 1

-- the place of a node in the order by job, then by place
abbrev pub serial_rank : PlannedShop → Node → ℕ
serial_rank p v = sum_below (nodes_of p) v.job + v.place

-- a sum over more numbers is at least as large
pub sum_below-grows : (f : ℕ → ℕ) (a b : ℕ) → a ≤ b → sum_below f a ≤ sum_below f b
sum_below-grows f a zero below = let same : a ≡ 0 = omega arith in omega (arith, ap (sum_below f) same)
sum_below-grows f a (suc b) below = ⊎_elim
    (λ (past : b < a). let same : a ≡ suc b = omega arith in omega (arith, ap (sum_below f) same))
    (λ (less : a ≤ b). omega (arith, sum_below-grows f a b less))
    (cases_lt b a)

-- the nodes of an earlier job come before those of a later one
earlier_job : (p : PlannedShop) (i j : ℕ) → i < j → sum_below (nodes_of p) i + steps p i < sum_below (nodes_of p) j
earlier_job p i j before = omega (arith, sum_below-grows (nodes_of p) (suc i) j before)

pub serial-ranks_rise : (p : PlannedShop) → IsWellShaped p → IsSerial p → RanksRise p (serial_rank p)
serial-ranks_rise p shaped serial u v d (job_arc j k within) = omega arith
serial-ranks_rise p shaped serial u v d (blocking_arc m a i k j l one other) = elim (cases_eq i j) [
  | inl same ↦ again (subst (λ x. Stands p m a x k) same one)
  | inr apart ↦ omega (arith, earlier_job p i j (omega (arith, apart, serial m a other.within, one.job, other.job)), one.visits.within)
]
  where
    again : Stands p m a j k → serial_rank p (node i (k + 1)) < serial_rank p (node j l)
    again mine =
        let later : k < l = stands_in_turn p m a (a + 1) j k l mine other (omega arith) in
        let next : l ≡ k + 1 → ⊥ = visits_apart p j k l m shaped mine.visits other.visits in
        let same : i ≡ j = sym one.job ∙ mine.job in
        omega (arith, later, next, ap (sum_below (nodes_of p)) same)

pub serial_plan_has_no_cycle : TheSerialPlanHasNoCycle
serial_plan_has_no_cycle p nodes shaped serial cycle = ranks_exclude_cycle p (serial_rank p) nodes (serial-ranks_rise p shaped serial) cycle
