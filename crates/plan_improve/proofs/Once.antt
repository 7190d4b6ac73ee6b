-- Each plan has one cost; and what is fixed is so for all plans that differ in their orders alone.
use Rattle.std.proofs.Common.{◌≡◌, ℕ, ◌-◌, arith, refl, sym, ap, ap₂, ◌∙◌, subst}
use Rattle.plan_bounds.specs.{Bounds.times_of, Makespan.IsBy}
use Rattle.plan_improve.proofs.Common.{Cost, Fixed, HasCycle, IsBound, IsCost, IsFixed, IsLateness, IsReordered, IsRestOf, Nothing, PlannedShop, RestOfRun, Run, Setting, IsRestOfDone, budget, greatest_once, jobs, leaving, makespan_le, bound_if_known, reordered, rest_from, rest_in, setting_of, sum_below, sum_below_same}
use Rattle.plan_improve.proofs.{Comparing.cost_same, RestCosts.same_rest_cost}

-- a plan has one cost
abbrev pub OneCost : Setting → Type 0
OneCost s = (p : PlannedShop) (c d : Cost) → s.costs p c → s.costs p d → c ≡ d

lateness_once : (p : PlannedShop) (m n : ℕ) → IsLateness p m → IsLateness p n → m ≡ n
lateness_once p m n one other = one.sum ∙ same ∙ sym other.sum
  where
    same : sum_below (λ j. one.leaves j - budget p j) (jobs p) ≡ sum_below (λ j. other.leaves j - budget p j) (jobs p)
    same = sum_below_same _ _ (jobs p)
        (λ j inside. ap (λ leaves. leaves - budget p j) (greatest_once p (leaving p j) (one.leaves j) (other.leaves j) (one.are j inside) (other.are j inside)))

pub same_cost : (p : PlannedShop) (c d : Cost) → IsCost p c → IsCost p d → c ≡ d
same_cost p c d one other = cost_same c d (lateness_once p c.late d.late one.late other.late)
    (omega (arith, makespan_le p c.makespan d.makespan one.makespan other.makespan, makespan_le p d.makespan c.makespan other.makespan one.makespan))

pub fixed_once : (fixed : Fixed) (r : RestOfRun PlannedShop) → OneCost (setting_of fixed r)
fixed_once (Nothing at_least) r p c d one other = same_cost p c d one other
fixed_once (Run left) r p c d one other = same_rest_cost r.cell r.present p c d one other

-- what is fixed of a rest is fixed of one to which that leads
pub setting_same : (fixed : Fixed) (r x : RestOfRun PlannedShop) → IsRestOfDone (setting_of fixed r) x → setting_of fixed x ≡ setting_of fixed r
setting_same (Nothing at_least) r x stands = refl
setting_same (Run left) r x stands = ap₂ rest_from stands.1 stands.2

-- plans that differ in their orders alone have one bound
pub same_bound : (p q : PlannedShop) (n : ℕ) → IsReordered p q → IsBound p n → IsBound q n
same_bound p q n same (by, is) = (by, subst (λ t. IsBy t n by) (sym (ap times_of same)) is)

-- the numbers stay the same from one plan to the next
pub reordered_on : (p q r : PlannedShop) → IsReordered p q → IsReordered q r → IsReordered p r
reordered_on p q r one next = next ∙ ap (λ x. reordered x r.plan.order) one

-- what is fixed for a rest is so for one by a plan that differs in its orders alone
pub fixed_on : (fixed : Fixed) (r x : RestOfRun PlannedShop) → IsFixed fixed r → IsRestOfDone (setting_of fixed r) x → IsReordered r.plan x.plan → IsFixed fixed x
fixed_on fixed r x is stands same =
    let there : setting_of fixed x ≡ setting_of fixed r = setting_same fixed r x stands in
    record {
      left = λ q cost next costs. subst (λ (s : Setting). s.leaves q (rest_in fixed)) (sym there)
          (is.left q cost (reordered_on r.plan x.plan q same next) (subst (λ (s : Setting). s.costs q cost) there costs));
      bound = λ q next. subst (λ (s : Setting). s.bounds q (bound_if_known fixed)) (sym there) (is.bound q (reordered_on r.plan x.plan q same next));
    }

-- of a whole plan
pub nothing_fixed : (r : RestOfRun PlannedShop) (n : ℕ) → IsBound r.plan n → IsFixed (Nothing n) r
nothing_fixed r n is = record { left = λ q cost same costs. refl; bound = λ q same. same_bound r.plan q n same is }

abbrev pub FitsRun : RestOfRun PlannedShop → Fixed → Type 0
FitsRun r (Nothing at_least) = ⊥
FitsRun r (Run left) = IsRestOf r.plan r.cell r.present left.now

-- of the rest of a run: what is left of a plan is left of one with other orders
pub run_fixed : (r : RestOfRun PlannedShop) (fixed : Fixed) → FitsRun r fixed → IsFixed fixed r
run_fixed r (Nothing at_least) is = absurd is
run_fixed r (Run left) is = record {
  left = λ q cost same known. subst (λ (x : PlannedShop). IsRestOf x r.cell r.present left.now) (sym same) (record { each_job = is.each_job; each_machine = is.each_machine });
  bound = λ q same. refl;
}

-- a plan with a cycle costs nothing
pub no_cost : (fixed : Fixed) (r : RestOfRun PlannedShop) (p : PlannedShop) → HasCycle p → (c : Cost) → (setting_of fixed r).costs p c → ⊥
no_cost (Nothing at_least) r p cycle c is = is.acyclic cycle.0 cycle.1
no_cost (Run left) r p cycle c is = is.costs.acyclic cycle
