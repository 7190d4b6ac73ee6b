-- The rest of a run that hasn't begun costs what the whole plan does; and what a cell's plan costs where something is fixed.
use Rattle.std.proofs.Common.{◌≡◌, ℕ, ◌-◌, if◌then◌else◌, le-ltb, Option, None, Some, Result, Ok, Err, IfOk, arith, sym, ap, ◌∙◌, subst}
use Rattle.plan_verifier.proofs.AtStart.{leavings_to, leavings_from}
use Rattle.plan_improve.proofs.Common.{Cell, Cost, Fixed, HasCycle, IsCost, IsCostFrom, IsWellShaped, MatchOption, Nothing, PlannedShop, RestOfRun, Run, IsRestOfDone, TheRestOfTheStartCostsThePlan, budget, jobs, late_by, made, makespan_is, makespan_last, setting_of, start, start-made, steps, sum_below, sum_below_same}

late_whole : (p : PlannedShop) (leaves : ℕ → ℕ) → sum_below (late_by p (start p) leaves) (jobs p) ≡ sum_below (λ j. leaves j - budget p j) (jobs p)
late_whole p leaves = sum_below_same _ _ (jobs p) (λ j inside.
    ap (λ b. if b then 0 else leaves j - budget p j) (le-ltb (steps p j) (made (start p) j) (omega (arith, start-made p j inside))))

plan_cost : (p : PlannedShop) (c : Cost) → IsWellShaped p → IsCostFrom p (start p) 0 c → IsCost p c
plan_cost p c shaped is =
    let are = leavings_to p shaped is.leaves is.are in
    record {
      acyclic = λ nodes cycle. is.acyclic (nodes, cycle);
      late = record { leaves = is.leaves; are = are; sum = is.late ∙ late_whole p is.leaves };
      makespan = makespan_is p is.leaves c.makespan are is.makespan;
    }

rest_cost : (p : PlannedShop) (c : Cost) → IsWellShaped p → IsCost p c → IsCostFrom p (start p) 0 c
rest_cost p c shaped is = record {
  acyclic = λ cycle. is.acyclic cycle.0 cycle.1;
  leaves = is.late.leaves;
  are = leavings_from p shaped is.late.leaves is.late.are;
  late = is.late.sum ∙ sym (late_whole p is.late.leaves);
  makespan = makespan_last p is.late.leaves c.makespan is.late.are is.makespan;
}

pub start_law : TheRestOfTheStartCostsThePlan
start_law p cost shaped = (plan_cost p cost shaped, rest_cost p cost shaped)

-- the cost of a rest to which what is fixed leads is the plan's
pub costs_there : {E : Type 0} (fixed : Fixed) (r : RestOfRun PlannedShop) (a : Result (Option Cost) E) → IsWellShaped r.plan → IsRestOfDone (setting_of fixed r) r
    → IfOk a (λ cost. MatchOption cost (HasCycle r.plan) (IsCostFrom r.plan r.cell r.present)) → IfOk a (λ cost. MatchOption cost (HasCycle r.plan) ((setting_of fixed r).costs r.plan))
costs_there fixed r (Ok None) shaped stands cycle = cycle
costs_there (Nothing at_least) r (Ok (Some cost)) shaped stands is =
    plan_cost r.plan cost shaped (subst (λ (x : Cell). IsCostFrom r.plan x 0 cost) stands.0 (subst (λ n. IsCostFrom r.plan r.cell n cost) stands.1 is))
costs_there (Run left) r (Ok (Some cost)) shaped stands is = record { begins = stands.0; costs = is }
costs_there fixed r (Err e) shaped stands is = tt
