use Rattle.std.proofs.Common.{◌∙◌, sym, arith}
use Rattle.plan_decide.specs.Settings.{case_in}
use Rattle.plan_decide.proofs.Limits.{promise_is}
use Rattle.plan_decide.proofs.Kepts.{rooted}
use Rattle.plan_decide.proofs.Collecting.{late_exclusion}
use Rattle.plan_decide.proofs.standing.found_standing.Goals as goal

pub returns-then-budget-bound_of_job : goal.returns-then-budget-bound_of_job
returns-then-budget-bound_of_job g c =
    let s = c.args.setting.now in
    let t = case_in s in
    let j = c.args.job in
    let promise = promise_is t j c.in-Some.budget (sym c.promise_to.ensures ∙ c.in-Some.is) in
    late_exclusion t j (rooted s c.cell-cell.ensures.set) (record {
      promised = record { inside = c.requires; waits = promise.0; below = promise.1 };
      late = omega (arith, c.if-budget-bound_of_job.true, promise.2, c.bound_of_job.ensures);
    })
