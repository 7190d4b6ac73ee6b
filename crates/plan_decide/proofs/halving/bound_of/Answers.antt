use Rattle.std.proofs.Common.{Bool, sym, ap, subst, ◌∙◌}
use Rattle.plan_decide.specs.declared.aim.Objective.{Objective}
use Rattle.plan_decide.specs.Objectives.{IsLeastValue}
use Rattle.plan_decide.specs.Settings.{past_by, case_in}
use Rattle.plan_decide.proofs.Bounded.{least_makespan_least}
use Rattle.plan_decide.proofs.halving.bound_of.Goals as goal

pub returns-then-is_whole : goal.returns-then-is_whole
returns-then-is_whole g c =
    let s = c.args.setting.now in
    let nothing_past = ap (λ (b : Bool). past_by b s.plan s.cell s.present) (sym c.is_whole.ensures.whole ∙ c.if-is_whole.true) in
    subst (λ (objective : Objective). IsLeastValue (case_in s) objective c.least_makespan.result.at_least) (sym c.in-Makespan.is)
    (least_makespan_least (case_in s) c.least_makespan.result nothing_past (rw (c.shaped.ensures.plan, c.cell.ensures.plan) at c.least_makespan.ensures))
