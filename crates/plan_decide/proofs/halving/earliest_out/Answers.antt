use Rattle.std.proofs.Common.{inl, inr, refl, sym, ap, subst, ◌∙◌}
use Rattle.plan_decide.specs.declared.aim.Objective.TheVariants.{Makespan, Leaving}
use Rattle.plan_decide.specs.Objectives.{IsLeastValue}
use Rattle.plan_decide.specs.Settings.{case_in}
use Rattle.plan_decide.proofs.Bounded.{bound_least}
use Rattle.plan_decide.proofs.Kepts.{rooted, gone_setting}
use Rattle.plan_decide.proofs.halving.earliest_out.Goals as goal

pub returns-then-is_waiting : goal.returns-then-is_waiting
returns-then-is_waiting g c =
    let s = c.args.setting.now in
    let t = case_in s in
    let j = c.args.job in
    let root = rooted s c.cell-cell.ensures.set in
    let waits = sym c.is_waiting.ensures ∙ c.if-is_waiting.true in
    record {
      leaving = subst (IsLeastValue t (Leaving j)) (sym c.bound_of_job.ensures) (bound_least t (Leaving j) j root c.requires waits (inr refl));
      makespan = subst (IsLeastValue t Makespan) (sym c.bound_of_job.ensures) (bound_least t Makespan j root c.requires waits (inl refl));
    }

pub returns-else-is_waiting : goal.returns-else-is_waiting
returns-else-is_waiting g c =
    let s = c.args.setting.now in
    let j = c.args.job in
    let not = sym c.is_waiting.ensures ∙ c.if-is_waiting.false in
    let left = ap (λ state. state.since) (rw c.cell-cell.ensures.cell at c.job_state.ensures) in
    record {
      leaving = subst (IsLeastValue (case_in s) (Leaving j)) (sym left) (gone_setting s (Leaving j) j c.requires not (inr refl));
      makespan = subst (IsLeastValue (case_in s) Makespan) (sym left) (gone_setting s Makespan j c.requires not (inl refl));
    }
