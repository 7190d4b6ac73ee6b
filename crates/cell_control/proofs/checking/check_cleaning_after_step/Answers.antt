use Rattle.std.proofs.Common.{arith}
use Rattle.cell_control.proofs.ClaimReasons.{cleaned_for_one, step_itself}
use Rattle.cell_control.proofs.checking.check_cleaning_after_step.Goals as goal

pub returns-then-ne-clause-first : goal.returns-then-ne-clause-first
returns-then-ne-clause-first g c = (
  (
    (omega (arith, c.if-machine-machine_count.false, c.machine_count.ensures.count), omega (arith, c.if-job-job_count.false, c.job_count.ensures.count)),
    omega (arith, c.if-step-step_count.false, c.step_count.ensures),
  ),
  c.in_ok-check_moment.ensures.moment,
  λ after.
      let is = cleaned_for_one _ _ _ _ _ c.cleaned_after_step.result c.cleaned_after_step.ensures after in
      step_itself c.args.job c.args.step (rw is at c.if-ne.ensures),
)
