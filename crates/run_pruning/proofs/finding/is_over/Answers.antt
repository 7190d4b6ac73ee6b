use Rattle.std.proofs.Common.{ap, arith}
use Rattle.shop_base.specs.declared.job_state.JobState.{JobState}
use Rattle.run_pruning.proofs.Walks.{option_apart, over_unless}
use Rattle.run_pruning.proofs.finding.is_over.Goals as goal

pub returns : goal.returns
returns g c =
    over_unless c.args.cell.now.plan c.args.cell.now.cell c.args.last c.args.job c.is_cleaned_after.result
    (omega (arith, c.if-job_state-step_count.false, c.step_count.ensures, ap (λ (s : JobState). s.made) c.job_state.ensures))
    (option_apart c.args.last c.args.job c.eq.result c.eq.ensures c.if-eq.false) c.is_cleaned_after.ensures
