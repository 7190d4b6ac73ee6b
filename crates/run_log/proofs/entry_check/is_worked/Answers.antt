use Rattle.std.proofs.Common.{sym, ap, ◌∙◌}
use Rattle.shop_base.specs.declared.job_state.JobState.{JobState}
use Rattle.run_log.proofs.PossibleEntries.{worked_there}
use Rattle.run_log.proofs.entry_check.is_worked.Goals as goal

pub returns-in-Some : goal.returns-in-Some
returns-in-Some g c =
    worked_there c.args.cell.now.plan c.args.cell.now.cell c.args.job c.args.machine c.in-Some.actual c.in-Some.ensures
    (sym (ap (λ (s : JobState). s.ready) c.job_state.ensures) ∙ c.if-job_state.false)
