use Rattle.std.proofs.Common.{◌≡◌, ◌≤◌, if◌then◌else◌}
use Rattle.shop_base.specs.Ends.{sum_below}
use Rattle.run_state.specs.StateText.{is_gone}
use Rattle.run_state.proofs.rest_state.jobs_gone.Given as goal

-- those of the jobs looked at
abbrev pub invariant-loop-job : goal.invariant-loop-job
invariant-loop-job g l = (l.gone ≡ sum_below (λ j. if is_gone l.cell.plan l.cell.cell j then 1 else 0) l.job) × (l.gone ≤ l.job)
