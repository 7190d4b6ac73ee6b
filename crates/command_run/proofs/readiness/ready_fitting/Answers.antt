use Rattle.command_run.proofs.Readied.{readied_as}
use Rattle.command_run.proofs.readiness.ready_fitting.Goals as goal

pub returns-in-None : goal.returns-in-None
returns-in-None g c = rw c.in-None.is (readied_as _ _ _ _ _ _ _ _ c.ready_new.result c.ready_new.ensures (λ step is. is) (λ output known had. had.is))
