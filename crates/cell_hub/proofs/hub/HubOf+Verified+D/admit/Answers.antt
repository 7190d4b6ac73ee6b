use Rattle.cell_hub.proofs.Called.{is_admitted}
use Rattle.cell_hub.proofs.hub.HubOf+Verified+D.admit.Goals as goal

pub returns-in-Ok-seat-clause-admitted : goal.returns-in-Ok-seat-clause-admitted
returns-in-Ok-seat-clause-admitted g c = is_admitted _ _ c.args.verified _ c.in-Ok.controller c.in-Ok-seat.ensures.seated c.in-Ok.ensures.start

pub returns-in-Ok-seat-clause-called : goal.returns-in-Ok-seat-clause-called
returns-in-Ok-seat-clause-called g c = returns-in-Ok-seat-clause-admitted g c
