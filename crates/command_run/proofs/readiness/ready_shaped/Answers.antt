use Rattle.std.proofs.Common.{Err, ap, inl, inr, refl}
use Rattle.command_run.proofs.HeldLogs.{none_held}
use Rattle.command_run.proofs.Readied.{readied_as}
use Rattle.command_run.proofs.readiness.ready_shaped.Goals as goal

pub returns-in-Ok : goal.returns-in-Ok
returns-in-Ok g c = readied_as _ _ _ _ _ _ _ _ c.ready_opened.result c.ready_opened.ensures (λ step is. inl is) (λ output known had. had)

pub returns-in-Err : goal.returns-in-Err
returns-in-Err g c = record {
  ready = tt;
  undriven = λ known before had. none_held _ _ _ _ _ _ _ _ (refl, inr (ap Err c.from.ensures, record { same = refl; is = refl }, refl));
}
