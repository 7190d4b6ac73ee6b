use Rattle.std.specs.Prelude.{is_some}
use Rattle.std.proofs.Common.{◌≡◌, ◌⊎◌, Err, ap, inl, inr, sym, subst, refl}
use Rattle.cell_drive.specs.InProtocol.{BegunRun}
use Rattle.command_run.specs.Logs.{BeginsRun, IsHistoryOfNew, LacksLog, digits_in, left_if}
use Rattle.command_run.proofs.HeldLogs.{left_held, undriven}
use Rattle.command_run.proofs.Readied.{readied_as}
use Rattle.command_run.proofs.readiness.ready_accepted.Goals as goal

pub ready_begun-requires-clause-digits : goal.ready_begun-requires-clause-digits
ready_begun-requires-clause-digits g c = subst (λ (b : BegunRun). c.args.digits.now ≡ digits_in b.verified.planned) (sym c.in-Ok.ensures) c.requires.digits

pub returns-in-Ok : goal.returns-in-Ok
returns-in-Ok g c =
    let folder = g.L.Logs.folder c.args.logs.now in
    let after = g.L.Logs.folder c.ready_begun.new.logs in
    let path = c.args.asked.path.now in
    let there = is_some c.args.opened in
    readied_as _ _ _ _ _ _ _ _ c.ready_begun.result c.ready_begun.ensures
    (λ step is. inr (subst (λ (b : BegunRun). LacksLog folder after path b.verified.planned there step ⊎ BeginsRun folder after path b.protocol there b.verified step) c.in-Ok.ensures is))
    (λ output known had. subst (λ (b : BegunRun). IsHistoryOfNew folder b.verified.planned output known) (sym c.in-Ok.ensures) had)

pub returns-in-Err : goal.returns-in-Err
returns-in-Err g c = record {
  ready = tt;
  undriven = λ known before had. record {
    end = left_if (is_some c.args.opened);
    is = (undriven (is_some c.args.opened), inl (ap Err c.from.ensures, record { same = refl; is = refl }, refl));
    held = left_held _ _ _ _ _ c.args.verified.planned known _ _ _ c.args.opened c.requires.empty had;
  };
}
