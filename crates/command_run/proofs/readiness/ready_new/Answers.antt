use Rattle.std.specs.Prelude.{is_some}
use Rattle.std.proofs.Common.{Err, ap, inl, inr, subst, sym, refl}
use Rattle.shop_base.specs.Plan.{PlannedShop}
use Rattle.command_run.specs.Logs.{IsHistoryOfNew, left_if}
use Rattle.command_run.proofs.HeldLogs.{judged_plan, left_held, undriven}
use Rattle.command_run.proofs.Readied.{readied_as}
use Rattle.command_run.proofs.readiness.ready_new.Goals as goal

pub returns-in-Ok : goal.returns-in-Ok
returns-in-Ok g c =
    let same = judged_plan c.args.shaped c.in-Ok.verdict c.in-Ok.ensures.accepted c.in-Ok.ensures.refused in
    readied_as _ _ _ _ _ _ _ _ c.ready_judged.result c.ready_judged.ensures
    (λ step is. inl (c.in-Ok.verdict, record { accepted = c.in-Ok.ensures.accepted; refused = c.in-Ok.ensures.refused }, is))
    (λ output known had. subst (λ (p : PlannedShop). IsHistoryOfNew (g.L.Logs.folder c.args.logs.now) p output known) (sym same) had)

pub returns-in-Err : goal.returns-in-Err
returns-in-Err g c = record {
  ready = tt;
  undriven = λ known before had. record {
    end = left_if (is_some c.args.opened);
    is = (undriven (is_some c.args.opened), inr (ap Err c.from.ensures, record { same = refl; is = refl }, refl));
    held = left_held _ _ _ _ _ c.args.shaped known _ _ _ c.args.opened c.requires.empty had;
  };
}
