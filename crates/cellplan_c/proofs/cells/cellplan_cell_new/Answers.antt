use Rattle.std.proofs.Common.{◌≡◌, arith, inl, ap, sym, ◌∙◌, refl}
use Rattle.command_answers.specs.Statuses.{command_status_of}
use Rattle.cellplan_c.proofs.Judging.{fault_bounds}
use Rattle.cellplan_c.proofs.Beginning.{held_so, under, started, judged, only, statuses, no_fault}
use Rattle.cellplan_c.proofs.cells.cellplan_cell_new.Goals as goal

pub returns-in-Ok : goal.returns-in-Ok
returns-in-Ok c =
    let are = under c.args.instance.now _ c.args.plan.now _ _ c.name_in.ensures c.in-Ok.ensures in
    record {
      started = λ good. held_so _ _ _ (λ inner is. started _ _ _ c.in-Ok.loaded are inner.controller is) (c.begun.ensures.started good);
      full = c.begun.ensures.full;
      never_wrong = c.begun.ensures.never_wrong;
      judged = judged _ _ _ c.in-Ok.loaded are _ c.begun.ensures.status;
      fault = no_fault _ _ _ c.in-Ok.loaded are _ c.begun.ensures.status;
      only = only _ _ _ c.in-Ok.loaded are _ c.begun.ensures.status;
      first = λ fault is. absurd (are.first fault is);
      second = λ fault parses is. absurd (are.second fault parses is);
      unchanged = c.begun.ensures.unchanged;
      statuses = statuses _ _ _ c.in-Ok.loaded are _ c.begun.ensures.status;
    }

pub returns-in-Err : goal.returns-in-Err
returns-in-Err c =
    let are = under c.args.instance.now _ c.args.plan.now _ _ c.name_in.ensures c.in-Err.ensures in
    let status_is : c.from.result ≡ command_status_of c.in-Err.fault = c.from.ensures ∙ c.status.ensures in
    let bounds = fault_bounds c.args.instance.now _ c.args.plan.now c.in-Err.fault are.fault in
    record {
      started = λ good. absurd (omega (arith, good, status_is, bounds.0));
      full = λ good. absurd (omega (arith, good, status_is, bounds.0));
      never_wrong = λ good. absurd (omega (arith, good, status_is, bounds.0));
      judged = λ small. absurd (omega (arith, small, status_is, bounds.0));
      fault = λ three. (c.in-Err.fault, record { right = are.fault; status = sym status_is ∙ three });
      only = λ p parse. inl (status_is ∙ ap command_status_of (are.only p parse));
      first = λ fault is. omega (arith, status_is, bounds.0);
      second = λ fault parses is. omega (arith, status_is, bounds.0);
      unchanged = λ no. refl;
      statuses = (omega (arith, status_is, bounds.1), λ two. omega (arith, two, status_is, bounds.0));
    }
