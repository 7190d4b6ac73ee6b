use Rattle.std.proofs.Common.{sym, ap, ◌∙◌, arith}
use Rattle.std.proofs.lemmas.Bool.{not-true, not-false}
use Rattle.shop_base.specs.declared.job_state.JobState.{JobState}
use Rattle.run_log.specs.Audits.{IsTimely}
use Rattle.run_log.proofs.PossibleEntries.{target-fault, obeyed_where, fault_where}
use Rattle.run_log.proofs.entry_check.check_order.Goals as goal

pub returns-then-order-last-clause-fault : goal.returns-then-order-last-clause-fault
returns-then-order-last-clause-fault g c = omega (arith, c.if-order-last.true, c.last.ensures)

pub returns-then-not-job_state-clause-fault : goal.returns-then-not-job_state-clause-fault
returns-then-not-job_state-clause-fault g c = (
  omega (arith, c.if-order-last.false, c.last.ensures),
  sym (ap (λ (s : JobState). s.ready) c.job_state.ensures) ∙ not-true _ c.if-not-job_state.true,
)

pub returns-in-Ok-clause-possible : goal.returns-in-Ok-clause-possible
returns-in-Ok-clause-possible g c =
    let p = c.args.cell.now.plan in
    let cell = c.args.cell.now.cell in
    let timely : IsTimely cell c.args.order = record {
      in_order = omega (arith, c.if-order-last.false, c.last.ensures);
      is_ready = sym (ap (λ (s : JobState). s.ready) c.job_state.ensures) ∙ not-false _ c.if-not-job_state.false;
    } in
    obeyed_where p cell c.args.order c.check_way.result timely c.requires.of_shop.3 c.in-Ok.ensures.open c.check_way.ensures.way

pub returns-in-Ok-clause-fault : goal.returns-in-Ok-clause-fault
returns-in-Ok-clause-fault g c =
    let p = c.args.cell.now.plan in
    let cell = c.args.cell.now.cell in
    let timely : IsTimely cell c.args.order = record {
      in_order = omega (arith, c.if-order-last.false, c.last.ensures);
      is_ready = sym (ap (λ (s : JobState). s.ready) c.job_state.ensures) ∙ not-false _ c.if-not-job_state.false;
    } in
    fault_where p cell c.args.order c.check_way.result timely c.in-Ok.ensures.open c.check_way.ensures.fault

pub returns-in-Err-clause-fault : goal.returns-in-Err-clause-fault
returns-in-Err-clause-fault g c =
    let p = c.args.cell.now.plan in
    let cell = c.args.cell.now.cell in
    let timely : IsTimely cell c.args.order = record {
      in_order = omega (arith, c.if-order-last.false, c.last.ensures);
      is_ready = sym (ap (λ (s : JobState). s.ready) c.job_state.ensures) ∙ not-false _ c.if-not-job_state.false;
    } in
    target-fault p cell c.args.order c.in-Err.fault timely c.in-Err.ensures.fault
