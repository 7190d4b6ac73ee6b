use Rattle.std.proofs.Common.{inl, inr, sym, subst}
use Rattle.shop_base.specs.Plan.{PlannedShop}
use Rattle.text_lines.specs.Lines.{ended_lines}
use Rattle.plan_decide.specs.{Pasts.whole_case, Promises.IsInRange}
use Rattle.command_answers.specs.{DecidingRests.IsDecisionFrom, Rests.IsRunRefused}
use Rattle.command_answers.proofs.RunFaults.{has_line, run_fault_is}
use Rattle.command_answers.proofs.rest_decides.rest_decided.Goals as goal

pub run_fault_answer-requires : goal.run_fault_answer-requires
run_fault_answer-requires g c = has_line c.args.at (ended_lines c.args.log.now) c.args.shaped c.requires.present c.in-Err.fault (rw c.in-Err.is at c.in_ok-run.ensures.fault)

pub answer_decided-answer-requires : goal.answer_decided-answer-requires
answer_decided-answer-requires g c = subst (λ (p : PlannedShop). IsInRange (whole_case p) c.args.aim) (sym (rw c.in-Ok.is at c.in_ok-run.ensures.plan)) c.requires.job

pub returns-in-Ok : goal.returns-in-Ok
returns-in-Ok g c =
    let run = c.in-Ok.run' in
    let plan = rw c.in-Ok.is at c.in_ok-run.ensures.plan in
    inl (record {
      cell = run.rest.cell;
      entries = run.entries.items;
      present = run.rest.present;
      run = rw c.in-Ok.is at c.in_ok-run.ensures.run;
      comes = subst (λ (p : PlannedShop). IsDecisionFrom c.args.names.now c.args.aim p run.rest.cell run.rest.present c.answer_decided-answer.result) plan c.answer_decided-answer.ensures;
    })

pub returns-in-Err : goal.returns-in-Err
returns-in-Err g c = inr (run_fault_is c.args.at (ended_lines c.args.log.now) c.args.shaped c.requires.present (IsRunRefused c.args.at (ended_lines c.args.log.now) c.args.shaped)
    c.in-Err.fault c.run_fault_answer.result (λ answer line. inl line) (λ answer line. inr line) (rw c.in-Err.is at c.in_ok-run.ensures.fault) c.run_fault_answer.ensures)
