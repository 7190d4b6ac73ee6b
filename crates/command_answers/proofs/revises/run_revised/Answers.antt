use Rattle.std.proofs.Common.{inl, inr, subst, sym}
use Rattle.shop_base.specs.Plan.{PlannedShop}
use Rattle.text_lines.specs.Lines.{ended_lines}
use Rattle.run_log.specs.Audits.{IsReplayed}
use Rattle.command_answers.specs.Rests.{IsRunRefused}
use Rattle.command_answers.proofs.RunFaults.{has_line, run_fault_is}
use Rattle.command_answers.proofs.revises.run_revised.Goals as goal

pub rest_revised-answer-requires : goal.rest_revised-answer-requires
rest_revised-answer-requires c =
    let run = c.in-Ok.run' in
    let plan = rw c.in-Ok.is at c.in_ok-run.ensures.plan in
    subst (λ (p : PlannedShop). IsReplayed p run.rest.cell run.entries.items) (sym plan) (rw c.in-Ok.is at c.in_ok-run.ensures.run).replayed

pub run_fault_answer-requires : goal.run_fault_answer-requires
run_fault_answer-requires c =
    has_line c.args.wanted.at (ended_lines c.args.log.now) c.args.shaped c.requires c.in-Err.fault (rw c.in-Err.is at c.in_ok-run.ensures.fault)

pub returns-in-Ok : goal.returns-in-Ok
returns-in-Ok c =
    let run = c.in-Ok.run' in
    let plan = rw c.in-Ok.is at c.in_ok-run.ensures.plan in
    inl (record {
      cell = run.rest.cell;
      entries = run.entries.items;
      present = run.rest.present;
      run = rw c.in-Ok.is at c.in_ok-run.ensures.run;
      comes = rw plan at c.rest_revised-answer.ensures;
    })

pub returns-in-Err : goal.returns-in-Err
returns-in-Err c =
    let lines = ended_lines c.args.log.now in
    inr (run_fault_is c.args.wanted.at lines c.args.shaped c.requires (IsRunRefused c.args.wanted.at lines c.args.shaped) c.in-Err.fault c.run_fault_answer.result (λ answer line. inl line)
    (λ answer line. inr line) (rw c.in-Err.is at c.in_ok-run.ensures.fault) c.run_fault_answer.ensures)
