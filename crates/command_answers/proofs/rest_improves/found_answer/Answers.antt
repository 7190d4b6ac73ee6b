use Rattle.std.proofs.Common.{sym, subst}
use Rattle.shop_base.specs.Plan.{PlannedShop}
use Rattle.text_lines.specs.Lines.{ended_lines}
use Rattle.run_log.specs.Present.{IsRunAt}
use Rattle.command_answers.specs.Improving.{RoundsOf}
use Rattle.command_answers.specs.ImprovingRests.{IsRestAnswer}
use Rattle.command_answers.proofs.ImproveRestLines.{no_run_is, search_is, too_many_is}
use Rattle.command_answers.proofs.RunFaults.{has_line}
use Rattle.command_answers.proofs.rest_improves.found_answer.Goals as goal

pub returns-then-rounds-gt-MAX_ROUNDS : goal.returns-then-rounds-gt-MAX_ROUNDS
returns-then-rounds-gt-MAX_ROUNDS g c =
    too_many_is (RoundsOf c.args.rounds (λ b. (goal.Improver-dyn g (b.vtable, b.value)).may b.value) c.args.improvers.now) c.args.at c.args.rounds (ended_lines c.args.log.now) c.args.start
    c.unfound_answer.result c.if-rounds-gt-MAX_ROUNDS.true c.unfound_answer.ensures

pub run_fault_answer-requires : goal.run_fault_answer-requires
run_fault_answer-requires g c = has_line c.args.at (ended_lines c.args.log.now) c.args.start c.requires c.in-Err.fault (rw c.in-Err.is at c.in_ok-rest.ensures.fault)

pub returns-in-Ok : goal.returns-in-Ok
returns-in-Ok g c =
    let made = RoundsOf c.args.rounds (λ b. (goal.Improver-dyn g (b.vtable, b.value)).may b.value) c.args.improvers.now in
    let lines = ended_lines c.args.log.now in
    let run = c.in-Ok.field-0 in
    let plan = rw c.in-Ok.is at c.in_ok-rest.ensures.plan in
    let is = rw c.in-Ok.is at c.in_ok-rest.ensures.run in
    let ends = c.better_rest-found.ensures in
    subst (λ (p : PlannedShop). IsRestAnswer made c.args.at c.args.rounds lines p c.search_answer.result) plan (
    search_is made c.args.at c.args.rounds lines run.rest.plan run.rest.cell run.entries.items run.rest.present c.if-rounds-gt-MAX_ROUNDS.false
    (subst (λ (p : PlannedShop). IsRunAt lines c.args.at p run.rest.cell run.entries.items run.rest.present) (sym plan) is)
    c.better_rest-found.result c.search_answer.result c.shaped-plan.ensures.well_shaped ends.same ends.kept ends.acyclic ends.stays ends.never_worse ends.found ends.verdict ends.stays_accepted ends.refused
    c.search_answer.ensures)

pub returns-in-Err : goal.returns-in-Err
returns-in-Err g c =
    no_run_is (RoundsOf c.args.rounds (λ b. (goal.Improver-dyn g (b.vtable, b.value)).may b.value) c.args.improvers.now) c.args.at c.args.rounds (ended_lines c.args.log.now) c.args.start
    c.in-Err.fault c.run_fault_answer.result c.requires c.if-rounds-gt-MAX_ROUNDS.false (rw c.in-Err.is at c.in_ok-rest.ensures.fault) c.run_fault_answer.ensures
