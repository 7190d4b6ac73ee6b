use Rattle.std.proofs.lemmas.Result.{err_from_is_err_and}
use Rattle.plan_revise.proofs.AddRefused.{steps_refused, line_refused}
use Rattle.plan_revise.proofs.draft.Draft.add.Goals as goal

pub returns-in_err-steps-clause-refused : goal.returns-in_err-steps-clause-refused
returns-in_err-steps-clause-refused g c =
    let exit = err_from_is_err_and c.from_residual.result c.from_residual.ensures.1 in
    rw (exit.1, exit.2) (line_refused c.args.run.now c.args.self.now c.args.words.now c.args.release c.args.budget c.in_err-steps.field-0.0 c.in_err-steps.ensures.fault)

pub returns-in-Err-clause-refused : goal.returns-in-Err-clause-refused
returns-in-Err-clause-refused g c =
    steps_refused c.args.run.now c.args.self.now c.args.words.now c.args.release c.args.budget c.in_ok-steps.steps.items c.in-Err.fault c.in_ok-steps.ensures.steps
    (rw (c.deref.ensures.value, c.given_or-release.ensures, c.given_or-budget.ensures, c.present.ensures.present) at c.in-Err.ensures.fault)
