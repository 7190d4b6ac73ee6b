use Rattle.std.proofs.lemmas.Result.{err_from_is_err_and}
use Rattle.plan_revise.proofs.draft.Draft.hold.Goals as goal

pub returns-in_err-check_free-clause-refused : goal.returns-in_err-check_free-clause-refused
returns-in_err-check_free-clause-refused g c =
    let exit = err_from_is_err_and c.from_residual.result c.from_residual.ensures.1 in
    rw (exit.1, exit.2) (c.in_err-check_free.ensures.refused c.args.to)
