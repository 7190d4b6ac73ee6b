use Rattle.std.proofs.Common.{Err, ap, ◌∙◌, refl}
use Rattle.std.proofs.lemmas.Result.{err_from_is_err_and}
use Rattle.command_answers.specs.declared.command_fault.CommandFault.TheVariants.{Memory}
use Rattle.command_run.proofs.input.input_answer.Goals as goal

pub returns-in_err-room-clause-read : goal.returns-in_err-room-clause-read
returns-in_err-room-clause-read g c =
    let p = err_from_is_err_and c.from_residual.result c.from_residual.ensures.1 in
    record { came = Err Memory; mid = c.args.streams.now.input; is = refl; goes_on = (p.1 ∙ ap Err p.2, refl) }
