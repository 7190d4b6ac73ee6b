use Rattle.std.proofs.Common.{◌∙◌, [], append-nil, inl, refl, sym}
use Rattle.command_answers.proofs.RestAnswers.{no_moves}
use Rattle.command_answers.proofs.moves.push_moves.Goals as goal

pub returns-in-None : goal.returns-in-None
returns-in-None c =
    let cycle = no_moves c.args.rest.plan c.in-Err.fault c.in-Err.ensures.fault (sym c.from.ensures ∙ c.in-None.is) in
    record { lines = ([], inl (cycle, refl), sym (append-nil c.args.text.now.items)); fault = tt }
