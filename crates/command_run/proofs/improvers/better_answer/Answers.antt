use Rattle.std.proofs.Common.{rules, ◌≡◌, length, inl}
use Rattle.command_run.proofs.ImprovingRests.{improves}
use Rattle.command_run.proofs.improvers.better_answer.Goals as goal

pub returns : goal.returns
returns g c =
    let alone : length c.deref.result.now ≡ 1 = search rules in
    inl (improves g.T.Texts.gives _ c.deref.result.now alone c.args.rounds c.args.run.now
    c.args.texts.now c.improve_answer-answer.result c.improve_answer-answer.new.texts c.improve_answer-answer.ensures)
