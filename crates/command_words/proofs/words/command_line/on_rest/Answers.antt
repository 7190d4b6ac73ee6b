use Rattle.command_words.proofs.words.command_line.on_rest.Goals as goal

pub returns : goal.returns
returns c =
    let plan = c.with_arg-plan.ensures _ _ c.on_plan.ensures c.after.ensures.rule c.after.ensures.local in
    c.with_arg.ensures _ _ plan c.at.ensures.rule c.at.ensures.local
