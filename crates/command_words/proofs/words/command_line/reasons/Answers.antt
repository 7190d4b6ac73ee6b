use Rattle.command_words.proofs.words.command_line.reasons.Goals as goal

pub returns : goal.returns
returns c =
    let so_far = c.with_arg-so_far.ensures _ _ c.on_rest.ensures c.job.ensures.rule c.job.ensures.local in
    c.with_arg.ensures _ _ so_far c.names.ensures.rule c.names.ensures.local
