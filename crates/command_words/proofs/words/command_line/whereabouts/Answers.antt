use Rattle.command_words.proofs.words.command_line.whereabouts.Goals as goal

pub returns : goal.returns
returns c =
    let present = c.with_arg-present.ensures _ _ c.on_log.ensures c.at.ensures.rule c.at.ensures.local in
    c.with_arg.ensures _ _ present c.names.ensures.rule c.names.ensures.local
