use Rattle.command_words.proofs.words.command_line.drawing.Goals as goal

pub returns : goal.returns
returns c =
    let drawn = c.with_arg-drawn.ensures _ _ c.on_log.ensures c.svg.ensures.rule c.svg.ensures.local in
    c.with_arg.ensures _ _ drawn c.names.ensures.rule c.names.ensures.local
