use Rattle.command_words.proofs.words.command_line.timetable.Goals as goal

pub returns : goal.returns
returns c =
    let drawn = c.with_arg-drawn.ensures _ _ c.on_rest.ensures c.svg.ensures.rule c.svg.ensures.local in
    let moved = c.with_arg-moved.ensures _ _ drawn c.switch.ensures.rule c.switch.ensures.local in
    c.with_arg.ensures _ _ moved c.names.ensures.rule c.names.ensures.local
