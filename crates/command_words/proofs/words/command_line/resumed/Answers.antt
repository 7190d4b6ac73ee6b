use Rattle.command_words.proofs.words.command_line.resumed.Goals as goal

pub returns : goal.returns
returns c =
    let log = c.with_arg-log.ensures _ _ c.on_log.ensures c.at.ensures.rule c.at.ensures.local in
    let so_far = c.with_arg-so_far.ensures _ _ log c.lines.ensures.rule c.lines.ensures.local in
    c.with_arg.ensures _ _ so_far c.leap.ensures.rule c.leap.ensures.local
