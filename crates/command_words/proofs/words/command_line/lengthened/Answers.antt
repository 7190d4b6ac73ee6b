use Rattle.command_words.proofs.words.command_line.lengthened.Goals as goal

pub returns : goal.returns
returns c =
    let log = c.with_arg-log.ensures _ _ c.on_log.ensures c.at.ensures.rule c.at.ensures.local in
    let lasting = c.with_arg-lasting.ensures _ _ log c.repeated.ensures.rule c.repeated.ensures.local in
    c.with_arg.ensures _ _ lasting c.repeated-2.ensures.rule c.repeated-2.ensures.local
