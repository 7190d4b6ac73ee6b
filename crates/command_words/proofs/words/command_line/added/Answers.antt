use Rattle.command_words.proofs.words.command_line.added.Goals as goal

pub returns : goal.returns
returns c =
    let released = c.with_arg-released.ensures _ _ c.lengthened.ensures c.repeated.ensures.rule c.repeated.ensures.local in
    let promised = c.with_arg-promised.ensures _ _ released c.repeated-2.ensures.rule c.repeated-2.ensures.local in
    let named = c.with_arg-named.ensures _ _ promised c.repeated-3.ensures.rule c.repeated-3.ensures.local in
    c.with_arg.ensures _ _ named c.repeated-4.ensures.rule c.repeated-4.ensures.local
