use Rattle.command_words.proofs.words.command_line.revised.Goals as goal

pub returns : goal.returns
returns c =
    let whole = c.with_arg-whole.ensures _ _ c.changed.ensures c.switch.ensures.rule c.switch.ensures.local in
    let shorter = c.with_arg-shorter.ensures _ _ whole c.switch-2.ensures.rule c.switch-2.ensures.local in
    let named = c.with_arg-named.ensures _ _ shorter c.names.ensures.rule c.names.ensures.local in
    c.with_arg.ensures _ _ named c.switch-3.ensures.rule c.switch-3.ensures.local
