use Rattle.command_words.proofs.words.command_line.changed.Goals as goal

pub returns : goal.returns
returns c =
    let fewer = c.with_arg-fewer.ensures _ _ c.added.ensures c.repeated.ensures.rule c.repeated.ensures.local in
    let changed = c.with_arg-changed.ensures _ _ fewer c.repeated-2.ensures.rule c.repeated-2.ensures.local in
    c.with_arg.ensures _ _ changed c.switch.ensures.rule c.switch.ensures.local
