use Rattle.command_words.proofs.words.command_line.hub.Goals as goal

pub returns : goal.returns
returns c =
    let several = c.with_arg-several.ensures _ _ c.on_plans.ensures c.lines.ensures.rule c.lines.ensures.local in
    c.with_arg.ensures _ _ several c.leap.ensures.rule c.leap.ensures.local
