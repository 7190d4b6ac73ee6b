use Rattle.command_words.proofs.words.command_line.decision.Goals as goal

pub returns : goal.returns
returns c =
    let asked = c.with_arg-asked.ensures _ _ c.on_rest.ensures c.least.ensures.rule c.least.ensures.local in
    let aimed = c.with_arg-aimed.ensures _ _ asked c.job.ensures.rule c.job.ensures.local in
    let bounded = c.with_arg-bounded.ensures _ _ aimed c.choices.ensures.rule c.choices.ensures.local in
    c.with_arg.ensures _ _ bounded c.names.ensures.rule c.names.ensures.local
