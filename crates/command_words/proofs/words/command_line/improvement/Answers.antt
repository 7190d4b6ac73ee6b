use Rattle.command_words.proofs.words.command_line.improvement.Goals as goal

pub returns : goal.returns
returns c =
    let search = c.with_arg-search.ensures _ _ c.on_rest.ensures c.rounds.ensures.rule c.rounds.ensures.local in
    c.with_arg.ensures _ _ search c.seed.ensures.rule c.seed.ensures.local
