use Rattle.command_words.proofs.words.command_line.search.Goals as goal

pub returns : goal.returns
returns c = c.with_arg.ensures _ _ c.on_plan.ensures c.rounds.ensures.rule c.rounds.ensures.local
