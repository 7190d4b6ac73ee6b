use Rattle.command_words.proofs.words.command_line.on_named_plan.Goals as goal

pub returns : goal.returns
returns c = c.with_arg.ensures _ _ c.on_plan.ensures c.names.ensures.rule c.names.ensures.local
