use Rattle.command_words.proofs.words.command_line.on_plan.Goals as goal

pub returns : goal.returns
returns c = c.with_arg.ensures _ _ c.on_instance.ensures c.file.ensures.rule c.file.ensures.local
