use Rattle.command_words.proofs.words.command_line.on_plans.Goals as goal

pub returns : goal.returns
returns c = c.with_arg.ensures _ _ c.on_instance.ensures c.plans.ensures.rule c.plans.ensures.local
