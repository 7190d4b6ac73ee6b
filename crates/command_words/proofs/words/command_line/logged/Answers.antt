use Rattle.command_words.proofs.words.command_line.logged.Goals as goal

pub returns : goal.returns
returns c =
    let plan = c.with_arg-plan.ensures _ _ c.on_plan.ensures c.log.ensures.rule c.log.ensures.local in
    let begun = c.with_arg-begun.ensures _ _ plan c.switch.ensures.rule c.switch.ensures.local in
    let so_far = c.with_arg-so_far.ensures _ _ begun c.switch-2.ensures.rule c.switch-2.ensures.local in
    c.with_arg.ensures _ _ so_far c.switch-3.ensures.rule c.switch-3.ensures.local
