use Rattle.std.proofs.Common.{◌≡◌, ◌∙◌}
use Rattle.command_answers.specs.Statuses.{command_status_of}
use Rattle.cellplan_c.proofs.HandingOver.{named_so, texts_refused, plan_handed_over}
use Rattle.cellplan_c.proofs.hand_overs.hand_over_to.Goals as goal

pub returns-in-Ok-clause-handed_over : goal.returns-in-Ok-clause-handed_over
returns-in-Ok-clause-handed_over c =
    let are = named_so c.args.instance.now _ c.args.plan.now c.args.at _ _ c.name_in.ensures c.in-Ok.ensures in
    let judged = c.hand_over_plan.ensures in
    plan_handed_over _ _ _ _ c.in-Ok.loaded c.hand_over_plan.result _ _ c.if-at-gt-MAX_MOMENT.false are judged.status judged.handed_over judged.statuses.0 judged.statuses.2

pub returns-in-Err-clause-handed_over : goal.returns-in-Err-clause-handed_over
returns-in-Err-clause-handed_over c =
    let are = named_so c.args.instance.now _ c.args.plan.now c.args.at _ _ c.name_in.ensures c.in-Err.ensures in
    let status_is : c.from.result ≡ command_status_of c.in-Err.fault = c.from.ensures ∙ c.status.ensures in
    texts_refused _ _ _ _ c.in-Err.fault c.from.result _ _ c.if-at-gt-MAX_MOMENT.false are status_is
