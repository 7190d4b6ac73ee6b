use Rattle.std.proofs.Common.{Bool, IfOk, sym, subst, ◌∙◌}
use Rattle.std.specs.Prelude.{IfSome}
use Rattle.plan_decide.specs.Settings.{past_by, IsKeptAs}
use Rattle.plan_decide.proofs.judging.accepted.Goals as goal

pub returns-then-is_whole : goal.returns-then-is_whole
returns-then-is_whole g c =
    let s = c.args.setting.now in
    subst (λ (b : Bool). IfOk c.accepted_whole.result (λ found. IfSome found (IsKeptAs (past_by b s.plan s.cell s.present) c.args.shaped))) (sym (sym c.is_whole.ensures.whole ∙ c.if-is_whole.true)) c.accepted_whole.ensures

pub returns-else-is_whole : goal.returns-else-is_whole
returns-else-is_whole g c =
    let s = c.args.setting.now in
    let r = rw (c.rest.ensures.plan, c.rest.ensures.cell, c.rest.ensures.present) at c.accepted_ahead.ensures in
    subst (λ (b : Bool). IfOk c.accepted_ahead.result (λ found. IfSome found (IsKeptAs (past_by b s.plan s.cell s.present) c.args.shaped))) (sym (sym c.is_whole.ensures.whole ∙ c.if-is_whole.false)) r
