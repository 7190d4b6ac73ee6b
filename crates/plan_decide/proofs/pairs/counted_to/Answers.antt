use Rattle.std.proofs.Common.{sym, arith, ◌∙◌}
use Rattle.plan_decide.proofs.Collecting.{counted_more}
use Rattle.plan_decide.proofs.pairs.counted_to.Goals as goal

pub returns-in-Doubt : goal.returns-in-Doubt
returns-in-Doubt c = counted_more c.args.standings.now c.args.job c.args.count c.saturating_add.result (omega (arith, c.saturating_add.ensures)) (sym c.standing_of.ensures ∙ c.in-Doubt.is) c.requires
