use Rattle.std.proofs.Common.{sym, ◌∙◌}
use Rattle.plan_text.proofs.Known.{unknown_first, known_none}
use Rattle.plan_text.proofs.keys.check_known.Goals as goal

pub returns-then-not-are_known : goal.returns-then-not-are_known
returns-then-not-are_known c = unknown_first c.args.cleaning c.args.table.now.entries (sym c.are_known.ensures ∙ c.if-not-are_known.true)

pub returns : goal.returns
returns c = known_none c.args.cleaning c.args.table.now.entries (sym c.are_known.ensures ∙ c.if-not-are_known.false)
