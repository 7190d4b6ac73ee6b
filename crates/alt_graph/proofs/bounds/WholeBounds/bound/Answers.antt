use Rattle.std.proofs.Common.{arith, sym, ap, ◌∙◌, Some}
use Rattle.alt_graph.proofs.WholePlans.{table_first, table_later}
use Rattle.alt_graph.proofs.bounds.WholeBounds.bound.Goals as goal

pub returns-then-node-eq0-clause-recorded : goal.returns-then-node-eq0-clause-recorded
returns-then-node-eq0-clause-recorded c =
    ap (λ n. Some n) c.release_of.ensures.release ∙ sym (table_first c.args.self.now.shaped.now c.release_of.ensures.well_shaped c.args.node c.requires (omega arith))

pub returns-then-node-eq0-clause-limited : goal.returns-then-node-eq0-clause-limited
returns-then-node-eq0-clause-limited c = omega (arith, c.release_of.ensures.release, c.release_of.ensures.well_shaped.limits.releases c.args.node.job c.requires.job)

pub returns-else-node-eq0-clause-recorded : goal.returns-else-node-eq0-clause-recorded
returns-else-node-eq0-clause-recorded c = sym (table_later c.args.self.now.shaped.now c.args.node (λ first. c.if-node-eq0.false first))
