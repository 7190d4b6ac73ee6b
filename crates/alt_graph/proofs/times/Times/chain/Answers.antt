use Rattle.std.specs.Prelude.{reverse}
use Rattle.alt_graph.proofs.WholePlans.{path_by}
use Rattle.alt_graph.proofs.times.Times.chain.Goals as goal

pub returns-in_ok-nodes-in-Some-clause-path : goal.returns-in_ok-nodes-in-Some-clause-path
returns-in_ok-nodes-in-Some-clause-path c = rw c.reverse.ensures.items (path_by c.args.self.now c.args.node (reverse c.in_ok-nodes-in-Some.nodes.items) c.in_ok-nodes-in-Some.ensures)
