use Rattle.std.proofs.Common.{rules}
use Rattle.alt_graph.proofs.times.Times.earliest.Goals as goal

pub returns-in-Some : goal.returns-in-Some
returns-in-Some c = search rules depth 2
