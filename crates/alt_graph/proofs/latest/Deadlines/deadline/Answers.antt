use Rattle.std.proofs.Common.{arith}
use Rattle.std.proofs.lemmas.Grind.{common_steps}
use Rattle.alt_graph.proofs.latest.Deadlines.deadline.Goals as goal

pub returns : goal.returns
returns c = grind (arith, common_steps)
