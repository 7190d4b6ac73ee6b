use Rattle.std.proofs.Common.{arith}
use Rattle.alt_graph.proofs.ranking.Ranking.first_unranked_of.Goals as goal

pub overflow_add-place-end : goal.overflow_add-place-end
overflow_add-place-end g c = omega (arith, c.step_count-place-end.ensures.few)
