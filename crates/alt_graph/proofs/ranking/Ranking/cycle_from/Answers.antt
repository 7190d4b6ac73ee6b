use Rattle.alt_graph.proofs.Rings.{ring_cycle, turned_ring}
use Rattle.alt_graph.proofs.ranking.Ranking.cycle_from.Goals as goal

pub returns : goal.returns
returns g c = ring_cycle _ _ (turned_ring _ c.in_ok-trail.trail c.in_ok-trail.ensures c.least_place-least.result c.least_place-least.ensures c.in_ok-nodes.field-0.items c.in_ok-nodes.ensures)
