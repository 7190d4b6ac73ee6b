use Rattle.std.proofs.Common.{◌≡◌, ℕ, ◌++◌, ◌∷◌, [], arith, ap, below_more, length, ◌∙◌}
use Rattle.std.proofs.lemmas.List.{get_or_append_left, get_or_push, length_push, get_or_read}
use Rattle.shop_base.specs.Graph.{node}
use Rattle.alt_graph.specs.Trails.{IsPlaceAfter, trail_at}
use Rattle.alt_graph.specs.Places.{node_at}
use Rattle.alt_graph.proofs.cycles.Trail.turned.Goals as goal

pub loop-arcs-preserved : goal.loop-arcs-preserved
loop-arcs-preserved c =
    let so_far = c.loop-arcs.nodes.items in
    let trail = c.args.self.now in
    let read : c.index.result.now ≡ trail_at trail c.place_after.result = get_or_read trail.nodes.items c.place_after.result c.index.result.now c.place_after.ensures.within c.index.ensures (node 0 0) in
    rw c.push_reserved.ensures.items (record {
      size = omega (arith, length_push so_far c.index.result.now, c.loop-arcs.invariant.size);
      room = omega (arith, c.push_reserved.ensures.capacity, c.loop-arcs.invariant.room);
      there = below_more (λ i. (a : ℕ) × IsPlaceAfter trail c.args.place i a × (node_at (so_far ++ c.index.result.now ∷ []) i ≡ trail_at trail a)) c.loop-arcs.arcs
          (λ i lt.
          let was = c.loop-arcs.invariant.there i lt in
          (was.0, was.1, get_or_append_left so_far (c.index.result.now ∷ []) (node 0 0) i (omega (arith, c.loop-arcs.invariant.size)) ∙ was.2))
          (c.place_after.result, c.place_after.ensures.place, get_or_push so_far c.index.result.now (node 0 0) c.loop-arcs.arcs c.loop-arcs.invariant.size ∙ read);
    })

pub loop-arcs-init : goal.loop-arcs-init
loop-arcs-init c = record { size = ap length c.in_ok-nodes.ensures.items; room = omega (arith, c.in_ok-nodes.ensures.capacity); there = λ i lt. absurd (omega arith) }
