use Rattle.std.proofs.Common.{◌≡◌, ◌+◌, arith, refl, sym, ap, ◌∙◌}
use Rattle.std.proofs.lemmas.List.{get_or_read}
use Rattle.shop_base.specs.declared.node.Node.{Node}
use Rattle.shop_base.specs.Graph.{node}
use Rattle.shop_base.specs.Plan.{Visits, machine_of}
use Rattle.alt_graph.specs.Places.{node_at}
use Rattle.alt_graph.proofs.Standing.{lookups_of, row_found, place_found, between, none_behind, one_behind}
use Rattle.alt_graph.proofs.graph.Graph.behind.Goals as goal

pub index-requires : goal.index-requires
index-requires c =
    let are = lookups_of _ _ _ _ c.self.view_is c.self.invariant in
    omega (arith, rw c.deref.ensures.value at c.number.ensures, row_found _ _ c.args.visit are c.requires, c.self.inside.lookups.places.ok.0)

pub index-next-requires : goal.index-next-requires
index-next-requires c =
    let are = lookups_of _ _ _ _ c.self.view_is c.self.invariant in
    let p = c.args.self.now.plan in
    let visits : Visits p c.args.visit.job c.args.visit.place (machine_of p c.args.visit.job c.args.visit.place) = record { within = c.requires; here = refl } in
    let found = place_found _ _ c.args.visit _ _ _ are visits (rw c.deref.ensures.value at c.number.ensures) c.index.ensures in
    omega (arith, between _ are.shaped _ _ _ _ found, c.self.inside.lookups.visits.ok.0)

pub returns-then-next : goal.returns-then-next
returns-then-next c = λ m visits.
    let are = lookups_of _ _ _ _ c.self.view_is c.self.invariant in
    let found = place_found _ _ c.args.visit m _ _ are visits (rw c.deref.ensures.value at c.number.ensures) c.index.ensures in
    let read : c.index-next.result.now ≡ node_at c.self.inside.lookups.visits.items (c.index.result.now + 1) = get_or_read c.self.inside.lookups.visits.items (c.index.result.now + 1) c.index-next.result.now (omega (arith, between _ are.shaped _ _ _ _ found)) c.index-next.ensures (node 0 0) in
    none_behind _ are.shaped _ _ _ _ found (ap (λ (v : Node). v.job) (sym read) ∙ c.if-next.true)

pub returns-else-next : goal.returns-else-next
returns-else-next c = λ m visits.
    let are = lookups_of _ _ _ _ c.self.view_is c.self.invariant in
    let found = place_found _ _ c.args.visit m _ _ are visits (rw c.deref.ensures.value at c.number.ensures) c.index.ensures in
    let read : c.index-next.result.now ≡ node_at c.self.inside.lookups.visits.items (c.index.result.now + 1) = get_or_read c.self.inside.lookups.visits.items (c.index.result.now + 1) c.index-next.result.now (omega (arith, between _ are.shaped _ _ _ _ found)) c.index-next.ensures (node 0 0) in
    rw read (one_behind _ are.shaped _ _ _ _ found (λ gap. c.if-next.false (ap (λ (v : Node). v.job) read ∙ gap)))
