use Rattle.std.proofs.Common.{◌≡◌, ◌-◌, arith, refl, sym, ap, ◌∙◌}
use Rattle.std.proofs.lemmas.List.{get_or_read}
use Rattle.shop_base.specs.declared.node.Node.{Node}
use Rattle.shop_base.specs.Graph.{node}
use Rattle.shop_base.specs.Plan.{Visits, machine_of}
use Rattle.alt_graph.specs.Places.{node_at}
use Rattle.alt_graph.proofs.Standing.{lookups_of, row_found, place_found, between, none_ahead, one_ahead}
use Rattle.alt_graph.proofs.graph.Graph.ahead_of.Goals as goal

pub index-requires : goal.index-requires
index-requires c =
    let are = lookups_of _ _ _ _ c.self.view_is c.self.invariant in
    omega (arith, rw c.deref.ensures.value at c.number.ensures, row_found _ _ c.args.visit are c.requires, c.self.inside.lookups.places.ok.0)

pub overflow_sub-place : goal.overflow_sub-place
overflow_sub-place c =
    let are = lookups_of _ _ _ _ c.self.view_is c.self.invariant in
    let p = c.args.self.now.plan in
    let visits : Visits p c.args.visit.job c.args.visit.place (machine_of p c.args.visit.job c.args.visit.place) = record { within = c.requires; here = refl } in
    (between _ are.shaped _ _ _ _ (place_found _ _ c.args.visit _ _ _ are visits (rw c.deref.ensures.value at c.number.ensures) c.index.ensures)).0

pub index-ahead-requires : goal.index-ahead-requires
index-ahead-requires c =
    let are = lookups_of _ _ _ _ c.self.view_is c.self.invariant in
    let p = c.args.self.now.plan in
    let visits : Visits p c.args.visit.job c.args.visit.place (machine_of p c.args.visit.job c.args.visit.place) = record { within = c.requires; here = refl } in
    let found = place_found _ _ c.args.visit _ _ _ are visits (rw c.deref.ensures.value at c.number.ensures) c.index.ensures in
    omega (arith, between _ are.shaped _ _ _ _ found, c.self.inside.lookups.visits.ok.0)

pub returns-then-ahead : goal.returns-then-ahead
returns-then-ahead c = λ m visits.
    let are = lookups_of _ _ _ _ c.self.view_is c.self.invariant in
    let found = place_found _ _ c.args.visit m _ _ are visits (rw c.deref.ensures.value at c.number.ensures) c.index.ensures in
    let read : c.index-ahead.result.now ≡ node_at c.self.inside.lookups.visits.items (c.index.result.now - 1) = get_or_read c.self.inside.lookups.visits.items (c.index.result.now - 1) c.index-ahead.result.now (omega (arith, between _ are.shaped _ _ _ _ found)) c.index-ahead.ensures (node 0 0) in
    none_ahead _ are.shaped _ _ _ _ found (ap (λ (v : Node). v.job) (sym read) ∙ c.if-ahead.true)

pub returns-else-ahead : goal.returns-else-ahead
returns-else-ahead c = λ m visits.
    let are = lookups_of _ _ _ _ c.self.view_is c.self.invariant in
    let found = place_found _ _ c.args.visit m _ _ are visits (rw c.deref.ensures.value at c.number.ensures) c.index.ensures in
    let read : c.index-ahead.result.now ≡ node_at c.self.inside.lookups.visits.items (c.index.result.now - 1) = get_or_read c.self.inside.lookups.visits.items (c.index.result.now - 1) c.index-ahead.result.now (omega (arith, between _ are.shaped _ _ _ _ found)) c.index-ahead.ensures (node 0 0) in
    rw read (one_ahead _ are.shaped _ _ _ _ found (λ gap. c.if-ahead.false (ap (λ (v : Node). v.job) read ∙ gap)))
