use Rattle.std.proofs.Common.{◌≡◌, ◌-◌, inr, refl, ap, ◌∙◌, arith}
use Rattle.shop_base.specs.Plan.{PlannedShop, clean}
use Rattle.alt_graph.specs.Places.{node_at}
use Rattle.plan_bounds.specs.Bounds.{times_of, IsVisit}
use Rattle.plan_limits.specs.Asked.{IsAgainArc, arc_again}
use Rattle.plan_limits.proofs.ArcsAgain.{again_push}
use Rattle.plan_limits.proofs.KeptArcs.{fixed_push}
use Rattle.plan_limits.proofs.Numbered.{followed_on}
use Rattle.plan_limits.proofs.arcs.add_arc_again.Goals as goal

pub overflow_add-number-2 : goal.overflow_add-number-2
overflow_add-number-2 g c =
    let cell = c.args.cell.now in
    let node = node_at c.args.nodes.now c.args.number in
    let next = c.in-Some-next_visit.ensures in
    let there = followed_on (times_of cell.plan) cell.cell c.args.nodes.now c.args.number (c.in-Some-next_visit.place - node.place) c.requires.numbered c.requires.number (omega (arith, next.behind, next.visit.within)) in
    omega (arith, there.0, c.requires.few)

pub returns : goal.returns
returns g c =
    let cell = c.args.cell.now in
    let t = times_of cell.plan in
    let nodes = c.args.nodes.now in
    let n = c.args.number in
    let m = c.in-Some.machine in
    let place = c.in-Some-next_visit.place in
    let next = c.in-Some-next_visit.ensures in
    let visit : IsVisit t m (node_at nodes n).job (node_at nodes n).place = record { within = c.in-Some.ensures.within; here = c.in-Some.ensures.here } in
    let long : c.clean_of.result ≡ clean cell.plan m = c.clean_of.ensures ∙ ap (λ (p : PlannedShop). clean p m) c.shaped.ensures.plan in
    let pushed = rw long at c.in_ok-push.ensures.items in
    let here : IsAgainArc t nodes (arc_again t nodes m n place) = record { machine = m; number = n; place = place; inside = c.requires.number; visit = visit; next = next; is = refl } in
    record {
      arcs = fixed_push t cell.cell nodes c.args.arcs.now.items c.push.new.self.items (arc_again t nodes m n place) pushed c.requires.arcs (inr (inr here));
      again = again_push t nodes m n place c.args.arcs.now.items c.push.new.self.items pushed visit next c.requires.again;
    }
