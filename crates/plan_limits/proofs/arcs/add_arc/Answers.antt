use Rattle.std.proofs.Common.{◌+◌, ◌*◌, inl, ap}
use Rattle.shop_base.specs.declared.shop.Step.{Step}
use Rattle.arc_choice.specs.declared.question.Arc.{Arc}
use Rattle.plan_bounds.specs.Bounds.{times_of}
use Rattle.plan_limits.specs.declared.moments.TheConstants.{FINE}
use Rattle.plan_limits.specs.Asked.{IsRouteArc}
use Rattle.plan_limits.proofs.KeptArcs.{fixed_push}
use Rattle.plan_limits.proofs.arcs.add_arc.Goals as goal

pub returns : goal.returns
returns g c =
    let cell = c.args.cell.now in
    let nodes = c.args.nodes.now in
    let n = c.args.number in
    let arc : Arc = record { from = n; to = n + 1; length = c.in-Some.step.nominal * FINE + 1 } in
    let here : IsRouteArc (times_of cell.plan) nodes arc = record {
      number = n;
      inside = c.requires.number;
      place = rw c.shaped.ensures.plan at c.in-Some.ensures.none;
      is = ap (λ (s : Step). record { from = n; to = n + 1; length = s.nominal * FINE + 1 }) (rw c.shaped.ensures.plan at c.in-Some.ensures.same);
    } in
    fixed_push (times_of cell.plan) cell.cell nodes c.args.arcs.now.items c.push.new.self.items arc c.in_ok-push.ensures.items c.requires.arcs (inl here)
