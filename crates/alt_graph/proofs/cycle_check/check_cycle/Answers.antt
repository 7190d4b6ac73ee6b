use Rattle.std.proofs.Common.{refl}
use Rattle.alt_graph.proofs.CycleParts.{cycle_parts, cycle_from_parts, cycle_stops, on_yes}
use Rattle.alt_graph.proofs.cycle_check.check_cycle.Goals as goal

pub returns-then-arcs_lead-clause-exact : goal.returns-then-arcs_lead-clause-exact
returns-then-arcs_lead-clause-exact c = (
  λ yes. cycle_from_parts c.args.shaped.now c.args.nodes.now c.in-Some.first.now c.in-Some.rest.now c.in-Some.ensures.cases.0 (record {
    of_shop = c.if-not-are_nodes.ensures.0 refl;
    least = c.if-not-is_least.ensures.0 refl;
    arcs = c.if-arcs_lead.ensures.exact.0 refl;
    distinct = c.are_distinct.ensures.0 yes;
  }),
  λ cycle. c.are_distinct.ensures.1 (cycle_parts c.args.shaped.now c.args.nodes.now c.in-Some.first.now c.in-Some.rest.now c.in-Some.ensures.cases.0 cycle).distinct,
)

pub returns-then-arcs_lead-clause-stops : goal.returns-then-arcs_lead-clause-stops
returns-then-arcs_lead-clause-stops c = on_yes c.are_distinct.result _ (λ yes. cycle_stops c.args.shaped.now c.args.nodes.now c.if-arcs_lead.ensures.sound
    (cycle_from_parts c.args.shaped.now c.args.nodes.now c.in-Some.first.now c.in-Some.rest.now c.in-Some.ensures.cases.0 (record {
      of_shop = c.if-not-are_nodes.ensures.0 refl;
      least = c.if-not-is_least.ensures.0 refl;
      arcs = c.if-arcs_lead.ensures.exact.0 refl;
      distinct = c.are_distinct.ensures.0 yes;
    })))
