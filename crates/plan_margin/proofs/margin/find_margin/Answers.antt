use Rattle.std.proofs.Common.{ap, ◌∙◌}
use Rattle.alt_graph.specs.Evidence.{node_count}
use Rattle.alt_graph.proofs.NodeNumbers.{numbers_count}
use Rattle.plan_margin.proofs.LongerPaths.{accepted_has}
use Rattle.plan_margin.proofs.InMargin.{in_time, out}
use Rattle.plan_margin.proofs.margin.find_margin.Goals as goal

pub in_order-requires-clause-count : goal.in_order-requires-clause-count
in_order-requires-clause-count c =
    c.node_count.ensures.count ∙ numbers_count _ _ c.node_count.ensures.sound.firsts ∙ ap node_count (c.in_ok-graph.ensures.graph.plan ∙ c.shaped-shaped.ensures.same)

pub greatest-requires-clause-kept : goal.greatest-requires-clause-kept
greatest-requires-clause-kept c =
    let plan = c.in_ok-graph.ensures.graph.plan ∙ c.shaped-shaped.ensures.same in
    rw plan (accepted_has c.args.verified.now c.shaped-shaped.ensures.verified)

pub returns-clause-exact : goal.returns-clause-exact
returns-clause-exact c =
    let plan = c.in_ok-graph.ensures.graph.plan ∙ c.shaped-shaped.ensures.same in
    rw plan at c.greatest.ensures.margin

pub returns-clause-in_time : goal.returns-clause-in_time
returns-clause-in_time c =
    let plan = c.in_ok-graph.ensures.graph.plan ∙ c.shaped-shaped.ensures.same in
    in_time c.args.verified.now _ c.shaped-shaped.ensures.verified (rw plan at c.greatest.ensures.kept)

pub returns-clause-ended : goal.returns-clause-ended
returns-clause-ended c =
    let plan = c.in_ok-graph.ensures.graph.plan ∙ c.shaped-shaped.ensures.same in
    out c.args.verified.now _ c.shaped-shaped.ensures.verified (rw plan at c.greatest.ensures.kept)
