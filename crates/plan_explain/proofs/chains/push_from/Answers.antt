use Rattle.std.proofs.Common.{◌^◌, ◌<◌, arith}
use Rattle.plan_explain.specs.Chains.{length_from}
use Rattle.plan_explain.proofs.{AheadPaths.{led, bound_length}, ChainTexts.chain_parts}
use Rattle.plan_explain.proofs.chains.push_from.Goals as goal

pub bound_of-requires : goal.bound_of-requires
bound_of-requires g c = c.requires.is.begins.0

pub unreachable-requires : goal.unreachable-requires
unreachable-requires g c = c.in_default.ensures c.requires.is.begins.1

pub push_reached_lines-requires-clause-arcs : goal.push_reached_lines-requires-clause-arcs
push_reached_lines-requires-clause-arcs g c =
    let r = c.args.rest.now in
    rw (c.in_ok-arcs.ensures, c.shaped-shaped.ensures.plan)
    ((led r.plan r.cell r.present c.args.first c.args.along.now c.requires.last c.requires.size c.requires.is).along)

pub push_reached_lines-requires-clause-small : goal.push_reached_lines-requires-clause-small
push_reached_lines-requires-clause-small g c =
    let r = c.args.rest.now in
    let size = bound_length r.plan r.cell r.present c.args.first c.args.along.now c.requires.last c.requires.size c.requires.is c.in-Some.bound c.shaped-shaped.ensures.sound c.in-Some.ensures in
    let small : length_from r.plan c.in-Some.bound.moment c.args.first c.args.along.now < 2 ^ 64 = omega (arith, size, c.requires.small) in
    rw (c.in_ok-arcs.ensures, c.shaped-shaped.ensures.plan) small

pub returns : goal.returns
returns g c =
    chain_parts c.args.names.now c.args.rest.now.plan c.args.rest.now.cell c.args.rest.now.present c.args.first c.args.along.now c.in-Some.bound c.push_reached_lines.result _ _ _ c.in-Some.ensures
    (rw (c.put_hold.ensures.written, c.put_overdue.ensures.written, c.ended-line.ensures, c.shop.ensures.same, c.shaped-shaped.ensures.plan) at c.in_ok-push_node_at.ensures) (rw (c.in_ok-arcs.ensures, c.shaped-shaped.ensures.plan) at c.push_reached_lines.ensures)
