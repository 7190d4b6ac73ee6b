use Rattle.alt_graph.specs.{Times.{rank_of, earliest_of}, Latest.moment_of}
use Rattle.alt_graph.proofs.Latests.{latest_deadlines}
use Rattle.plan_verifier.proofs.{GoingOn.deadlines_from, Answers.ok_each}
use Rattle.plan_verifier.proofs.ahead.deadlines_of.Goals as goal

pub latest_moments-requires : goal.latest_moments-requires
latest_moments-requires g c = rw c.shaped.ensures.plan c.requires

pub returns-clause-nodes : goal.returns-clause-nodes
returns-clause-nodes g c = rw c.shaped.ensures.plan at c.latest_moments.ensures.nodes

pub returns-clause-latest : goal.returns-clause-latest
returns-clause-latest g c = rw c.shaped.ensures.plan at c.latest_moments.ensures.latest

pub returns-clause-deadlines : goal.returns-clause-deadlines
returns-clause-deadlines g c = λ ordered meets. (
    let r = c.args.rest.now in
    let times = c.args.times.now in
    ok_each c.latest_moments.result
    (λ found latest. deadlines_from r.plan r.cell r.present times ordered c.present-present.ensures.moment (moment_of found) meets
    (latest_deadlines r.plan (rank_of times) (earliest_of times) (moment_of found) r.cell
    ordered.schedule.ranks c.shaped.ensures.sound ordered.schedule.moments.arcs meets latest))
    (rw c.shaped.ensures.plan at c.latest_moments.ensures.latest))
