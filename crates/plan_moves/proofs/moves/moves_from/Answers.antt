use Rattle.plan_moves.proofs.GoingOn.{ranked_acyclic}
use Rattle.plan_moves.proofs.WentOn.{settled_on_time}
use Rattle.plan_moves.proofs.moves.moves_from.Goals as goal

pub all_moves-moves-requires : goal.all_moves-moves-requires
all_moves-moves-requires c =
    let begun = c.in-Ok.ensures.begun in
    let on_time = settled_on_time c.args.rest.plan c.args.rest.present c.args.rest.cell begun.settled.movers begun.moment.in_order in
    let leads = begun.settled.leads in
    let planned = begun.planned in
    rw (planned, leads, c.present-present.ensures.present) on_time

pub returns-in_ok-moves-in-Ok-clause-acyclic : goal.returns-in_ok-moves-in-Ok-clause-acyclic
returns-in_ok-moves-in-Ok-clause-acyclic c = ranked_acyclic _ _ c.in-Ok.ensures.begun.ordered.ranks
