use Rattle.plan_verifier.specs.{Rest.AreOrderedAhead, RestVerdicts.IsAcceptableAhead}
use Rattle.plan_decide.specs.Settings.{AreTimesAhead}
use Rattle.plan_decide.proofs.Kepts.{some_if, times_of_other}
use Rattle.plan_decide.proofs.judging.times_ahead.Goals as goal

pub returns-in-Ok : goal.returns-in-Ok
returns-in-Ok g c =
    let r = c.args.rest.now in
    let q = c.args.shaped.now in
    let other = c.in-Ok.other in
    some_if c.accepted_times-times.result (λ times. IsAcceptableAhead other.plan other.cell other.present × AreOrderedAhead other.plan other.cell other.present times) (AreTimesAhead r.plan r.cell r.present q)
    (λ times is. times_of_other r.plan q other.plan r.cell other.cell r.present other.present times c.shaped-plan.ensures.well_shaped c.cell-cell.ensures.rest.reached c.requires c.in-Ok.ensures.plan c.in-Ok.ensures.present c.in-Ok.ensures.recast is)
    c.accepted_times-times.ensures
