use Rattle.plan_decide.proofs.Kepts.{kept_ahead}
use Rattle.plan_decide.proofs.judging.accepted_ahead.Goals as goal

pub returns-in-Ok-Some : goal.returns-in-Ok-Some
returns-in-Ok-Some g c =
    let are = c.in-Ok-Some.ensures in
    kept_ahead c.args.rest.now.plan c.args.shaped c.args.rest.now.cell c.args.rest.now.present c.in-Ok-Some.times c.shop-shop.ensures.well_shaped (rw c.in-Ok-Some.field-0-is at are)
