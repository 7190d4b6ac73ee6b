use Rattle.shop_base.proofs.{InShop.outside_in_shop, OneStep.only_one_after_report, Visits.visits_job}
use Rattle.cell_control.proofs.Sequences.{next_of_shop, cleaned-only, cleaned-machine}
use Rattle.cell_control.proofs.ending.candidate_after.Goals as goal

pub returns-in-Arrive-clause-only : goal.returns-in-Arrive-clause-only
returns-in-Arrive-clause-only g c =
    rw c.in-Arrive.is (only_one_after_report _ _ _ c.shaped-plan.ensures.sound c.requires.quiescent (rw c.in-Arrive.is at c.requires.possible))

pub returns-in-Arrive-clause-of_shop : goal.returns-in-Arrive-clause-of_shop
returns-in-Arrive-clause-of_shop g c =
    let can = rw c.in-Arrive.is at c.requires.possible in
    outside_in_shop _ _ _ c.shaped-plan.ensures.sound can.going.1.outside

pub returns-in-Finish-clause-only : goal.returns-in-Finish-clause-only
returns-in-Finish-clause-only g c =
    rw c.in-Finish.is (only_one_after_report _ _ _ c.shaped-plan.ensures.sound c.requires.quiescent (rw c.in-Finish.is at c.requires.possible))

pub returns-in-Finish-clause-of_shop : goal.returns-in-Finish-clause-of_shop
returns-in-Finish-clause-of_shop g c =
    let can = rw c.in-Finish.is at c.requires.possible in
    visits_job _ _ can.going.1.0 _ can.going.1.1.on.visits

pub returns-in-Clean-clause-only : goal.returns-in-Clean-clause-only
returns-in-Clean-clause-only g c =
    rw c.in-Clean.is
    (cleaned-only _ _ c.in-Clean.machine c.in-Clean.at c.shaped-plan.ensures.sound (rw c.in-Clean.is at c.requires.possible) c.requires.quiescent c.next_on.result c.next_on.ensures)

pub returns-in-Clean-clause-of_shop : goal.returns-in-Clean-clause-of_shop
returns-in-Clean-clause-of_shop g c =
    next_of_shop _ c.args.cell.now.cell c.in-Clean.machine c.next_on.result c.shaped-plan.ensures.well_shaped
    (cleaned-machine _ _ c.in-Clean.machine c.in-Clean.at c.shaped-plan.ensures.sound (rw c.in-Clean.is at c.requires.possible)) c.next_on.ensures
