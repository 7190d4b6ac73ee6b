use Rattle.shop_base.specs.Report.{at}
use Rattle.cell_drive.specs.{Refusals.standing_of, States.overdue_in}
use Rattle.cell_drive.proofs.{OnTime.{nothing_overdue, none_printed}, Refusing.reported_of_shop}
use Rattle.cell_drive.proofs.examining.printed_overdue.Goals as goal

pub standing_of-requires : goal.standing_of-requires
standing_of-requires g c =
    let v = c.args.cell.now in
    reported_of_shop v.plan v.cell c.args.report c.shaped-plan.ensures.well_shaped c.shaped-plan.ensures.sound c.requires.possible

pub returns-then-not-late : goal.returns-then-not-late
returns-then-not-late g c =
    let v = c.args.cell.now in
    let own = standing_of v.plan v.cell c.args.report in
    none_printed c.args.protocol.version_2 (overdue_in v.plan v.cell own (at c.args.report)) (nothing_overdue v.plan v.cell (at c.args.report) (c.requires.on_time c.if-not-late.true) own)
