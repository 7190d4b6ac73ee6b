use Rattle.std.proofs.Common.{◌≡◌, refl, arith}
use Rattle.shop_base.specs.{Cell.start, Report.IsNextMoment}
use Rattle.shop_base.proofs.CellTests.{events_decides}
use Rattle.cell_control.specs.Examples.{rinse, rinse_log, rinse_after}
use Rattle.cell_control.proofs.worked_runs.a_step_tells_two_visits_apart.Goals as goal

pub returns-clause-run : goal.returns-clause-run
returns-clause-run c = (events_decides rinse (start rinse) rinse_log).0 refl

at_second : IsNextMoment (rinse_after 8) 12
at_second = record { in_order = omega arith; in_range = omega arith }

pub returns-clause-copied : goal.returns-clause-copied
returns-clause-copied c = record {
  going = (12, (2, record { on = record { entered = refl; visits = record { within = omega arith; here = refl } }; not_ready = refl; is_due = refl }));
  moment = at_second;
}

pub returns-clause-step : goal.returns-clause-step
returns-clause-step c = record {
  works = (0, 12, record { on = record { entered = refl; visits = record { within = omega arith; here = refl } }; not_ready = refl; is_due = refl });
  moment = at_second;
}

pub returns-clause-no_other_step : goal.returns-clause-no_other_step
returns-clause-no_other_step c t can = let (m, due, worked) = can.works in let is : 3 ≡ 1 = worked.on.entered in omega (arith, is)

at_end : IsNextMoment (rinse_after 10) 18
at_end = record { in_order = omega arith; in_range = omega arith }

pub returns-clause-cleaning_copied : goal.returns-clause-cleaning_copied
returns-clause-cleaning_copied c = record { after = record { from = 12; is_cleaned = refl; last_in = refl }; moment = at_end }

pub returns-clause-cleaning_step : goal.returns-clause-cleaning_step
returns-clause-cleaning_step c = record {
  after = record { from = 12; is_cleaned = refl; last_in = record { within = omega arith; job = refl; visits = record { within = omega arith; here = refl }; turn = refl } };
  moment = at_end;
}

pub returns-clause-no_other_cleaning : goal.returns-clause-no_other_cleaning
returns-clause-no_other_cleaning c t can = let is : 1 ≡ 0 = can.after.last_in.turn in omega (arith, is)
