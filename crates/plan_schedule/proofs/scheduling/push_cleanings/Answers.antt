use Rattle.std.proofs.Common.{refl}
use Rattle.plan_explain.proofs.Texts.{none_added, one_more_added}
use Rattle.plan_schedule.specs.Calendars.{IsCleanedTextBy}
use Rattle.plan_schedule.proofs.scheduling.push_cleanings.Goals as goal

pub loop-machine-init : goal.loop-machine-init
loop-machine-init g c = none_added (IsCleanedTextBy c.args.names.now c.args.calendar.now) 0 _

pub loop-machine-preserved : goal.loop-machine-preserved
loop-machine-preserved g c =
    one_more_added (IsCleanedTextBy c.args.names.now c.args.calendar.now) 0 c.loop-machine.machine _ _ _ c.loop-machine.invariant
    (_, (c.cleaning_on-cleaning.result, c.cleaning_on-cleaning.ensures, refl), c.in_ok-push_cleaning_line.ensures)
