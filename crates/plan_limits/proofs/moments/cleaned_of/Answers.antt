use Rattle.std.proofs.Common.{sym}
use Rattle.plan_bounds.specs.Bounds.{times_of, IsVisit}
use Rattle.plan_limits.proofs.moments.cleaned_of.Goals as goal

pub returns-in-Some-cleaning_due : goal.returns-in-Some-cleaning_due
returns-in-Some-cleaning_due g c =
    let v = c.args.node in
    let visit : IsVisit (times_of c.args.cell.now.plan) c.in-Some.machine v.job v.place = record { within = c.in-Some.ensures.within; here = c.in-Some.ensures.here } in
    λ present w fine. fine.cleanings c.in-Some.machine v.job v.place c.in-Some-cleaning_due.due visit c.requires.ahead (sym c.in-Some-cleaning_due.ensures.due)
