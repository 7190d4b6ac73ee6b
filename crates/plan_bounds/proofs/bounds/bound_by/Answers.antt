use Rattle.std.proofs.Common.{◌-◌, arith, subst}
use Rattle.plan_bounds.specs.Bounds.{times_of, IsVisit, AreEnds, IsLeast}
use Rattle.plan_bounds.proofs.Sizes.{ends-small, cleanings-small}
use Rattle.plan_bounds.proofs.bounds.bound_by.Goals as goal

pub overflow_mul-cleaning : goal.overflow_mul-cleaning
overflow_mul-cleaning c =
    let few = cleanings-small c.args.shaped.now c.args.machine c.requires.shaped (c.args.visits.count - 1) c.requires.machine (omega (arith, c.requires.known.small.0)) in
    rw (c.clean_of.ensures, c.saturating_sub.ensures) (omega (arith, few))

pub overflow_add-result : goal.overflow_add-result
overflow_add-result c =
    let few = cleanings-small c.args.shaped.now c.args.machine c.requires.shaped (c.args.visits.count - 1) c.requires.machine (omega (arith, c.requires.known.small.0)) in
    rw (c.clean_of.ensures, c.saturating_sub.ensures) (omega (arith, few, c.requires.known.small.1))

pub overflow_add-result-in-Some : goal.overflow_add-result-in-Some
overflow_add-result-in-Some c =
    let p = c.args.shaped.now in
    let few = cleanings-small p c.args.machine c.requires.shaped (c.args.visits.count - 1) c.requires.machine (omega (arith, c.requires.known.small.0)) in
    let ends = ends-small p c.args.machine c.requires.shaped c.in-Some.ends (subst (IsLeast (AreEnds (times_of p) (IsVisit (times_of p) c.args.machine))) c.in-Some.is c.requires.known.ends) in
    rw (c.clean_of.ensures, c.saturating_sub.ensures) (omega (arith, few, ends, c.requires.known.small.1))
