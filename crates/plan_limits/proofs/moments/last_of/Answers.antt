use Rattle.std.proofs.Common.{rules, ◌≡◌, Some}
use Rattle.plan_limits.specs.Limits.{limit_of}
use Rattle.plan_limits.proofs.moments.last_of.Goals as goal

pub returns-in-Some : goal.returns-in-Some
returns-in-Some c =
    let same : limit_of c.args.limits.now c.args.job ≡ Some c.in-Some.limit = first_of (cc, search rules) in
    λ x is. c.last_within.ensures x (is.within c.in-Some.limit same) is.small
