-- A verdict on a whole plan, as that on the rest of a run that hasn't begun.
use Rattle.shop_base.specs.Plan.{PlannedShop}
use Rattle.plan_verifier.specs.declared.verdict.Judged.{Judged}
use Rattle.plan_verifier.specs.declared.verdict.Judged.TheVariants.{Accepted as AcceptedRest, Refused as RefusedRest}
use Rattle.plan_verifier.specs.declared.verdict.Verdict.{Verdict}
use Rattle.plan_verifier.specs.declared.verdict.Verdict.TheVariants.{Accepted, Refused}

-- the plan that is judged
abbrev pub judged : Verdict → PlannedShop
judged (Accepted verified) = verified.planned
judged (Refused back why) = back

-- what is said of it, as of the rest of a run
abbrev pub as_rest : Verdict → Judged
as_rest (Accepted verified) = AcceptedRest verified.times
as_rest (Refused back why) = RefusedRest why
