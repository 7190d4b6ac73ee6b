use Rattle.plan_limits.proofs.Acceptance.{never_is_never_accepted-holds, never_is_never_accepted_from_there-holds}
use Rattle.plan_limits.proofs.laws.never_is_never_accepted.Goals as goal

pub returns : goal.returns
returns c = record { whole = never_is_never_accepted-holds; from_there = never_is_never_accepted_from_there-holds }
