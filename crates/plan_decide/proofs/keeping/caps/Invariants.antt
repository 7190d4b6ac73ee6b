use Rattle.std.proofs.Common.{◌≡◌, map, take}
use Rattle.plan_decide.specs.LeftOut.{cap}
use Rattle.plan_decide.proofs.keeping.caps.Given as goal

-- the budgets of the limits before this one
abbrev pub invariant-loop-limit : goal.invariant-loop-limit
invariant-loop-limit l = l.budget.items ≡ map cap (take l.limit-index l.limits)
