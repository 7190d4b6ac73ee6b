use Rattle.std.proofs.Common.{◌≡◌, ◌++◌, take}
use Rattle.shop_base.specs.Plan.{route}
use Rattle.plan_revise.proofs.draft.Draft.way_of.Given as goal

-- the steps before this one stand behind the job's first ones
abbrev pub invariant-loop-step : goal.invariant-loop-step
invariant-loop-step l = l.way.items ≡ take l.count (route l.self l.job) ++ take l.step-index l.rest
