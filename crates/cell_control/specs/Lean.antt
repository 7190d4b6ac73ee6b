-- An accepted plan whose ranks and lengths were freed.
use Rattle.std.specs.Prelude.{[], Option, None, Some}
use Rattle.std.specs.Rc.{weak_target}
use Rattle.std.specs.declared.alloc.Global.{Global}
use Rattle.std.specs.declared.rc.Weak.{Weak}
use Rattle.shop_base.specs.Plan.{PlannedShop}
use Rattle.alt_graph.specs.Times.{NodeTimes}
use Rattle.plan_verifier.specs.Accepted.{VerifiedPlan}

-- what was freed
abbrev pub freed_times : Option NodeTimes → NodeTimes
freed_times None = []
freed_times (Some times) = times

-- the plan with them
abbrev pub lean_of : PlannedShop → Weak NodeTimes Global → VerifiedPlan
lean_of planned times = record { planned = planned; times = freed_times (weak_target times) }
