-- The law that a plan without a cycle has none without jobs, nor without the machine that nobody visits.
use Rattle.std.specs.Prelude.{ℕ, List, Bool}
use Rattle.shop_base.specs.Plan.{PlannedShop, IsWellShaped}
use Rattle.plan_verifier.specs.Accepted.{HasNoCycle}
use Rattle.run_pruning.specs.{Pruned.pruned, PruningLaw.IsChoice, Spare.without_spare}

-- whatever jobs stay, where the plan has no cycle, that of them alone has none
abbrev pub NoCycleComesWithoutJobs : Type 0
NoCycleComesWithoutJobs = (p : PlannedShop) (marks : List Bool) → IsWellShaped p → IsChoice p marks → HasNoCycle p → HasNoCycle (pruned marks p)

-- nor has it one without the machine that nobody visits
abbrev pub NoCycleComesWithoutSpare : Type 0
NoCycleComesWithoutSpare = (p : PlannedShop) (plant : ℕ) → IsWellShaped p → HasNoCycle p → HasNoCycle (without_spare p plant)
