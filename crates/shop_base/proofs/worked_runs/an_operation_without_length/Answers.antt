use Rattle.std.proofs.Common.{[], ◌∷◌, Some, refl, arith}
use Rattle.shop_base.specs.Cell.{start}
use Rattle.shop_base.specs.Graph.{node, begins}
use Rattle.shop_base.specs.Examples.{instant, instant_reports, instant_log, instant_end}
use Rattle.shop_base.proofs.RunTests.{turns_lead, all_exact_decides, ended_decides}
use Rattle.shop_base.proofs.GraphTests.{path_along}
use Rattle.shop_base.proofs.ShapeTests.{shaped_decides}
use Rattle.shop_base.proofs.worked_runs.an_operation_without_length.Goals as goal

pub returns-clause-shaped : goal.returns-clause-shaped
returns-clause-shaped c = (shaped_decides instant).0 refl

pub returns-clause-controlled : goal.returns-clause-controlled
returns-clause-controlled c = turns_lead instant (start instant) instant_reports (Some (0 ∷ []) ∷ Some (0 ∷ []) ∷ []) refl

pub returns-clause-exact : goal.returns-clause-exact
returns-clause-exact c = (all_exact_decides instant (start instant) instant_log).0 refl

pub returns-clause-path : goal.returns-clause-path
returns-clause-path c = path_along instant (node 0 0 ∷ []) 0 (node 0 0) (node 0 1 ∷ []) (begins 0 (omega arith)) refl

pub returns-clause-ended : goal.returns-clause-ended
returns-clause-ended c = (ended_decides instant instant_end).0 refl
