use Rattle.std.proofs.Common.{[], ◌∷◌, Some, refl}
use Rattle.std.proofs.lemmas.Bool.Decides.{not_from_Decides}
use Rattle.shop_base.specs.Cell.{start}
use Rattle.shop_base.specs.Graph.{node}
use Rattle.shop_base.specs.Examples.{crossed_moments, crossed, crossed_reports, crossed_log, crossed_end}
use Rattle.shop_base.proofs.CellTests.{events_decides}
use Rattle.shop_base.proofs.RunTests.{turns_lead, all_exact_decides, stuck_decides, gone_decides}
use Rattle.shop_base.proofs.GraphTests.{arc_decides, cycle_decides, moments_fit}
use Rattle.shop_base.proofs.ShapeTests.{shaped_decides}
use Rattle.shop_base.proofs.worked_runs.crossed_orders_get_stuck.Goals as goal

pub returns-clause-shaped : goal.returns-clause-shaped
returns-clause-shaped c = (shaped_decides crossed).0 refl

pub returns-clause-cycle : goal.returns-clause-cycle
returns-clause-cycle c = (cycle_decides crossed (node 0 1 ∷ node 1 1 ∷ [])).0 refl

pub returns-clause-there : goal.returns-clause-there
returns-clause-there c = (arc_decides crossed (node 0 1) (node 1 1) 0).0 refl

pub returns-clause-back : goal.returns-clause-back
returns-clause-back c = (arc_decides crossed (node 1 1) (node 0 1) 0).0 refl

pub returns-clause-moments : goal.returns-clause-moments
returns-clause-moments c = moments_fit crossed crossed_moments refl refl

pub returns-clause-run : goal.returns-clause-run
returns-clause-run c = (events_decides crossed (start crossed) crossed_log).0 refl

pub returns-clause-controlled : goal.returns-clause-controlled
returns-clause-controlled c = turns_lead crossed (start crossed) crossed_reports (Some (0 ∷ []) ∷ Some (1 ∷ []) ∷ Some [] ∷ Some [] ∷ []) refl

pub returns-clause-exact : goal.returns-clause-exact
returns-clause-exact c = (all_exact_decides crossed (start crossed) crossed_log).0 refl

pub returns-clause-stuck : goal.returns-clause-stuck
returns-clause-stuck c = (stuck_decides crossed crossed_end).0 refl

pub returns-clause-first_inside : goal.returns-clause-first_inside
returns-clause-first_inside c = not_from_Decides _ (gone_decides crossed crossed_end 0) refl

pub returns-clause-second_inside : goal.returns-clause-second_inside
returns-clause-second_inside c = not_from_Decides _ (gone_decides crossed crossed_end 1) refl
