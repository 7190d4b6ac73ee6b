use Rattle.std.proofs.Common.{[], ◌∷◌, Some, refl, arith}
use Rattle.std.proofs.lemmas.Bool.Decides.{not_from_Decides}
use Rattle.shop_base.specs.Cell.{start}
use Rattle.shop_base.specs.Graph.{node, begins}
use Rattle.shop_base.specs.Examples.{in_flow, finish, flow_reports, flow_log, flow_after, flow_end}
use Rattle.shop_base.proofs.CellTests.{events_decides}
use Rattle.shop_base.proofs.RunTests.{turns_lead, all_exact_decides, ended_decides, step_decides}
use Rattle.shop_base.proofs.GraphTests.{path_along}
use Rattle.shop_base.proofs.ShapeTests.{shaped_decides}
use Rattle.shop_base.proofs.worked_runs.three_machine_flow_run.Goals as goal

pub returns-clause-shaped : goal.returns-clause-shaped
returns-clause-shaped c = (shaped_decides in_flow).0 refl

pub returns-clause-run : goal.returns-clause-run
returns-clause-run c = (events_decides in_flow (start in_flow) flow_log).0 refl

pub returns-clause-controlled : goal.returns-clause-controlled
returns-clause-controlled c = turns_lead in_flow (start in_flow) flow_reports (Some (0 ∷ []) ∷ Some [] ∷ Some [] ∷ Some (0 ∷ 1 ∷ []) ∷ Some (0 ∷ []) ∷ Some (1 ∷ 2 ∷ []) ∷ Some [] ∷ Some [] ∷ Some (0 ∷ 1 ∷ 2 ∷ []) ∷ Some (1 ∷ []) ∷ Some (2 ∷ []) ∷ Some (2 ∷ []) ∷ []) refl

pub returns-clause-exact : goal.returns-clause-exact
returns-clause-exact c = (all_exact_decides in_flow (start in_flow) flow_log).0 refl

pub returns-clause-none_moves : goal.returns-clause-none_moves
returns-clause-none_moves c = (step_decides in_flow (flow_after 12) (finish 3 1 1) []).0 refl

pub returns-clause-all_move : goal.returns-clause-all_move
returns-clause-all_move c = (step_decides in_flow (flow_after 14) (finish 7 0 2) (0 ∷ 1 ∷ 2 ∷ [])).0 refl

pub returns-clause-no_less : goal.returns-clause-no_less
returns-clause-no_less c = not_from_Decides _ (step_decides in_flow (flow_after 14) (finish 7 0 2) (0 ∷ 1 ∷ [])) refl

pub returns-clause-no_other_order : goal.returns-clause-no_other_order
returns-clause-no_other_order c = not_from_Decides _ (step_decides in_flow (flow_after 14) (finish 7 0 2) (2 ∷ 1 ∷ 0 ∷ [])) refl

pub returns-clause-path : goal.returns-clause-path
returns-clause-path c = path_along in_flow (node 0 0 ∷ []) 0 (node 0 0) (node 0 1 ∷ node 0 2 ∷ node 0 3 ∷ node 1 2 ∷ node 1 3 ∷ node 2 2 ∷ node 2 3 ∷ []) (begins 0 (omega arith)) refl

pub returns-clause-ended : goal.returns-clause-ended
returns-clause-ended c = (ended_decides in_flow flow_end).0 refl
