use Rattle.std.proofs.Common.{◌++◌, refl}
use Rattle.std.proofs.lemmas.Bool.Decides.{not_from_Decides}
use Rattle.shop_base.specs.Cell.{start}
use Rattle.shop_base.specs.declared.move_order.Spot.TheVariants.{At}
use Rattle.shop_base.specs.Examples.{crossed, go, exchange, crossed_log, crossed_end}
use Rattle.shop_base.proofs.CellTests.{events_decides, obey_decides, keeps_decides}
use Rattle.shop_base.proofs.RunTests.{rest_decides}
use Rattle.shop_base.proofs.worked_runs.a_swap_is_no_run.Goals as goal

pub returns-clause-keeps_plan : goal.returns-clause-keeps_plan
returns-clause-keeps_plan c = (keeps_decides crossed crossed_end 0).0 refl

pub returns-clause-no_order : goal.returns-clause-no_order
returns-clause-no_order c = not_from_Decides _ (obey_decides crossed crossed_end (go 4 0 (At 0) (At 1))) refl

pub returns-clause-no_moment : goal.returns-clause-no_moment
returns-clause-no_moment c = λ t can. (rest_decides crossed crossed_end).0 refl 0 t can ((keeps_decides crossed crossed_end 0).0 refl)

pub returns-clause-no_run : goal.returns-clause-no_run
returns-clause-no_run c = not_from_Decides _ (events_decides crossed (start crossed) (crossed_log ++ exchange)) refl
