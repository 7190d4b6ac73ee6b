use Rattle.std.proofs.Common.{refl}
use Rattle.std.proofs.lemmas.Bool.Decides.{not_from_Decides}
use Rattle.shop_base.specs.declared.move_order.Spot.TheVariants.{Out, At}
use Rattle.shop_base.specs.Examples.{in_series, go, series_after}
use Rattle.shop_base.proofs.CellTests.{obey_decides, keeps_decides}
use Rattle.shop_base.proofs.worked_runs.an_order_names_just_its_move.Goals as goal

pub returns-clause-right : goal.returns-clause-right
returns-clause-right c = (obey_decides in_series (series_after 4) (go 2 0 (At 0) (At 1))).0 refl

pub returns-clause-later : goal.returns-clause-later
returns-clause-later c = (obey_decides in_series (series_after 4) (go 3 0 (At 0) (At 1))).0 refl

pub returns-clause-past : goal.returns-clause-past
returns-clause-past c = not_from_Decides _ (obey_decides in_series (series_after 4) (go 1 0 (At 0) (At 1))) refl

pub returns-clause-past_the_latest : goal.returns-clause-past_the_latest
returns-clause-past_the_latest c = not_from_Decides _ (obey_decides in_series (series_after 4) (go 1_000_000_000_001 0 (At 0) (At 1))) refl

pub returns-clause-other_source : goal.returns-clause-other_source
returns-clause-other_source c = not_from_Decides _ (obey_decides in_series (series_after 4) (go 2 0 (At 1) (At 1))) refl

pub returns-clause-other_target : goal.returns-clause-other_target
returns-clause-other_target c = not_from_Decides _ (obey_decides in_series (series_after 4) (go 2 0 (At 0) Out)) refl

pub returns-clause-not_ready : goal.returns-clause-not_ready
returns-clause-not_ready c = not_from_Decides _ (obey_decides in_series (series_after 2) (go 2 0 (At 0) (At 1))) refl

pub returns-clause-out_of_turn : goal.returns-clause-out_of_turn
returns-clause-out_of_turn c = (obey_decides in_series (series_after 3) (go 2 1 Out (At 1))).0 refl

pub returns-clause-against_plan : goal.returns-clause-against_plan
returns-clause-against_plan c = not_from_Decides _ (keeps_decides in_series (series_after 3) 1) refl
