use Rattle.shop_base.proofs.OneControlledRun.{controlled_run_once}
use Rattle.shop_base.proofs.laws.every_list_has_one_controlled_run.Goals as goal

pub returns : goal.returns
returns c = λ p rs shaped.
    let (es, end, once) = controlled_run_once p rs shaped in
    (es, end, once.leads, once.only)
