use Rattle.shop_base.proofs.ControlledRuns.{controlled_to_run}
use Rattle.shop_base.proofs.NeverStuck.{ended-or-goes_on, rest-not_stuck, sound-reportable}
use Rattle.shop_base.proofs.laws.never_stuck.Goals as goal

pub returns : goal.returns
returns c p rank rs es end shaped rise run =
    let (events, ends, sound, rest) = controlled_to_run p rs es end shaped run in
    (rest, rest-not_stuck p rank end shaped rise sound rest, ended-or-goes_on p rank end shaped rise sound rest, sound-reportable p end sound)
