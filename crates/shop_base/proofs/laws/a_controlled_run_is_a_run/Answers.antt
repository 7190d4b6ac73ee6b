use Rattle.shop_base.proofs.Keeping.{alone_on}
use Rattle.shop_base.proofs.ControlledRuns.{controlled_to_run}
use Rattle.shop_base.proofs.laws.a_controlled_run_is_a_run.Goals as goal

pub returns : goal.returns
returns c = λ p rs es end shaped run.
    let (is_run, is_end, sound, rest) = controlled_to_run p rs es end shaped run in
    (is_run, is_end, rest, λ i k j l m one other. alone_on p end i k j l m shaped sound one other)
