use Rattle.shop_base.proofs.Keeping.{run-sound}
use Rattle.shop_base.proofs.laws.every_run_is_sound.Goals as goal

pub returns : goal.returns
returns c = run-sound
