use Rattle.shop_base.specs.Run.{ends_in}
use Rattle.shop_base.proofs.Keeping.{run-sound, alone_on}
use Rattle.shop_base.proofs.laws.no_two_jobs_are_on_one_machine.Goals as goal

pub returns : goal.returns
returns c = λ p es shaped run i k j l m one other. alone_on p (ends_in p es) i k j l m shaped (run-sound p es shaped run) one other
