use Rattle.shop_base.specs.Run.{ends_in}
use Rattle.shop_base.proofs.Keeping.{run-sound}
use Rattle.shop_base.proofs.Changes.{after_move-moved}
use Rattle.shop_base.proofs.CellFacts.{visits_target}
use Rattle.shop_base.proofs.laws.a_move_enters_its_target.Goals as goal

pub returns : goal.returns
returns c = λ p es j t m shaped run can at.
    (after_move-moved p (ends_in p es) j t shaped (run-sound p es shaped run) can).entered m (visits_target p (ends_in p es) j m at)
