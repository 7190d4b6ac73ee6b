use Rattle.cell_hub.proofs.Lives.{dismissed_never_answers}
use Rattle.cell_hub.proofs.laws.dismissed_never_answers.Goals as goal

pub returns : goal.returns
returns c = dismissed_never_answers
