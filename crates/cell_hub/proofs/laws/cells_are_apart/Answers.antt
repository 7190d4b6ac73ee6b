use Rattle.cell_hub.proofs.Lives.{cells_are_apart}
use Rattle.cell_hub.proofs.laws.cells_are_apart.Goals as goal

pub returns : goal.returns
returns c = cells_are_apart
