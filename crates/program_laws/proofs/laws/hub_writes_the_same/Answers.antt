use Rattle.program_laws.proofs.SameHubs.{hub_writes_the_same}
use Rattle.program_laws.proofs.laws.hub_writes_the_same.Goals as goal

pub returns : goal.returns
returns c = hub_writes_the_same
