use Rattle.std.proofs.Common.{rules}
use Rattle.byte_streams.proofs.pieces.answer_ended.Goals as goal

pub returns-clause-cleared : goal.returns-clause-cleared
returns-clause-cleared g c = search rules depth 2
