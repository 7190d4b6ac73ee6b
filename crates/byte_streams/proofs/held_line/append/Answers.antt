use Rattle.std.proofs.Common.{rules}
use Rattle.byte_streams.proofs.held_line.append.Goals as goal

pub returns-then-more-bytes-clause-joined : goal.returns-then-more-bytes-clause-joined
returns-then-more-bytes-clause-joined c = search rules depth 2
