use Rattle.std.proofs.Common.{rules}
use Rattle.event_lines.proofs.details.put_others.Goals as goal

pub returns-then-others-gt0-clause-written : goal.returns-then-others-gt0-clause-written
returns-then-others-gt0-clause-written c = search rules depth 2
