use Rattle.std.proofs.Common.{rules}
use Rattle.event_lines.proofs.answers.put_late_words.Goals as goal

pub returns-clause-written : goal.returns-clause-written
returns-clause-written g c = search rules depth 2
