use Rattle.std.proofs.Common.{rules}
use Rattle.event_lines.proofs.entries.ends_of_shop.Goals as goal

pub returns-in-Arrive : goal.returns-in-Arrive
returns-in-Arrive c = search rules
