use Rattle.std.proofs.Common.{rules}
use Rattle.plan_text.proofs.document.plan_lines.Goals as goal

pub returns : goal.returns
returns c = search rules depth 2
