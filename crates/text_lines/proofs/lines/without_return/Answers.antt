use Rattle.std.proofs.Common.{rules}
use Rattle.text_lines.proofs.lines.without_return.Goals as goal

pub returns : goal.returns
returns c = search rules depth 2
