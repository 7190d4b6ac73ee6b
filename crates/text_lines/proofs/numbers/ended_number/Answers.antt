use Rattle.std.proofs.Common.{arith}
use Rattle.text_lines.proofs.NumbersBefore.{number_ends}
use Rattle.text_lines.proofs.numbers.ended_number.Goals as goal

pub returns-then-end-eq0-clause-number : goal.returns-then-end-eq0-clause-number
returns-then-end-eq0-clause-number c most few n rest number =
    let ends = number_ends most n c.args.bytes.now rest c.args.end number c.requires.digits c.requires.ended in omega (arith, ends.0, c.if-end-eq0.true)

pub returns-then-bytes-end-ne32-clause-number : goal.returns-then-bytes-end-ne32-clause-number
returns-then-bytes-end-ne32-clause-number c most few n rest number =
    let ends = number_ends most n c.args.bytes.now rest c.args.end number c.requires.digits c.requires.ended in c.if-bytes-end-ne32.true ends.1
