use Rattle.std.proofs.Common.{◌+◌, ap}
use Rattle.text_lines.specs.Lines.{lines_of, numbered_from}
use Rattle.orlib_read.specs.Cursor.{raw_left}
use Rattle.orlib_read.proofs.Left.{numbered_first}
use Rattle.orlib_read.proofs.lines.Lines.next_line.Goals as goal

pub returns-in_err-bytes-clause-line : goal.returns-in_err-bytes-clause-line
unfolding raw_left
returns-in_err-bytes-clause-line c =
    rw c.from_residual.ensures (ap (numbered_from (c.args.self.before + 1)) c.in_err-bytes.ensures.line)

pub returns-clause-line : goal.returns-clause-line
unfolding raw_left
returns-clause-line c =
    numbered_first (c.args.self.before + 1) (lines_of c.args.self.rest.now) c.in_ok-bytes.bytes.now (lines_of c.in_ok-bytes.rest.now) c.in_ok-bytes.ensures.line
