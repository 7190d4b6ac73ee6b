use Rattle.std.proofs.Common.{sym}
use Rattle.cell_drive.proofs.begin.end.Goals as goal

pub returns-clause-kept : goal.returns-clause-kept
returns-clause-kept c = rw (sym c.session.view_is) c.session.invariant

pub returns-clause-done : goal.returns-clause-done
returns-clause-done c = rw (sym c.session.view_is) c.is_done.ensures
