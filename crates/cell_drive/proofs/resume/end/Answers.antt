use Rattle.std.proofs.Common.{refl, sym}
use Rattle.cell_drive.proofs.Sessions.{rest_end_of}
use Rattle.cell_drive.proofs.resume.end.Goals as goal

pub returns : goal.returns
returns c =
    let s = c.session.inside in
    rw (sym c.session.view_is) (rest_end_of s.protocol s.controller s.log c.session.invariant _ refl c.is_done-done.ensures c.now-last.ensures c.reports_left-left.ensures.kept)
