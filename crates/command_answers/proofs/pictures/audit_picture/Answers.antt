use Rattle.command_answers.proofs.PictureAnswers.{audit_drawn}
use Rattle.command_answers.proofs.pictures.audit_picture.Goals as goal

pub returns : goal.returns
returns c =
    audit_drawn c.args.names c.args.shaped.now c.args.found.now _ _ _ _ _ _ _ c.log_sheet.ensures c.as_slice-entries.ensures.value c.in_ok-visits.ensures c.in_ok-leavings.ensures c.deref.ensures.value c.in_ok-late.ensures
    c.new.ensures
