use Rattle.command_answers.proofs.PictureAnswers.{run_drawn}
use Rattle.command_answers.proofs.pictures.run_picture.Goals as goal

pub returns : goal.returns
returns c =
    let r = c.args.rest.now in
    run_drawn c.args.names r.plan r.cell r.present c.args.line c.args.visits.now _ c.in_ok-run.run' _ _ _ c.args.in_time _ c.shaped-shaped.ensures.plan c.in_ok-run.ensures
    (rw c.present.ensures.present at c.run_sheet-sheet.ensures) c.deref.ensures.value c.in_ok-late.ensures c.new.ensures
