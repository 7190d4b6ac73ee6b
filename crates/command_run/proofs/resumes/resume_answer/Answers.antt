use Rattle.std.proofs.Common.{Ok, Err, ap, ◌∙◌, refl}
use Rattle.std.proofs.lemmas.Result.{err_from_is_err_and}
use Rattle.command_run.proofs.resumes.resume_answer.Goals as goal

pub returns-in_err-shaped : goal.returns-in_err-shaped
returns-in_err-shaped g c = (let p = err_from_is_err_and c.from_residual.result c.from_residual.ensures.1 in record {
  shaped = Err c.in_err-shaped.field-0.0;
  texts_mid = c.shape_files.new.texts;
  shapes = rw (← c.in_err-shaped.was) c.shape_files.ensures;
  resumes = (p.1 ∙ ap Err p.2, refl, refl);
})

pub returns-in-Ok : goal.returns-in-Ok
returns-in-Ok g c = record {
  shaped = Ok c.in_ok-shaped.field-0;
  texts_mid = c.shape_files.new.texts;
  shapes = rw (← c.in_ok-shaped.was) c.shape_files.ensures;
  resumes = rw c.in-Ok.is c.resume_log.ensures;
}

pub returns-in-Err : goal.returns-in-Err
returns-in-Err g c = record {
  shaped = Ok c.in_ok-shaped.field-0;
  texts_mid = c.shape_files.new.texts;
  shapes = rw (← c.in_ok-shaped.was) c.shape_files.ensures;
  resumes = rw c.in-Err.is (c.line_answer.ensures, refl, refl);
}
