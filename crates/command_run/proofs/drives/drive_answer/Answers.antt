use Rattle.std.proofs.Common.{Ok, Err, ap, sym, ◌∙◌, refl}
use Rattle.std.proofs.lemmas.Result.{err_from_is_err_and}
use Rattle.command_run.proofs.Accepting.{drives_accepted, drives_known}
use Rattle.command_run.proofs.drives.drive_answer.Goals as goal

pub returns-in_err-load_files : goal.returns-in_err-load_files
returns-in_err-load_files g c = (let p = err_from_is_err_and c.from_residual.result c.from_residual.ensures.1 in record {
  loaded = Err c.in_err-load_files.field-0.0;
  loads = rw (← c.in_err-load_files.was) c.load_files.ensures;
  drives = (p.1 ∙ ap Err p.2, refl);
})

pub returns-in-Ok : goal.returns-in-Ok
returns-in-Ok g c = record {
  loaded = Ok c.in_ok-load_files.field-0;
  loads = rw (← c.in_ok-load_files.was) c.load_files.ensures;
  drives = drives_accepted c.args.protocol c.in_ok-load_files.field-0 c.in-Ok.verified c.args.streams.now _ c.end_answer.result (sym c.accepted.ensures ∙ c.in-Ok.is) (rw (← c.streams.view_is) (record {
    end = c.drive_in-end.result;
    is = c.drive_in-end.ensures.driven;
    answer = c.end_answer.ensures;
  }));
}

pub returns-in-Err : goal.returns-in-Err
returns-in-Err g c = record {
  loaded = Ok c.in_ok-load_files.field-0;
  loads = rw (← c.in_ok-load_files.was) c.load_files.ensures;
  drives = drives_known c.args.protocol c.in_ok-load_files.field-0 c.in-Err.other _ _ c.line_answer.result (sym c.accepted.ensures ∙ c.in-Err.is) c.line_answer.ensures refl;
}
