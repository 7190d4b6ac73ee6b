use Rattle.std.proofs.Common.{◌≡◌, ◌++◌, drop, map}
use Rattle.clap.specs.Words.{found_of, rows_of}
use Rattle.command_words.specs.Changes.{asked_of, change_seen, every_form, misfit_by}
use Rattle.command_words.proofs.words.changes.asked.Given as goal

abbrev pub invariant-loop-form : goal.invariant-loop-form
invariant-loop-form l =
    let rows = rows_of (found_of l.matches) in
    record {
      forms : l.forms ≡ every_form;
      so_far : map change_seen l.changes.items ++ asked_of l.released l.promised l.called rows (drop l.form-index l.forms) ≡ asked_of l.released l.promised l.called rows l.forms;
      fits : misfit_by rows (drop l.form-index l.forms) ≡ misfit_by rows l.forms;
    }
