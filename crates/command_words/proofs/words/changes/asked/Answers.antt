use Rattle.std.proofs.Common.{◌∙◌, ap, subst, sym}
use Rattle.clap.specs.Words.{Kinds, found_of, rows_of}
use Rattle.command_words.specs.Changes.{asked_of, misfit_by}
use Rattle.command_words.specs.Choice.{NamesOneOf}
use Rattle.command_words.proofs.words.Forms.{form_refused, last_asked, last_fits, next_asked, next_fits}
use Rattle.command_words.proofs.words.Reasons.{passed_on}
use Rattle.command_words.proofs.words.changes.asked.Goals as goal

pub loop-form-preserved : goal.loop-form-preserved
loop-form-preserved c =
    let rows = rows_of (found_of c.args.matches.now) in
    record {
      forms = c.loop-form.invariant.forms;
      so_far = next_asked c.args.released.now c.args.promised.now c.args.called.now rows _ c.loop-form.form-index _ _ _ _ c.loop-form-test.true c.in_ok-add_changes.ensures.added c.loop-form.invariant.so_far;
      fits = next_fits rows _ c.loop-form.form-index _ c.loop-form-test.true c.in_ok-add_changes.ensures.fits c.loop-form.invariant.fits;
    }

pub returns-in_err-add_changes-clause-refused : goal.returns-in_err-add_changes-clause-refused
returns-in_err-add_changes-clause-refused c =
    let rows = rows_of (found_of c.args.matches.now) in
    let fault = c.in_err-add_changes.field-0.0 in
    passed_on _ c.from_residual.result fault c.from_residual.ensures.1
    (subst (λ (kinds : Kinds). NamesOneOf kinds fault) (ap (misfit_by rows) c.loop-form.invariant.forms)
    (form_refused rows _ c.loop-form.form-index _ fault c.loop-form-test.true c.loop-form.invariant.fits c.in_err-add_changes.ensures.refused))

pub returns-clause-exact : goal.returns-clause-exact
returns-clause-exact c =
    let rows = rows_of (found_of c.args.matches.now) in
    last_asked c.args.released.now c.args.promised.now c.args.called.now rows _ c.loop-form.form-index _ _ c.loop-form-test.false c.loop-form.invariant.so_far
    ∙ ap (asked_of c.args.released.now c.args.promised.now c.args.called.now rows) c.loop-form.invariant.forms

pub returns-clause-fits : goal.returns-clause-fits
returns-clause-fits c =
    let rows = rows_of (found_of c.args.matches.now) in
    sym (ap (misfit_by rows) c.loop-form.invariant.forms)
    ∙ last_fits rows _ c.loop-form.form-index c.loop-form-test.false c.loop-form.invariant.fits
