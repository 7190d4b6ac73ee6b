use Rattle.std.proofs.Common.{◌∙◌, ◌++◌, ◌+◌, List, ℕ, ap, append-nil, arith, map, sym}
use Rattle.std.proofs.lemmas.Grind.{common_steps}
use Rattle.clap.specs.Words.{found_of, rows_of}
use Rattle.command_words.specs.Given.{values_of}
use Rattle.command_words.specs.Changes.{asked_from, change_seen, is_such, option_of, values_misfit}
use Rattle.command_words.proofs.words.Asking.{all_such, among_values, from_end, such_fits}
use Rattle.command_words.proofs.words.Getters.{values_given, values_left_out}
use Rattle.command_words.proofs.words.Reasons.{passed_on}
use Rattle.command_words.proofs.words.changes.add_changes.Goals as goal

pub returns-in_default-clause-added : goal.returns-in_default-clause-added
returns-in_default-clause-added c =
    let rows = rows_of (found_of c.args.matches.now) in
    let before = map change_seen c.args.changes.now.items in
    let none = values_left_out (found_of c.args.matches.now) c.option_of.result.now c.get_raw.result c.get_raw.ensures c.in_default.is ∙ ap (λ (id : List ℕ). values_of id rows) c.option_of.ensures in
    sym (append-nil before) ∙ ap (λ (values : List (List ℕ)). before ++ asked_from c.args.released.now c.args.promised.now c.args.called.now rows c.args.form 1 values) none

pub returns-in_default-clause-fits : goal.returns-in_default-clause-fits
returns-in_default-clause-fits c =
    let rows = rows_of (found_of c.args.matches.now) in
    let none = values_left_out (found_of c.args.matches.now) c.option_of.result.now c.get_raw.result c.get_raw.ensures c.in_default.is ∙ ap (λ (id : List ℕ). values_of id rows) c.option_of.ensures in
    sym (ap (values_misfit (is_such c.args.form)) none)

pub returns-in_err-add_value-clause-refused : goal.returns-in_err-add_value-clause-refused
returns-in_err-add_value-clause-refused c =
    let rows = rows_of (found_of c.args.matches.now) in
    let fault = c.in_err-add_value.field-0.0 in
    let given = values_given (found_of c.args.matches.now) c.option_of.result.now c.get_raw.result c.in-Some.given c.get_raw.ensures c.in-Some.is ∙ ap (λ (id : List ℕ). values_of id rows) c.option_of.ensures in
    passed_on _ c.from_residual.result fault c.from_residual.ensures.1
    (among_values (is_such c.args.form) c.in-Some.given.now (values_of (option_of c.args.form) rows) c.loop-place.place _ fault given c.loop-place.invariant.such c.loop-place-test.true c.in_err-add_value.ensures.refused)

pub returns-clause-added : goal.returns-clause-added
returns-clause-added c =
    let rows = rows_of (found_of c.args.matches.now) in
    let asked = asked_from c.args.released.now c.args.promised.now c.args.called.now rows c.args.form in
    let before = map change_seen c.loop-place.changes.items in
    let given = values_given (found_of c.args.matches.now) c.option_of.result.now c.get_raw.result c.in-Some.given c.get_raw.ensures c.in-Some.is ∙ ap (λ (id : List ℕ). values_of id rows) c.option_of.ensures in
    sym (append-nil before)
    ∙ ap (λ (values : List (List ℕ)). before ++ asked (c.loop-place.place + 1) values) (sym (from_end c.in-Some.given.now c.loop-place.place c.loop-place-test.false))
    ∙ c.loop-place.invariant.so_far
    ∙ ap (λ (values : List (List ℕ)). map change_seen c.args.changes.now.items ++ asked 1 values) given

pub returns-clause-fits : goal.returns-clause-fits
returns-clause-fits c =
    let rows = rows_of (found_of c.args.matches.now) in
    let such = is_such c.args.form in
    let given = values_given (found_of c.args.matches.now) c.option_of.result.now c.get_raw.result c.in-Some.given c.get_raw.ensures c.in-Some.is ∙ ap (λ (id : List ℕ). values_of id rows) c.option_of.ensures in
    such_fits such (values_of (option_of c.args.form) rows) (all_such such c.in-Some.given.now _ c.loop-place.place given c.loop-place.invariant.such c.loop-place-test.false)

pub loop-place-preserved : goal.loop-place-preserved
loop-place-preserved c = grind (arith, common_steps)
