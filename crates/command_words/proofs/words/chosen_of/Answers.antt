use Rattle.std.proofs.Common.{◌∙◌, ap, length, subst, sym}
use Rattle.std.specs.String.{string_bytes}
use Rattle.std.proofs.lemmas.List.{length-map}
use Rattle.clap.specs.Words.{Kinds}
use Rattle.command_words.specs.Choice.{NamesOneOf}
use Rattle.command_words.proofs.words.CommandNames.{takes_same}
use Rattle.command_words.proofs.words.Reasons.{names_first, names_later, none_first, passed_on}
use Rattle.command_words.proofs.words.chosen_of.Goals as goal

pub returns-in_err-marks-clause-refused : goal.returns-in_err-marks-clause-refused
returns-in_err-marks-clause-refused c =
    passed_on _ c.from_residual.result c.in_err-marks.field-0.0 c.from_residual.ensures.1 (c.in_err-marks.ensures.refused _)

pub returns-in_err-prints-clause-refused : goal.returns-in_err-prints-clause-refused
returns-in_err-prints-clause-refused c =
    let fault = c.in_err-prints.field-0.0 in
    passed_on _ c.from_residual-in_err-prints.result fault c.from_residual-in_err-prints.ensures.1
    (subst (λ (kinds : Kinds). NamesOneOf kinds fault) (sym (c.in_ok-marks.ensures.fits _)) (names_first _ _ _ c.in_err-prints.ensures.refused))

pub returns-in_err-changes-clause-refused : goal.returns-in_err-changes-clause-refused
returns-in_err-changes-clause-refused c =
    let fault = c.in_err-changes.field-0.0 in
    passed_on _ c.from_residual-in_err-changes.result fault c.from_residual-in_err-changes.ensures.1
    (subst (λ (kinds : Kinds). NamesOneOf kinds fault) (sym (c.in_ok-marks.ensures.fits _)) (names_later _ _ _ c.in_ok-prints.ensures.fits c.in_err-changes.ensures.refused))

pub returns-clause-fits : goal.returns-clause-fits
returns-clause-fits c = c.in_ok-marks.ensures.fits _ ∙ none_first _ _ c.in_ok-prints.ensures.fits ∙ c.in_ok-changes.ensures.fits

pub returns-clause-holds : goal.returns-clause-holds
returns-clause-holds c = record {
  name = c.name_of.ensures;
  files = c.in_ok-given.ensures.files;
  instance = c.in_ok-given.ensures.instance;
  rounds = c.rounds_of.ensures.exact;
  seed = c.seed_of.ensures.exact;
  choices = c.choices_of.ensures.exact;
  job = c.in_ok-marks.ensures.exact.job;
  least = c.is_set.ensures;
  after = c.in_ok-given.ensures.after;
  log = c.in_ok-given.ensures.log;
  at = c.in_ok-marks.ensures.exact.at;
  lines = c.in_ok-marks.ensures.exact.lines;
  leap = c.in_ok-marks.ensures.exact.leap;
  svg = c.is_set-2.ensures;
  moves = c.in_ok-marks.ensures.exact.moves;
  names = c.in_ok-given.ensures.names;
  start = c.in_ok-marks.ensures.exact.start;
  changes = c.in_ok-changes.ensures.exact;
  prints = c.in_ok-prints.ensures.exact;
}

pub returns-clause-within : goal.returns-clause-within
returns-clause-within c =
    let files = c.in_ok-given.given.files.items in
    record {
      files = takes_same c.requires.0.0 c.name_of.result c.args.word.now _ (length files) c.requires.0.1 c.name_of.ensures
          (sym (length-map files string_bytes) ∙ ap length c.in_ok-given.ensures.files) c.requires.0.2;
      rounds = c.rounds_of.ensures.few;
      seed = c.seed_of.ensures.small;
      some = c.choices_of.ensures.some;
      choices = c.choices_of.ensures.few;
      at = c.in_ok-marks.ensures.exact.early;
      leap = c.in_ok-marks.ensures.exact.soon;
    }
