use Rattle.std.proofs.Common.{◌∙◌}
use Rattle.command_words.proofs.words.Reasons.{names_first, names_later, none_first, passed_on}
use Rattle.command_words.proofs.words.marks_of.Goals as goal

pub returns-in_err-rest_at-clause-refused : goal.returns-in_err-rest_at-clause-refused
returns-in_err-rest_at-clause-refused c =
    passed_on _ c.from_residual.result c.in_err-rest_at.field-0.0 c.from_residual.ensures.1
    (λ others. names_first _ _ _ c.in_err-rest_at.ensures.refused)

pub returns-in_err-lines_of-clause-refused : goal.returns-in_err-lines_of-clause-refused
returns-in_err-lines_of-clause-refused c =
    passed_on _ c.from_residual-in_err-lines_of.result c.in_err-lines_of.field-0.0 c.from_residual-in_err-lines_of.ensures.1
    (λ others. names_later _ _ _ c.in_ok-rest_at.ensures.fits (names_first _ _ _ c.in_err-lines_of.ensures.refused))

pub returns-in_err-leap_of-clause-refused : goal.returns-in_err-leap_of-clause-refused
returns-in_err-leap_of-clause-refused c =
    passed_on _ c.from_residual-in_err-leap_of.result c.in_err-leap_of.field-0.0 c.from_residual-in_err-leap_of.ensures.1
    (λ others. names_later _ _ _ c.in_ok-rest_at.ensures.fits (names_later _ _ _ c.in_ok-lines_of.ensures.fits (names_first _ _ _ c.in_err-leap_of.ensures.refused)))

pub returns-in_err-job_of-clause-refused : goal.returns-in_err-job_of-clause-refused
returns-in_err-job_of-clause-refused c =
    passed_on _ c.from_residual-in_err-job_of.result c.in_err-job_of.field-0.0 c.from_residual-in_err-job_of.ensures.1
    (λ others. names_later _ _ _ c.in_ok-rest_at.ensures.fits (names_later _ _ _ c.in_ok-lines_of.ensures.fits (names_later _ _ _ c.in_ok-leap_of.ensures.fits (names_first _ _ _ c.in_err-job_of.ensures.refused))))

pub returns-in_err-moves_of-clause-refused : goal.returns-in_err-moves_of-clause-refused
returns-in_err-moves_of-clause-refused c =
    passed_on _ c.from_residual-in_err-moves_of.result c.in_err-moves_of.field-0.0 c.from_residual-in_err-moves_of.ensures.1
    (λ others. names_later _ _ _ c.in_ok-rest_at.ensures.fits (names_later _ _ _ c.in_ok-lines_of.ensures.fits (names_later _ _ _ c.in_ok-leap_of.ensures.fits (names_later _ _ _ c.in_ok-job_of.ensures.fits (names_first _ _ _ c.in_err-moves_of.ensures.refused)))))

pub returns-in_err-start_of-clause-refused : goal.returns-in_err-start_of-clause-refused
returns-in_err-start_of-clause-refused c =
    passed_on _ c.from_residual-in_err-start_of.result c.in_err-start_of.field-0.0 c.from_residual-in_err-start_of.ensures.1
    (λ others. names_later _ _ _ c.in_ok-rest_at.ensures.fits (names_later _ _ _ c.in_ok-lines_of.ensures.fits (names_later _ _ _ c.in_ok-leap_of.ensures.fits (names_later _ _ _ c.in_ok-job_of.ensures.fits (names_later _ _ _ c.in_ok-moves_of.ensures.fits (names_first _ _ _ c.in_err-start_of.ensures.refused))))))

pub returns-clause-fits : goal.returns-clause-fits
returns-clause-fits c = λ others.
    none_first _ _ c.in_ok-rest_at.ensures.fits
    ∙ none_first _ _ c.in_ok-lines_of.ensures.fits
    ∙ none_first _ _ c.in_ok-leap_of.ensures.fits
    ∙ none_first _ _ c.in_ok-job_of.ensures.fits
    ∙ none_first _ _ c.in_ok-moves_of.ensures.fits
    ∙ none_first _ _ c.in_ok-start_of.ensures.fits

pub returns-clause-exact : goal.returns-clause-exact
returns-clause-exact c = record {
  at = c.in_ok-rest_at.ensures.exact;
  early = c.in_ok-rest_at.ensures.early;
  lines = c.in_ok-lines_of.ensures.exact;
  leap = c.in_ok-leap_of.ensures.exact;
  soon = c.in_ok-leap_of.ensures.early;
  job = c.in_ok-job_of.ensures.exact;
  moves = c.in_ok-moves_of.ensures.exact;
  start = c.in_ok-start_of.ensures.exact;
}
