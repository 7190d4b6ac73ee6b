use Rattle.std.proofs.Common.{[], ◌∷◌, codes}
use Rattle.event_lines.specs.Words.{JobStep, moment}
use Rattle.event_lines.proofs.WordByWord.{text_before}
use Rattle.event_lines.proofs.requests.finish_step_of.Goals as goal

pub returns-in_err-words : goal.returns-in_err-words
returns-in_err-words c =
    rw c.from_residual.ensures
    (λ job step at found. let first = text_before c.args.line.now (codes "finish") (JobStep job step) (moment at ∷ []) found in c.in_err-words.ensures first.0 first.1)
