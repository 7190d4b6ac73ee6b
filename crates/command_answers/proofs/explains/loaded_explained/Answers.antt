use Rattle.std.proofs.Common.{◌∙◌, None}
use Rattle.plan_verifier.specs.Seen.{as_rest, judged}
use Rattle.people_names.specs.NameBooks.{no_names}
use Rattle.command_answers.proofs.AskedRuns.{start_reasons}
use Rattle.command_answers.proofs.explains.loaded_explained.Goals as goal

pub returns-in_ok-known-in-Judged : goal.returns-in_ok-known-in-Judged
returns-in_ok-known-in-Judged c =
    let verdict = c.in-Judged.verdict in
    let found = c.in_ok-known-in-Judged in
    rw c.in-Judged.is (start_reasons (judged verdict) no_names found.known (found.ensures.named ∙ c.none.ensures) found.ensures.plan (as_rest verdict) None c.answer_judged.result found.ensures.start found.ensures.judged
    c.answer_judged.ensures)
