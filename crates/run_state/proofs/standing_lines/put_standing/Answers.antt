use Rattle.std.proofs.Common.{ℕ, List, ◌++◌, codes, refl, ap}
use Rattle.people_names.specs.Words.{job_word}
use Rattle.event_lines.specs.Words.{Text}
use Rattle.run_state.proofs.Targets.{behind_word}
use Rattle.run_state.proofs.standing_lines.put_standing.Goals as goal

pub returns-in-Awaited-clause-written : goal.returns-in-Awaited-clause-written
returns-in-Awaited-clause-written c =
    rw (c.in-Awaited.is, c.put_text-in-Awaited.ensures.written, c.put_job.ensures.written, c.put_text.ensures.written, c.put_moment.ensures.written) refl

pub returns-in-Outside-clause-written : goal.returns-in-Outside-clause-written
returns-in-Outside-clause-written c =
    let names = c.args.names.now in
    rw (c.in-Outside.is, c.put_text-in-Outside-2.ensures.written, c.put_job-in-Outside.ensures.written, c.put_text-in-Outside.ensures.written, c.put_target.ensures.written) (
    ap (λ (l : List ℕ). codes "job " ++ (job_word names c.in-Outside.job ++ (codes " waits " ++ l))) (behind_word names (Text (codes "outside")) c.in-Outside.target c.args.line.now))

pub returns-in-Cleaned-clause-written : goal.returns-in-Cleaned-clause-written
returns-in-Cleaned-clause-written c =
    rw (c.in-Cleaned.is, c.put_text-in-Cleaned-2.ensures.written, c.put_machine-in-Cleaned.ensures.written, c.put_text-in-Cleaned.ensures.written) (
    rw (c.put_visit-in-Cleaned.ensures.written, c.put_since-in-Cleaned.ensures.written) refl)
