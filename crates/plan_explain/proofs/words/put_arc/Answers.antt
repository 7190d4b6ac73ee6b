use Rattle.std.proofs.Common.{refl}
use Rattle.plan_explain.proofs.words.put_arc.Goals as goal

pub returns-in-Job-clause-written : goal.returns-in-Job-clause-written
returns-in-Job-clause-written c = rw (c.in-Job.is, c.put_visit.ensures.written, c.put_machine.ensures.written) (rw (c.put_text.ensures.written, c.put_number.ensures.written) refl)

pub returns-in-Blocking-clause-written : goal.returns-in-Blocking-clause-written
returns-in-Blocking-clause-written c = rw (c.in-Blocking.is, c.put_text-in-Blocking-3.ensures.written, c.put_machine-in-Blocking.ensures.written, c.put_text-in-Blocking-2.ensures.written) (
    rw (c.put_visit-in-Blocking-2.ensures.written, c.put_text-in-Blocking.ensures.written, c.put_visit-in-Blocking.ensures.written) (
    rw (c.put_clean.ensures.written) refl))
