use Rattle.std.proofs.Common.{refl}
use Rattle.plan_explain.proofs.chains.put_hold.Goals as goal

pub returns-in-Done-clause-written : goal.returns-in-Done-clause-written
returns-in-Done-clause-written c =
    rw (c.in-Done.is, c.put_visit.ensures.written, c.put_machine.ensures.written, c.of-visit.ensures, c.saturating_sub-step.ensures) refl

pub returns-in-Worked-clause-written : goal.returns-in-Worked-clause-written
returns-in-Worked-clause-written c =
    rw (c.in-Worked.is, c.put_visit-in-Worked.ensures.written, c.put_since.ensures.written, c.of-visit-in-Worked.ensures, c.saturating_sub-step.ensures) refl

pub returns-in-Cleaned-clause-written : goal.returns-in-Cleaned-clause-written
returns-in-Cleaned-clause-written c = rw (c.in-Cleaned.is, c.put_text-in-Cleaned.ensures.written, c.put_since-in-Cleaned.ensures.written) refl
