use Rattle.std.proofs.Common.{refl}
use Rattle.run_picture.proofs.box_parts.put_name.Goals as goal

pub returns-in-Work-clause-written : goal.returns-in-Work-clause-written
returns-in-Work-clause-written c = rw (
  c.in-Work.is,
  c.put_text-in-Work.ensures.written,
  c.put_job.ensures.written,
  c.put_text.ensures.written,
  c.put_machine.ensures.written,
) refl

pub returns-in-Wait-clause-written : goal.returns-in-Wait-clause-written
returns-in-Wait-clause-written c = rw (
  c.in-Wait.is,
  c.put_text-in-Wait-2.ensures.written,
  c.put_job-in-Wait.ensures.written,
  c.put_text-in-Wait.ensures.written,
  c.put_machine-in-Wait.ensures.written,
) refl

pub returns-in-Clean-clause-written : goal.returns-in-Clean-clause-written
returns-in-Clean-clause-written c = rw (
  c.in-Clean.is,
  c.put_text-in-Clean-2.ensures.written,
  c.put_machine-in-Clean.ensures.written,
  c.put_text-in-Clean.ensures.written,
  c.put_job-in-Clean.ensures.written,
) refl
