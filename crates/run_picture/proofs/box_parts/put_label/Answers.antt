use Rattle.std.proofs.Common.{refl}
use Rattle.run_picture.proofs.box_parts.put_label.Goals as goal

pub returns-clause-written : goal.returns-clause-written
returns-clause-written c = rw (
  c.put_text-5.ensures.written,
  c.put_short_number.ensures.written,
  c.put_text-4.ensures.written,
  c.put_number-2.ensures.written,
  c.put_text-3.ensures.written,
  c.put_number.ensures.written,
  c.put_text-2.ensures.written,
  c.put_job.ensures.written,
  c.put_text.ensures.written,
) refl
