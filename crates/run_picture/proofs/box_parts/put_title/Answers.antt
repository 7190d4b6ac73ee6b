use Rattle.std.proofs.Common.{refl}
use Rattle.run_picture.proofs.box_parts.put_title.Goals as goal

pub returns-clause-written : goal.returns-clause-written
returns-clause-written c = rw (
  c.put_name.ensures.written,
  c.put_text-2.ensures.written,
  c.put_moment-2.ensures.written,
  c.put_text.ensures.written,
  c.put_moment.ensures.written,
  c.put_over.ensures.written,
) refl
