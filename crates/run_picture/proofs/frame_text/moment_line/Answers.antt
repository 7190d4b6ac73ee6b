use Rattle.std.proofs.Common.{refl}
use Rattle.run_picture.specs.PictureText.{moment_text}
use Rattle.run_picture.proofs.frame_text.moment_line.Goals as goal

pub returns : goal.returns
unfolding moment_text
returns c = rw (
  c.put_text-5.ensures.written,
  c.put_number-3.ensures.written,
  c.put_text-4.ensures.written,
  c.put_number-2.ensures.written,
  c.put_text-3.ensures.written,
  c.put_number.ensures.written,
  c.put_text-2.ensures.written,
  c.put_moment.ensures.written,
  c.put_text.ensures.written,
  c.ended-line.ensures,
  c.rows_end.ensures,
  c.x_at-x.ensures.place,
) refl
