use Rattle.std.proofs.Common.{refl}
use Rattle.run_picture.specs.PictureText.{present_text}
use Rattle.run_picture.proofs.frame_text.now_line.Goals as goal

pub returns : goal.returns
unfolding present_text
returns c = rw (
  c.put_text-3.ensures.written,
  c.put_number-2.ensures.written,
  c.put_text-2.ensures.written,
  c.put_number.ensures.written,
  c.put_text.ensures.written,
  c.ended-line.ensures,
  c.rows_end.ensures,
  c.x_at.ensures.place,
) refl
