use Rattle.std.proofs.Common.{refl}
use Rattle.run_picture.specs.PictureText.{mark_text}
use Rattle.run_picture.proofs.frame_text.flag_line.Goals as goal

pub returns : goal.returns
unfolding mark_text
returns c = rw (
  c.put_text-3.ensures.written,
  c.put_number-2.ensures.written,
  c.put_text-2.ensures.written,
  c.put_number.ensures.written,
  c.put_text.ensures.written,
  c.ended-line.ensures,
  c.bottom_of.ensures,
  c.x_at.ensures.place,
) refl
