use Rattle.std.proofs.Common.{refl}
use Rattle.run_picture.specs.PictureText.{size_text}
use Rattle.run_picture.proofs.frame_text.size_line.Goals as goal

pub returns : goal.returns
unfolding size_text
returns c = rw (
  c.put_text-6.ensures.written,
  c.put_number-4.ensures.written,
  c.put_text-5.ensures.written,
  c.put_number-3.ensures.written,
  c.put_text-4.ensures.written,
  c.put_left_edge.ensures.written,
  c.put_text-3.ensures.written,
  c.put_number-2.ensures.written,
  c.put_text-2.ensures.written,
  c.put_number.ensures.written,
  c.put_text.ensures.written,
  c.ended-line.ensures,
  c.height_for-height.ensures,
) refl
