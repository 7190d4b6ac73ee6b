use Rattle.std.proofs.Common.{refl}
use Rattle.run_picture.specs.PictureText.{ground_text}
use Rattle.run_picture.proofs.frame_text.ground_line.Goals as goal

pub returns : goal.returns
unfolding ground_text
returns c = rw (
  c.put_text-4.ensures.written,
  c.put_left_edge-2.ensures.written,
  c.put_text-3.ensures.written,
  c.put_number.ensures.written,
  c.put_text-2.ensures.written,
  c.put_left_edge.ensures.written,
  c.put_text.ensures.written,
  c.ended-line.ensures,
  c.height_for.ensures,
) refl
