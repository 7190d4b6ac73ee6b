use Rattle.std.proofs.Common.{refl}
use Rattle.run_picture.specs.PictureText.{row_text}
use Rattle.run_picture.proofs.frame_text.row_line.Goals as goal

pub returns : goal.returns
unfolding row_text
returns c = rw (
  c.put_text-3.ensures.written,
  c.put_number.ensures.written,
  c.put_text-2.ensures.written,
  c.put_machine.ensures.written,
  c.put_text.ensures.written,
  c.ended-line.ensures,
  c.foot_of.ensures,
) refl
