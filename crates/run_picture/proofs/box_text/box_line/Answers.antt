use Rattle.std.proofs.Common.{refl}
use Rattle.run_picture.specs.BoxText.{box_text_at}
use Rattle.run_picture.proofs.box_text.box_line.Goals as goal

pub returns : goal.returns
unfolding box_text_at
returns c = rw (
  c.put_text-5.ensures.written,
  c.put_class.ensures.written,
  c.put_late.ensures.written,
  c.put_thin.ensures.written,
  c.put_text-4.ensures.written,
  c.put_path.ensures.written,
  c.put_text-3.ensures.written,
  c.put_numbers.ensures.written,
  c.put_text-2.ensures.written,
  c.put_title.ensures.written,
  c.put_text.ensures.written,
  c.put_label_if_room.ensures.written,
  c.ended-line.ensures,
) refl
