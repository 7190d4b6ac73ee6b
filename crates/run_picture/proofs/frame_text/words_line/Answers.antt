use Rattle.std.proofs.Common.{refl}
use Rattle.run_picture.specs.PictureText.{words_text}
use Rattle.run_picture.proofs.frame_text.words_line.Goals as goal

pub returns : goal.returns
unfolding words_text
returns c = rw (
  c.put_text-2.ensures.written,
  c.put_head_words.ensures.written,
  c.put_text.ensures.written,
  c.ended-line.ensures,
) refl
