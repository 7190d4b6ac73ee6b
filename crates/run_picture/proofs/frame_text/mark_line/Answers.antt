use Rattle.std.proofs.Common.{refl}
use Rattle.run_picture.specs.PictureText.{mark_text}
use Rattle.run_picture.proofs.frame_text.mark_line.Goals as goal

pub returns-in-None : goal.returns-in-None
unfolding mark_text
returns-in-None c = rw (c.in-None.is, c.empty.ensures) refl
