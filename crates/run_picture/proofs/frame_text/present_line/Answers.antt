use Rattle.std.proofs.Common.{refl}
use Rattle.run_picture.specs.PictureText.{present_text}
use Rattle.run_picture.proofs.frame_text.present_line.Goals as goal

pub returns-in-None : goal.returns-in-None
unfolding present_text
returns-in-None c = rw (c.in-None.is, c.empty.ensures) refl
