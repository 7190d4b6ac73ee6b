use Rattle.std.proofs.Common.{refl}
use Rattle.run_picture.specs.PictureText.{style_text}
use Rattle.run_picture.proofs.frame_text.style_text.Goals as goal

pub returns : goal.returns
unfolding style_text
returns c = refl
