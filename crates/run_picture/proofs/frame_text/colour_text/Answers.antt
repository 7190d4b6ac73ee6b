use Rattle.std.proofs.Common.{refl}
use Rattle.run_picture.specs.PictureText.{colour_text}
use Rattle.run_picture.proofs.frame_text.colour_text.Goals as goal

pub returns : goal.returns
unfolding colour_text
returns c = refl
