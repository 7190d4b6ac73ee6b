use Rattle.run_picture.specs.BoxText.{box_text}
use Rattle.run_picture.proofs.Parts.{wrote_as}
use Rattle.run_picture.proofs.Visits.{one_box}
use Rattle.run_picture.proofs.picture.put_any.Goals as goal

pub returns-in-Some-clause-wrote : goal.returns-in-Some-clause-wrote
returns-in-Some-clause-wrote g c = rw c.in-Some.is (wrote_as c.put_box.result _ _ _ _ _ (one_box (box_text c.args.names.now c.args.last) c.in-Some.drawn) c.put_box.ensures.wrote)
