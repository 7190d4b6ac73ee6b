use Rattle.std.proofs.Common.{◌∙◌}
use Rattle.run_picture.proofs.Parts.{wrote_as}
use Rattle.run_picture.proofs.picture.put_present.Goals as goal

pub returns-clause-wrote : goal.returns-clause-wrote
returns-clause-wrote g c = wrote_as c.put_all.result _ _ _ _ _ (c.bytes.ensures ∙ c.present_line-line.ensures) c.put_all.ensures.wrote
