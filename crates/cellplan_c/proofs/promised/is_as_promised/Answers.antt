use Rattle.cellplan_c.proofs.promised.is_as_promised.Goals as goal

pub returns : goal.returns
returns c = record { never_wrong = c.never_goes_wrong.ensures.never_wrong; moments = c.never_goes_wrong.ensures.moments }
