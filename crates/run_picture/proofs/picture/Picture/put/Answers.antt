use Rattle.run_picture.proofs.picture.Picture.put.Goals as goal

pub returns-clause-wrote : goal.returns-clause-wrote
returns-clause-wrote g c = rw (← c.self.view_is, ← c.deref.ensures.value, ← c.deref-2.ensures.value) c.put_picture.ensures.wrote
