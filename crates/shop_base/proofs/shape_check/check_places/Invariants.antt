use Rattle.shop_base.proofs.Marking.{ArePlacesChecked}
use Rattle.shop_base.proofs.shape_check.check_places.Given as goal

-- the places looked at are good, and their jobs are marked
abbrev pub invariant-loop-place : goal.invariant-loop-place
invariant-loop-place l = ArePlacesChecked (record { shop = l.shop; plan = l.plan }) l.machine l.listed l.place
