use Rattle.std.proofs.Common.{◌≡◌}
use Rattle.shop_base.specs.Ends.{sum_below, cleanings_of}
use Rattle.shop_base.proofs.shaped.Shaped.cleaning_count.Given as goal

-- the cleanings of the machines looked at
abbrev pub invariant-loop-machine : goal.invariant-loop-machine
invariant-loop-machine l = l.count ≡ sum_below (cleanings_of l.self) l.machine
