use Rattle.std.proofs.Common.{get_or}
use Rattle.shop_base.specs.ShapeFault.{EachIsWithin}
use Rattle.shop_base.proofs.limit_check.first_above.Given as goal

-- the moments looked at are within the limit
abbrev pub invariant-loop-i : goal.invariant-loop-i
invariant-loop-i l = EachIsWithin (λ k. get_or l.moments k 0) l.i l.limit
