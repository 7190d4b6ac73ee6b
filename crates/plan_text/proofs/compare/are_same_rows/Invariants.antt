use Rattle.std.proofs.Common.{◌≡◌, take}
use Rattle.shop_base.specs.Vectors.{lists_of}
use Rattle.plan_text.proofs.compare.are_same_rows.Given as goal

abbrev pub invariant-loop-i : goal.invariant-loop-i
invariant-loop-i l = lists_of (take l.i l.a) ≡ lists_of (take l.i l.b)
