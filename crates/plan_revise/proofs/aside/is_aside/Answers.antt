use Rattle.std.proofs.Common.{◌≡◌, ◌<◌, ℕ, zero, suc, eqb, false, length, ap, sym, ◌∙◌, arith}
use Rattle.shop_base.specs.Plan.{order, clean}
use Rattle.plan_revise.proofs.Written.{aside_by_places}
use Rattle.plan_revise.proofs.aside.is_aside.Goals as goal

some : (n : ℕ) → eqb n 0 ≡ false → 0 < n
some zero none = cc
some (suc n) is = omega arith

pub returns : goal.returns
returns c =
    let visited : 0 < length (order c.args.shaped.now c.args.last) = omega (arith, some (length c.order_of.result.now) (sym c.is_empty.ensures ∙ c.if-is_empty.false), ap length c.order_of.ensures.order) in
    let uncleaned : clean c.args.shaped.now c.args.last ≡ 0 = omega (arith, c.clean_of.ensures) in
    aside_by_places c.args.shaped.now c.args.last c.are_aside.result c.order_of.ensures.well_shaped c.requires visited uncleaned c.are_aside.ensures
