use Rattle.std.proofs.{Common.{◌≡◌, length, take, drop, ap, ◌∙◌}, lemmas.{Bool.Decides.{Decides-eqb}, Slice.Eq.{starts_is}}}
use Rattle.shop_base.specs.{Plan.order, Cell.entries}
use Rattle.cell_tables.proofs.KeptSoFar.{take_front}
use Rattle.cell_tables.proofs.keeping.entries_keep.Goals as goal

pub returns : goal.returns
returns g c =
    let front = take c.entered-count.result c.order_of.result.now in
    let whole = c.other_order.result.now in
    let is = starts_is (λ a b. Decides-eqb a b) whole front c.starts_with.result c.starts_with.ensures.value in
    let same : front ≡ entries c.args.cell.now.cell c.args.machine = ap (take c.entered-count.result) c.order_of.ensures ∙ ap (λ n. take n (order c.args.cell.now.plan c.args.machine)) c.entered-count.ensures.count
    ∙ take_front _ _ (c.shaped-plan.ensures.sound.in_order c.args.machine) in
    rw (← same, ← c.other_order.ensures) ((λ yes. (drop (length front) whole, is.0 yes)), (λ found. is.1 found.0 found.1))
