use Rattle.std.proofs.Common.{◌<◌, [], get_or, below_more, refl, sym, arith, ◌∙◌}
use Rattle.std.proofs.lemmas.List.{length-map}
use Rattle.shop_base.specs.{Plan.machines, Cell.entries, Move.IsPrefix, Vectors.lists_of}
use Rattle.cell_tables.proofs.Copies.{fronts}
use Rattle.cell_tables.proofs.rest_reordering.begin.Goals as goal

pub returns-then-not-begins : goal.returns-then-not-begins
returns-then-not-begins c =
    let m = c.loop-machine.machine in
    let inside : m < machines c.args.cell.now.plan = omega (arith, c.loop-machine-test.true, c.machine_count-machine-end.ensures.count) in
    let same = fronts c.args.cell.now.cell c.args.new.now c.index-new-machine.result c.order_of.result.now c.deref.result.now m c.entered.result
    (omega (arith, inside, c.if-new-machine_count.false, c.machine_count.ensures.count)) c.index-new-machine.is c.deref.ensures.value c.entered.ensures.count
    (rw c.order_of.ensures (c.shaped-plan.ensures.sound.in_order m)) in
    (λ bad. absurd (cc bad), λ begin. sym c.if-not-begins.true ∙ c.begins.ensures.1 (same.1 (begin.1 m inside)))

pub loop-machine-preserved : goal.loop-machine-preserved
loop-machine-preserved c =
    let m = c.loop-machine.machine in
    let inside : m < machines c.args.cell.now.plan = omega (arith, c.loop-machine-test.true, c.machine_count-machine-end.ensures.count) in
    let same = fronts c.args.cell.now.cell c.args.new.now c.index-new-machine.result c.order_of.result.now c.deref.result.now m c.entered.result
    (omega (arith, inside, c.if-new-machine_count.false, c.machine_count.ensures.count)) c.index-new-machine.is c.deref.ensures.value c.entered.ensures.count
    (rw c.order_of.ensures (c.shaped-plan.ensures.sound.in_order m)) in
    below_more (λ j. IsPrefix (entries c.args.cell.now.cell j) (get_or (lists_of c.args.new.now) j [])) m c.loop-machine.invariant (same.0 (c.begins.ensures.0 c.if-not-begins.false))

pub returns : goal.returns
returns c = (
  λ yes. (
    omega (arith, c.if-new-machine_count.false, c.machine_count.ensures.count, length-map c.args.new.now (λ v. v.items)),
    λ m lt. c.loop-machine.invariant m (omega (arith, lt, c.loop-machine-test.false, c.machine_count-machine-end.ensures.count)),
  ),
  λ begin. refl,
)
