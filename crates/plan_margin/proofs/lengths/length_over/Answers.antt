use Rattle.std.proofs.Common.{arith, ap, get_or}
use Rattle.shop_base.proofs.Cycles.{source_node}
use Rattle.alt_graph.proofs.ArcKinds.{arc_short}
use Rattle.alt_graph.proofs.Latests.{row_inside}
use Rattle.plan_margin.proofs.LongerPaths.{longer_most}
use Rattle.plan_margin.proofs.lengths.length_over.Goals as goal

pub number-requires : goal.number-requires
number-requires c = source_node _ _ _ _ c.requires.arc.1

pub offset_bounds-lengths-number : goal.offset_bounds-lengths-number
offset_bounds-lengths-number c =
    omega (arith, c.number.ensures.number, row_inside _ _ _ _ c.requires.rows (source_node _ _ _ _ c.requires.arc.1), c.requires.rows.size, c.requires.rows.numbers.few)

pub bounds-lengths-number : goal.bounds-lengths-number
bounds-lengths-number c = omega (arith, c.number.ensures.number, row_inside _ _ _ _ c.requires.rows (source_node _ _ _ _ c.requires.arc.1))

pub made_longer-requires-clause-time : goal.made_longer-requires-clause-time
made_longer-requires-clause-time c = arc_short _ _ _ _ c.number.ensures.sound.shaped c.requires.arc.1

pub overflow_add-result : goal.overflow_add-result
overflow_add-result c =
    omega (
      arith,
      c.requires.short,
      ap (λ i. get_or c.args.lengths.now i 0) c.number.ensures.number,
      c.made_longer.ensures,
      longer_most c.args.thousandths c.args.source.length c.requires.most (arc_short _ _ _ _ c.number.ensures.sound.shaped c.requires.arc.1),
    )
