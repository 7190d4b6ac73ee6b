use Rattle.std.proofs.Common.{arith}
use Rattle.alt_graph.proofs.Latests.{row_inside}
use Rattle.plan_margin.proofs.GreatestLengths.{sources_short, rows_then, below_then, below_skip, all_lengths, all_reached}
use Rattle.plan_margin.proofs.lengths.fill_lengths.Goals.{in-Some, in_default}
use Rattle.plan_margin.proofs.lengths.fill_lengths.Goals as goal

pub length_to-length-requires : goal.length_to-length-requires
length_to-length-requires c = record {
  node = c.requires.order.of_plan c.loop-at.at c.in-Some.node c.in-Some.is;
  rows = c.loop-at.invariant.rows;
  most = c.requires.most;
  short = sources_short _ _ _ c.requires.order _ _ c.loop-at.invariant.rows c.loop-at.at c.loop-at.invariant.below c.in-Some.node c.in-Some.is;
}

pub offset_bounds-lengths-number : goal.offset_bounds-lengths-number
offset_bounds-lengths-number c =
    omega (
      arith,
      c.number.ensures.number,
      row_inside _ _ _ _ c.loop-at.invariant.rows (c.requires.order.of_plan c.loop-at.at c.in-Some.node c.in-Some.is),
      c.requires.rows.size,
      c.loop-at.invariant.rows.size,
      c.requires.rows.numbers.few,
    )

pub bounds-lengths-number : goal.bounds-lengths-number
bounds-lengths-number c =
    omega (arith, c.number.ensures.number, row_inside _ _ _ _ c.loop-at.invariant.rows (c.requires.order.of_plan c.loop-at.at c.in-Some.node c.in-Some.is))

pub loop-at-preserved : goal.loop-at-preserved
loop-at-preserved c = elim c.match-nodes-at.branch [
  | in-Some w ↦ rw (w.lengths-is, w.number.ensures.number) (record {
    rows = rows_then _ _ _ c.requires.order _ _ c.loop-at.invariant.rows c.loop-at.at c.loop-at.invariant.below w.in-Some.node w.in-Some.is w.number.ensures.sound.shaped c.requires.most
        w.length_to-length.result w.length_to-length.ensures;
    below = below_then _ _ _ c.requires.order _ _ c.loop-at.invariant.rows c.loop-at.at c.loop-at.invariant.below w.in-Some.node w.in-Some.is w.number.ensures.sound.shaped c.requires.most
        w.length_to-length.result w.length_to-length.ensures;
  })
  | in_default w ↦ rw w.lengths-is (record {
    rows = c.loop-at.invariant.rows;
    below = below_skip _ _ _ c.requires.order _ _ c.loop-at.invariant.rows c.loop-at.at c.loop-at.invariant.below (λ v is. w.in_default.not-Some v is);
  })
]

pub returns-clause-lengths : goal.returns-clause-lengths
returns-clause-lengths c = all_lengths _ _ _ c.requires.order _ _ c.loop-at.invariant.rows c.loop-at.at c.loop-at.invariant.below (omega (arith, c.loop-at-test.false))

pub returns-clause-reached : goal.returns-clause-reached
returns-clause-reached c = all_reached _ _ _ c.requires.order _ _ c.loop-at.invariant.rows c.loop-at.at c.loop-at.invariant.below (omega (arith, c.loop-at-test.false))
