use Rattle.std.proofs.Common.{refl, sym, subst}
use Rattle.cell_drive.specs.{ManyCells.AreAllDone, Numbers.planned_cell, Tickets.cells_of}
use Rattle.cell_drive.proofs.{Closing.{next_done, one_more_done}, SeatedCells.{found_there, has_there, none_past}}
use Rattle.cell_drive.proofs.hub.all_done.Goals as goal

pub returns-then-not-is_done : goal.returns-then-not-is_done
returns-then-not-is_done g c =
    let k = c.loop-cell.cell in
    let cells = cells_of c.args.hub.now c.args.tickets.now in
    let v = c.controller_of.result.now in
    let there = found_there c.args.hub.now c.args.tickets.now k _ v c.requires.seated c.loop-cell-test.true c.controller_of.ensures in (
      (λ wrong. absurd (cc)),
      λ all. c.if-not-is_done.ensures.1 (next_done cells k (planned_cell v) there (c.loop-cell.invariant.0 all)).0,
    )

pub loop-cell-preserved : goal.loop-cell-preserved
loop-cell-preserved g c =
    let k = c.loop-cell.cell in
    let cells = cells_of c.args.hub.now c.args.tickets.now in
    let v = c.controller_of.result.now in
    let there = found_there c.args.hub.now c.args.tickets.now k _ v c.requires.seated c.loop-cell-test.true c.controller_of.ensures in (
      (λ all. (next_done cells k (planned_cell v) there (c.loop-cell.invariant.0 all)).1),
      λ rest. c.loop-cell.invariant.1 (one_more_done cells k (planned_cell v) there (c.if-not-is_done.ensures.0 refl) rest),
    )

pub controller_of-requires : goal.controller_of-requires
controller_of-requires g c = has_there c.args.hub.now c.args.tickets.now c.loop-cell.cell _ c.requires.seated c.loop-cell-test.true

pub returns : goal.returns
returns g c = (
  (λ yes_all. c.loop-cell.invariant.1 (subst AreAllDone (sym (none_past c.args.hub.now c.args.tickets.now c.loop-cell.cell c.requires.seated c.loop-cell-test.false)) tt)),
  λ all. refl,
)
