use Rattle.std.proofs.Common.{sym, subst}
use Rattle.cell_tables.specs.Events.{events_of}
use Rattle.run_pruning.specs.PruningLaw.{IsChoice}
use Rattle.run_pruning.proofs.WhatIsLeft.{left_over}
use Rattle.run_pruning.proofs.what_is_left.left_run.Goals as goal

pub prune-requires : goal.prune-requires
prune-requires g c =
    subst (λ p. IsChoice p c.in_ok-kept.kept) (sym c.shaped.ensures.plan)
    (left_over c.args.cell.now.plan c.args.cell.now.cell (events_of c.args.entries.now) c.in_ok-kept.kept c.shaped.ensures.well_shaped c.requires.run c.requires.ends c.in_ok-kept.ensures).choice

pub returns-clause-is_left : goal.returns-clause-is_left
returns-clause-is_left g c =
    left_over c.args.cell.now.plan c.args.cell.now.cell (events_of c.args.entries.now) c.in_ok-kept.kept c.shaped.ensures.well_shaped c.requires.run c.requires.ends c.in_ok-kept.ensures
