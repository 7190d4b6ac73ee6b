use Rattle.std.proofs.Common.{◌<◌, subst, arith}
use Rattle.shop_base.specs.Plan.{machines}
use Rattle.cell_tables.specs.Moving.{IsSpotOf}
use Rattle.cell_tables.proofs.MoveParts.{left_cell, left-are_tables}
use Rattle.cell_tables.proofs.tables.Tables.leave.Goals as goal

pub returns-then-clean_of-gt0-clause-left : goal.returns-then-clean_of-gt0-clause-left
returns-then-clean_of-gt0-clause-left c =
    let p = c.args.shaped.now in
    let inside : c.in-At.machine < machines p = subst (IsSpotOf p) c.in-At.is c.requires.source in
    rw c.in-At.is (left_cell p c.args.self.now c.put_cleaning.new.self c.in-At.machine c.args.at c.requires.tables inside (omega arith) c.put_cleaning.ensures)

pub returns-then-clean_of-gt0-clause-tables : goal.returns-then-clean_of-gt0-clause-tables
returns-then-clean_of-gt0-clause-tables c =
    let p = c.args.shaped.now in
    left-are_tables p c.args.self.now c.put_cleaning.new.self c.in-At.machine c.args.at c.requires.tables (subst (IsSpotOf p) c.in-At.is c.requires.source) c.requires.at c.put_cleaning.ensures
