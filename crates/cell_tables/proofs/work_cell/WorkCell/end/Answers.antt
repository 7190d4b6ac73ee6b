use Rattle.std.proofs.Common.{subst}
use Rattle.shop_base.specs.declared.report.Report.{Report}
use Rattle.shop_base.specs.Report.{CanReport}
use Rattle.shop_base.specs.declared.report.Report.TheVariants.{Arrive, Finish, Clean}
use Rattle.cell_tables.proofs.Values.{ended_value}
use Rattle.cell_tables.proofs.work_cell.WorkCell.end.Goals as goal

pub invariant_of-self : goal.invariant_of-self
invariant_of-self g c =
    let v = c.args.self.now in
    let r : Report = Arrive c.in-Arrive.job c.in-Arrive.at in
    (ended_value c.self.inside.basis (g.P.Planned.planned c.self.inside.basis) c.self.inside.tables c.note_ready.new.self v r c.self.view_is c.self.invariant
    (subst (CanReport v.plan v.cell) c.in-Arrive.is c.requires.possible) c.note_ready.ensures).0

pub returns-in-Arrive : goal.returns-in-Arrive
returns-in-Arrive g c =
    let v = c.args.self.now in
    let r : Report = Arrive c.in-Arrive.job c.in-Arrive.at in
    rw c.in-Arrive.is
    (ended_value c.self.inside.basis (g.P.Planned.planned c.self.inside.basis) c.self.inside.tables c.note_ready.new.self v r c.self.view_is c.self.invariant
    (subst (CanReport v.plan v.cell) c.in-Arrive.is c.requires.possible) c.note_ready.ensures).1

pub invariant_of-self-in-Finish : goal.invariant_of-self-in-Finish
invariant_of-self-in-Finish g c =
    let v = c.args.self.now in
    let r : Report = Finish c.in-Finish.job c.in-Finish.machine c.in-Finish.at in
    (ended_value c.self.inside.basis (g.P.Planned.planned c.self.inside.basis) c.self.inside.tables c.note_ready-in-Finish.new.self v r c.self.view_is c.self.invariant
    (subst (CanReport v.plan v.cell) c.in-Finish.is c.requires.possible) c.note_ready-in-Finish.ensures).0

pub returns-in-Finish : goal.returns-in-Finish
returns-in-Finish g c =
    let v = c.args.self.now in
    let r : Report = Finish c.in-Finish.job c.in-Finish.machine c.in-Finish.at in
    rw c.in-Finish.is
    (ended_value c.self.inside.basis (g.P.Planned.planned c.self.inside.basis) c.self.inside.tables c.note_ready-in-Finish.new.self v r c.self.view_is c.self.invariant
    (subst (CanReport v.plan v.cell) c.in-Finish.is c.requires.possible) c.note_ready-in-Finish.ensures).1

pub invariant_of-self-in-Clean : goal.invariant_of-self-in-Clean
invariant_of-self-in-Clean g c =
    let v = c.args.self.now in
    let r : Report = Clean c.in-Clean.machine c.in-Clean.at in
    (ended_value c.self.inside.basis (g.P.Planned.planned c.self.inside.basis) c.self.inside.tables c.put_cleaning.new.self v r c.self.view_is c.self.invariant
    (subst (CanReport v.plan v.cell) c.in-Clean.is c.requires.possible) c.put_cleaning.ensures).0

pub returns-in-Clean : goal.returns-in-Clean
returns-in-Clean g c =
    let v = c.args.self.now in
    let r : Report = Clean c.in-Clean.machine c.in-Clean.at in
    rw c.in-Clean.is
    (ended_value c.self.inside.basis (g.P.Planned.planned c.self.inside.basis) c.self.inside.tables c.put_cleaning.new.self v r c.self.view_is c.self.invariant
    (subst (CanReport v.plan v.cell) c.in-Clean.is c.requires.possible) c.put_cleaning.ensures).1
