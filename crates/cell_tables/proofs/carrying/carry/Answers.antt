use Rattle.cell_tables.specs.declared.tables.Tables.{Tables}
use Rattle.cell_tables.proofs.CarriedTables.{carried, carried_are_sound}
use Rattle.cell_tables.proofs.carrying.carry.Goals as goal

pub returns-clause-sound : goal.returns-clause-sound
returns-clause-sound g c =
    let v = c.args.cell.now in
    let t : Tables = record { jobs = c.in_ok-jobs.jobs; machines = c.in_ok-machines.machines; last = c.last.result } in
    carried_are_sound v.plan c.args.shaped.now v.cell t c.shaped-plan.ensures.well_shaped c.job_count.ensures.well_shaped c.shaped-plan.ensures.sound c.requires
    (rw c.job_count.ensures.count at c.in_ok-jobs.ensures) c.in_ok-machines.ensures c.last.ensures

pub returns-clause-carried : goal.returns-clause-carried
returns-clause-carried g c =
    let v = c.args.cell.now in
    let t : Tables = record { jobs = c.in_ok-jobs.jobs; machines = c.in_ok-machines.machines; last = c.last.result } in
    carried v.plan c.args.shaped.now v.cell t c.shaped-plan.ensures.well_shaped c.job_count.ensures.well_shaped c.shaped-plan.ensures.sound c.requires
    (rw c.job_count.ensures.count at c.in_ok-jobs.ensures) c.in_ok-machines.ensures c.last.ensures
