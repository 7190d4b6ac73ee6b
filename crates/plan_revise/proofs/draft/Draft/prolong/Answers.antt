use Rattle.std.proofs.Common.{◌≡◌, ◌-◌, arith}
use Rattle.plan_revise.proofs.Written.{work_at}
use Rattle.plan_revise.proofs.draft.Draft.prolong.Goals as goal

pub returns-then-machine-plant-clause-refused : goal.returns-then-machine-plant-clause-refused
returns-then-machine-plant-clause-refused g c = omega (arith, c.plant.ensures.plant)

pub returns-in_default-clause-refused : goal.returns-in_default-clause-refused
returns-in_default-clause-refused g c = (omega (arith, c.plant.ensures.plant), c.in_default.ensures.worker)

pub returns-then-to-present-clause-refused : goal.returns-then-to-present-clause-refused
returns-then-to-present-clause-refused g c =
    let work = c.in-Some.ensures.worker in
    (omega (arith, c.plant.ensures.plant), c.in-Some.job, work.0, work.1, omega (arith, c.present.ensures.present))

pub returns-then-time-gt-MAX_NOMINAL-clause-refused : goal.returns-then-time-gt-MAX_NOMINAL-clause-refused
returns-then-time-gt-MAX_NOMINAL-clause-refused g c =
    let work = c.in-Some.ensures.worker in
    (omega (arith, c.plant.ensures.plant), c.in-Some.job, work.0, work.1, omega (arith, c.present.ensures.present), omega (arith, c.entry_of.ensures.since))

pub returns-clause-made : goal.returns-clause-made
returns-clause-made g c =
    let work = c.in-Some.ensures.worker in
    let place : c.moves_made.result - 1 ≡ work.0 = omega (arith, c.moves_made.ensures.count, work_at c.args.run.now c.in-Some.job work.0 c.args.machine work.1) in
    record {
      in_plant = omega (arith, c.plant.ensures.plant);
      job = c.in-Some.job;
      step = work.0;
      at_work = work.1;
      not_past = omega (arith, c.present.ensures.present);
      short = omega (arith, c.entry_of.ensures.since);
      is = rw (place, c.entry_of.ensures.since) at c.last_for.ensures;
    }
