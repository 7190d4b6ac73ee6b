use Rattle.std.proofs.Common.{List, drop, subst, arith}
use Rattle.std.proofs.lemmas.Grind.{common_steps}
use Rattle.shop_base.specs.Plan.{machines}
use Rattle.cell_tables.specs.declared.entry.Entry.{Entry}
use Rattle.run_gantt.specs.FirstMoments.{AreCleaningEnds}
use Rattle.run_gantt.specs.DrawnVisits.{cleaning_in}
use Rattle.run_gantt.proofs.FirstEntries.{entry_first}
use Rattle.run_gantt.proofs.Leavings.{none_noted}
use Rattle.run_gantt.proofs.drawn_log.drawn_visits.Goals as goal

pub loop-place-init : goal.loop-place-init
loop-place-init c = record {
  within = grind (arith, common_steps);
  ends = grind (arith, common_steps);
  cleanings = none_noted cleaning_in _ (machines c.args.shaped.now) c.in_ok-cleanings.cleanings.items c.args.entries.now c.machine_count.ensures.count c.in_ok-cleanings.ensures;
  visits = grind (arith, common_steps);
}

pub loop-place-preserved : goal.loop-place-preserved
loop-place-preserved c =
    let place = c.loop-place.place in
    let entries = c.args.entries.now in
    let noted = c.note_cleaning_end.ensures (machines c.args.shaped.now) (drop place entries) c.loop-place.invariant.cleanings in
    record {
      within = grind (arith, common_steps);
      ends = grind (arith, common_steps);
      cleanings = subst (λ (l : List Entry). AreCleaningEnds (machines c.args.shaped.now) c.note_cleaning_end.new.ends.items l)
          (entry_first entries place _ (omega arith) c.loop-place.invariant.within) noted;
      visits = grind (arith, common_steps);
    }

pub returns : goal.returns
returns c = grind (arith, common_steps)
