use Rattle.std.proofs.Common.{List, drop, subst, arith}
use Rattle.std.proofs.lemmas.Grind.{common_steps}
use Rattle.shop_base.specs.Plan.{jobs}
use Rattle.cell_tables.specs.declared.entry.Entry.{Entry}
use Rattle.run_gantt.specs.FirstMoments.{AreLeavingsAhead}
use Rattle.run_gantt.specs.LeavingsSoFar.{leaving_in}
use Rattle.run_gantt.proofs.FirstEntries.{entry_first}
use Rattle.run_gantt.proofs.Leavings.{none_noted, all_leavings}
use Rattle.run_gantt.proofs.drawn_log.leavings_so_far.Goals as goal

pub loop-place-init : goal.loop-place-init
loop-place-init c = record {
  within = omega arith;
  leavings = none_noted leaving_in _ (jobs c.args.shaped.now) c.in_ok-leavings.leavings.items c.args.entries.now c.job_count.ensures.count c.in_ok-leavings.ensures;
}

pub loop-place-preserved : goal.loop-place-preserved
loop-place-preserved c =
    let place = c.loop-place.place in
    let entries = c.args.entries.now in
    let noted = c.note_leaving.ensures (jobs c.args.shaped.now) (drop place entries) c.loop-place.invariant.leavings in
    record {
      within = grind (arith, common_steps);
      leavings = subst (λ (l : List Entry). AreLeavingsAhead (jobs c.args.shaped.now) c.note_leaving.new.leavings.items l)
          (entry_first entries place _ (omega arith) c.loop-place.invariant.within) noted;
    }

pub returns : goal.returns
returns c = all_leavings (jobs c.args.shaped.now) c.loop-place.leavings.items c.args.entries.now c.loop-place.place (omega arith) c.loop-place.invariant.leavings
