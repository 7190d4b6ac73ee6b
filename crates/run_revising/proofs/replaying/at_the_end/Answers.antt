use Rattle.std.proofs.Common.{refl, sym, subst, ◌∙◌}
use Rattle.shop_base.specs.{Cell.Cell, Report.IsNextMoment}
use Rattle.cell_tables.specs.Events.{events_of}
use Rattle.run_revising.proofs.Replays.{can_be_present, ends_there, next_happens, next_leads}
use Rattle.run_revising.proofs.replaying.at_the_end.Goals as goal

pub loop-entry-init : goal.loop-entry-init
loop-entry-init c = record {
  basis = refl;
  plan = refl;
  left = rw c.requires.begun c.requires.run;
  ends = rw c.requires.begun refl;
}

pub follow_entry-requires : goal.follow_entry-requires
follow_entry-requires c =
    rw c.loop-entry.invariant.plan (next_happens c.args.entries.now c.loop-entry.entry-index _ c.loop-entry-test.true
    c.args.begun.plan c.loop-entry.cell.cell c.loop-entry.invariant.left).0

pub loop-entry-preserved : goal.loop-entry-preserved
loop-entry-preserved c =
    let so_far = c.loop-entry.invariant in
    rw c.follow_entry.ensures (record {
      basis = so_far.basis;
      plan = so_far.plan;
      left = rw so_far.plan (next_happens c.args.entries.now c.loop-entry.entry-index _ c.loop-entry-test.true c.args.begun.plan c.loop-entry.cell.cell so_far.left).1;
      ends = rw so_far.plan (next_leads c.args.entries.now c.loop-entry.entry-index _ c.loop-entry-test.true c.args.begun.plan c.loop-entry.cell.cell _ so_far.ends);
    })

pub at-requires : goal.at-requires
at-requires c = record {
  events = events_of c.args.entries.now;
  run = rw c.loop-entry.invariant.plan c.requires.run;
  ends = rw c.loop-entry.invariant.plan (sym (ends_there c.args.entries.now c.loop-entry.entry-index c.args.begun.plan c.loop-entry.cell.cell _ c.loop-entry-test.false c.loop-entry.invariant.ends));
}

pub unreachable-requires : goal.unreachable-requires
unreachable-requires c =
    let at_end = ends_there c.args.entries.now c.loop-entry.entry-index c.args.begun.plan c.loop-entry.cell.cell _ c.loop-entry-test.false c.loop-entry.invariant.ends in
    can_be_present c.loop-entry.cell.cell c.args.present c.in-Err.field-0.0 (subst (λ (end : Cell). IsNextMoment end c.args.present) (sym at_end) c.requires.moment) c.in-Err.ensures.fault

pub returns : goal.returns
returns c =
    let at_end = ends_there c.args.entries.now c.loop-entry.entry-index c.args.begun.plan c.loop-entry.cell.cell _ c.loop-entry-test.false c.loop-entry.invariant.ends in
    c.in-Ok.ensures.rest ∙ rw (c.loop-entry.invariant.basis, c.loop-entry.invariant.plan, at_end) refl
