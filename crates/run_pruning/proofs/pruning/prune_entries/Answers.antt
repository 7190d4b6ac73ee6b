use Rattle.std.proofs.Common.{◌+◌, ◌++◌, ◌<◌, length, drop, Vec, Global, List, ap, ◌∙◌, arith}
use Rattle.cell_tables.specs.declared.entry.Entry.{Entry}
use Rattle.cell_tables.specs.Events.{events_of}
use Rattle.run_pruning.specs.PrunedEvents.{pruned_events}
use Rattle.run_pruning.specs.PruningLaw.{pruned_run}
use Rattle.run_pruning.proofs.Walks.{pruned_more, pruned_without}
use Rattle.run_pruning.proofs.pruning.prune_entries.Goals.{in-Some+in_ok-push, in_default}
use Rattle.run_pruning.proofs.pruning.prune_entries.Goals as goal

pub loop-entry-preserved : goal.loop-entry-preserved
loop-entry-preserved c =
    let items : Vec Entry Global → List Entry = λ v. v.items in
    let inside : c.loop-entry.entry-index < length c.args.entries.now = omega (arith, c.loop-entry-test.true) in
    elim c.match-kept_entry.branch [
      | in-Some+in_ok-push w ↦ pruned_more c.args.kept.now c.loop-entry.leavers c.pass.new.self c.args.entries.now c.loop-entry.left.items c.match-kept_entry.left.items
          (pruned_run c.args.kept.now c.args.shaped.now (events_of c.args.entries.now)) c.loop-entry.entry-index _ w.in-Some.entry inside w.in-Some.ensures.0 w.in-Some.ensures.1
          (ap items w.left-is ∙ w.in_ok-push.ensures.items) c.pass.ensures c.loop-entry.invariant
      | in_default w ↦ ap (λ xs. events_of xs ++ pruned_events c.args.kept.now c.pass.new.self (events_of (drop (c.loop-entry.entry-index + 1) c.args.entries.now))) (ap items w.left-is)
          ∙ pruned_without c.args.kept.now c.loop-entry.leavers c.pass.new.self c.args.entries.now c.loop-entry.left.items
          (pruned_run c.args.kept.now c.args.shaped.now (events_of c.args.entries.now)) c.loop-entry.entry-index _ inside w.in_default.ensures c.pass.ensures c.loop-entry.invariant
    ]
