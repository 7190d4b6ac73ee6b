use Rattle.std.proofs.Common.{sym, subst, ap, ◌∙◌, arith}
use Rattle.shop_base.specs.Cell.{Cell}
use Rattle.shop_base.specs.Run.{CanHappen, after}
use Rattle.cell_tables.specs.Events.{event_of}
use Rattle.run_log.specs.Audits.{IsReplayed}
use Rattle.run_log.proofs.Audits.{run-more, ends-more, run-room}
use Rattle.run_log.proofs.logged_run.LoggedRun.take_line.Goals as goal

pub push_reserved-requires : goal.push_reserved-requires
push_reserved-requires g c =
    let run = c.args.self.now in
    let recorded = run.entries.items in
    let can = subst (λ (x : Cell). CanHappen run.cell.plan x (event_of c.in-Some.entry)) c.requires.replayed.cell c.in_ok-check_entry.ensures.possible in
    let room = c.requires.room (run-room run.cell.plan recorded c.in-Some.entry c.shaped.ensures.well_shaped c.requires.replayed.run can) in
    omega (arith, room, run.entries.ok.0)

pub returns-clause-replayed : goal.returns-clause-replayed
returns-clause-replayed g c =
    let p = c.args.self.now.cell.plan in
    let recorded = c.args.self.now.entries.items in
    let can = subst (λ (x : Cell). CanHappen p x (event_of c.in-Some.entry)) c.requires.replayed.cell c.in_ok-check_entry.ensures.possible in
    subst (IsReplayed p c.follow_entry.new.cell.cell) (sym c.push_reserved.ensures.items)
    (record {
      run = run-more p recorded c.in-Some.entry c.requires.replayed.run can;
      cell = ap (λ v. v.cell) c.follow_entry.ensures ∙ ap (λ (x : Cell). after p x (event_of c.in-Some.entry)) c.requires.replayed.cell ∙ sym (ends-more p recorded c.in-Some.entry);
    })
