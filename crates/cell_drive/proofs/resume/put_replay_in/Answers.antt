use Rattle.std.proofs.Common.{◌≡◌, ℕ, Bool, List, length, take, sym, ap, ◌∙◌, subst, arith}
use Rattle.byte_streams.specs.Lent.{WroteTo}
use Rattle.shop_base.specs.{Plan.PlannedShop, Cell.{Cell, start}, Run.AreEvents}
use Rattle.cell_tables.specs.{declared.entry.Entry.Entry, Events.events_of, Tables.cell_of}
use Rattle.cell_drive.specs.{Replay.replay_text, Recovered.{Recovered, plan_of, replayed_events, recovered_by}}
use Rattle.cell_drive.specs.PlainLines.{plain_lines}
use Rattle.cell_drive.proofs.ReplayLines.{first_run, plain_replay}
use Rattle.cell_drive.proofs.resume.put_replay_in.Goals as goal

pub put_replay_events-requires-clause-run : goal.put_replay_events-requires-clause-run
put_replay_events-requires-clause-run g c =
    let p : PlannedShop = c.run.inside.controller.planned in
    let q : PlannedShop = c.of_parts-cell.result.plan in
    let shaped_is : plan_of c.args.run.now ≡ c.shaped.result.now = sym (ap plan_of c.run.view_is) ∙ sym c.shaped.ensures.plan in
    let plan_is : q ≡ c.shaped.result.now = ap (λ x. x.plan) c.of_parts-cell.ensures in
    let started : cell_of c.shaped.result.now c.args.start ≡ start c.shaped.result.now = subst (λ (r : PlannedShop). cell_of r c.args.start ≡ start r) shaped_is c.requires.1 in
    let cell_is : c.of_parts-cell.result.cell ≡ start q = ap (λ x. x.cell) c.of_parts-cell.ensures ∙ started ∙ ap start (sym plan_is) in
    subst (λ (x : Cell). AreEvents q x (events_of (take c.len.result c.entries.result.now))) (sym cell_is)
    (first_run p q c.len.result c.run.inside.log.entries c.entries.result.now (plan_is ∙ c.shaped.ensures.plan) c.entries.ensures c.run.invariant.0.kept.replayed.run)

pub returns-else-protocol-clause-wrote : goal.returns-else-protocol-clause-wrote
returns-else-protocol-clause-wrote g c =
    let inside = c.run.inside in
    let recovered = recovered_by inside.controller inside.log inside.late.items in
    let p = plan_of recovered in
    let Wrote = λ (text : List ℕ). WroteTo g.W.Sink c.put_v1_replay.result c.args.writer.now c.put_v1_replay.new.writer text in
    let late = c.deref-else-protocol.result.now in
    let count : c.len.result ≡ length late = omega (arith, c.len.ensures, c.deref-else-protocol.ensures.len) in
    let of_entries = subst (λ (es : List Entry). Wrote (plain_lines (take c.len.result es) late)) c.entries.ensures c.put_v1_replay.ensures.wrote in
    let of_count = subst (λ (n : ℕ). Wrote (plain_lines (take n inside.log.entries) late)) count of_entries in
    let of_late = subst (λ (ls : List Bool). Wrote (plain_lines (take (length ls) inside.log.entries) ls)) c.deref-else-protocol.ensures.value of_count in
    subst (λ (t : Recovered). Wrote (replay_text c.args.protocol t)) c.run.view_is
    (subst Wrote (sym (plain_replay p c.args.protocol (start p) (replayed_events recovered) recovered.late c.if-protocol.false)) of_late)
