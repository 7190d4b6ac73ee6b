use Rattle.std.proofs.Common.{◌≡◌, ℕ, ◌+◌, ◌-◌, List, length, drop, sym, ap, ◌∙◌, subst, arith}
use Rattle.byte_streams.specs.Lent.{WroteTo}
use Rattle.cell_drive.specs.PlainLines.{plain_lines}
use Rattle.cell_drive.proofs.V1Replay.{plain_before, none_plain}
use Rattle.cell_drive.proofs.v1_replay.put_few.Goals as goal

pub places-init : goal.places-init
places-init g c =
    let entries = c.args.entries.now in
    record {
      written = c.empty-lines.ensures ∙ sym (none_plain entries (drop (length entries) c.args.late.now));
      within = omega arith;
      room = omega (arith, c.requires.few, ap length c.empty-lines.ensures);
    }

pub places-preserved : goal.places-preserved
places-preserved g c =
    let entries = c.args.entries.now in
    let late = c.args.late.now in
    let so_far = c.places.invariant in
    let i = c.places.place - 1 in
    let back : c.places.place ≡ i + 1 = omega (arith, c.places-test.true) in
    record {
      written = plain_before entries late i c.places.place _ _ _ _ c.put_plain_line.ensures.written so_far.written back (omega (arith, so_far.within, back)) c.requires.same;
      within = omega (arith, so_far.within);
      room = omega (arith, so_far.room, c.put_plain_line.ensures.length, back);
    }

pub returns-clause-wrote : goal.returns-clause-wrote
returns-clause-wrote g c =
    let entries = c.args.entries.now in
    let late = c.args.late.now in
    let none : c.places.place ≡ 0 = omega (arith, c.places-test.false) in
    let all = c.bytes.ensures ∙ c.places.invariant.written ∙ ap (λ (n : ℕ). plain_lines (drop n entries) (drop n late)) none in
    subst (λ (text : List ℕ). WroteTo g.W.Sink c.put_all.result c.args.writer.now c.put_all.new.writer text) all c.put_all.ensures.wrote
