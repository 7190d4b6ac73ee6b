use Rattle.std.proofs.Common.{◌≡◌, ◌≤◌, false, ◌++◌, length, take, drop, sym, ap, ◌∙◌, subst, arith, rules, length-append}
use Rattle.std.proofs.{KnownBytes.{Keeps-refl, append_known-grown}, lemmas.List.{length-take, drop-append-le}}
use Rattle.std.specs.{Vec.vec_capacity, Io.KnownBytes.{Keeps, append_known}}
use Rattle.run_journal.specs.Logged.{Held}
use Rattle.run_journal.proofs.Steps.{gathers}
use Rattle.run_journal.proofs.logged.LoggedSink.put.Goals.{then-is_flushed_first+in_ok-flush, else-is_flushed_first}
use Rattle.run_journal.proofs.logged.LoggedSink.put.Goals as goal

pub invariant_of-self : goal.invariant_of-self
invariant_of-self g c =
    let more = take c.min-count.result c.args.bytes.now in
    let now = c.extend_from_slice.new.self.items in
    let buffered = c.self-2.inside.buffered.items in
    let is : now ≡ buffered ++ more = search rules in
    let few : length now ≤ 81920 = omega (arith, ap length is, length-append buffered more, length-take c.min-count.result c.args.bytes.now, c.min-count.ensures, c.len-2.ensures, c.self-2.inside.buffered.ok.0, c.self-2.invariant.0.few) in
    let at_first : c.args.self.now.failed ≡ false = sym (ap (λ (v : Held). v.failed) c.self.view_is) ∙ c.if-self.false in
    let with_room : c.if-is_flushed_first.self.failed ≡ false = elim c.if-is_flushed_first.branch [
      | then-is_flushed_first+in_ok-flush w ↦ ap (λ (v : Held). v.failed) w.self-is ∙ w.in_ok-flush.ensures.unfailed ∙ at_first
      | else-is_flushed_first w ↦ ap (λ (v : Held). v.failed) w.self-is ∙ at_first
    ] in
    let unfailed : c.self-2.inside.failed ≡ false = ap (λ (v : Held). v.failed) c.self-2.view_is ∙ with_room in
    (gathers _ _ _ _ _ _ _ _ _ _ _ c.self-2.invariant.0 unfailed more now (vec_capacity c.extend_from_slice.new.self) is few c.extend_from_slice.ensures.capacity, c.self-2.invariant.1, c.self-2.invariant.2)

pub returns-clause-written : goal.returns-clause-written
returns-clause-written g c =
    let more = take c.min-count.result c.args.bytes.now in
    let now = c.extend_from_slice.new.self.items in
    let buffered = c.self-2.inside.buffered.items in
    let sent = c.self-2.inside.sent in
    let is : now ≡ buffered ++ more = search rules in
    let grown : drop sent now ≡ drop sent buffered ++ more = ap (λ l. drop sent l) is ∙ drop-append-le sent buffered more c.self-2.invariant.0.within in
    let first = append_known c.args.self.now.written c.args.self.now.pending in
    let with_room : Keeps first (append_known c.if-is_flushed_first.self.written c.if-is_flushed_first.self.pending) = elim c.if-is_flushed_first.branch [
      | then-is_flushed_first+in_ok-flush w ↦ subst (λ (v : Held). Keeps first (append_known v.written v.pending)) (sym w.self-is) w.in_ok-flush.ensures.written
      | else-is_flushed_first w ↦ subst (λ (v : Held). Keeps first (append_known v.written v.pending)) (sym w.self-is) (Keeps-refl first)
    ] in
    let kept = subst (λ (v : Held). Keeps first (append_known v.written v.pending)) (sym c.self-2.view_is) with_room in
    append_known-grown _ _ _ _ _ kept grown
