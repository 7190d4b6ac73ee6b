use Rattle.std.proofs.Common.{◌≡◌, ◌≤◌, [], ◌++◌, length, take, drop, Some, IfSome, Err, false, sym, ap, ◌∙◌, subst, arith, take-append-drop, append-nil}
use Rattle.std.proofs.{KnownBytes.append_known-moved, lemmas.List.take_all}
use Rattle.std.specs.{Io.KnownBytes.{Appends, Keeps, append_known}, Vec.vec_capacity}
use Rattle.run_journal.specs.{LogFiles.Leaves, Selecting.Gets, Logged.{Held, fault_if}}
use Rattle.run_journal.proofs.Steps.{not_kept, not_shown, shown, all_pending, on_log_fault, on_output_fault}
use Rattle.run_journal.proofs.logged.Logged.flush_all.Goals as goal

pub select-requires-clause-room : goal.select-requires-clause-room
select-requires-clause-room g c = omega (arith, c.clear.ensures.len, c.clear.ensures.capacity, ap length c.deref.ensures.value, c.self.invariant.0.few, c.self.invariant.0.events_room)

pub invariant_of-self-in-Err-Log : goal.invariant_of-self-in-Err-Log
invariant_of-self-in-Err-Log g c =
    let log_now = c.keep_and_pass_on.new.log in
    let unfailed : c.self.inside.failed ≡ false = ap (λ (v : Held). v.failed) c.self.view_is ∙ c.requires.unfailed in
    let gets = subst (λ b. Gets c.self.inside.front.items b c.select.new.front.items [] c.select.new.events.items) c.deref.ensures.value (subst (λ e. Gets c.self.inside.front.items c.deref.result.now c.select.new.front.items e c.select.new.events.items) c.clear.ensures.items c.select.ensures.gets) in
    let failed = on_log_fault _ _ c.in-Err-Log.field-0-is c.in-Err-Log.ensures.log_fault in
    let first = on_log_fault _ _ c.in-Err-Log.field-0-is c.in-Err-Log.ensures.first in
    rw (first.0, first.1) (
      not_kept _ _ _ _ _ _ _ _ _ _ _ c.self.invariant.0 unfailed c.select.new.events.items (g.D.LogFile.seen log_now) (g.D.LogFile.crash_states log_now) c.select.new.front.items (vec_capacity c.select.new.events) (vec_capacity c.select.new.front)
          (omega (arith, c.clear.ensures.capacity, c.select.ensures.capacity)) c.select.ensures.front_capacity gets c.select.ensures.few
          (subst (λ b. IfSome (g.D.LogFile.seen c.self.inside.log) (λ file. Leaves (g.D.LogFile.crash_states log_now) (length file) (file ++ b))) c.deref-2.ensures.value c.keep_and_pass_on.ensures.crash),
      c.self.invariant.1,
      record { known = failed; none = λ no. absurd (cc no); output = λ yes no. absurd (cc no) },
    )

pub invariant_of-self-in-Err-Output : goal.invariant_of-self-in-Err-Output
invariant_of-self-in-Err-Output g c =
    let out = c.keep_and_pass_on.new.sent in
    let seen = g.D.LogFile.seen c.self.inside.log in
    let seen_now = g.D.LogFile.seen c.keep_and_pass_on.new.log in
    let written = g.W.Sink.written c.self.inside.output in
    let written_now = g.W.Sink.written c.keep_and_pass_on.new.output in
    let is = c.in-Err-Output.field-0-is in
    let had = c.in-Err-Output.ensures in
    let unfailed : c.self.inside.failed ≡ false = ap (λ (v : Held). v.failed) c.self.view_is ∙ c.requires.unfailed in
    let gets = subst (λ b. Gets c.self.inside.front.items b c.select.new.front.items [] c.select.new.events.items) c.deref.ensures.value (subst (λ e. Gets c.self.inside.front.items c.deref.result.now c.select.new.front.items e c.select.new.events.items) c.clear.ensures.items c.select.ensures.gets) in (
      not_shown _ _ _ _ _ _ _ _ _ _ _ c.self.invariant.0 unfailed c.select.new.events.items seen_now (g.D.LogFile.crash_states c.keep_and_pass_on.new.log) c.select.new.front.items (vec_capacity c.select.new.events) (vec_capacity c.select.new.front)
          (omega (arith, c.clear.ensures.capacity, c.select.ensures.capacity)) c.select.ensures.front_capacity gets c.select.ensures.few
          (subst (λ b. IfSome seen (λ file. seen_now ≡ Some (file ++ b))) c.deref-2.ensures.value (on_output_fault _ _ is had.kept)) (on_output_fault _ _ is had.durable)
          written_now out (subst (λ b. out ≤ length b) c.deref-3.ensures.value (on_output_fault _ _ is had.within)) (subst (λ b. Appends written written_now (take out b)) c.deref-3.ensures.value (on_output_fault _ _ is had.written)),
      (on_output_fault _ _ is had.shown),
      record { known = on_output_fault _ _ is had.unfailed ∙ sym (ap fault_if (c.self.invariant.2.none unfailed)); none = λ no. absurd (cc no); output = λ yes no. had.output_failed (ap Err is) },
    )

pub returns-in-Err-Output-clause-written : goal.returns-in-Err-Output-clause-written
returns-in-Err-Output-clause-written g c =
    let buffered = c.self.inside.buffered.items in
    let out = c.keep_and_pass_on.new.sent in
    let written = g.W.Sink.written c.self.inside.output in
    let written_now = g.W.Sink.written c.keep_and_pass_on.new.output in
    let unfailed : c.self.inside.failed ≡ false = ap (λ (v : Held). v.failed) c.self.view_is ∙ c.requires.unfailed in
    let added = subst (λ b. Appends written written_now (take out b)) c.deref-3.ensures.value (on_output_fault _ _ c.in-Err-Output.field-0-is c.in-Err-Output.ensures.written) in
    let split = all_pending _ _ _ _ _ _ _ _ _ _ _ c.self.invariant.0 unfailed ∙ sym (take-append-drop out buffered) in
    subst (λ (v : Held). Keeps (append_known v.written v.pending) (append_known written_now (drop out buffered))) c.self.view_is
    (append_known-moved written written_now (take out buffered) (drop out buffered) (drop c.self.inside.sent buffered) added split)

pub invariant_of-self : goal.invariant_of-self
invariant_of-self g c =
    let out = c.keep_and_pass_on.new.sent in
    let now = c.clear-in-Ok.new.self in
    let seen = g.D.LogFile.seen c.self.inside.log in
    let seen_now = g.D.LogFile.seen c.keep_and_pass_on.new.log in
    let written = g.W.Sink.written c.self.inside.output in
    let written_now = g.W.Sink.written c.keep_and_pass_on.new.output in
    let kept = c.in-Ok.ensures in
    let unfailed : c.self.inside.failed ≡ false = ap (λ (v : Held). v.failed) c.self.view_is ∙ c.requires.unfailed in
    let gets = subst (λ b. Gets c.self.inside.front.items b c.select.new.front.items [] c.select.new.events.items) c.deref.ensures.value (subst (λ e. Gets c.self.inside.front.items c.deref.result.now c.select.new.front.items e c.select.new.events.items) c.clear.ensures.items c.select.ensures.gets) in (
      shown _ _ _ _ _ _ _ _ _ _ _ c.self.invariant.0 unfailed c.select.new.events.items seen_now (g.D.LogFile.crash_states c.keep_and_pass_on.new.log) c.select.new.front.items (vec_capacity c.select.new.events) (vec_capacity c.select.new.front)
          (omega (arith, c.clear.ensures.capacity, c.select.ensures.capacity)) c.select.ensures.front_capacity gets c.select.ensures.few
          (subst (λ b. IfSome seen (λ file. seen_now ≡ Some (file ++ b))) c.deref-2.ensures.value kept.kept) kept.durable
          written_now out now.items (vec_capacity now) (subst (λ b. out ≡ length b) c.deref-3.ensures.value kept.all)
          (subst (λ b. Appends written written_now (take out b)) c.deref-3.ensures.value kept.written) c.clear-in-Ok.ensures.items (omega (arith, c.clear-in-Ok.ensures.capacity)),
      kept.shown,
      record {
        known = kept.unfailed ∙ sym (ap fault_if (c.self.invariant.2.none unfailed));
        none = λ yes. c.self.invariant.2.none unfailed;
        output = λ no. absurd (cc no);
      },
    )

pub returns-in-Ok-clause-written : goal.returns-in-Ok-clause-written
returns-in-Ok-clause-written g c =
    let buffered = c.self.inside.buffered.items in
    let out = c.keep_and_pass_on.new.sent in
    let now = c.clear-in-Ok.new.self.items in
    let written = g.W.Sink.written c.self.inside.output in
    let written_now = g.W.Sink.written c.keep_and_pass_on.new.output in
    let unfailed : c.self.inside.failed ≡ false = ap (λ (v : Held). v.failed) c.self.view_is ∙ c.requires.unfailed in
    let added = subst (λ b. Appends written written_now (take out b)) c.deref-3.ensures.value c.in-Ok.ensures.written in
    let all = subst (λ b. out ≡ length b) c.deref-3.ensures.value c.in-Ok.ensures.all in
    let whole : take out buffered ≡ buffered = take_all out buffered (omega (arith, all)) in
    let split : drop c.self.inside.sent buffered ≡ take out buffered ++ now =
    all_pending _ _ _ _ _ _ _ _ _ _ _ c.self.invariant.0 unfailed ∙ sym whole ∙ sym (append-nil (take out buffered)) ∙ ap (λ l. take out buffered ++ l) (sym c.clear-in-Ok.ensures.items) in
    subst (λ (v : Held). Keeps (append_known v.written v.pending) (append_known written_now now)) c.self.view_is
    (append_known-moved written written_now (take out buffered) now (drop c.self.inside.sent buffered) added split)
