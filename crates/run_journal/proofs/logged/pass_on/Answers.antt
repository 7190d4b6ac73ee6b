use Rattle.std.proofs.Common.{inr, ℕ, List, ◌++◌, length, take, length-drop, sym, ap, ◌∙◌, subst, arith}
use Rattle.std.proofs.{KnownBytes.{Appends-nil, Appends-trans, Appends-kept}, Math.Seq.take-add, lemmas.List.take_rest}
use Rattle.std.specs.Io.KnownBytes.{Appends}
use Rattle.run_journal.proofs.Fronts.{quiet}
use Rattle.run_journal.proofs.logged.pass_on.Goals as goal

pub loop-sent-init : goal.loop-sent-init
loop-sent-init g c =
    let written = g.W.Sink.written c.args.output.now in
    record {
      within = omega (arith, c.requires);
      written = subst (λ (n : ℕ). Appends written written (take n c.args.bytes.now)) (sym c.requires) (Appends-nil written);
    }

pub returns-in_err-sent-clause-written : goal.returns-in_err-sent-clause-written
returns-in_err-sent-clause-written g c = Appends-kept _ _ _ _ c.loop-sent.invariant.written c.in_err-sent.ensures.written

pub loop-sent-preserved : goal.loop-sent-preserved
loop-sent-preserved g c =
    let bytes = c.args.bytes.now in
    let sent = c.loop-sent.sent in
    let count = c.in_ok-sent.field-0 in
    let rest = take_rest bytes sent in
    let both = ap (λ (l : List ℕ). take sent bytes ++ take count l) rest ∙ sym (take-add sent count bytes) in
    record {
      within = omega (arith, c.in_ok-sent.ensures.count.1, ap length rest, length-drop sent bytes, c.loop-sent.invariant.within);
      written = subst (Appends (g.W.Sink.written c.args.output.now) (g.W.Sink.written c.put.new.self)) both (Appends-trans _ _ _ _ _ c.loop-sent.invariant.written c.in_ok-sent.ensures.written);
    }

pub returns-clause-written : goal.returns-clause-written
returns-clause-written g c = Appends-kept _ _ _ _ c.loop-sent.invariant.written c.flush.ensures.written

pub returns-in_err-sent-clause-shown : goal.returns-in_err-sent-clause-shown
returns-in_err-sent-clause-shown g c = inr c.in_err-sent.ensures.failed

pub returns-clause-shown : goal.returns-clause-shown
returns-clause-shown g c = quiet c.flush.result _ _ c.flush.ensures.shown c.flush.ensures.failed
