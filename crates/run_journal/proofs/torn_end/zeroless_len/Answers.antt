use Rattle.std.proofs.Common.{◌≡◌, ℕ, ◌+◌, ◌-◌, take, sym, ap, ◌∙◌, arith}
use Rattle.run_journal.{specs.TornEnds.without_zeros, proofs.TornEnds.{unzeroed-take_zero, unzeroed-take_other}}
use Rattle.run_journal.proofs.torn_end.zeroless_len.Goals as goal

pub loop-len-preserved : goal.loop-len-preserved
loop-len-preserved c =
    let bytes = c.args.bytes.now in
    let n = c.loop-len.len - 1 in
    let one_more : n + 1 ≡ c.loop-len.len = omega (arith, c.loop-len-test.true) in
    record {
      within = omega (arith, c.loop-len.invariant.within);
      same = unzeroed-take_zero bytes n (omega (arith, c.loop-len-test.true, c.loop-len.invariant.within)) c.if-bytes-len-eq0.true
          ∙ ap (λ (k : ℕ). without_zeros (take k bytes)) one_more ∙ c.loop-len.invariant.same;
    }

pub returns-else-bytes-len-eq0-clause-zeroless : goal.returns-else-bytes-len-eq0-clause-zeroless
returns-else-bytes-len-eq0-clause-zeroless c =
    let bytes = c.args.bytes.now in
    let n = c.loop-len.len - 1 in
    let one_more : n + 1 ≡ c.loop-len.len = omega (arith, c.loop-len-test.true) in
    ap (λ (k : ℕ). take k bytes) (sym one_more) ∙ unzeroed-take_other bytes n (omega (arith, c.loop-len-test.true, c.loop-len.invariant.within)) c.if-bytes-len-eq0.false
    ∙ ap (λ (k : ℕ). without_zeros (take k bytes)) one_more ∙ c.loop-len.invariant.same

pub returns-after-loop-len-clause-zeroless : goal.returns-after-loop-len-clause-zeroless
returns-after-loop-len-clause-zeroless c =
    let bytes = c.args.bytes.now in
    let none : c.loop-len.len ≡ 0 = omega (arith, c.loop-len-test.false) in
    ap (λ (k : ℕ). take k bytes) none ∙ sym (ap (λ (k : ℕ). without_zeros (take k bytes)) none) ∙ c.loop-len.invariant.same
