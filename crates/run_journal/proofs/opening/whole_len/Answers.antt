use Rattle.std.proofs.{Common.{◌≡◌, ℕ, ◌+◌, ◌-◌, ◌<◌, length, ◌∙◌, sym, ap, take, arith}, lemmas.List.take_all}
use Rattle.run_journal.{specs.WholeLines.whole_lines, proofs.Whole.{whole-take_feed, whole-take_other}}
use Rattle.run_journal.proofs.opening.whole_len.Goals as goal

pub loop-len-init : goal.loop-len-init
loop-len-init c = record { within = omega arith; same = ap whole_lines (take_all (length c.args.text.now) c.args.text.now (omega arith)) }

pub loop-len-preserved : goal.loop-len-preserved
loop-len-preserved c =
    let text = c.args.text.now in
    let n = c.loop-len.len - 1 in
    let one_more : n + 1 ≡ c.loop-len.len = omega (arith, c.loop-len-test.true) in
    let within : n < length text = omega (arith, c.loop-len-test.true, c.loop-len.invariant.within) in
    record {
      within = omega (arith, within);
      same = sym (whole-take_other text n within c.if-text-len-ne10.true) ∙ ap (λ (k : ℕ). whole_lines (take k text)) one_more ∙ c.loop-len.invariant.same;
    }

pub returns-else-text-len-ne10-clause-whole : goal.returns-else-text-len-ne10-clause-whole
returns-else-text-len-ne10-clause-whole c =
    let text = c.args.text.now in
    let n = c.loop-len.len - 1 in
    let one_more : n + 1 ≡ c.loop-len.len = omega (arith, c.loop-len-test.true) in
    let within : n < length text = omega (arith, c.loop-len-test.true, c.loop-len.invariant.within) in
    ap (λ (k : ℕ). take k text) (sym one_more) ∙ sym (whole-take_feed text n within c.if-text-len-ne10.false) ∙ ap (λ (k : ℕ). whole_lines (take k text)) one_more ∙ c.loop-len.invariant.same

pub returns-after-loop-len-clause-whole : goal.returns-after-loop-len-clause-whole
returns-after-loop-len-clause-whole c =
    let text = c.args.text.now in
    let none : c.loop-len.len ≡ 0 = omega (arith, c.loop-len-test.false) in
    ap (λ (k : ℕ). take k text) none ∙ sym (ap (λ (k : ℕ). whole_lines (take k text)) none) ∙ c.loop-len.invariant.same
