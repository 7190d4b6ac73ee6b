use Rattle.std.proofs.Common.{◌≡◌, ℕ, ◌++◌, ◌∷◌, [], List, ap, ◌∙◌, rules, arith}
use Rattle.std.proofs.lemmas.Result.{err_from_is_err_and}
use Rattle.orlib_read.specs.Words.{words_of}
use Rattle.orlib_read.specs.Reading.{steps_at}
use Rattle.orlib_read.proofs.Loops.{steps_odd, steps_fail, steps_on, steps_end}
use Rattle.orlib_read.proofs.reading.steps_of.Goals as goal

pub returns-in_default-next_word : goal.returns-in_default-next_word
returns-in_default-next_word c = λ _.
    let words = c.in-Some.ensures.word ∙ ap (λ (words : List (List ℕ)). c.in-Some.machine.now ∷ words) c.in_default-next_word.ensures.word in
    steps_odd c.loop-machine.route.items c.args.line.number c.loop-machine.before (words_of c.loop-machine.rest.now) c.in-Some.machine.now
    (steps_at c.args.line.number 0 (words_of c.args.line.bytes.now)) words c.loop-machine.invariant.steps

pub returns-in_err-step : goal.returns-in_err-step
returns-in_err-step c =
    let p = err_from_is_err_and c.from_residual.result c.from_residual.ensures.1 in
    let words = c.in-Some.ensures.word ∙ ap (λ (words : List (List ℕ)). c.in-Some.machine.now ∷ words) c.in-Some-next_word.ensures.word in
    rw (p.1, p.2) (λ _. steps_fail c.in_err-step.field-0.0 c.loop-machine.route.items c.args.line.number c.loop-machine.before (words_of c.loop-machine.rest.now)
    c.in-Some.machine.now c.in-Some-next_word.nominal.now (words_of c.in-Some-next_word.after.now)
    (steps_at c.args.line.number 0 (words_of c.args.line.bytes.now)) words c.in_err-step.ensures c.loop-machine.invariant.steps)

pub loop-machine-preserved : goal.loop-machine-preserved
loop-machine-preserved c =
    let words = c.in-Some.ensures.word ∙ ap (λ (words : List (List ℕ)). c.in-Some.machine.now ∷ words) c.in-Some-next_word.ensures.word in
    let pushed : c.push.new.self.items ≡ c.loop-machine.route.items ++ c.in_ok-step.step ∷ [] = search rules in
    record {
      steps = rw pushed (steps_on c.loop-machine.route.items c.args.line.number c.loop-machine.before (words_of c.loop-machine.rest.now)
          c.in-Some.machine.now c.in-Some-next_word.nominal.now (words_of c.in-Some-next_word.after.now) c.in_ok-step.step
          (steps_at c.args.line.number 0 (words_of c.args.line.bytes.now)) words c.in_ok-step.ensures c.loop-machine.invariant.steps);
      few = omega (arith, c.in-Some.ensures.shorter, c.in-Some-next_word.ensures.shorter);
    }

pub returns : goal.returns
returns c = steps_end c.loop-machine.route.items c.args.line.number c.loop-machine.before (words_of c.loop-machine.rest.now)
    (steps_at c.args.line.number 0 (words_of c.args.line.bytes.now)) c.in_default.ensures.word c.loop-machine.invariant.steps
