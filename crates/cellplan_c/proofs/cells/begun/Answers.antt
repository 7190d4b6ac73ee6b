use Rattle.std.proofs.Common.{◌≡◌, ◌≢◌, refl, ap, ◌∙◌, inl, inr, arith, rules}
use Rattle.std.specs.Prelude.{is_some}
use Rattle.plan_verifier.specs.declared.verdict.Verdict.TheVariants.{Accepted}
use Rattle.command_answers.specs.declared.loading.Loaded.TheVariants.{Judged}
use Rattle.cellplan_c.proofs.cells.begun.Goals as goal

pub returns-in-Ok : goal.returns-in-Ok
returns-in-Ok c =
    let accepted : c.args.loaded ≡ Judged (Accepted c.in-Judged-Accepted.verified) =
    c.in-Judged-Accepted.is ∙ ap Judged c.in-Judged-Accepted.field-0-is in
    rw accepted (record {
      status = inr refl;
      started = λ good. rw c.put.ensures (c.in-Ok.ensures.verified, c.in-Ok.ensures.start);
      full = λ good. ap is_some c.put.ensures;
      never_wrong = λ good. rw c.put.ensures c.in-Ok.ensures.never_wrong;
      unchanged = λ bad. absurd (bad refl);
    })

pub returns-in-Judged-Accepted : goal.returns-in-Judged-Accepted
returns-in-Judged-Accepted c =
    let bad : c.status_of_refused.result ≢ 0 = λ good. omega (arith, good, c.status_of_refused.ensures) in
    record {
      status = inl c.status_of_refused.ensures;
      started = λ good. absurd (bad good);
      full = λ good. absurd (bad good);
      never_wrong = λ good. absurd (bad good);
      unchanged = λ _. refl;
    }

pub returns : goal.returns
returns c =
    let refused : c.match-loaded.result ≡ 1 = search rules in
    let bad : c.match-loaded.result ≢ 0 = λ good. omega (arith, good, refused) in
    record {
      status = search rules;
      started = λ good. absurd (bad good);
      full = λ good. absurd (bad good);
      never_wrong = λ good. absurd (bad good);
      unchanged = λ _. refl;
    }
