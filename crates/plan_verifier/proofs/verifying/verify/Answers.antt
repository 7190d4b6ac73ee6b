use Rattle.std.proofs.Common.{ap, refl}
use Rattle.plan_verifier.specs.Accepted.{VerifiedPlan}
use Rattle.plan_verifier.proofs.Reasons.{reason_refutes, refused_stops, refused_no_faster, refused_just}
use Rattle.plan_verifier.proofs.verifying.verify.Goals as goal

pub of-requires : goal.of-requires
of-requires c = let judged = rw c.in-Ok-Accepted.field-0-is at c.in-Ok-Accepted.ensures.judged in judged.0

pub returns-in-Ok-Accepted : goal.returns-in-Ok-Accepted
returns-in-Ok-Accepted c =
    let judged = rw c.in-Ok-Accepted.field-0-is at c.in-Ok-Accepted.ensures.judged in
    record {
      accepted = (ap (λ (v : VerifiedPlan). v.planned) c.of.ensures, judged.1);
      refused = tt;
      exact = (λ _. judged.1, λ _. tt);
      stops = tt;
      no_faster = tt;
      just = tt;
      handed_back = tt;
    }

pub returns-in-Ok-Refused : goal.returns-in-Ok-Refused
returns-in-Ok-Refused c =
    let p = c.args.shaped in
    let why = c.in-Ok-Refused.why in
    let shaped = c.in-Ok-Refused.ensures.well_shaped in
    let reason = rw c.in-Ok-Refused.field-0-is at c.in-Ok-Refused.ensures.judged in
    record {
      accepted = tt;
      refused = (refl, reason);
      exact = (λ never. absurd never, λ acceptable. absurd (reason_refutes p why reason acceptable));
      stops = refused_stops p why shaped reason;
      no_faster = refused_no_faster p why shaped reason;
      just = refused_just p why shaped reason;
      handed_back = tt;
    }

pub returns-in-Err : goal.returns-in-Err
returns-in-Err c = record { accepted = tt; refused = tt; exact = tt; stops = tt; no_faster = tt; just = tt; handed_back = refl }
