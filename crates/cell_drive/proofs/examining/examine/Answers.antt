use Rattle.std.proofs.Common.{Bool, sym, ap, ◌∙◌, refl, inl, inr}
use Rattle.cell_drive.specs.Refusals.{first_refusal}
use Rattle.cell_drive.proofs.examining.examine.Goals as goal

pub returns-then-leaps-clause-refused : goal.returns-then-leaps-clause-refused
returns-then-leaps-clause-refused g c = inr (c.in-Ok.ensures.possible, sym c.claim_leaps-leaps.ensures ∙ c.if-leaps.true, refl)

pub returns-else-leaps-clause-accepted : goal.returns-else-leaps-clause-accepted
returns-else-leaps-clause-accepted g c = (c.in-Ok.ensures.possible, sym c.claim_leaps-leaps.ensures ∙ c.if-leaps.false)

pub returns-in-Err-clause-refused : goal.returns-in-Err-clause-refused
returns-in-Err-clause-refused g c =
    let reason = c.in-Err.reason in
    inl (reason, c.in-Err.ensures.first_reason, c.first_refusal.ensures ∙ ap (λ (leaps : Bool). first_refusal leaps reason) c.claim_leaps-leaps.ensures)
