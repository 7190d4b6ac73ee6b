use Rattle.std.proofs.{Common.refl, lemmas.Result.err_from_is_err_and}
use Rattle.cell_control.proofs.ClaimReasons.{claim_reason-cannot, only_claim_reason}
use Rattle.cell_control.proofs.core_controller.Core.claim.Goals as goal

pub returns-in_err-possible : goal.returns-in_err-possible
returns-in_err-possible g c =
    let p = err_from_is_err_and c.from_residual.result c.from_residual.ensures.1 in
    let control = c.shaped-plan.ensures.control in
    let first = c.in_err-possible.ensures.first_reason in
    rw (p.1, p.2) (record {
      possible = (λ wrong. absurd (cc), λ can. absurd (claim_reason-cannot _ _ _ _ control.ranks.shaped control.sound first can));
      answered = tt;
      first_reason = first;
      only_reason = only_claim_reason _ _ _ _ first;
      unchanged = refl;
    })
