use Rattle.std.proofs.Common.{◌≡◌, codes, arith}
use Rattle.std.proofs.lemmas.Grind.{common_steps}
use Rattle.event_lines.proofs.Ends.{no_request}
use Rattle.event_lines.proofs.requests.request_of.Goals as goal

pub returns-in_err-claim : goal.returns-in_err-claim
returns-in_err-claim c =
    let other : c.args.line.now ≡ codes "status" → ⊥ = λ same. grind (arith, common_steps) in
    rw c.from_residual.ensures (no_request c.args.line.now other c.in_err-claim.ensures c.in_default.ensures)
