use Rattle.std.proofs.Common.{◌≡◌, ℕ, List, refl}
use Rattle.plan_verifier.specs.Leavings.{leaves_in}
use Rattle.plan_explain.specs.{Leavings.leaves_lines, Chains.AreChainLines}
use Rattle.plan_explain.proofs.Texts.{both_added}
use Rattle.plan_explain.proofs.explaining.push_moment_lines.Goals as goal

pub returns : goal.returns
returns g c =
    let r = c.args.rest.now in
    let lines : List ℕ = leaves_lines c.args.names.now r.plan r.cell (leaves_in r.plan c.args.times.now) in
    both_added (λ (l : List ℕ). l ≡ lines) (AreChainLines c.args.names.now r.plan r.cell r.present c.args.chain.now) c.push_chain_lines.result _ _ _
    (lines, refl, rw (c.cell.ensures.plan, c.cell.ensures.cell, c.reserve.ensures.items) at c.in_ok-push_leaving_lines.ensures) c.push_chain_lines.ensures
