use Rattle.std.proofs.Common.{◌≡◌, codes, arith}
use Rattle.std.proofs.lemmas.Grind.{common_steps}
use Rattle.event_lines.proofs.Ends.{no_spot_alone}
use Rattle.event_lines.proofs.orders.spot_last.Goals as goal

pub returns-in-None : goal.returns-in-None
returns-in-None c =
    let other : c.args.word.now ≡ codes "out" → ⊥ = λ same. grind (arith, common_steps) in
    no_spot_alone c.args.word.now other c.in-None.ensures
