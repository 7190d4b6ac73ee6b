use Rattle.std.proofs.Common.{ℕ, Vec, Global, List, sym, ap, ◌∙◌}
use Rattle.std.proofs.lemmas.List.{take-map}
use Rattle.shop_base.specs.Vectors.{lists_of}
use Rattle.run_pruning.proofs.spare.first_orders.Goals as goal

pub returns : goal.returns
returns c =
    let items : Vec ℕ Global → List ℕ = λ v. v.items in
    ap lists_of c.truncate.ensures.items ∙ sym (take-map items c.args.machines c.args.orders.items)
