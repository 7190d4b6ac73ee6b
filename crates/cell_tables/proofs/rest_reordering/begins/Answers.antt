use Rattle.std.proofs.{Common.{length, drop}, lemmas.Bool.Decides.Decides-eqb, lemmas.Slice.Eq.starts_is}
use Rattle.cell_tables.proofs.rest_reordering.begins.Goals as goal

pub returns : goal.returns
returns c =
    let is = starts_is (λ a b. Decides-eqb a b) c.args.order.now c.args.front.now c.starts_with.result c.starts_with.ensures.value in
    ((λ yes. (drop (length c.args.front.now) c.args.order.now, is.0 yes)), (λ found. is.1 found.0 found.1))
