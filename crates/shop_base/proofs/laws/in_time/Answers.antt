use Rattle.shop_base.specs.KeptMoments.{KeepsLeaving}
use Rattle.shop_base.proofs.StartAhead.{controlled-leavings_kept}
use Rattle.shop_base.proofs.InTime.{leaving-in_time, leaving-out}
use Rattle.shop_base.proofs.laws.in_time.Goals as goal

pub returns-clause-kept : goal.returns-clause-kept
returns-clause-kept c p rank kept rs es end schedule run punctual j inside =
    let keeps : KeepsLeaving p kept end j = controlled-leavings_kept p rank kept rs es end schedule run punctual j inside in
    (keeps, λ budgets. (leaving-in_time p kept end j (budgets j inside) keeps, leaving-out p kept end j (budgets j inside) keeps))

pub returns-clause-ended : goal.returns-clause-ended
returns-clause-ended c p rank kept rs es end schedule budgets run punctual ended j inside =
    leaving-out p kept end j (budgets j inside) (controlled-leavings_kept p rank kept rs es end schedule run punctual j inside) (ended.gone j inside)
