use Rattle.cellplan_c.proofs.Found.{unwritten}
use Rattle.cellplan_c.proofs.rooms.put_back.Goals as goal
use Rattle.cellplan_c.proofs.rooms.put_back.Goals.{then-status-eq-GOOD, else-status-eq-GOOD}

pub returns-clause-orders : goal.returns-clause-orders
returns-clause-orders c =
    let after = c.put.ensures in
    elim c.if-status-eq-GOOD.branch [
      | then-status-eq-GOOD w ↦ record {
        no_orders = λ bad. absurd (bad w.if-status-eq-GOOD.true);
        count = rw after (λ good. rw (w.orders-released.ensures, w.deref.ensures) at w.count-is);
        orders = rw after (λ good. rw w.orders-is (rw (w.orders-released.ensures, w.deref.ensures) at w.put_orders.ensures.put));
        kept = rw after (λ good. rw w.orders-is (rw (w.orders-released.ensures, w.deref.ensures) at w.put_orders.ensures.kept));
      }
      | else-status-eq-GOOD w ↦ rw (w.count-is, w.orders-is, c.requires.none) (unwritten _ _ _ _ w.if-status-eq-GOOD.false)
    ]
