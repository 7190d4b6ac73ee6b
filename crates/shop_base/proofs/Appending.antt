-- Moves and steps that are appended: one more move after a list of moves, one more step after a controlled run.
use Rattle.std.proofs.Common.{◌≡◌, ℕ, List, [], ◌∷◌, ◌++◌, refl, sym, ap, subst, append_assoc, append-nil}
use Rattle.shop_base.specs.declared.report.Report.{Report}
use Rattle.shop_base.specs.Plan.{PlannedShop}
use Rattle.shop_base.specs.Cell.{Cell}
use Rattle.shop_base.specs.Move.{CanMove, KeepsPlan, after_move, order_for}
use Rattle.shop_base.specs.Run.{Event, Reported}
use Rattle.shop_base.specs.Controlled.{AreMoves, after_moves, orders_for, after_step, step_orders, IsStep, moved, Leads, done, accepted, refused}

-- one more move at the end of a list of moves
pub moves_more : (p : PlannedShop) (c : Cell) (t : ℕ) (js : List ℕ) (j : ℕ) → AreMoves p c t js
    → CanMove p (after_moves p c t js) j t → KeepsPlan p (after_moves p c t js) j → AreMoves p c t (js ++ j ∷ [])
moves_more p c t [] j moves can keeps = (can, keeps, tt)
moves_more p c t (i ∷ js) j moves can keeps = (moves.0, moves.1, moves_more p (after_move p c i t) t js j moves.2 can keeps)

pub after_moves_more : (p : PlannedShop) (c : Cell) (t : ℕ) (js : List ℕ) (j : ℕ) → after_moves p c t (js ++ j ∷ []) ≡ after_move p (after_moves p c t js) j t
after_moves_more p c t [] j = refl
after_moves_more p c t (i ∷ js) j = after_moves_more p (after_move p c i t) t js j

pub orders_more : (p : PlannedShop) (c : Cell) (t : ℕ) (js : List ℕ) (j : ℕ)
    → orders_for p c t (js ++ j ∷ []) ≡ orders_for p c t js ++ order_for p (after_moves p c t js) j t ∷ []
orders_more p c t [] j = refl
orders_more p c t (i ∷ js) j = ap (λ os. order_for p c i t ∷ os) (orders_more p (after_move p c i t) t js j)

-- one more step at the end of a controlled run
pub leads_more : (p : PlannedShop) (c end : Cell) (rs : List Report) (es : List Event) (r : Report) (js : List ℕ) → Leads p c rs es end → IsStep p end r js
    → Leads p c (rs ++ r ∷ []) (es ++ Reported r ∷ moved (step_orders p end r js)) (after_step p end r js)
leads_more p c end rs es r js (done start) step =
    subst (λ fs. Leads p c (r ∷ []) (Reported r ∷ fs) (after_step p c r js)) (append-nil (moved (step_orders p c r js)))
    (accepted c r js [] [] (after_step p c r js) step (done (after_step p c r js)))
leads_more p c end rs es r js (accepted start q is qs fs last first later) step =
    subst (λ gs. Leads p c (q ∷ qs ++ r ∷ []) gs (after_step p end r js)) (ap (λ gs. Reported q ∷ gs) (sym (append_assoc (moved (step_orders p c q is)) fs (Reported r ∷ moved (step_orders p end r js)))))
    (accepted c q is (qs ++ r ∷ []) (fs ++ Reported r ∷ moved (step_orders p end r js)) (after_step p end r js) first
    (leads_more p (after_step p c q is) end qs fs r js later step))
leads_more p c end rs es r js (refused start q qs fs last cannot later) step =
    refused c q (qs ++ r ∷ []) (es ++ Reported r ∷ moved (step_orders p end r js)) (after_step p end r js) cannot (leads_more p c end qs es r js later step)
