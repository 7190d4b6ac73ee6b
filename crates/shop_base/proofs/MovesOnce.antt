-- In a step no job moves twice: once it has moved it isn't ready, and no move makes it so.
use Rattle.std.proofs.Common.{◌≡◌, ℕ, zero, suc, ◌<◌, List, [], ◌∷◌, length, slice_index, true, false, ◌⊎◌, inl, inr, refl, sym, ap, ◌∙◌, subst, arith}
use Rattle.std.proofs.lemmas.Bool.{cases_eq}
use Rattle.shop_base.specs.declared.job_state.JobState.{JobState}
use Rattle.shop_base.specs.Plan.{PlannedShop, IsWellShaped}
use Rattle.shop_base.specs.Cell.{Cell, ready}
use Rattle.shop_base.specs.Move.{after_move}
use Rattle.shop_base.specs.Controlled.{AreMoves}
use Rattle.shop_base.specs.Sound.{IsSound}
use Rattle.shop_base.specs.StepLaw.{AreOnce}
use Rattle.shop_base.proofs.Changes.{IsMoved, after_move-moved}
use Rattle.shop_base.proofs.Keeping.{after_move-sound}

-- a job that isn't ready makes none of some moves
unready_stays : (p : PlannedShop) (c : Cell) (t : ℕ) (js : List ℕ) (i a : ℕ) → IsWellShaped p → IsSound p c → AreMoves p c t js → ready c i ≡ false
    → a < length js → slice_index js a ≡ i → ⊥
unready_stays p c t [] i a shaped sound moves idle within is = omega arith
unready_stays p c t (j ∷ js) i zero shaped sound moves idle within is = differ (subst (λ x. ready c x ≡ true) is moves.0.is_ready)
  where
    differ : ready c i ≡ true → ⊥
    differ is_ready = cc
unready_stays p c t (j ∷ js) i (suc a) shaped sound moves idle within is =
    unready_stays p (after_move p c j t) t js i a shaped (after_move-sound p c j t shaped sound moves.0 moves.1) moves.2 (still (cases_eq i j)) (omega arith) is
  where
    moved : IsMoved p c j t (after_move p c j t)
    moved = after_move-moved p c j t shaped sound moves.0

    still : (i ≡ j) ⊎ (i ≡ j → ⊥) → ready (after_move p c j t) i ≡ false
    still (inl same) = ap (ready (after_move p c j t)) same ∙ moved.ready_mine
    still (inr other) = ap (λ (x : JobState). x.ready) (moved.others i other) ∙ idle

pub moves_once : (p : PlannedShop) (c : Cell) (t : ℕ) (js : List ℕ) → IsWellShaped p → IsSound p c → AreMoves p c t js → AreOnce js
moves_once p c t [] shaped sound moves = λ a b in_a in_b same. absurd (omega arith)
moves_once p c t (j ∷ js) shaped sound moves = once (moves_once p (after_move p c j t) t js shaped sound_after moves.2)
  where
    sound_after : IsSound p (after_move p c j t)
    sound_after = after_move-sound p c j t shaped sound moves.0 moves.1

    never : (a : ℕ) → a < length js → slice_index js a ≡ j → ⊥
    never a within is = unready_stays p (after_move p c j t) t js j a shaped sound_after moves.2 (after_move-moved p c j t shaped sound moves.0).ready_mine within is

    once : AreOnce js → AreOnce (j ∷ js)
    once rest zero zero in_a in_b same = refl
    once rest zero (suc b) in_a in_b same = absurd (never b (omega arith) (sym same))
    once rest (suc a) zero in_a in_b same = absurd (never a (omega arith) same)
    once rest (suc a) (suc b) in_a in_b same = ap suc (rest a b (omega arith) (omega arith) same)
