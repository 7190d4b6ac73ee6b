-- What the run so far keeps of another plan, and what that plan lacks.
use Rattle.std.proofs.Common.{◌≡◌, ℕ, ◌≤◌, inl, inr, List, length, take, refl, sym, ap, ◌∙◌, subst, arith, le_refl}
use Rattle.std.proofs.lemmas.{Bool.{cases_lt}, List.{get_or_past, take_all, take-append-le}}
use Rattle.std.specs.Prelude.{Option, None, Some}
use Rattle.shop_base.specs.Plan.{PlannedShop, machines, order, clean, clean_in, HasCleanCount, IsWellShaped}
use Rattle.shop_base.specs.{Cell.{Cell, MachineState, unused, entries}, Move.IsPrefix, Sound.IsSound}
use Rattle.cell_tables.specs.Kept.{KeepsSoFar}

-- a beginning is what stands first
pub take_front : (front whole : List ℕ) → IsPrefix front whole → take (length front) whole ≡ front
take_front front whole (rest, is) =
    ap (take (length front)) is ∙ take-append-le (length front) front rest (le_refl (length front)) ∙ take_all (length front) front (le_refl (length front))

-- those that entered a machine begin its other order
pub kept_begins : (p : PlannedShop) (c : Cell) (q : PlannedShop) → IsSound p c → KeepsSoFar p c q → (m : ℕ) → IsPrefix (entries c m) (order q m)
kept_begins p c q sound keeps m = elim (cases_lt m (machines p)) [
  | inl here ↦ (keeps.machines_keep m here).in_order
  | inr past ↦ subst (λ xs. IsPrefix xs (order q m)) (sym (ap (λ (s : MachineState). s.entries) (get_or_past c.machines m unused (omega (arith, sound.machine_count))))) (order q m, refl)
]

-- a machine that there isn't has no cleaning time
pub no_cleaning_time : (q : PlannedShop) (m : ℕ) → IsWellShaped q → machines q ≤ m → clean q m ≡ 0
no_cleaning_time q m shaped past = go q.plan.clean shaped.counts.cleanings
  where
    go : (times : Option (List ℕ)) → HasCleanCount times (machines q) → clean_in times m ≡ 0
    go None count = refl
    go (Some times) count = get_or_past times m 0 (omega (arith, count))
