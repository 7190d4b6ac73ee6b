-- Who is where, as it is read: a job on a machine or on none, a machine that is held or free, and who can move.
use Rattle.std.proofs.Common.{◌≡◌, ℕ, ◌-◌, ◌↔◌, length, Bool, true, false, not, refl, sym, subst, arith, inr}
use Rattle.std.specs.Prelude.{IsTrue}
use Rattle.std.proofs.lemmas.List.{nil_from_length}
use Rattle.shop_base.specs.Plan.{PlannedShop, job_at, Visits, Stands, IsWellShaped}
use Rattle.shop_base.specs.Cell.{Cell, made, ready, entries, IsOn, IsFree}
use Rattle.shop_base.specs.Move.{CanEnter, CanMove, KeepsPlan}
use Rattle.shop_base.specs.Sound.{IsSound}
use Rattle.shop_base.proofs.Keeping.{target_place, target_free}
use Rattle.shop_base.proofs.Decisions.{stands-keeps, moment_now}
use Rattle.shop_base.proofs.CellFacts.{unentered_free, left_free}

-- a machine that nobody has entered is free
pub free_at_first : (p : PlannedShop) (c : Cell) (m n : ℕ) → IsWellShaped p → IsSound p c → n ≡ length (entries c m) → n ≡ 0 → IsFree p c m
free_at_first p c m n shaped sound is none = unentered_free p c m shaped sound (nil_from_length (entries c m) (omega arith))

-- a machine is free where its newest entrant isn't on it
pub free_where_left : (p : PlannedShop) (c : Cell) (m n j : ℕ) → IsWellShaped p → IsSound p c → n ≡ length (entries c m) → (n ≡ 0 → ⊥)
    → j ≡ job_at p m (n - 1) → (IsOn p c j (made c j - 1) m → ⊥) → IsFree p c m
free_where_left p c m n j shaped sound is some newest off =
    left_free p c m (n - 1) shaped sound (omega (arith, some)) λ k on.
    let here : IsOn p c j k m = subst (λ i. IsOn p c i k m) (sym newest) on in
    let last : k ≡ made c j - 1 = omega (arith, here.entered) in
    off (subst (λ l. IsOn p c j l m) last here)

pub so_true : (b : Bool) → not b ≡ false → b ≡ true
so_true true is = refl
so_true false is = cc

-- a ready job with a machine before it can move and keep the plan exactly where the machine takes it as the next
pub moves-entering : (p : PlannedShop) (c : Cell) (j m : ℕ) (takes : Bool) → IsWellShaped p → IsSound p c → ready c j ≡ true → Visits p j (made c j) m
    → (IsTrue takes ↔ (CanEnter p c j m × Stands p m (length (entries c m)) j (made c j))) → (IsTrue takes ↔ (CanMove p c j c.last × KeepsPlan p c j))
moves-entering p c j m takes shaped sound is_ready visits entering = (
  (λ yes_it. let (enters, stands) = entering.0 yes_it in
      (record { is_ready = is_ready; way = inr (m, enters); moment = moment_now p c sound }, stands-keeps p c j m sound stands)),
  λ both. entering.1 (
    (let (free, is_clean) = target_free p c j c.last m both.0 visits in record { next = visits; free = free; is_clean = is_clean }),
    target_place p c j m shaped sound both.1 visits,
  ),
)
