-- How many jobs have left a machine: all its entrants where no job is on it, all but one where one is.
use Rattle.std.proofs.Common.{◌≡◌, ℕ, zero, suc, ◌+◌, ◌-◌, ◌<◌, cond, inl, inr, Bool, true, false, not, ◌&&◌, length, get_or, nat_eq, refl, sym, ap, ap₂, ◌∙◌, add-one, arith, length-append, lt-ltb, le-ltb, eq-eqb, ne_eqb}
use Rattle.std.proofs.lemmas.Bool.{cases_lt}
use Rattle.std.proofs.Math.ListN.{get_or-append}
use Rattle.shop_base.specs.Plan.{PlannedShop, steps, machine_of, order, job_at, IsWellShaped}
use Rattle.shop_base.specs.Cell.{Cell, made, entries, IsOn, IsFree}
use Rattle.shop_base.specs.ReportsLeft.{is_on_after, is_off, last_entrant, departures}
use Rattle.shop_base.specs.Sound.{IsSound}
use Rattle.shop_base.proofs.Visits.{visits-stands}

-- a job that is on a machine isn't off it
on-not_off : (p : PlannedShop) (c : Cell) (j k m : ℕ) → IsOn p c j k m → is_off p c m j ≡ false
on-not_off p c j k m on =
    ap (λ n. not (is_on_after p m j n)) (on.entered ∙ add-one k)
    ∙ ap not (ap₂ (λ x y. x && y) (lt-ltb k (steps p j) on.visits.within) (eq-eqb (machine_of p j k) m on.visits.here))

-- a job that isn't on a machine is off it
pub elsewhere-off : (p : PlannedShop) (c : Cell) (j m : ℕ) → ((k : ℕ) → IsOn p c j k m → ⊥) → is_off p c m j ≡ true
elsewhere-off p c j m elsewhere = go (made c j) refl
  where
    go : (n : ℕ) → made c j ≡ n → not (is_on_after p m j n) ≡ true
    go zero e = refl
    go (suc k) e = elim (cases_lt k (steps p j)) [
      | inl within ↦ ap not (ap₂ (λ x y. x && y) (lt-ltb k (steps p j) within)
          (ne_eqb (machine_of p j k) m (λ here. elsewhere k (record { entered = omega arith; visits = record { within = within; here = here } }))))
      | inr past ↦ ap (λ x. not (x && nat_eq (machine_of p j k) m)) (le-ltb k (steps p j) past)
    ]

-- the entrants of a machine are the first jobs of its order
entrant : (p : PlannedShop) (c : Cell) (m b : ℕ) → IsSound p c → b < length (entries c m)
    → (b < length (order p m)) × (get_or (entries c m) b 0 ≡ job_at p m b)
entrant p c m b sound within =
    let (rest, e) = sound.in_order m in
    (omega (arith, ap length e, length-append (entries c m) rest), sym (ap (λ xs. get_or xs b 0) e ∙ get_or-append (entries c m) rest 0 b within))

pub departures_free : (p : PlannedShop) (c : Cell) (m : ℕ) → IsFree p c m → departures p c m ≡ length (entries c m)
departures_free p c m free =
    let none : cond (is_off p c m (last_entrant c m)) 0 1 ≡ 0 = ap {B = ℕ} (λ (x : Bool). cond x 0 1) (elsewhere-off p c (last_entrant c m) m (free (last_entrant c m))) in
    omega (arith, none)

pub departures_on : (p : PlannedShop) (c : Cell) (j k m : ℕ) → IsWellShaped p → IsSound p c → IsOn p c j k m → departures p c m + 1 ≡ length (entries c m)
departures_on p c j k m shaped sound on =
    let (a, mine) = visits-stands p j k m shaped on.visits in
    let count : length (entries c m) ≡ a + 1 = sound.newest m a j k mine on.entered in
    let last : length (entries c m) - 1 ≡ a = omega arith in
    let same : last_entrant c m ≡ j = ap (λ (x : ℕ). get_or (entries c m) x 0) last ∙ (entrant p c m a sound (omega arith)).1 ∙ mine.job in
    let one : cond (is_off p c m (last_entrant c m)) 0 1 ≡ 1 = ap {B = ℕ} (λ (x : Bool). cond x 0 1) (ap (is_off p c m) same ∙ on-not_off p c j k m on) in
    omega (arith, one)
