-- Which jobs and machines have no line in a state.
use Rattle.std.proofs.Common.{◌≡◌, ◌↔◌, ◌<◌, ℕ, zero, suc, Bool, true, false, nat_lt, cond, Option, None, Some, refl}
use Rattle.std.proofs.{Common.arith, lemmas.Bool.{le-ltb, ltb-false}}
use Rattle.shop_base.specs.{Plan.{PlannedShop, steps}, Cell.{Cell, made, ready, since, cleaning}}
use Rattle.cell_tables.specs.declared.standing.Standing.TheVariants.{Gone}
use Rattle.cell_tables.specs.Standings.{outside_standing, inside_standing, standing_after, cleaning_standing}
use Rattle.cell_drive.specs.States.{is_over}
use Rattle.drive_laws.specs.StatesLaw.{OnlyGoneJobsAreLeftOut, OnlyCleanMachinesAreLeftOut}

module _ (p : PlannedShop) (c : Cell) where
  outside_printed : (j : ℕ) (is_ready : Bool) → is_over (outside_standing p c j is_ready) ≡ false
  outside_printed j true = refl
  outside_printed j false = refl

  inside_printed : (j k : ℕ) (is_ready : Bool) → is_over (inside_standing p c j k is_ready) ≡ false
  inside_printed j k true = refl
  inside_printed j k false = refl

  gone_or_not : (j k : ℕ) (inside : Bool) → is_over (cond inside (inside_standing p c j k (ready c j)) (Gone j (since c j))) ≡ true → inside ≡ false
  gone_or_not j k true over = let printed = inside_printed j k (ready c j) in absurd (cc)
  gone_or_not j k false over = refl

  gone_is_over : (j k : ℕ) (inside : Bool) → inside ≡ false → is_over (cond inside (inside_standing p c j k (ready c j)) (Gone j (since c j))) ≡ true
  gone_is_over j k true gone = absurd (cc)
  gone_is_over j k false gone = refl

  left_out : (j made : ℕ) → (is_over (standing_after p c j made) ≡ true) ↔ (steps p j < made)
  left_out j zero = ((λ over. let printed = outside_printed j (ready c j) in absurd (cc)), λ gone. absurd (omega (arith, gone)))
  left_out j (suc k) = (
    (λ over. let past = ltb-false k (steps p j) (gone_or_not j k (nat_lt k (steps p j)) over) in omega (arith, past)),
    λ gone. gone_is_over j k (nat_lt k (steps p j)) (le-ltb k (steps p j) (omega (arith, gone))),
  )

pub only_gone_jobs_are_left_out : OnlyGoneJobsAreLeftOut
only_gone_jobs_are_left_out p c job = left_out p c job (made c job)

clean_or_not : (p : PlannedShop) (c : Cell) (m : ℕ) (since : Option ℕ) → (is_over (cleaning_standing p c m since) ≡ true) ↔ (since ≡ None)
clean_or_not p c m None = ((λ over. refl), λ none. refl)
clean_or_not p c m (Some from) = ((λ over. absurd (cc)), λ some. absurd (cc))

pub only_clean_machines_are_left_out : OnlyCleanMachinesAreLeftOut
only_clean_machines_are_left_out p c machine = clean_or_not p c machine (cleaning c machine)
