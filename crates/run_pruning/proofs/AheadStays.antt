-- Where the jobs that don't stay are gone, all that is ahead is of jobs that stay.
use Rattle.std.proofs.Common.{◌≡◌, ℕ, ◌<◌, ◌≤◌, List, length, Bool, true, false, refl, arith}
use Rattle.shop_base.specs.Plan.{PlannedShop, jobs, machines, steps, order, job_at, IsWellShaped}
use Rattle.shop_base.specs.Cell.{Cell, made, entries, IsGone}
use Rattle.shop_base.specs.Sound.{IsSound}
use Rattle.shop_base.proofs.Places.{stands_at}
use Rattle.shop_base.proofs.Sizes.{place_job}
use Rattle.run_pruning.specs.Staying.{stays}

module _ (p : PlannedShop) (marks : List Bool) (shaped : IsWellShaped p) (c : Cell) (sound : IsSound p c) (gone : (j : ℕ) → j < jobs p → stays marks j ≡ false → IsGone p c j) where
  -- a job that isn't gone stays
  pub stays_here : (j : ℕ) → j < jobs p → made c j ≤ steps p j → stays marks j ≡ true
  stays_here j inside here = go (stays marks j) refl
    where
      go : (b : Bool) → stays marks j ≡ b → stays marks j ≡ true
      go true is = is
      go false is = absurd (omega (arith, gone j inside is, here))

  -- and so does one that is still to enter a machine
  pub place_stays : (m a : ℕ) → m < machines p → length (entries c m) ≤ a → a < length (order p m) → stays marks (job_at p m a) ≡ true
  place_stays m a inside past within = go (stays marks (job_at p m a)) refl
    where
      go : (b : Bool) → stays marks (job_at p m a) ≡ b → stays marks (job_at p m a) ≡ true
      go true is = is
      go false is =
          let (k, stands) = stands_at p m a shaped inside within in
          let out : IsGone p c (job_at p m a) = gone (job_at p m a) (place_job p shaped m a inside within) is in
          absurd (omega (arith, past, sound.made_entered m a (job_at p m a) k stands (omega (arith, out, stands.visits.within))))
