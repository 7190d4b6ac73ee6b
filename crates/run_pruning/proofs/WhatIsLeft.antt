-- What is left of a run without jobs that are over is a run.
use Rattle.std.proofs.Common.{◌≡◌, ℕ, ◌-◌, ◌<◌, inl, inr, List, [], length, Some, Bool, true, false, le_refl, refl, sym, ap, ◌∙◌, subst, arith}
use Rattle.shop_base.specs.Plan.{PlannedShop, jobs, order, job_at, IsWellShaped}
use Rattle.shop_base.specs.Cell.{Cell, job_in, made, entries, cleaning}
use Rattle.shop_base.specs.Run.{Event, IsRun, ends_in}
use Rattle.shop_base.specs.ReportsLeft.{reports_left}
use Rattle.shop_base.specs.Sound.{IsSound}
use Rattle.shop_base.proofs.InShop.{cleaned_in_shop}
use Rattle.shop_base.proofs.Keeping.{start-made, run-sound}
use Rattle.shop_base.proofs.Sizes.{place_job}
use Rattle.run_pruning.specs.Staying.{stays, new_number}
use Rattle.run_pruning.specs.Pruned.{pruned, last_in, pruned_cell}
use Rattle.run_pruning.specs.Over.{IsJobOver, DropsWhatIsOver, DropsAllThatIsOver}
use Rattle.run_pruning.specs.PruningLaw.{pruned_run, run_owner, IsWhatIsLeft, WhatIsLeftIsARun}
use Rattle.run_pruning.proofs.PrunedShops.{pruned-shaped}
use Rattle.run_pruning.proofs.PrunedCells.{cleanings_kept, job_left}
use Rattle.run_pruning.proofs.PrunedRuns.{IsLatest, their_run, last_place, run_owner_in}
use Rattle.run_pruning.proofs.PrunedReports.{reports_left_same}

module _ (p : PlannedShop) (es : List Event) (marks : List Bool) (shaped : IsWellShaped p) (run : IsRun p es) (drops : DropsWhatIsOver p (ends_in p es) (run_owner p es) marks) where
  abbrev c : Cell
  c = ends_in p es

  sound : IsSound p c
  sound = run-sound p es shaped run

  -- the job whose the last event is stays
  owner_stays : (j : ℕ) → j < jobs p → run_owner p es ≡ Some j → stays marks j ≡ true
  owner_stays j inside is = go (stays marks j) refl
    where
      go : (b : Bool) → stays marks j ≡ b → stays marks j ≡ true
      go true kept = kept
      go false dropped = absurd ((drops.over j inside dropped).not_last is)

  -- and where there is no event every job does
  start_stays : es ≡ [] → (j : ℕ) → j < jobs p → stays marks j ≡ true
  start_stays none j inside = go (stays marks j) refl
    where
      go : (b : Bool) → stays marks j ≡ b → stays marks j ≡ true
      go true kept = kept
      go false dropped = absurd (omega (arith, (drops.over j inside dropped).gone, ap (λ xs. made (ends_in p xs) j) none, start-made p j inside))

  some_stays : (j : ℕ) × (stays marks j ≡ true)
  some_stays = elim (run_owner_in p es shaped run) [
    | inl none ↦ (0, start_stays none 0 shaped.shop.counts.some_job)
    | inr (j, inside, is) ↦ (j, owner_stays j inside is)
  ]

  latest_last : (v : ℕ) → IsLatest marks (run_owner p es) c v → v ≡ c.last
  latest_last v latest = elim (run_owner_in p es shaped run) [
    | inl none ↦ subst (λ xs. IsLatest marks (run_owner p xs) c v) none latest
    | inr (j, inside, is) ↦ subst (λ o. IsLatest marks o c v) is latest (owner_stays j inside is)
  ]

  -- a machine is being cleaned after a job that stays
  pub cleaned_stays : (m s : ℕ) → cleaning c m ≡ Some s → stays marks (last_in (entries c m)) ≡ true
  cleaned_stays m s is = go (stays marks (last_in (entries c m))) refl
    where
      place : (length (entries c m) - 1 < length (order p m)) × (last_in (entries c m) ≡ job_at p m (length (entries c m) - 1))
      place = last_place p c m sound (sound.cleaned_entered m s is)

      inside : last_in (entries c m) < jobs p
      inside = subst (λ x. x < jobs p) (sym place.1) (place_job p shaped m (length (entries c m) - 1) (cleaned_in_shop p c m s sound is) place.0)

      go : (b : Bool) → stays marks (last_in (entries c m)) ≡ b → stays marks (last_in (entries c m)) ≡ true
      go true kept = kept
      go false dropped = absurd ((drops.over (last_in (entries c m)) inside dropped).not_cleaned m (record { from = s; is_cleaned = is; last_in = sym place.1 }))

  cleanings : (u m : ℕ) → cleaning (pruned_cell marks c u) m ≡ cleaning c m
  cleanings u = cleanings_kept marks c u cleaned_stays

  left : IsWhatIsLeft marks p es
  left =
      let (v, not_later, theirs, ends, latest) = their_run p marks drops.count shaped es run in
      let whole : ends_in (pruned marks p) (pruned_run marks p es) ≡ pruned_cell marks c c.last = ends ∙ ap (pruned_cell marks c) (latest_last v latest) in
      let shaped_left : IsWellShaped (pruned marks p) = pruned-shaped p marks drops.count shaped some_stays.0 some_stays.1 in
      let sound_left : IsSound (pruned marks p) (pruned_cell marks c c.last) = subst (λ x. IsSound (pruned marks p) x) whole (run-sound (pruned marks p) (pruned_run marks p es) shaped_left theirs) in record {
        choice = record { count = drops.count; some = some_stays.0; some_stays = some_stays.1 };
        shaped = shaped_left;
        run = theirs;
        ends = whole;
        jobs_same = λ j kept. ap (λ x. job_in x (new_number marks j)) whole ∙ job_left marks c c.last j kept;
        cleaning_same = λ m. ap (λ x. cleaning x m) whole ∙ cleanings c.last m;
        reports_same = ap (reports_left (pruned marks p)) whole
            ∙ reports_left_same p marks drops.count shaped c sound c.last (le_refl c.last) shaped_left sound_left (λ j inside dropped. (drops.over j inside dropped).gone) (cleanings c.last);
      }

pub what_is_left_is_a_run-holds : WhatIsLeftIsARun
what_is_left_is_a_run-holds p es marks shaped run drops = left p es marks shaped run drops

-- so it is without all jobs that are over
pub left_over : (p : PlannedShop) (end : Cell) (es : List Event) (marks : List Bool) → IsWellShaped p → IsRun p es → ends_in p es ≡ end → DropsAllThatIsOver p end (run_owner p es) marks
    → IsWhatIsLeft marks p es
left_over p end es marks shaped run ends drops = what_is_left_is_a_run-holds p es marks shaped run (record {
  count = drops.count;
  over = λ j inside dropped. subst (λ x. IsJobOver p x (run_owner p es) j) (sym ends) ((drops.exact j inside).0 dropped);
})
