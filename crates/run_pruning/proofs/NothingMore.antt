-- Of what is left of a run without all jobs that are over, none is over.
use Rattle.std.proofs.Common.{◌≡◌, ℕ, suc, ◌-◌, ◌<◌, ◌≤◌, List, [], ◌∷◌, length, get_or, Option, None, Some, Bool, true, false, if◌then◌else◌, le_refl, refl, sym, ap, ◌∙◌, subst, arith}
use Rattle.shop_base.specs.declared.job_state.JobState.{JobState}
use Rattle.shop_base.specs.declared.report.Report.{TheVariants.{Arrive, Finish, Clean}}
use Rattle.shop_base.specs.Plan.{PlannedShop, jobs, IsWellShaped}
use Rattle.shop_base.specs.Cell.{Cell, start, entries, cleaning}
use Rattle.shop_base.specs.Run.{Event, Reported, Moved, CanHappen, after, AreEvents, IsRun, ends_in}
use Rattle.shop_base.specs.Sound.{IsSound}
use Rattle.shop_base.proofs.Counting.{count_passed}
use Rattle.shop_base.proofs.Keeping.{after-sound, start-sound, run-sound}
use Rattle.run_pruning.specs.Staying.{stays, new_number, renumbered}
use Rattle.run_pruning.specs.Pruned.{pruned, last_in, pruned_cell}
use Rattle.run_pruning.specs.PrunedEvents.{owner, left_after, last_owner, renamed, pruned_events}
use Rattle.run_pruning.specs.Over.{IsJobOver}
use Rattle.run_pruning.specs.PruningLaw.{nobody_left, pruned_run, run_owner, IsWhatIsLeft, NothingMoreIsOver}
use Rattle.run_pruning.proofs.Left.{stays_at, new_place, renumbered_at, length-renumbered}
use Rattle.run_pruning.proofs.PrunedShops.{old_job, route_kept}
use Rattle.run_pruning.proofs.PrunedCells.{entries_left}
use Rattle.run_pruning.proofs.PrunedSteps.{event_kept, event_dropped}
use Rattle.run_pruning.proofs.PrunedRuns.{Tracks, start-tracks, after-tracks, after-later, pruned_first, start_left, last_place}
use Rattle.run_pruning.proofs.WhatIsLeft.{left_over}

-- the last of a list of jobs is the last of those that stay, where it stays
last_left : (marks : List Bool) (js : List ℕ) → 0 < length js → stays marks (last_in js) ≡ true → last_in (renumbered marks js) ≡ new_number marks (last_in js)
last_left marks js some kept =
    let a : ℕ = length js - 1 in
    let whole : length js ≡ suc a = omega (arith, some) in
    let size : length (renumbered marks js) ≡ new_place marks js (suc a) = length-renumbered marks js ∙ ap (new_place marks js) whole in
    let place : length (renumbered marks js) - 1 ≡ new_place marks js a = omega (arith, size, count_passed (stays_at marks js) a kept) in
    ap (λ x. get_or (renumbered marks js) x 0) place ∙ renumbered_at marks js a (omega (arith, some)) kept

-- a renamed event is that of its job
owner_left : (p : PlannedShop) (marks : List Bool) (c : Cell) (u : ℕ) (e : Event) (left after_left : List ℕ) → IsSound p c → CanHappen p c e → Tracks p c left
    → Tracks (pruned marks p) (pruned_cell marks c u) after_left → CanHappen (pruned marks p) (pruned_cell marks c u) (renamed marks e) → stays marks (owner left e) ≡ true
    → owner after_left (renamed marks e) ≡ new_number marks (owner left e)
owner_left p marks c u (Reported (Arrive j t)) left after_left sound can tracks there can_left kept = refl
owner_left p marks c u (Reported (Finish j m t)) left after_left sound can tracks there can_left kept = refl
owner_left p marks c u (Reported (Clean m t)) left after_left sound can tracks there can_left kept =
    let s : ℕ = can.going.1.0 in
    let is : cleaning c m ≡ Some s = can.going.1.1.is_cleaned in
    let same : get_or left m 0 ≡ last_in (entries c m) = tracks.last m s is in
    there.last m can_left.going.1.0 can_left.going.1.1.is_cleaned ∙ ap last_in (entries_left marks c u m)
    ∙ last_left marks (entries c m) (sound.cleaned_entered m s is) (ap (stays marks) (sym same) ∙ kept) ∙ ap (new_number marks) (sym same)
owner_left p marks c u (Moved o) left after_left sound can tracks there can_left kept = refl

-- where the job whose the last event is stays, its renamed event is the last one
abbrev IsFoundLeft : List Bool → Option ℕ → Option ℕ → Type 0
IsFoundLeft marks found found_left = (j : ℕ) → found ≡ Some j → stays marks j ≡ true → found_left ≡ Some (new_number marks j)

module _ (p : PlannedShop) (marks : List Bool) (count : length marks ≡ jobs p) (shaped : IsWellShaped p) (shaped_left : IsWellShaped (pruned marks p)) where
  abbrev q : PlannedShop
  q = pruned marks p

  abbrev Later : Cell → List Event → List ℕ → Option ℕ → Type 0
  Later c es left found = (u : ℕ) → u ≤ c.last → (after_left : List ℕ) (found_left : Option ℕ) → IsSound q (pruned_cell marks c u) → Tracks q (pruned_cell marks c u) after_left → IsFoundLeft marks found found_left
      → IsFoundLeft marks (last_owner found left es) (last_owner found_left after_left (pruned_events marks left es))

  one_more : (c : Cell) (e : Event) (es : List Event) (left : List ℕ) (b : Bool) → stays marks (owner left e) ≡ b → IsSound p c → CanHappen p c e → Tracks p c left
      → Later (after p c e) es (left_after left e) (Some (owner left e))
      → (u : ℕ) → u ≤ c.last → (after_left : List ℕ) (found found_left : Option ℕ) → IsSound q (pruned_cell marks c u) → Tracks q (pruned_cell marks c u) after_left → IsFoundLeft marks found found_left
      → IsFoundLeft marks (last_owner (Some (owner left e)) (left_after left e) es)
      (last_owner found_left after_left (if b then renamed marks e ∷ pruned_events marks (left_after left e) es else pruned_events marks (left_after left e) es))
  one_more c e es left true is sound can tracks later u sooner after_left found found_left sound_left there known =
      let (can_left, same) = event_kept p marks count shaped c sound u sooner e left can tracks.last is in
      let next : IsSound q (pruned_cell marks (after p c e) (after p c e).last) = subst (λ x. IsSound q x) same (after-sound q (pruned_cell marks c u) (renamed marks e) shaped_left sound_left can_left) in
      let there_next : Tracks q (pruned_cell marks (after p c e) (after p c e).last) (left_after after_left (renamed marks e)) =
      subst (λ x. Tracks q x (left_after after_left (renamed marks e))) same (after-tracks q (pruned_cell marks c u) (renamed marks e) after_left shaped_left sound_left can_left there) in
      later (after p c e).last (le_refl (after p c e).last) (left_after after_left (renamed marks e)) (Some (owner after_left (renamed marks e))) next there_next
      (λ j here kept. let mine : owner left e ≡ j = cc in ap Some (owner_left p marks c u e left after_left sound can tracks there can_left is ∙ ap (new_number marks) mine))
  one_more c e es left false is sound can tracks later u sooner after_left found found_left sound_left there known =
      let same : pruned_cell marks c u ≡ pruned_cell marks (after p c e) u = sym (event_dropped p marks count shaped c sound u sooner e left can tracks.last is) in
      later u (omega (arith, sooner, after-later p c e can)) after_left found_left (subst (λ x. IsSound q x) same sound_left) (subst (λ x. Tracks q x after_left) same there)
      (λ j here kept. absurd (let mine : owner left e ≡ j = cc in let out : stays marks j ≡ false = ap (stays marks) (sym mine) ∙ is in cc))

  owners_on : (c : Cell) (es : List Event) (left : List ℕ) (found : Option ℕ) → IsSound p c → AreEvents p c es → Tracks p c left → Later c es left found
  owners_on c [] left found sound events tracks u sooner after_left found_left sound_left there known = known
  owners_on c (e ∷ es) left found sound (can, events) tracks u sooner after_left found_left sound_left there known =
      subst (λ fs. IsFoundLeft marks (last_owner (Some (owner left e)) (left_after left e) es) (last_owner found_left after_left fs)) (sym (pruned_first marks left e es (stays marks (owner left e)) refl))
      (one_more c e es left (stays marks (owner left e)) refl sound can tracks
      (owners_on (after p c e) es (left_after left e) (Some (owner left e)) (after-sound p c e shaped sound can) events (after-tracks p c e left shaped sound can tracks))
      u sooner after_left found found_left sound_left there known)

  run_owner_left : (es : List Event) → IsRun p es → (j : ℕ) → run_owner p es ≡ Some j → stays marks j ≡ true → run_owner q (pruned_run marks p es) ≡ Some (new_number marks j)
  run_owner_left es run =
      let at_start : start q ≡ pruned_cell marks (start p) 0 = sym (start_left p marks count shaped) in
      owners_on (start p) es (nobody_left p) None (start-sound p shaped) run (start-tracks p) 0 (omega arith) (nobody_left p) None
      (subst (λ x. IsSound q x) at_start (start-sound q shaped_left)) (subst (λ x. Tracks q x (nobody_left p)) at_start (start-tracks q))
      (λ j here kept. absurd (cc))

pub nothing_more_is_over-holds : NothingMoreIsOver
nothing_more_is_over-holds p es marks shaped run drops i inside over =
    let left : IsWhatIsLeft marks p es = left_over p (ends_in p es) es marks shaped run refl drops in
    let q : PlannedShop = pruned marks p in
    let c : Cell = ends_in p es in
    let d : Cell = ends_in q (pruned_run marks p es) in
    let sound : IsSound p c = run-sound p es shaped run in
    let sound_left : IsSound q d = run-sound q (pruned_run marks p es) left.shaped left.run in
    let (j, less, kept, is) = old_job p marks drops.count i inside in
    let mine : IsJobOver q d (run_owner q (pruned_run marks p es)) (new_number marks j) = subst (λ x. IsJobOver q d (run_owner q (pruned_run marks p es)) x) (sym is) over in
    let was : IsJobOver p c (run_owner p es) j = record {
      gone = omega (arith, mine.gone, ap length (route_kept p marks drops.count j kept), ap (λ (x : JobState). x.made) (left.jobs_same j kept));
      not_cleaned = λ m cleaned.
          let some : 0 < length (entries c m) = sound.cleaned_entered m cleaned.from cleaned.is_cleaned in
          let last : last_in (entries c m) ≡ j = (last_place p c m sound some).1 ∙ cleaned.last_in in
          let there : cleaning d m ≡ Some cleaned.from = left.cleaning_same m ∙ cleaned.is_cleaned in
          let newest : last_in (entries d m) ≡ new_number marks j =
          ap (λ x. last_in (entries x m)) left.ends ∙ ap last_in (entries_left marks c c.last m) ∙ last_left marks (entries c m) some (ap (stays marks) last ∙ kept) ∙ ap (new_number marks) last in
          mine.not_cleaned m (record {
            from = cleaned.from;
            is_cleaned = there;
            last_in = sym (last_place q d m sound_left (sound_left.cleaned_entered m cleaned.from there)).1 ∙ newest;
          });
      not_last = λ last. mine.not_last (run_owner_left p marks drops.count shaped left.shaped es run j last kept);
    } in
    absurd (let dropped : stays marks j ≡ false = (drops.exact j less).1 was in cc)
