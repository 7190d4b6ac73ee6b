-- The next run is one of its plan.
use Rattle.std.proofs.Common.{◌≡◌, ℕ, List, Bool, true, false, refl, sym, ap, subst, arith, get_or, length, ◌<◌, ◌∙◌}
use Rattle.shop_base.specs.Plan.{PlannedShop, jobs, IsWellShaped}
use Rattle.shop_base.specs.Cell.{Cell, job_in}
use Rattle.shop_base.specs.Report.{IsNextMoment}
use Rattle.shop_base.specs.Run.{Event, IsRun, ends_in}
use Rattle.cell_tables.specs.Events.{events_of}
use Rattle.plan_verifier.specs.Accepted.{HasNoCycle}
use Rattle.plan_revise.specs.declared.change.Change.{Change}
use Rattle.plan_revise.specs.Aside.{IsPlantOf}
use Rattle.run_pruning.specs.{Pruned.pruned, PruningLaw.pruned_run, PruningLaw.IsWhatIsLeft, Spare.without_spare, Over.DropsAllThatIsOver}
use Rattle.run_pruning.specs.PruningLaw.{run_owner}
use Rattle.run_pruning.specs.SpareLaw.{HasTheSameRuns}
use Rattle.run_pruning.proofs.PrunedShops.{number_inside}
use Rattle.run_pruning.proofs.WhatIsLeft.{left_over}
use Rattle.run_pruning.proofs.PrunedCycles.{no_cycle_comes_without_jobs-holds, no_cycle_comes_without_spare-holds}
use Rattle.run_pruning.proofs.WithoutSpare.{the_runs_are_the_same-holds}
use Rattle.run_revising.specs.declared.next.NextRun.{NextRun}
use Rattle.run_revising.specs.Renumbering.{renumbered_changes}
use Rattle.run_revising.specs.RunChanges.{unchanged}
use Rattle.run_revising.specs.NextRuns.{IsRevisedTo}
use Rattle.run_revising.specs.NextRunLaw.{TheNextRunIsARun, WithoutAHoldTheRunStays}
use Rattle.run_revising.proofs.Plants.{plant_is_of, plant_left}
use Rattle.run_revising.proofs.RunsChanged.{changes_none}
use Rattle.run_revising.proofs.SoundRuns.{IsSoundRun, first_run, changes_sound, changes_no_cycle, changes_jobs, reached_run}
use Rattle.run_revising.proofs.Numbering.{all_at, all_count, number_at}

-- a run of a well-shaped plan at a moment, in a plant with so many machines
record IsGoodRun (p : PlannedShop) (es : List Event) (t plant : ℕ) : Type 0 where
  shaped : IsWellShaped p
  run : IsRun p es
  moment : IsNextMoment (ends_in p es) t
  is_plant : IsPlantOf p plant

-- what changes make of it is one of the new plan
module _ (plant t : ℕ) (p : PlannedShop) (es : List Event) (changes : List Change) (next : NextRun) (good : IsGoodRun p es t plant) (revised : IsRevisedTo plant t p es changes next.shaped (events_of next.entries.items)) where
  abbrev q : PlannedShop
  q = revised.last.reached

  abbrev fs : List Event
  fs = revised.last.events

  first : IsSoundRun plant t (unchanged p es)
  first = first_run plant t p es good.shaped good.run good.moment good.is_plant

  reached : IsWellShaped q × IsRun q fs × (IsNextMoment (ends_in q fs) t × IsPlantOf q plant)
  reached = reached_run plant t revised.last (changes_sound plant t (unchanged p es) changes revised.last first revised.made)

  runs : HasTheSameRuns q (without_spare q plant)
  runs = the_runs_are_the_same-holds q plant reached.0

  run_there : IsRun (without_spare q plant) fs
  run_there = (runs.runs fs).0 reached.1

  last_same : (ends_in (without_spare q plant) fs).last ≡ (ends_in q fs).last
  last_same = ap (λ (x : Cell). x.last) (runs.ends fs reached.1)

  no_cycle_there : HasNoCycle p → HasNoCycle (without_spare q plant)
  no_cycle_there acyclic = no_cycle_comes_without_spare-holds q plant reached.0 (changes_no_cycle plant t (unchanged p es) changes revised.last first revised.made acyclic)

  good_shaped : IsWellShaped next.shaped
  good_shaped = subst IsWellShaped (sym revised.left) runs.shaped

  good_run : IsRun next.shaped (events_of next.entries.items)
  good_run = rw (revised.left, revised.events) run_there

  good_moment : IsNextMoment (ends_in next.shaped (events_of next.entries.items)) t
  good_moment = rw (revised.left, revised.events) (record { in_order = omega (arith, last_same, reached.2.0.in_order); in_range = reached.2.0.in_range })

  good_jobs : (i : ℕ) → i < jobs p → job_in (ends_in next.shaped (events_of next.entries.items)) i ≡ job_in (ends_in p es) i
  good_jobs i inside = rw (revised.left, revised.events)
      (ap (λ (x : Cell). job_in x i) (runs.ends fs reached.1) ∙ changes_jobs plant t (unchanged p es) changes revised.last first revised.made i inside)

  good_no_cycle : HasNoCycle p → HasNoCycle next.shaped
  good_no_cycle acyclic = subst HasNoCycle (sym revised.left) (no_cycle_there acyclic)

-- the run of the jobs that stay
module _ (plant t : ℕ) (p : PlannedShop) (es : List Event) (marks : List Bool) (shaped : IsWellShaped p) (run : IsRun p es) (moment : IsNextMoment (ends_in p es) t) (is_plant : IsPlantOf p plant)
    (drops : DropsAllThatIsOver p (ends_in p es) (run_owner p es) marks) where
  left : IsWhatIsLeft marks p es
  left = left_over p (ends_in p es) es marks shaped run refl drops

  left_good : IsGoodRun (pruned marks p) (pruned_run marks p es) t plant
  left_good = record {
    shaped = left.shaped;
    run = left.run;
    moment = record { in_order = omega (arith, ap (λ (x : Cell). x.last) left.ends, moment.in_order); in_range = moment.in_range };
    is_plant = plant_left p marks plant drops.count is_plant;
  }

  left_no_cycle : HasNoCycle p → HasNoCycle (pruned marks p)
  left_no_cycle acyclic = no_cycle_comes_without_jobs-holds p marks shaped left.choice acyclic

pub next_run_good : TheNextRunIsARun
next_run_good p es t changes false next shaped run moment (plant, is_plant, whole) =
    let good : IsGoodRun p es t plant = record { shaped = shaped; run = run; moment = moment; is_plant = plant_is_of p plant is_plant } in
    record {
      shaped = good_shaped plant t p es changes next good whole.revised;
      run = good_run plant t p es changes next good whole.revised;
      moment = good_moment plant t p es changes next good whole.revised;
      jobs_same = λ i inside. (let few : i < jobs p = omega (arith, inside, ap length whole.were, all_count (jobs p) 0) in
          let was : i ≡ get_or next.were.items i 0 = omega (arith, ap (λ (ns : List ℕ). get_or ns i 0) whole.were, all_at (jobs p) 0 i few) in
          good_jobs plant t p es changes next good whole.revised i few ∙ ap (job_in (ends_in p es)) was);
      acyclic = good_no_cycle plant t p es changes next good whole.revised;
    }
next_run_good p es t changes true next shaped run moment (plant, is_plant, part) =
    let of = plant_is_of p plant is_plant in
    let drops = part.ahead in
    let good = left_good plant t p es part.kept shaped run moment of drops in
    let more = renumbered_changes part.kept changes in
    record {
      shaped = good_shaped plant t (pruned part.kept p) (pruned_run part.kept p es) more next good part.revised;
      run = good_run plant t (pruned part.kept p) (pruned_run part.kept p es) more next good part.revised;
      moment = good_moment plant t (pruned part.kept p) (pruned_run part.kept p es) more next good part.revised;
      jobs_same = λ i inside. (let at = number_at part.kept 0 i (omega (arith, inside, ap length part.were)) in
          let few : i < jobs (pruned part.kept p) = omega (arith, number_inside p part.kept drops.count at.job at.kept, at.number) in
          let was : at.job ≡ get_or next.were.items i 0 = omega (arith, ap (λ (ns : List ℕ). get_or ns i 0) part.were, at.is) in
          good_jobs plant t (pruned part.kept p) (pruned_run part.kept p es) more next good part.revised i few
          ∙ ap (job_in (ends_in (pruned part.kept p) (pruned_run part.kept p es))) (sym at.number) ∙ (left plant t p es part.kept shaped run moment of drops).jobs_same at.job at.kept
          ∙ ap (job_in (ends_in p es)) was);
      acyclic = λ acyclic. good_no_cycle plant t (pruned part.kept p) (pruned_run part.kept p es) more next good part.revised (left_no_cycle plant t p es part.kept shaped run moment of drops acyclic);
    }

-- where no change holds a machine
pub alone_without_a_hold : WithoutAHoldTheRunStays
alone_without_a_hold plant t p es changes new_plan new_events none revised =
    let alone = changes_none plant t (unchanged p es) changes revised.last none revised.made in
    record { revised = revised.last.reached; made = alone.1; left = revised.left; events = revised.events ∙ alone.0 }
