-- What is left of a run without jobs that are over needs no machine that nobody visits.
use Rattle.std.proofs.Common.{◌≡◌, ℕ, ◌-◌, ◌<◌, List, length, slice_index, map, Bool, refl, sym, ap, ap₂, ◌∙◌, subst}
use Rattle.shop_base.specs.declared.report.Report.{Report}
use Rattle.shop_base.specs.Plan.{PlannedShop, jobs, machines, IsWellShaped}
use Rattle.shop_base.specs.Cell.{Cell, job_in, cleaning}
use Rattle.shop_base.specs.ReportsLeft.{reports_left}
use Rattle.shop_base.specs.Run.{Event, IsRun, ends_in}
use Rattle.shop_base.specs.Sound.{IsSound}
use Rattle.shop_base.proofs.Keeping.{run-sound}
use Rattle.run_pruning.specs.Staying.{new_number, stays}
use Rattle.run_pruning.specs.{Pruned.pruned, PrunedEvents.renamed_report, PrunedEvents.renamed}
use Rattle.run_pruning.specs.Over.{IsJobOver, DropsWhatIsOver}
use Rattle.run_pruning.specs.PruningLaw.{pruned_run, run_owner, left_cell, IsLeftAs, IsWhatIsLeft}
use Rattle.run_pruning.specs.RestLaw.{new_node, IsAheadRenamed, ArePathsRenamed}
use Rattle.run_pruning.specs.OnwardLaw.{NameNoOthers, GoesOnBy, GoesOnRenamed}
use Rattle.run_pruning.specs.Spare.{narrowed, narrowed_cell}
use Rattle.run_pruning.specs.SpareLaw.{HasTheSameRuns, IsLeftWithRest, WhatIsLeftNeedsNoSpare, NothingIsOverWithoutSpare}
use Rattle.run_pruning.proofs.Alike.{AreAlike, AreCellsAlike, entries_there, cleaning_there}
use Rattle.run_pruning.proofs.AlikeAhead.{ahead_on, paths_on}
use Rattle.run_pruning.proofs.Narrowed.{AreEnough, narrowed-alike, narrowed-cells, narrowed-runs}
use Rattle.run_pruning.proofs.NarrowedReports.{narrowed-reports, narrowed-owner}
use Rattle.run_pruning.proofs.NarrowedRests.{narrowed-rests}
use Rattle.run_pruning.proofs.WithoutSpare.{left_enough}
use Rattle.run_pruning.proofs.WhatIsLeft.{what_is_left_is_a_run-holds, left_over}
use Rattle.run_pruning.proofs.NothingMore.{nothing_more_is_over-holds}
use Rattle.run_pruning.proofs.RestSame.{nothing_ahead_changes-holds}
use Rattle.run_pruning.proofs.Onward.{the_run_goes_on_renamed-holds}

module _ (p : PlannedShop) (es : List Event) (marks : List Bool) (known : IsWhatIsLeft marks p es) (n : ℕ) (enough : AreEnough (pruned marks p) n) where
  abbrev before : PlannedShop
  before = pruned marks p

  abbrev q : PlannedShop
  q = narrowed n before

  abbrev gs : List Event
  gs = pruned_run marks p es

  abbrev c : Cell
  c = ends_in before gs

  runs : HasTheSameRuns before q
  runs = narrowed-runs before n known.shaped enough

  ends : ends_in q gs ≡ narrowed_cell n c
  ends = runs.ends gs known.run

  sound : IsSound before c
  sound = run-sound before gs known.shaped known.run

  alike : AreAlike before q
  alike = narrowed-alike before n known.shaped enough

  cells : AreCellsAlike c (narrowed_cell n c)
  cells = narrowed-cells before n known.shaped enough c sound

  left_narrowed : IsLeftAs (λ x. narrowed_cell n (left_cell marks x)) marks p es q
  left_narrowed = record {
    choice = known.choice;
    shaped = runs.shaped;
    run = (runs.runs gs).0 known.run;
    ends = ends ∙ ap (narrowed_cell n) known.ends;
    jobs_same = λ j kept. ap (λ x. job_in x (new_number marks j)) ends ∙ known.jobs_same j kept;
    cleaning_same = λ m. ap (λ x. cleaning x m) ends ∙ cleaning_there c (narrowed_cell n c) cells m ∙ known.cleaning_same m;
    reports_same = ap (reports_left q) ends ∙ narrowed-reports before n known.shaped enough c sound ∙ known.reports_same;
  }

  pub narrowed-left : IsWellShaped p → IsRun p es → DropsWhatIsOver p (ends_in p es) (run_owner p es) marks → IsLeftWithRest (λ x. narrowed_cell n (left_cell marks x)) marks p es q
  narrowed-left shaped run drops = record {
    left = left_narrowed;
    ahead = subst (λ d. IsAheadRenamed marks p (ends_in p es) q d) (sym ends)
        (ahead_on (new_node marks) p (ends_in p es) before q alike c (narrowed_cell n c) cells (stays marks) (nothing_ahead_changes-holds p es marks 0 shaped run drops).0);
    paths = λ t. subst (λ d. ArePathsRenamed marks p (ends_in p es) q d t) (sym ends)
        (paths_on (new_node marks) p (ends_in p es) before q alike c (narrowed_cell n c) cells t (nothing_ahead_changes-holds p es marks t shaped run drops).1);
    onward = onward;
  }
    where
      onward : (t : ℕ) (rs : List Report) → NameNoOthers marks rs
          → GoesOnBy (map (renamed_report marks)) (map (renamed marks)) (λ x. narrowed_cell n (left_cell marks x)) p (ends_in p es) q (ends_in q gs) t rs
      onward t rs names =
          let first : GoesOnRenamed marks p (ends_in p es) before c t rs = the_run_goes_on_renamed-holds p es marks t rs shaped run drops names in
          let then_on : GoesOnBy (λ rs. rs) (λ es. es) (narrowed_cell n) before c q (ends_in q gs) t (map (renamed_report marks) rs) =
          (narrowed-rests before n known.shaped enough).onward gs t (map (renamed_report marks) rs) known.run in record {
            onward = λ fs end goes. then_on.onward (map (renamed marks) fs) (left_cell marks end) (first.onward fs end goes);
            back = λ others last goes.
                let (hs, there, one, other, was) = then_on.back others last goes in
                let (fs, end, same, is, old) = first.back hs there was in
                (fs, end, one ∙ same, other ∙ ap (narrowed_cell n) is, old);
          }

  -- a job that is over with the first machines is over with all
  pub narrowed-over : (i : ℕ) → IsJobOver q (ends_in q gs) (run_owner q gs) i → IsJobOver before c (run_owner before gs) i
  narrowed-over i over =
      let here : IsJobOver q (narrowed_cell n c) (run_owner q gs) i = subst (λ d. IsJobOver q d (run_owner q gs) i) ends over in record {
        gone = here.gone;
        not_cleaned = λ m cleaned. here.not_cleaned m (record {
          from = cleaned.from;
          is_cleaned = cleaning_there c (narrowed_cell n c) cells m ∙ cleaned.is_cleaned;
          last_in = ap₂ (λ (js es : List ℕ). slice_index js (length es - 1)) (alike.orders m) (entries_there c (narrowed_cell n c) cells m) ∙ cleaned.last_in;
        });
        not_last = λ last. here.not_last (narrowed-owner before n known.shaped enough gs known.run ∙ last);
      }

pub what_is_left_needs_no_spare-holds : WhatIsLeftNeedsNoSpare
what_is_left_needs_no_spare-holds p es marks plant shaped run drops =
    let known : IsWhatIsLeft marks p es = what_is_left_is_a_run-holds p es marks shaped run drops in
    let (n, enough, is) = left_enough (pruned marks p) known.shaped plant in
    subst (λ q. IsLeftWithRest (λ c. narrowed_cell (machines q) (left_cell marks c)) marks p es q) is (narrowed-left p es marks known n enough shaped run drops)

pub nothing_is_over_without_spare-holds : NothingIsOverWithoutSpare
nothing_is_over_without_spare-holds p es marks plant shaped run drops =
    let known : IsWhatIsLeft marks p es = left_over p (ends_in p es) es marks shaped run refl drops in
    let (n, enough, is) = left_enough (pruned marks p) known.shaped plant in
    subst (λ q. (i : ℕ) → i < jobs q → IsJobOver q (ends_in q (pruned_run marks p es)) (run_owner q (pruned_run marks p es)) i → ⊥) is
    (λ i inside over. nothing_more_is_over-holds p es marks shaped run drops i inside (narrowed-over p es marks known n enough i over))
