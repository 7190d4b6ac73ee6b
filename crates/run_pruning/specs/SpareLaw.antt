-- The laws of a planned shop without the machine that nobody visits, and of a run without that and without jobs that are over.
use Rattle.std.specs.Prelude.{◌≡◌, ℕ, ◌<◌, ◌↔◌, List, Bool, map, true}
use Rattle.shop_base.specs.declared.report.Report.{Report}
use Rattle.shop_base.specs.Plan.{PlannedShop, jobs, machines, IsWellShaped}
use Rattle.shop_base.specs.Cell.{Cell}
use Rattle.shop_base.specs.Run.{Event, IsRun, ends_in}
use Rattle.run_pruning.specs.{Pruned.pruned, PrunedEvents.renamed_report, PrunedEvents.renamed, Over.IsJobOver, Over.DropsWhatIsOver, Over.DropsAllThatIsOver}
use Rattle.run_pruning.specs.PruningLaw.{pruned_run, run_owner, left_cell, IsLeftAs}
use Rattle.run_pruning.specs.RestLaw.{IsAheadBy, ArePathsBy, IsAheadRenamed, ArePathsRenamed}
use Rattle.run_pruning.specs.OnwardLaw.{NameNoOthers, GoesOnBy}
use Rattle.run_pruning.specs.Spare.{narrowed_cell, without_spare}

-- planned shop q is well shaped and has the same runs as p: each ends in the same cell, with the machines of q alone
pub record HasTheSameRuns (p q : PlannedShop) : Type 0 where
  pub shaped : IsWellShaped q
  pub runs : (es : List Event) → IsRun p es ↔ IsRun q es
  pub ends : (es : List Event) → IsRun p es → ends_in q es ≡ narrowed_cell (machines q) (ends_in p es)

-- behind each run of p the same is ahead by q, and from each present moment on reports lead to the same
pub record HasTheSameRests (p q : PlannedShop) : Type 0 where
  pub ahead : (es : List Event) → IsRun p es → IsAheadBy (λ j. true) (λ v. v) p (ends_in p es) q (ends_in q es)
  pub paths : (es : List Event) (t : ℕ) → IsRun p es → ArePathsBy (λ v. v) p (ends_in p es) q (ends_in q es) t
  pub onward : (es : List Event) (t : ℕ) (rs : List Report) → IsRun p es → GoesOnBy (λ rs. rs) (λ es. es) (narrowed_cell (machines q)) p (ends_in p es) q (ends_in q es) t rs

-- without the machine that nobody visits the runs are the same
abbrev pub TheRunsAreTheSame : Type 0
TheRunsAreTheSame = (p : PlannedShop) (plant : ℕ) → IsWellShaped p → HasTheSameRuns p (without_spare p plant)

-- and so are their rests
abbrev pub TheRestsAreTheSame : Type 0
TheRestsAreTheSame = (p : PlannedShop) (plant : ℕ) → IsWellShaped p → HasTheSameRests p (without_spare p plant)

-- what is left of a run without jobs that are over, by planned shop q, and its rest: all is as it was but for the numbers
pub record IsLeftWithRest (cell : Cell → Cell) (marks : List Bool) (p : PlannedShop) (es : List Event) (q : PlannedShop) : Type 0 where
  pub left : IsLeftAs cell marks p es q
  pub ahead : IsAheadRenamed marks p (ends_in p es) q (ends_in q (pruned_run marks p es))
  pub paths : (t : ℕ) → ArePathsRenamed marks p (ends_in p es) q (ends_in q (pruned_run marks p es)) t
  pub onward : (t : ℕ) (rs : List Report) → NameNoOthers marks rs
      → GoesOnBy (map (renamed_report marks)) (map (renamed marks)) cell p (ends_in p es) q (ends_in q (pruned_run marks p es)) t rs

-- without jobs that are over, and then without the machine that nobody visits any more, what is left is a run too: it ends in the cell without them and without that machine
abbrev pub WhatIsLeftNeedsNoSpare : Type 0
WhatIsLeftNeedsNoSpare = (p : PlannedShop) (es : List Event) (marks : List Bool) (plant : ℕ) → IsWellShaped p → IsRun p es → DropsWhatIsOver p (ends_in p es) (run_owner p es) marks
    → (let q = without_spare (pruned marks p) plant in IsLeftWithRest (λ c. narrowed_cell (machines q) (left_cell marks c)) marks p es q)

-- and where all that are over were dropped, none is over
abbrev pub NothingIsOverWithoutSpare : Type 0
NothingIsOverWithoutSpare = (p : PlannedShop) (es : List Event) (marks : List Bool) (plant : ℕ) → IsWellShaped p → IsRun p es → DropsAllThatIsOver p (ends_in p es) (run_owner p es) marks
    → (let q = without_spare (pruned marks p) plant in (i : ℕ) → i < jobs q → IsJobOver q (ends_in q (pruned_run marks p es)) (run_owner q (pruned_run marks p es)) i → ⊥)
