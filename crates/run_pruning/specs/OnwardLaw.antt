-- The law that a run goes on without jobs that are over as it does with them.
use Rattle.std.specs.Prelude.{◌≡◌, ℕ, List, [], ◌∷◌, Bool, map, true}
use Rattle.shop_base.specs.declared.report.Report.{Report, TheVariants.{Arrive, Finish, Clean}}
use Rattle.shop_base.specs.Plan.{PlannedShop, IsWellShaped}
use Rattle.shop_base.specs.Cell.{Cell}
use Rattle.shop_base.specs.Run.{Event, IsRun, ends_in}
use Rattle.shop_base.specs.Ahead.{GoesOnTo}
use Rattle.run_pruning.specs.Staying.{stays}
use Rattle.run_pruning.specs.{Pruned.pruned, PrunedEvents.renamed_report, PrunedEvents.renamed, Over.DropsWhatIsOver}
use Rattle.run_pruning.specs.PruningLaw.{pruned_run, run_owner, left_cell}

-- the report names no job that doesn't stay
abbrev pub NamesNoOther : List Bool → Report → Type 0
NamesNoOther marks (Arrive job moment) = stays marks job ≡ true
NamesNoOther marks (Finish job machine moment) = stays marks job ≡ true
NamesNoOther marks (Clean machine moment) = Unit {0}

-- nor does any of the reports
abbrev pub NameNoOthers : List Bool → List Report → Type 0
NameNoOthers marks [] = Unit {0}
NameNoOthers marks (r ∷ rs) = NamesNoOther marks r × NameNoOthers marks rs

-- what the reports lead to from cell c by plan p they lead to from cell d by plan q, each by other names
pub record GoesOnBy (reports : List Report → List Report) (events : List Event → List Event) (cell : Cell → Cell) (p : PlannedShop) (c : Cell) (q : PlannedShop) (d : Cell) (t : ℕ) (rs : List Report) : Type 0 where
  pub onward : (fs : List Event) (end : Cell) → GoesOnTo p c t rs fs end → GoesOnTo q d t (reports rs) (events fs) (cell end)
  pub back : (gs : List Event) (last : Cell) → GoesOnTo q d t (reports rs) gs last → (fs : List Event) × (end : Cell) × (gs ≡ events fs) × (last ≡ cell end) × GoesOnTo p c t rs fs end

-- it is so by the new numbers of the jobs that stay
abbrev pub GoesOnRenamed : List Bool → PlannedShop → Cell → PlannedShop → Cell → ℕ → List Report → Type 0
GoesOnRenamed marks = GoesOnBy (map (renamed_report marks)) (map (renamed marks)) (left_cell marks)

-- the run goes on renamed: whatever jobs that are over are dropped, from every present moment on each controlled run is one of the plan without them, by the new numbers, and the other way round
abbrev pub TheRunGoesOnRenamed : Type 0
TheRunGoesOnRenamed = (p : PlannedShop) (es : List Event) (marks : List Bool) (t : ℕ) (rs : List Report) → IsWellShaped p → IsRun p es
    → DropsWhatIsOver p (ends_in p es) (run_owner p es) marks → NameNoOthers marks rs
    → GoesOnRenamed marks p (ends_in p es) (pruned marks p) (ends_in (pruned marks p) (pruned_run marks p es)) t rs
