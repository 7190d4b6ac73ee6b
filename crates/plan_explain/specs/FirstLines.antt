-- The first lines of verdicts.
use Rattle.std.specs.Prelude.{◌≡◌, ℕ, zero, suc, List, [], ◌∷◌, ◌++◌, codes, decimal}
use Rattle.std.specs.List.{flat_map}
use Rattle.shop_base.specs.{declared.node.Node.Node, NodeText.node_text, Plan.PlannedShop, Plan.jobs, Cell.Cell}
use Rattle.plan_verifier.specs.declared.verdict.Judged.{Judged}
use Rattle.plan_verifier.specs.declared.verdict.Judged.TheVariants.{Accepted, Refused}
use Rattle.plan_verifier.specs.{declared.verdict.Why.Why, declared.verdict.Why.TheVariants.Cycle, declared.verdict.Why.TheVariants.Late}
use Rattle.plan_verifier.specs.Leavings.{leaves_in, AreLeavingsAhead, IsLastLeaving}

-- the nodes, with a blank before each
abbrev pub node_words : List Node → List ℕ
node_words nodes = flat_map (λ v. codes " " ++ node_text v) nodes

-- the moments, with a blank before each
abbrev pub moment_words : List ℕ → List ℕ
moment_words moments = flat_map (λ n. codes " " ++ decimal n) moments

-- the line of what is accepted, by its makespan and the jobs' leavings
abbrev pub accepted_line : ℕ → List ℕ → List ℕ
accepted_line makespan leaves = codes "accepted makespan " ++ decimal makespan ++ codes " leaves" ++ moment_words leaves ++ codes "\n"

-- the line of a cycle
abbrev pub cycle_line : List Node → List ℕ
cycle_line nodes = codes "refused cycle" ++ node_words nodes ++ codes "\n"

-- the words of a late job and its leaving
abbrev pub late_words : ℕ → ℕ → List ℕ
late_words job leaves = codes "refused late " ++ decimal job ++ codes " " ++ decimal leaves

-- the line of a late job: these words, and then the nodes
abbrev pub refused_late_line : ℕ → ℕ → List Node → List ℕ
refused_late_line job leaves chain = codes "refused late " ++ decimal job ++ codes " " ++ decimal leaves ++ node_words chain ++ codes "\n"

-- the line of a refusal
abbrev pub reason_line : Why → List ℕ
reason_line (Cycle nodes) = cycle_line nodes.items
reason_line (Late job leaves chain times) = refused_late_line job leaves chain.items

-- the moments of the first n jobs
abbrev pub moments_below : (ℕ → ℕ) → ℕ → List ℕ
moments_below leaves zero = []
moments_below leaves (suc n) = moments_below leaves n ++ leaves n ∷ []

-- the line gives these leavings, and the last of them
abbrev pub IsAcceptedText : PlannedShop → (ℕ → ℕ) → List ℕ → Type 0
IsAcceptedText p leaves line = (n : ℕ) × IsLastLeaving p leaves n × (line ≡ accepted_line n (moments_below leaves (jobs p)))

-- the line of a verdict, by its earliest moments or its evidence
abbrev pub IsLineByTimes : PlannedShop → Judged → List ℕ → Type 0
IsLineByTimes p (Accepted times) line = IsAcceptedText p (leaves_in p times) line
IsLineByTimes p (Refused why) line = line ≡ reason_line why

-- the line gives the makespan and the leavings of the rest
pub record IsAcceptedFirstLine (p : PlannedShop) (c : Cell) (t : ℕ) (line : List ℕ) : Type 0 where
  pub leaves : ℕ → ℕ
  pub leavings : AreLeavingsAhead p c t leaves
  pub text : IsAcceptedText p leaves line

-- the first line of a verdict
abbrev pub IsFirstLine : PlannedShop → Cell → ℕ → Judged → List ℕ → Type 0
IsFirstLine p c t (Accepted times) line = IsAcceptedFirstLine p c t line
IsFirstLine p c t (Refused why) line = line ≡ reason_line why
