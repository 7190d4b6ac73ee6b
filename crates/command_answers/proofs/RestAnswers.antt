-- The answers on a plan, and on the rest of a run.
use Rattle.std.proofs.Common.{◌≡◌, ◌≤◌, ℕ, Option, None, Some, Result, Ok, Err, IfOk, inl, inr, List, [], ◌∷◌, arith}
use Rattle.shop_base.specs.{Plan.PlannedShop, Cell.{Cell, start}, declared.node.Node.Node}
use Rattle.alt_graph.specs.{Evidence.IsCycle, Solved.HasCycle}
use Rattle.people_names.specs.NameBooks.{NameBook}
use Rattle.plan_verifier.specs.{declared.verdict.Judged.Judged, declared.verdict.Judged.TheVariants.{Accepted, Refused}}
use Rattle.cell_control.specs.Begun.{IsRestFault}
use Rattle.cell_control.specs.declared.rest_fault.RestFault.{RestFault}
use Rattle.cell_control.specs.declared.rest_fault.RestFault.TheVariants.{Cycle, Memory as NoMovesMemory}
use Rattle.plan_explain.specs.Known.{HasRanks, IsKnownVerdict}
use Rattle.command_answers.specs.declared.answer.Answer.{Answer}
use Rattle.command_answers.specs.declared.rests.PlanAnswer.{PlanAnswer}
use Rattle.command_answers.specs.declared.rests.PlanAnswer.TheVariants.{Verdict, Reasons, Moments}
use Rattle.command_answers.specs.Checks.{IsVerdictLine}
use Rattle.command_answers.specs.Moves.{AreMovesAhead, IsMovesAnswer, moves_command_fault}
use Rattle.command_answers.specs.Rests.{IsAnswerBy, IsLogAnswer, IsRestLine, AnswersRest, rest_status}

-- an accepted rest has its ranks
pub has_ranks : (p : PlannedShop) (c : Cell) (t : ℕ) (verdict : Judged) → IsKnownVerdict p c t verdict → HasRanks p verdict
has_ranks p c t (Accepted times) judged = judged.accepted.0.ranks
has_ranks p c t (Refused why) judged = tt

-- the text of the verdict on the rest is what is printed of it
pub by_verdict : (names : NameBook) (wanted : PlanAnswer) (p : PlannedShop) (c : Cell) (t : ℕ) (verdict : Judged) (answer : Answer) → IsKnownVerdict p c t verdict → IsAnswerBy names wanted p c t verdict answer → AnswersRest names wanted p c t answer
by_verdict names wanted p c t verdict answer judged is = record { verdict = verdict; judged = judged; text = is.text; status = is.status }

-- so of one that may not come
pub judged_answered : {E : Type 0} (names : NameBook) (wanted : PlanAnswer) (p : PlannedShop) (c : Cell) (t : ℕ) (verdict : Judged) (answered : Result Answer E) → IsKnownVerdict p c t verdict
    → IfOk answered (IsAnswerBy names wanted p c t verdict) → IfOk answered (AnswersRest names wanted p c t)
judged_answered names wanted p c t verdict (Ok answer) judged is = by_verdict names wanted p c t verdict answer judged is
judged_answered names wanted p c t verdict (Err error) judged is = tt

-- where no moves are given, and memory hasn't run out, the plan has a cycle
pub no_moves : (p : PlannedShop) (fault : RestFault) → IsRestFault p fault → moves_command_fault fault ≡ None → HasCycle p
no_moves p (Cycle nodes) is none = found nodes.items is
  where
    found : (us : List Node) → IsCycle p us → HasCycle p
    found [] cycle = absurd cycle
    found (u ∷ us) cycle = (u ∷ us, cycle.0)
no_moves p NoMovesMemory is none = absurd (cc none)

-- ---- statuses

low_verdict : (verdict : Judged) (status : ℕ) → status ≡ rest_status verdict → status ≤ 1
low_verdict (Accepted times) status is = omega (arith, is)
low_verdict (Refused why) status is = omega (arith, is)

-- the status of what is printed of the rest is 0 or 1
pub low_answer : (names : NameBook) (wanted : PlanAnswer) (p : PlannedShop) (c : Cell) (t : ℕ) (answer : Answer) → AnswersRest names wanted p c t answer → answer.status ≤ 1
low_answer names wanted p c t answer answered = low_verdict answered.verdict answer.status answered.status

low_log : (AnswersAt : PlannedShop → Cell → ℕ → Answer → Type 0) → ((q : PlannedShop) (d : Cell) (t : ℕ) (answer : Answer) → AnswersAt q d t answer → answer.status ≤ 1)
    → (at : Option ℕ) (p : PlannedShop) (log : List ℕ) (answer : Answer) → IsLogAnswer AnswersAt at p log answer → answer.status ≤ 1
low_log AnswersAt low at p log answer (inl rest) = low p rest.cell rest.present answer rest.comes
low_log AnswersAt low at p log answer (inr (inl refused)) = (let one = refused.line.1 in omega (arith, one))
low_log AnswersAt low at p log answer (inr (inr past)) = (let one = past.line.1 in omega (arith, one))

-- so of the line of the verdict on a plan
low_line : (p : PlannedShop) (answer : Answer) → IsVerdictLine p answer → answer.status ≤ 1
low_line p answer (inl accepted) = (let good = accepted.good in omega (arith, good))
low_line p answer (inr (inl cycle)) = (let one = cycle.refused in omega (arith, one))
low_line p answer (inr (inr late)) = (let one = late.refused in omega (arith, one))

-- so where a run is
pub low_rest : (names : NameBook) (wanted : PlanAnswer) (at : Option ℕ) (p : PlannedShop) (log : Option (List ℕ)) (answer : Answer) → IsRestLine names wanted at p log answer → answer.status ≤ 1
low_rest names Verdict at p None answer is = low_line p answer is
low_rest names (Reasons job) at p None answer is = low_answer names (Reasons job) p (start p) 0 answer is
low_rest names Moments at p None answer is = low_answer names Moments p (start p) 0 answer is
low_rest names wanted at p (Some log) answer is = low_log (AnswersRest names wanted) (low_answer names wanted) at p log answer is

low_moves : (names : NameBook) (p : PlannedShop) (c : Cell) (t : ℕ) (answer : Answer) → IsMovesAnswer names p c t answer → answer.status ≤ 1
low_moves names p c t answer answered = low_verdict answered.verdict answer.status answered.status

pub low_ahead : (names : NameBook) (at : Option ℕ) (p : PlannedShop) (log : Option (List ℕ)) (answer : Answer) → AreMovesAhead names at p log answer → answer.status ≤ 1
low_ahead names at p None answer is = low_moves names p (start p) 0 answer is
low_ahead names at p (Some log) answer is = low_log (IsMovesAnswer names) (low_moves names) at p log answer is
