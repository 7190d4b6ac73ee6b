-- The lines of verdicts.
use Rattle.std.proofs.Common.{◌≡◌, None, Result, Ok, Err, IfOk, inl, inr, subst}
use Rattle.shop_base.specs.Plan.{PlannedShop}
use Rattle.people_names.specs.NameBooks.{NameBook}
use Rattle.plan_verifier.specs.declared.verdict.Verdict.{Verdict}
use Rattle.plan_verifier.specs.declared.verdict.Verdict.TheVariants.{Accepted, Refused}
use Rattle.plan_verifier.specs.{Accepted.{IsAcceptable, IsVerified}, Seen.{judged, as_rest}}
use Rattle.plan_verifier.specs.Verdicts.{OnAccepted, OnRefused, IsReason}
use Rattle.plan_verifier.specs.declared.verdict.Why.TheVariants.{Cycle, Late}
use Rattle.plan_explain.specs.{FirstLines.IsAcceptedFirstLine, Known.HasRanks}
use Rattle.plan_verifier.proofs.AtStart.{accepted_ahead}
use Rattle.plan_verifier.proofs.Reasons.{evident, judged_same}
use Rattle.shop_base.specs.Cell.{start}
use Rattle.people_names.specs.NameBooks.{no_names}
use Rattle.command_answers.specs.declared.rests.PlanAnswer.TheVariants.{Reasons}
use Rattle.command_answers.specs.Rests.{AnswersPlan}
use Rattle.command_answers.specs.declared.answer.Answer.{Answer}
use Rattle.command_answers.specs.declared.loading.Loaded.{Loaded}
use Rattle.command_answers.specs.declared.loading.Loaded.TheVariants.{NotShaped, Judged}
use Rattle.command_answers.specs.Checks.{IsLoaded, IsLineOf, IsCheckLine}
use Rattle.command_answers.specs.Explains.{HasEvidence, IsExplanationOf, IsExplanation}
use Rattle.command_answers.specs.Margins.{IsMarginAnswer, IsMarginAnswerOf, IsMarginLine}

-- of an accepted plan each node has a rank
pub verdict_ranks : (verdict : Verdict) → OnAccepted IsVerified verdict → HasRanks (judged verdict) (as_rest verdict)
verdict_ranks (Accepted verified) sound = (accepted_ahead (Accepted verified) sound).0.ranks
verdict_ranks (Refused back why) sound = tt

-- the line of what is said of a plan is that of its check
pub line_of_loaded : (p : PlannedShop) (loaded : Loaded) (answer : Answer) → IsLoaded p loaded → IsLineOf loaded answer → IsCheckLine p answer
line_of_loaded p (NotShaped fault) answer first line = inl (record { fault = fault; first = first; line = line })
line_of_loaded p (Judged (Accepted verified)) answer judged (line, status) =
    inr (judged.well_shaped, inl (record { acceptable = judged.accepted.1; line = subst (λ (q : PlannedShop). IsAcceptedFirstLine q (start q) 0 answer.text.items) judged.accepted.0 line; good = status }))
line_of_loaded p (Judged (Refused back (Cycle nodes))) answer judged (line, status) =
    inr (judged.well_shaped, inr (inl (record { nodes = nodes.items; cycle = judged.refused.1; line = line; refused = status })))
line_of_loaded p (Judged (Refused back (Late job leaves chain times))) answer judged (line, status) =
    inr (judged.well_shaped, inr (inr (record { job = job; leaves = leaves; chain = chain.items; late = judged.refused.1.0; line = line; refused = status })))

-- the evidence for a refusal comes with it
pub loaded_evidence : (p : PlannedShop) (loaded : Loaded) → IsLoaded p loaded → HasEvidence loaded
loaded_evidence p (NotShaped fault) first = tt
loaded_evidence p (Judged verdict) judged = evident p verdict judged.refused

-- the explanation of what is said of a plan is the plan's
pub explanation_of_loaded : (p : PlannedShop) (loaded : Loaded) (answer : Answer) → IsLoaded p loaded → IsExplanationOf loaded answer → IsExplanation p answer
explanation_of_loaded p (NotShaped fault) answer first line = inl (record { fault = fault; first = first; line = line })
explanation_of_loaded p (Judged verdict) answer judged explained =
    inr (subst (λ (q : PlannedShop). AnswersPlan no_names (Reasons None) q answer) (judged_same p verdict judged.accepted judged.refused) explained)

-- what is printed of the margin by the verdict is of the plan's
pub margin_of_verdict : (names : NameBook) (p : PlannedShop) (verdict : Verdict) (answer : Answer) → OnAccepted (λ verified. (verified.planned ≡ p) × IsAcceptable p) verdict → OnRefused (λ back why. (back ≡ p) × IsReason p why) verdict
    → IsMarginAnswerOf names verdict answer → IsMarginAnswer names p answer
margin_of_verdict names p (Accepted verified) answer accepted refused line = inl (accepted.1, subst (λ (q : PlannedShop). IsMarginLine names q answer) accepted.0 line)
margin_of_verdict names p (Refused back (Cycle nodes)) answer accepted refused line = inr (inl (record { nodes = nodes.items; cycle = refused.1; line = line.0; refused = line.1 }))
margin_of_verdict names p (Refused back (Late job leaves chain times)) answer accepted refused line =
    inr (inr (record { job = job; leaves = leaves; chain = chain.items; late = refused.1.0; line = line.0; refused = line.1 }))

-- so of an answer that may not come
pub margin_answered : {E : Type 0} (names : NameBook) (p : PlannedShop) (verdict : Verdict) (answered : Result Answer E) → OnAccepted (λ verified. (verified.planned ≡ p) × IsAcceptable p) verdict → OnRefused (λ back why. (back ≡ p) × IsReason p why) verdict
    → IfOk answered (IsMarginAnswerOf names verdict) → IfOk answered (IsMarginAnswer names p)
margin_answered names p verdict (Ok answer) accepted refused line = margin_of_verdict names p verdict answer accepted refused line
margin_answered names p verdict (Err error) accepted refused line = tt
