-- Where a run is of which something is asked, and what comes of it.
use Rattle.std.proofs.Common.{◌≡◌, ℕ, List, [], Option, None, Some, Result, Ok, Err, IfOk, IfErr, inl, inr, ap, subst, refl}
use Rattle.shop_base.specs.{Plan.PlannedShop, Cell.{Cell, start}}
use Rattle.cell_tables.specs.declared.entry.Entry.{Entry}
use Rattle.run_gantt.specs.DrawnVisits.{drawn_visits}
use Rattle.people_names.specs.NameBooks.{NameBook}
use Rattle.plan_verifier.specs.declared.verdict.Judged.{Judged}
use Rattle.plan_verifier.specs.declared.verdict.Judged.TheVariants.{Accepted, Refused}
use Rattle.plan_verifier.specs.declared.verdict.Why.TheVariants.{Cycle, Late}
use Rattle.plan_explain.specs.{Known.IsKnownVerdict, FirstLines.IsFirstLine}
use Rattle.command_answers.specs.declared.answer.Answer.{Answer}
use Rattle.command_answers.specs.declared.command_fault.CommandFault.{CommandFault}
use Rattle.command_answers.specs.declared.pictures.Drawn.{Drawn}
use Rattle.command_answers.specs.declared.pictures.Drawn.TheVariants.{Line as LineDrawn}
use Rattle.command_answers.specs.declared.rests.PlanAnswer.{PlanAnswer}
use Rattle.command_answers.specs.declared.rests.PlanAnswer.TheVariants.{Verdict as VerdictAlone, Reasons, Moments}
use Rattle.command_answers.specs.declared.known_rests.KnownRest.{KnownRest}
use Rattle.command_answers.specs.Checks.{IsVerdictLine}
use Rattle.command_answers.specs.Commands.{AsksOfRun, IfShapedBy, IfThereBy, InputPaths, Itself, ReadsBoth, RunPaths, WithNamesAndRun, WithRun}
use Rattle.command_answers.specs.Moves.{AreMovesAhead, IsMovesAnswer}
use Rattle.command_answers.specs.Naming.{ReadsNames}
use Rattle.command_answers.specs.Pictures.{IsLineAlone, IsRestDrawing, IsRestDrawn, IsVerdictDrawn, line_at}
use Rattle.command_answers.specs.Rests.{AnswersRest, IsAnswerBy, IsRestLine, rest_status}
use Rattle.command_answers.specs.KnownRests.{IsAtStart, IsInstead, IsPlanVerdict, IsFoundRest, IsKnownRest}
use Rattle.command_answers.proofs.Passing.{then_on}
use Rattle.command_answers.proofs.RestAnswers.{by_verdict}
use Rattle.command_answers.specs.Steps.{Concludes, IsOrMemory}
use Rattle.command_answers.specs.Texts.{Asks}

-- the first line of the verdict on a plan is its line in the plan's own words
verdict_line : (p : PlannedShop) (verdict : Judged) (answer : Answer) → IsPlanVerdict p verdict → IsFirstLine p (start p) 0 verdict answer.text.items → answer.status ≡ rest_status verdict → IsVerdictLine p answer
verdict_line p (Accepted times) answer acceptable line status = inl (record { acceptable = acceptable; line = line; good = status })
verdict_line p (Refused (Cycle nodes)) answer cycle line status = inr (inl (record { nodes = nodes.items; cycle = cycle; line = line; refused = status }))
verdict_line p (Refused (Late job leaves chain times)) answer late line status = inr (inr (record { job = job; leaves = leaves; chain = chain.items; late = late.0; line = line; refused = status }))

module _ (p : PlannedShop) (names : NameBook) (s : KnownRest) (same : s.names ≡ names) (plan : s.rest.plan ≡ p) where
  -- what is so with what is found is so with the names and the plan
  named : (Is : NameBook → PlannedShop → Type 0) → Is s.names s.rest.plan → Is names p
  named Is is = subst (λ (q : PlannedShop). Is names q) plan (subst (λ (book : NameBook). Is book s.rest.plan) same is)

  -- and before the run has begun at its start
  at_start : (said : Judged) (Is : NameBook → PlannedShop → Cell → ℕ → Type 0) → IsAtStart p said s → Is s.names s.rest.plan s.rest.cell s.rest.present → Is names p (start p) 0
  at_start said Is there is =
      subst (λ (t : ℕ). Is names p (start p) t) there.present
      (subst (λ (c : Cell). Is names p c s.rest.present) there.cell (named (λ book q. Is book q s.rest.cell s.rest.present) is))

  -- the reasons are those of the whole plan
  pub start_reasons : {E : Type 0} (said : Judged) (job : Option ℕ) (answered : Result Answer E) → IsAtStart p said s → IsKnownVerdict s.rest.plan s.rest.cell s.rest.present s.verdict
      → IfOk answered (IsAnswerBy s.names (Reasons job) s.rest.plan s.rest.cell s.rest.present s.verdict) → IfOk answered (AnswersRest names (Reasons job) p (start p) 0)
  start_reasons said job (Ok answer) there judged is =
      at_start said (λ book q c t. AnswersRest book (Reasons job) q c t answer) there (by_verdict s.names (Reasons job) s.rest.plan s.rest.cell s.rest.present s.verdict answer judged is)
  start_reasons said job (Err error) there judged is = tt

module _ (at : Option ℕ) (p : PlannedShop) (names : NameBook) (s : KnownRest) where
  -- so of what is found
  begun : (Is : NameBook → PlannedShop → Cell → ℕ → Type 0) → IsKnownRest at p names None s → Is s.names s.rest.plan s.rest.cell s.rest.present → Is names p (start p) 0
  begun Is found is = at_start p names s found.named found.plan s.verdict Is found.there.0 is

  found_with : (log : Option (List ℕ)) (Is : NameBook → PlannedShop → Type 0) → IsKnownRest at p names log s → Is s.names s.rest.plan → Is names p
  found_with log Is found is = named p names s found.named found.plan Is is

  -- the answer by its verdict is the one of the rest
  answers : (wanted : PlanAnswer) (answer : Answer) → IsKnownVerdict s.rest.plan s.rest.cell s.rest.present s.verdict → IsAnswerBy s.names wanted s.rest.plan s.rest.cell s.rest.present s.verdict answer
      → AnswersRest s.names wanted s.rest.plan s.rest.cell s.rest.present answer
  answers wanted answer judged is = by_verdict s.names wanted s.rest.plan s.rest.cell s.rest.present s.verdict answer judged is

  pub rest_line : (log : Option (List ℕ)) (wanted : PlanAnswer) (answer : Answer) → IsKnownRest at p names log s → IsKnownVerdict s.rest.plan s.rest.cell s.rest.present s.verdict
      → IsAnswerBy s.names wanted s.rest.plan s.rest.cell s.rest.present s.verdict answer → IsRestLine names wanted at p log answer
  rest_line None VerdictAlone answer found judged is =
      let by = begun (λ book q c t. IsAnswerBy book VerdictAlone q c t s.verdict answer) found is in verdict_line p s.verdict answer found.there.1 by.text by.status
  rest_line None (Reasons job) answer found judged is = begun (λ book q c t. AnswersRest book (Reasons job) q c t answer) found (answers (Reasons job) answer judged is)
  rest_line None Moments answer found judged is = begun (λ book q c t. AnswersRest book Moments q c t answer) found (answers Moments answer judged is)
  rest_line (Some log) wanted answer found judged is = inl (record {
    cell = s.rest.cell;
    entries = s.entries.items;
    present = s.rest.present;
    run = found.there.0;
    comes = found_with (Some log) (λ book q. AnswersRest book wanted q s.rest.cell s.rest.present answer) found (answers wanted answer judged is);
  })

  pub moves_ahead : (log : Option (List ℕ)) (answer : Answer) → IsKnownRest at p names log s → IsMovesAnswer s.names s.rest.plan s.rest.cell s.rest.present answer → AreMovesAhead names at p log answer
  moves_ahead None answer found is = begun (λ book q c t. IsMovesAnswer book q c t answer) found is
  moves_ahead (Some log) answer found is = inl (record {
    cell = s.rest.cell;
    entries = s.entries.items;
    present = s.rest.present;
    run = found.there.0;
    comes = found_with (Some log) (λ book q. IsMovesAnswer book q s.rest.cell s.rest.present answer) found is;
  })

  -- the line and the visits of what is drawn
  abbrev drawn_from : Drawn → NameBook → PlannedShop → Cell → ℕ → Option ℕ → List Entry → Type 0
  drawn_from drawn book q c t given entries = IsRestDrawn book q c t (line_at given entries t) (drawn_visits q entries) drawn

  pub rest_drawing : (log : Option (List ℕ)) (drawn : Drawn) → IsKnownRest at p names log s → IsKnownVerdict s.rest.plan s.rest.cell s.rest.present s.verdict
      → IsVerdictDrawn s.names s.rest.plan s.rest.cell s.rest.present (line_at s.at s.entries.items s.rest.present) (drawn_visits s.rest.plan s.entries.items) s.verdict drawn → IsRestDrawing names at p log drawn
  rest_drawing None drawn found judged is =
      let there = found.there.0 in
      subst (λ (given : Option ℕ). drawn_from drawn names p (start p) 0 given []) there.at
      (subst (λ (entries : List Entry). drawn_from drawn names p (start p) 0 s.at entries) there.entries
      (begun (λ book q c t. drawn_from drawn book q c t s.at s.entries.items) found (record { verdict = s.verdict; judged = judged; is = is })))
  rest_drawing (Some log) drawn found judged is = inl (record {
    cell = s.rest.cell;
    entries = s.entries.items;
    present = s.rest.present;
    run = found.there.0;
    comes = subst (λ (given : Option ℕ). drawn_from drawn names p s.rest.cell s.rest.present given s.entries.items) found.there.1
        (found_with (Some log) (λ book q. drawn_from drawn book q s.rest.cell s.rest.present s.at s.entries.items) found (record { verdict = s.verdict; judged = judged; is = is }));
  })

-- ---- what comes of what is found

module _ (at : Option ℕ) (p : PlannedShop) (names : NameBook) where
  pub answered : (log : Option (List ℕ)) (wanted : PlanAnswer) (found : Result KnownRest Answer) (outcome : Result Answer CommandFault) → IsFoundRest at p names log found
      → IfOk found (λ s. IsKnownVerdict s.rest.plan s.rest.cell s.rest.present s.verdict) → IfOk found (λ s. IsOrMemory (IsAnswerBy s.names wanted s.rest.plan s.rest.cell s.rest.present s.verdict) outcome)
      → IfErr found (λ line. outcome ≡ Ok line) → IsOrMemory (IsRestLine names wanted at p log) outcome
  answered log wanted (Ok s) (Ok answer) found judged is line = rest_line at p names s log wanted answer found judged is
  answered log wanted (Ok s) (Err fault) found judged is line = is
  answered (Some log) wanted (Err line) outcome found judged is same = rw same (inr found)
  answered None wanted (Err line) outcome found judged is same = absurd found

  pub moved : (log : Option (List ℕ)) (found : Result KnownRest Answer) (outcome : Result Answer CommandFault) → IsFoundRest at p names log found
      → IfOk found (λ s. IsOrMemory (IsMovesAnswer s.names s.rest.plan s.rest.cell s.rest.present) outcome) → IfErr found (λ line. outcome ≡ Ok line) → IsOrMemory (AreMovesAhead names at p log) outcome
  moved log (Ok s) (Ok answer) found is line = moves_ahead at p names s log answer found is
  moved log (Ok s) (Err fault) found is line = is
  moved (Some log) (Err line) outcome found is same = rw same (inr found)
  moved None (Err line) outcome found is same = absurd found

  pub pictured : (log : Option (List ℕ)) (found : Result KnownRest Answer) (outcome : Result Drawn CommandFault) → IsFoundRest at p names log found → IfOk found (λ s. IsKnownVerdict s.rest.plan s.rest.cell s.rest.present s.verdict)
      → IfOk found (λ s. IsOrMemory (IsVerdictDrawn s.names s.rest.plan s.rest.cell s.rest.present (line_at s.at s.entries.items s.rest.present) (drawn_visits s.rest.plan s.entries.items) s.verdict) outcome)
      → IfErr found (λ line. outcome ≡ Ok (LineDrawn line)) → IsOrMemory (IsRestDrawing names at p log) outcome
  pictured log (Ok s) (Ok drawn) found judged is line = rest_drawing at p names s log drawn found judged is
  pictured log (Ok s) (Err fault) found judged is line = is
  pictured (Some log) (Err line) outcome found judged is same = rw same (inr found)
  pictured None (Err line) outcome found judged is same = absurd found

-- the line that stands instead is answered, or drawn
pub said_instead : (Is : Answer → Type 0) (found : Result KnownRest Answer) (outcome : Result Answer CommandFault) → IfErr found (λ line. outcome ≡ Ok line) → IsInstead Is found → IsOrMemory (Itself Is) outcome
said_instead Is (Ok s) outcome same is = absurd is
said_instead Is (Err line) outcome same is = rw same is

pub drawn_instead : (Is : Answer → Type 0) (found : Result KnownRest Answer) (outcome : Result Drawn CommandFault) → IfErr found (λ line. outcome ≡ Ok (LineDrawn line)) → IsInstead Is found → IsOrMemory (IsLineAlone Is) outcome
drawn_instead Is (Ok s) outcome same is = absurd is
drawn_instead Is (Err line) outcome same is = rw same is

module _ {W B : Type 0} (gives : W → List ℕ → Result (List ℕ) CommandFault → W → Type 0) (Line : (Answer → Type 0) → B → Type 0) (job : Option ℕ) (Comes : PlannedShop → NameBook → Option (List ℕ) → B → Type 0)
    (run : RunPaths) (found : Result (Result KnownRest Answer) CommandFault) (outcome : Result B CommandFault) (after : W)
    (fails : (fault : CommandFault) → found ≡ Err fault → outcome ≡ Err fault) (instead : (Is : Answer → Type 0) → IsOrMemory (IsInstead Is) found → IsOrMemory (Line Is) outcome)
    (comes : (p : PlannedShop) (names : NameBook) (log : Option (List ℕ)) → IsOrMemory (IsFoundRest run.at p names log) found → IsOrMemory (Comes p names log) outcome) where
  -- names and the log are read, and the run is found, or this comes of it
  abbrev Finds : PlannedShop → W → Result (Result KnownRest Answer) CommandFault → W → Type 0
  Finds p = WithNamesAndRun gives run.names run.log p (λ book log. IsOrMemory (IsFoundRest run.at p book log))

  abbrev Answers : PlannedShop → W → Result B CommandFault → W → Type 0
  Answers p = WithNamesAndRun gives run.names run.log p (λ book log. IsOrMemory (Comes p book log))

  of_log : (p : PlannedShop) (book : NameBook) (log : Option (List ℕ)) (before : W) → WithRun gives log (λ text. IsOrMemory (IsFoundRest run.at p book text)) before found after → WithRun gives log (λ text. IsOrMemory (Comes p book text)) before outcome after
  of_log p book None before on = (comes p book None on.0, on.1)
  of_log p book (Some path) before on =
      then_on (Asks gives path) (λ text. Concludes (IsOrMemory (IsFoundRest run.at p book (Some text)))) (λ text. Concludes (IsOrMemory (Comes p book (Some text)))) before found after outcome after
      (λ fault is. (fails fault is, refl)) (λ text mid last. (comes p book (Some text) last.0, last.1)) on

  of_names : (p : PlannedShop) (before : W) → Finds p before found after → Answers p before outcome after
  of_names p before =
      then_on (ReadsNames gives run.names p) (λ book. WithRun gives run.log (λ log. IsOrMemory (IsFoundRest run.at p book log))) (λ book. WithRun gives run.log (λ log. IsOrMemory (Comes p book log))) before found after outcome after
      (λ fault is. (fails fault is, refl)) (λ book mid on. of_log p book run.log mid on)

  there : (p : PlannedShop) (asked : Option ℕ) (before : W) → IfThereBy IsInstead asked p (Finds p) before found after → IfThereBy Line asked p (Answers p) before outcome after
  there p None before on = of_names p before on
  there p (Some j) before (inl (inside, on)) = inl (inside, of_names p before on)
  there p (Some j) before (inr (outside, said)) = inr (outside, (instead _ said.0, said.1))

  of_plan : (p : PlannedShop) (before : W) → IfShapedBy IsInstead p (IfThereBy IsInstead job p (Finds p)) before found after → IfShapedBy Line p (IfThereBy Line job p (Answers p)) before outcome after
  of_plan p before (inl (shaped, on)) = inl (shaped, there p job before on)
  of_plan p before (inr said) = inr (instead _ said.0, said.1)

  -- what is asked of a run comes of where it is
  pub asked_on : (before : W) → AsksOfRun gives IsInstead job (IsFoundRest run.at) run before found after → AsksOfRun gives Line job Comes run before outcome after
  asked_on before =
      then_on (ReadsBoth gives run.inputs) (λ p. IfShapedBy IsInstead p (IfThereBy IsInstead job p (Finds p)))
      (λ p. IfShapedBy Line p (IfThereBy Line job p (Answers p))) before found after outcome after
      (λ fault is. (fails fault is, refl)) of_plan

-- a fault is passed on
pub asked_failed : {W B : Type 0} (gives : W → List ℕ → Result (List ℕ) CommandFault → W → Type 0) (Line : (Answer → Type 0) → B → Type 0) (job : Option ℕ) (Comes : PlannedShop → NameBook → Option (List ℕ) → B → Type 0)
    (run : RunPaths) (before after : W) (fault : CommandFault) → AsksOfRun gives IsInstead job (IsFoundRest run.at) run before (Err fault) after → AsksOfRun gives Line job Comes run before (Err fault) after
asked_failed gives Line job Comes run before after fault asks = asked_on gives Line job Comes run (Err fault) (Err fault) after (λ why same. (let is : fault ≡ why = cc same in ap Err is)) (λ Is said. said) (λ p names log said. said) before asks

-- what is asked of a run whose log is given
abbrev pub OnLog : {B : Type 0} → (List ℕ → B → Type 0) → Option (List ℕ) → B → Type 0
OnLog Is None b = ⊥
OnLog Is (Some log) b = Is log b

abbrev pub logged : InputPaths → Option (List ℕ) → List ℕ → RunPaths
logged inputs names log = record { inputs = inputs; names = names; log = Some log; at = None }
