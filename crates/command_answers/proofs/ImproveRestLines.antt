-- The answers of the command `improve` of the rest of a run.
use Rattle.std.proofs.Common.{◌≡◌, ◌⊎◌, ◌<◌, ◌≤◌, ℕ, List, Option, Result, Ok, Err, IfOk, IfErr, refl, sym, inl, inr, subst}
use Rattle.std.specs.Prelude.{IfSome}
use Rattle.shop_base.specs.declared.limits.TheConstants.{MAX_MOMENT}
use Rattle.shop_base.specs.Plan.{PlannedShop, IsWellShaped}
use Rattle.shop_base.specs.Cell.{Cell}
use Rattle.alt_graph.specs.Evidence.{IsCycle}
use Rattle.alt_graph.specs.Solved.{HasCycle}
use Rattle.alt_graph.proofs.WholePlans.{cycle_has}
use Rattle.cell_tables.specs.declared.entry.Entry.{Entry}
use Rattle.cell_tables.specs.{Kept.KeepsSoFar, Reordered.IsReordered}
use Rattle.run_log.specs.Audits.{ParseAsRun}
use Rattle.run_log.specs.Present.{IsRunAt, IsRunFault}
use Rattle.run_log.specs.declared.present_run.RunFault.{RunFault}
use Rattle.plan_seek.specs.declared.search.TheConstants.{MAX_ROUNDS}
use Rattle.plan_verifier.specs.declared.verdict.Judged.{Judged}
use Rattle.plan_verifier.specs.declared.verdict.Judged.TheVariants.{Accepted, Refused}
use Rattle.plan_verifier.specs.declared.verdict.Why.TheVariants.{Cycle, Late}
use Rattle.plan_verifier.specs.RestVerdicts.{IsAcceptableAhead, IsRestAccepted}
use Rattle.plan_improve.specs.declared.improve_fault.ImproveFault.{ImproveFault}
use Rattle.plan_improve.specs.declared.improve_fault.ImproveFault.TheVariants.{TooManyRounds, Memory as OutOfMemory}
use Rattle.plan_improve.specs.declared.{improved.Improved.Improved, not_improved.NotImproved.NotImproved}
use Rattle.plan_improve.specs.{Faults.IsImproveFault, Settings.rest_from}
use Rattle.plan_improve.specs.Improved.{HasNoBegin, IsFound, IsNeverWorse, IsVerdictOn}
use Rattle.command_answers.specs.declared.answer.Answer.{Answer}
use Rattle.command_answers.specs.declared.command_fault.CommandFault.{CommandFault}
use Rattle.command_answers.specs.declared.command_fault.CommandFault.TheVariants.{Instance, Plan, Names, Read, Write, InputTooLong, Log, LogInUse, Memory}
use Rattle.command_answers.specs.Documents.{IsDocumentAnswer}
use Rattle.command_answers.specs.Improving.{SearchBy}
use Rattle.command_answers.specs.Rests.{IsRunFaultAnswer}
use Rattle.command_answers.specs.Steps.{IsOrMemory}
use Rattle.command_answers.specs.ImprovingRests.{IsBestRest, IsRestStatus, IsRestFound, IsRestAnswer, IsJudgedAnswer, IsSearchAnswer, IsUnfoundAnswer}
use Rattle.command_answers.proofs.{KeptLogs.log_keeps, RunFaults.run_fault_is}

module _ (made : SearchBy) (at : Option ℕ) (rounds : ℕ) (lines : List (List ℕ)) (start : PlannedShop) where
  -- a line, or that memory ran out
  line_is : (IsLine : Answer → Type 0) (outcome : Result Answer CommandFault) → ((answer : Answer) → IsLine answer → IsRestAnswer made at rounds lines start (Ok answer))
      → IsOrMemory IsLine outcome → IsRestAnswer made at rounds lines start outcome
  line_is IsLine (Ok answer) each line = each answer line
  line_is IsLine (Err fault) each line = subst (λ (x : CommandFault). IsRestAnswer made at rounds lines start (Err x)) (sym line) tt

  -- the line of too many rounds
  pub too_many_is : (outcome : Result Answer CommandFault) → MAX_ROUNDS < rounds → IsUnfoundAnswer TooManyRounds outcome → IsRestAnswer made at rounds lines start outcome
  too_many_is outcome many answered = line_is _ outcome (λ answer line. inr (record { many_rounds = many; line = line.0; refused = line.1 })) answered

  -- what is printed where the log records no run up to the present moment
  pub no_run_is : (fault : RunFault) (outcome : Result Answer CommandFault) → IfSome at (λ n. n ≤ MAX_MOMENT) → rounds ≤ MAX_ROUNDS → IsRunFault lines at start fault → IsRunFaultAnswer fault outcome
      → IsRestAnswer made at rounds lines start outcome
  no_run_is fault outcome early few why answered =
      line_is (IsRestFound made at lines start) outcome (λ answer found. inl (few, found))
      (run_fault_is at lines start early (IsRestFound made at lines start) fault outcome (λ answer line. inr (inl line)) (λ answer line. inr (inr line)) why answered)

  module _ (c : Cell) (entries : List Entry) (t : ℕ) (few : rounds ≤ MAX_ROUNDS) (run : IsRunAt lines at start c entries t) where
    -- the text of a plan whose rest was judged
    text_is : (best : PlannedShop) (status : ℕ) (outcome : Result Answer CommandFault) → IsBestRest made lines c t start best → IsRestStatus best c t status
        → IsDocumentAnswer best.plan status outcome → IsRestAnswer made at rounds lines start outcome
    text_is best status (Ok answer) is says text = inl (
      few,
      inl (record {
        cell = c;
        entries = entries;
        present = t;
        run = run;
        comes = inl (record { best = best; is = is; text = record { line = text.line; read_back = text.read_back; ends = refl }; status = rw text.ends says });
      }),
    )
    text_is best status (Err (Instance fault)) is says text = text
    text_is best status (Err (Names names)) is says text = text
    text_is best status (Err Read) is says text = text
    text_is best status (Err Write) is says text = text
    text_is best status (Err InputTooLong) is says text = text
    text_is best status (Err Log) is says text = text
    text_is best status (Err LogInUse) is says text = text
    text_is best status (Err (Plan fault)) is says text =
        (text.0, few, record { cell = c; entries = entries; present = t; run = run; comes = record { best = best; is = is; unreadable = text.1 } })
    text_is best status (Err Memory) is says text = tt

    module _ (best : PlannedShop) (same : IsReordered start best) (kept : ParseAsRun best lines) (acyclic : (HasCycle best → ⊥) ⊎ HasNoBegin (rest_from c t) start)
        (stays : HasNoBegin (rest_from c t) start → best ≡ start) (never_worse : IsNeverWorse (rest_from c t) start best)
        (found : HasNoBegin (rest_from c t) start ⊎ IsFound (rest_from c t) (made (rest_from c t)) start best) where
      -- a plan without a cycle is the best one
      best_is : (HasCycle best → ⊥) → (IsAcceptableAhead start c t → IsAcceptableAhead best c t) → IsBestRest made lines c t start best
      best_is none accepted = record {
        same = same;
        kept = kept;
        acyclic = none;
        never_worse = never_worse;
        found = elim found [
          | inl no_begin ↦ absurd (none (subst HasCycle (sym (stays no_begin)) no_begin.0))
          | inr is ↦ is
        ];
        stays_accepted = accepted;
      }

      judged_is : (verdict : Judged) (outcome : Result Answer CommandFault) → IsVerdictOn best c t verdict → (IsAcceptableAhead start c t → IsRestAccepted verdict)
          → IsJudgedAnswer best verdict outcome → IsRestAnswer made at rounds lines start outcome
      judged_is (Accepted times) outcome v accepted text = text_is best 0 outcome (best_is v.accepted.1.acyclic (λ _. v.accepted.1)) (inl (v.accepted.1, refl)) text
      judged_is (Refused (Late job leaves chain times)) outcome v accepted text =
          text_is best 1 outcome (best_is v.refused.0.acyclic (λ is. v.exact.0 (accepted is))) (inr ((λ is. v.exact.1 is), refl)) text
      judged_is (Refused (Cycle nodes)) (Ok answer) v accepted line =
          let cycle : IsCycle best nodes.items = v.refused in
          let none : HasNoBegin (rest_from c t) start = elim acyclic [ inl free ↦ absurd (free (cycle_has best nodes.items cycle)) | inr is ↦ is ] in
          inl (
            few,
            inl (record {
              cell = c;
              entries = entries;
              present = t;
              run = run;
              comes = inr (record { none = none; nodes = nodes.items; cycle = subst (λ (x : PlannedShop). IsCycle x nodes.items) (stays none) cycle; line = line });
            }),
          )
      judged_is (Refused (Cycle nodes)) (Err fault) v accepted line = subst (λ (x : CommandFault). IsRestAnswer made at rounds lines start (Err x)) (sym line) tt

    -- what is printed where no plan is given
    unfound_is : (fault : ImproveFault) (outcome : Result Answer CommandFault) → IsImproveFault rounds fault → IsUnfoundAnswer fault outcome → IsRestAnswer made at rounds lines start outcome
    unfound_is TooManyRounds outcome many answered = too_many_is outcome many answered
    unfound_is OutOfMemory outcome why answered = subst (IsRestAnswer made at rounds lines start) (sym answered) tt

    -- what is printed where a search has ended
    pub search_is : (found : Result Improved NotImproved) (outcome : Result Answer CommandFault) → IsWellShaped start → IfOk found (λ x. IsReordered start x.shaped)
        → IfOk found (λ x. KeepsSoFar start c x.shaped) → IfOk found (λ x. (HasCycle x.shaped → ⊥) ⊎ HasNoBegin (rest_from c t) start) → IfOk found (λ x. HasNoBegin (rest_from c t) start → x.shaped ≡ start)
        → IfOk found (λ x. IsNeverWorse (rest_from c t) start x.shaped) → IfOk found (λ x. HasNoBegin (rest_from c t) start ⊎ IsFound (rest_from c t) (made (rest_from c t)) start x.shaped)
        → IfOk found (λ x. IsVerdictOn x.shaped c t x.verdict) → IfOk found (λ x. IsAcceptableAhead start c t → IsRestAccepted x.verdict) → IfErr found (λ refused. IsImproveFault rounds refused.fault)
        → IsSearchAnswer found outcome → IsRestAnswer made at rounds lines start outcome
    search_is (Ok x) outcome shaped same kept acyclic stays never_worse found verdict accepted refused answered =
        judged_is x.shaped same (log_keeps lines at start x.shaped c entries t shaped answered.0 same run kept) acyclic stays never_worse found x.verdict outcome verdict accepted answered.1
    search_is (Err e) outcome shaped same kept acyclic stays never_worse found verdict accepted refused answered = unfound_is e.fault outcome refused answered
