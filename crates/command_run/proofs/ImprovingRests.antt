-- A search for a better plan, or a better rest of a run, by improvers that may answer more.
use Rattle.std.proofs.Common.{◌≡◌, ℕ, List, Option, None, Some, Result, Ok, Err, inl, inr, length}
use Rattle.shop_base.specs.Plan.{PlannedShop}
use Rattle.shop_base.specs.Cell.{Cell}
use Rattle.text_lines.specs.Lines.{ended_lines}
use Rattle.plan_seek.specs.Orders.{Proposal}
use Rattle.plan_improve.specs.Settings.{Left, Setting, rest_from}
use Rattle.command_answers.specs.declared.answer.Answer.{Answer}
use Rattle.command_answers.specs.declared.command_fault.CommandFault.{CommandFault}
use Rattle.command_answers.specs.declared.command_fault.CommandFault.TheVariants.{Instance, Plan, Names, Read, Write, InputTooLong, Log, LogInUse, Memory}
use Rattle.command_answers.specs.Improving.{RoundsOf, SearchBy, ordered}
use Rattle.command_answers.specs.ImprovingRests.{IsBestRest, IsBetterAnswer, IsRestAnswer}
use Rattle.command_answers.specs.Steps.{Concludes}
use Rattle.command_answers.specs.Texts.{Asks}
use Rattle.command_answers.specs.Commands.{BettersPlan, ReadsBoth, RunPaths, RunsImprove, WithRun}
use Rattle.command_run.specs.Improvers.{AsksOne}
use Rattle.command_run.proofs.Improving.{all_more, best_answer_more}
use Rattle.command_run.proofs.Planning.{then_more}

module _ (made more : SearchBy) (less : (s : Setting) (p q : PlannedShop) → made s p q → more s p q) (at : Option ℕ) (rounds : ℕ) where
  best_more : (lines : List (List ℕ)) (c : Cell) (t : ℕ) (start best : PlannedShop) → IsBestRest made lines c t start best → IsBestRest more lines c t start best
  best_more lines c t start best is = record {
    same = is.same;
    kept = is.kept;
    acyclic = is.acyclic;
    never_worse = is.never_worse;
    found = record { begin = is.found.begin; begins_at = is.found.begins_at; run = less (rest_from c t) is.found.begin best is.found.run };
    stays_accepted = is.stays_accepted;
  }

  answer_more : (lines : List (List ℕ)) (start : PlannedShop) (outcome : Result Answer CommandFault) → IsRestAnswer made at rounds lines start outcome → IsRestAnswer more at rounds lines start outcome
  answer_more lines start (Ok answer) (inl (few, inl run)) = inl (
    few,
    inl (record {
      cell = run.cell;
      entries = run.entries;
      present = run.present;
      run = run.run;
      comes = elim run.comes [
        | inl text ↦ inl (record { best = text.best; is = best_more lines run.cell run.present start text.best text.is; text = text.text; status = text.status })
        | inr line ↦ inr line
      ];
    }),
  )
  answer_more lines start (Ok answer) (inl (few, inr line)) = inl (few, inr line)
  answer_more lines start (Ok answer) (inr line) = inr line
  answer_more lines start (Err (Plan fault)) (is, few, run) = (
    is,
    few,
    record {
      cell = run.cell;
      entries = run.entries;
      present = run.present;
      run = run.run;
      comes = record { best = run.comes.best; is = best_more lines run.cell run.present start run.comes.best run.comes.is; unreadable = run.comes.unreadable };
    },
  )
  answer_more lines start (Err Memory) is = is
  answer_more lines start (Err (Instance fault)) is = is
  answer_more lines start (Err (Names names)) is = is
  answer_more lines start (Err Read) is = is
  answer_more lines start (Err Write) is = is
  answer_more lines start (Err InputTooLong) is = is
  answer_more lines start (Err Log) is = is
  answer_more lines start (Err LogInUse) is = is

  better_more : (start : PlannedShop) (log : Option (List ℕ)) (outcome : Result Answer CommandFault) → IsBetterAnswer made rounds at start log outcome → IsBetterAnswer more rounds at start log outcome
  better_more start None outcome is = best_answer_more made more rounds less start outcome is
  better_more start (Some log) outcome is = answer_more (ended_lines log) start outcome is

module _ {W : Type 0} (gives : W → List ℕ → Result (List ℕ) CommandFault → W → Type 0) (made more : SearchBy) (less : (s : Setting) (p q : PlannedShop) → made s p q → more s p q) (rounds : ℕ) (run : RunPaths) where
  of_log : (p : PlannedShop) (log : Option (List ℕ)) (before : W) (outcome : Result Answer CommandFault) (after : W)
      → WithRun gives log (IsBetterAnswer made rounds run.at p) before outcome after → WithRun gives log (IsBetterAnswer more rounds run.at p) before outcome after
  of_log p None before outcome after is = (better_more made more less run.at rounds p None outcome is.0, is.1)
  of_log p (Some path) before outcome after is =
      then_more (Asks gives path) (λ text. Concludes (IsBetterAnswer made rounds run.at p (Some text))) (λ text. Concludes (IsBetterAnswer more rounds run.at p (Some text))) before outcome after
      (λ text last on. (better_more made more less run.at rounds p (Some text) outcome on.0, on.1)) is

  betters_more : (p : PlannedShop) (before : W) (outcome : Result Answer CommandFault) (after : W) → BettersPlan gives made rounds run p before outcome after → BettersPlan gives more rounds run p before outcome after
  betters_more p before outcome after (inl (shaped, is)) = inl (shaped, of_log p run.log before outcome after is)
  betters_more p before outcome after (inr line) = inr line

-- a search by one improver
pub improves : {W B : Type 0} (gives : W → List ℕ → Result (List ℕ) CommandFault → W → Type 0) (may : B → PlannedShop → Left → ℕ → Proposal → Type 0) (improvers : List B) → length improvers ≡ 1
    → (rounds : ℕ) (run : RunPaths) (before : W) (outcome : Result Answer CommandFault) (after : W)
    → RunsImprove gives (RoundsOf rounds may improvers) rounds run before outcome after → RunsImprove gives (AsksOne rounds) rounds run before outcome after
improves gives may improvers alone rounds run before outcome after =
    let made = RoundsOf rounds may improvers in
    then_more (ReadsBoth gives run.inputs) (λ p. BettersPlan gives made rounds run (ordered p)) (λ p. BettersPlan gives (AsksOne rounds) rounds run (ordered p)) before outcome after
    (λ p last is. betters_more gives made (AsksOne rounds) (λ s. all_more s may improvers alone rounds) rounds run (ordered p) last outcome after is)
