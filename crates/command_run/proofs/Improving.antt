-- A search for better plans by improvers that may answer more.
use Rattle.std.proofs.Common.{◌≡◌, ℕ, zero, suc, ◌<◌, List, [], ◌∷◌, Result, Ok, Err, Some, inl, inr, length, slice_get, subst, refl, arith}
use Rattle.std.proofs.lemmas.Option.{slice_get_within}
use Rattle.shop_base.specs.Plan.{PlannedShop}
use Rattle.plan_seek.specs.Orders.{Proposal}
use Rattle.plan_improve.specs.Settings.{Setting, Left, whole_plan}
use Rattle.plan_improve.specs.Runs.{EndsAfter, AfterSome, nobody, one_more, AfterRound, AfterRounds, no_round, round_more, ReportedRounds, Rounds}
use Rattle.plan_improve.specs.Watching.{Progress as LogAnswer}
use Rattle.command_answers.specs.declared.answer.Answer.{Answer}
use Rattle.command_answers.specs.declared.command_fault.CommandFault.{CommandFault}
use Rattle.command_answers.specs.declared.command_fault.CommandFault.TheVariants.{Instance, Plan, Names, Read, Write, InputTooLong, Log, LogInUse, Memory}
use Rattle.command_answers.specs.Improving.{IsBestMet, IsBestAnswer, SearchBy}
use Rattle.command_run.specs.Improvers.{MayImprove}

module _ (made more : SearchBy) (rounds : ℕ) (less : (s : Setting) (p q : PlannedShop) → made s p q → more s p q) where
  best_more : (start best : PlannedShop) → IsBestMet made start best → IsBestMet more start best
  best_more start best is = record {
    same = is.same;
    acyclic = is.acyclic;
    never_worse = is.never_worse;
    found = record { begin = is.found.begin; begins_at = is.found.begins_at; run = less whole_plan is.found.begin best is.found.run };
    stays_accepted = is.stays_accepted;
  }

  pub best_answer_more : (start : PlannedShop) (outcome : Result Answer CommandFault) → IsBestAnswer made rounds start outcome → IsBestAnswer more rounds start outcome
  best_answer_more start (Ok answer) (inl text) = inl (record { few_rounds = text.few_rounds; best = text.best; is = best_more start text.best text.is; text = text.text; status = text.status })
  best_answer_more start (Ok answer) (inr line) = inr line
  best_answer_more start (Err (Plan fault)) is = (is.0, record { best = is.1.best; is = best_more start is.1.best is.1.is; unreadable = is.1.unreadable })
  best_answer_more start (Err Memory) is = is
  best_answer_more start (Err (Instance fault)) is = is
  best_answer_more start (Err (Names names)) is = is
  best_answer_more start (Err Read) is = is
  best_answer_more start (Err Write) is = is
  best_answer_more start (Err InputTooLong) is = is
  best_answer_more start (Err Log) is = is
  best_answer_more start (Err LogInUse) is = is

pub stands_alone : (who : Unit {0}) (n : ℕ) → n < 1 → slice_get (who ∷ []) n ≡ Some who
stands_alone who zero lt = refl
stands_alone who (suc n) lt = absurd (omega arith)

module _ (s : Setting) {B : Type 0} (may : B → PlannedShop → Left → ℕ → Proposal → Type 0) (improvers : List B) (alone : length improvers ≡ 1) where
  -- what one improver makes of a plan is what one that may answer anything makes of it
  some_more : (round : ℕ) (p : PlannedShop) (n : ℕ) (r : PlannedShop) → AfterSome s may improvers round p n r → AfterSome s MayImprove (tt ∷ []) round p n r
  some_more round p n r nobody = nobody
  some_more round p n r (one_more m who q z rest answer run above left stands given becomes) =
      one_more m tt q z rest answer (some_more round p m q run) above left (stands_alone tt m (omega (arith, alone, slice_get_within improvers m who stands))) tt becomes

  round_all_more : (round : ℕ) (p q : PlannedShop) → AfterRound s may improvers round p q → AfterRound s MayImprove (tt ∷ []) round p q
  round_all_more round p q is = record { asked = is.asked; after = some_more round p is.asked q is.after; ends = subst (λ k. EndsAfter s k is.asked q) alone is.ends }

  rounds_more : (p : PlannedShop) (n : ℕ) (reports : List LogAnswer) (r : PlannedShop) → AfterRounds s may improvers p n reports r → AfterRounds s MayImprove (tt ∷ []) p n reports r
  rounds_more p n reports r no_round = no_round
  rounds_more p n reports r (round_more m before q z cost at_least run is bound unmet last) =
      round_more m before q z cost at_least (rounds_more p m before q run) is bound unmet (round_all_more m q z last)

  asked_more : (rounds : ℕ) (reports : List LogAnswer) (p q : PlannedShop) → ReportedRounds s may improvers rounds reports p q → ReportedRounds s MayImprove (tt ∷ []) rounds reports p q
  asked_more rounds reports p q is = record { asked = is.asked; after = rounds_more p is.asked reports q is.after; ends = is.ends }

  pub all_more : (rounds : ℕ) (p q : PlannedShop) → Rounds s may improvers rounds p q → Rounds s MayImprove (tt ∷ []) rounds p q
  all_more rounds p q found = (found.0, asked_more rounds found.0 p q found.1)
