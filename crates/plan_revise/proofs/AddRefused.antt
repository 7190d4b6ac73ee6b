-- Why a job can't be added: by the line of its words, by its route, or by what else it is added with.
use Rattle.std.proofs.Common.{ℕ, ◌<◌, List, Option}
use Rattle.shop_base.specs.declared.limits.TheConstants.{MAX_JOBS}
use Rattle.shop_base.specs.declared.shop.Step.{Step}
use Rattle.shop_base.specs.Plan.{PlannedShop, jobs}
use Rattle.orlib_read.specs.Kinds.{first_line, IsJobLine}
use Rattle.plan_revise.specs.declared.change.ChangeFault.{ChangeFault}
use Rattle.plan_revise.specs.declared.change.ChangeFault.TheVariants.{OddWords, BadNumber, TooManyJobs, ReleaseTooLarge, BudgetTooLarge}
use Rattle.plan_revise.specs.declared.change.Refusal.{Refusal}
use Rattle.plan_revise.specs.declared.change.Refusal.TheVariants.{Fault, Memory}
use Rattle.plan_revise.specs.{Promises.no_promise, Settings.RevisionSetting, Routes.IsRouteFault, Changes.given_or, Answers.UnlessMemory}
use Rattle.plan_revise.specs.Refusals.{IsJobLineFault, IsStepsFault, IsAddFault}

-- what is wrong with the route is wrong with the steps, where there aren't too many jobs
pub route_refused : (s : RevisionSetting) (p : PlannedShop) (steps : List Step) (release budget : ℕ) (fault : ChangeFault) → jobs p < MAX_JOBS → IsRouteFault s.plant p.shop.recirculates steps fault → IsStepsFault s p steps release budget fault
route_refused s p steps release budget TooManyJobs few is = absurd is.wrong
route_refused s p steps release budget ReleaseTooLarge few is = absurd is.wrong
route_refused s p steps release budget BudgetTooLarge few is = absurd is.wrong
route_refused s p steps release budget fault few is = (few, is)

module _ (s : RevisionSetting) (p : PlannedShop) (words : List ℕ) (release budget : Option ℕ) where
  -- what is wrong with the steps that the words say is wrong with adding the job
  pub steps_refused : (steps : List Step) (fault : ChangeFault) → IsJobLine (first_line words) steps
      → IsStepsFault s p steps (given_or release s.present) (given_or budget no_promise) fault → IsAddFault s p words release budget fault
  steps_refused steps OddWords written is = absurd is.1.wrong
  steps_refused steps BadNumber written is = absurd is.1.wrong
  steps_refused steps fault written is = record { steps = steps; written = written; wrong = is }

  -- so is what is wrong with the words
  pub line_refused : (refusal : Refusal) → UnlessMemory (IsJobLineFault words) refusal → UnlessMemory (IsAddFault s p words release budget) refusal
  line_refused Memory is = tt
  line_refused (Fault OddWords) is = is
  line_refused (Fault BadNumber) is = is
  line_refused (Fault fault) is = absurd is
