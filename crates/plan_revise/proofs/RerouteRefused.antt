-- Why a job can't go another way: by where it is, by the line of its words, by its way, or since it locks.
use Rattle.std.proofs.Common.{◌≡◌, ℕ, ◌<◌, List, sym, subst}
use Rattle.std.specs.Prelude.{slice_get, Some}
use Rattle.plan_revise.proofs.SentOn.{IsSentUpTo}
use Rattle.shop_base.specs.declared.shop.Step.{Step}
use Rattle.shop_base.specs.Shop.{IsRoute}
use Rattle.shop_base.specs.Plan.{PlannedShop}
use Rattle.orlib_read.specs.Kinds.{first_line, IsJobLine}
use Rattle.plan_revise.specs.declared.change.ChangeFault.{ChangeFault}
use Rattle.plan_revise.specs.declared.change.ChangeFault.TheVariants.{OddWords, BadNumber, JobOutOfRange, JobGone, JobAside, Locks}
use Rattle.plan_revise.specs.declared.change.Refusal.{Refusal}
use Rattle.plan_revise.specs.declared.change.Refusal.TheVariants.{Fault, Memory}
use Rattle.plan_revise.specs.Ended.{with_job_ended}
use Rattle.plan_revise.specs.{Settings.RevisionSetting, Settings.moves_made, Aside.CanGoOn, AnotherWay.way_on, Routes.IsRouteFault}
use Rattle.plan_revise.specs.Answers.{UnlessMemory, IsLock, IsLockAmong}
use Rattle.plan_revise.specs.Refusals.{IsJobLineFault, IsNotGoing, IsWayFault, IsRerouteFault}

module _ (s : RevisionSetting) (p : PlannedShop) (j : ℕ) where
  -- a job that can't go on can't go another way
  pub going_refused : (words : List ℕ) (fault : ChangeFault) → IsNotGoing s p j fault → IsRerouteFault s p j words fault
  going_refused words JobOutOfRange is = is
  going_refused words JobGone is = is
  going_refused words JobAside is = is
  going_refused words fault is = absurd is

  -- nor one whose words aren't those of a job's line
  pub line_stops : CanGoOn s p j → (words : List ℕ) (fault : ChangeFault) → IsJobLineFault words fault → IsRerouteFault s p j words fault
  line_stops can words OddWords is = (can, is)
  line_stops can words BadNumber is = (can, is)
  line_stops can words fault is = absurd is

  -- nor one whose way is no route
  pub way_stops : (steps : List Step) (fault : ChangeFault) → IsRouteFault s.plant p.shop.recirculates (way_on s p j steps) fault → IsWayFault s p j steps fault
  way_stops steps Locks is = absurd is.wrong
  way_stops steps fault is = is

  -- nor one that locks
  pub lock_stops : (steps : List Step) → IsRoute s.plant p.shop.recirculates (way_on s p j steps) → 0 < moves_made s j → (fault : ChangeFault)
      → IsLockAmong s (with_job_ended p j (moves_made s j)) j steps fault → IsWayFault s p j steps fault
  lock_stops steps sound inside fault lock = subst (IsWayFault s p j steps) (sym lock.is) (record { sound = sound; inside = inside; count = lock.count; reached = lock.reached; before = lock.before; step = lock.step; there = lock.there; locks = lock.locks })

  -- what the steps that the words say can't be, the words can't
  pub steps_stop : CanGoOn s p j → (words : List ℕ) (steps : List Step) → IsJobLine (first_line words) steps → (fault : ChangeFault) → IsWayFault s p j steps fault → IsRerouteFault s p j words fault
  steps_stop can words steps written JobOutOfRange is = absurd is.wrong
  steps_stop can words steps written JobGone is = absurd is.wrong
  steps_stop can words steps written JobAside is = absurd is.wrong
  steps_stop can words steps written OddWords is = absurd is.wrong
  steps_stop can words steps written BadNumber is = absurd is.wrong
  steps_stop can words steps written fault is = record { can = can; steps = steps; written = written; wrong = is }

-- what locks among these steps is the one that does, behind those that are sent on
pub lock_among : (s : RevisionSetting) (j : ℕ) (p : PlannedShop) (way : List Step) (n : ℕ) (q : PlannedShop) (step : Step) → IsSentUpTo s j p way n q → slice_get way n ≡ Some step → (refusal : Refusal) → UnlessMemory (IsLock s q j step) refusal → UnlessMemory (IsLockAmong s p j way) refusal
lock_among s j p way n q step upto there (Fault fault) is = record { is = is.0; count = n; reached = q; before = upto.sent; step = step; there = there; locks = is.1 }
lock_among s j p way n q step upto there Memory is = tt
