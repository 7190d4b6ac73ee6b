-- The lines by a calendar are those behind the first line of a verdict.
use Rattle.std.proofs.Common.{ℕ, List, None, Some, refl}
use Rattle.shop_base.specs.{Plan.PlannedShop, Cell.Cell, Deadlines.AreDeadlines}
use Rattle.alt_graph.specs.{Times.{NodeTimes, earliest_of}, Latest.{NodeMoments, moment_of}}
use Rattle.people_names.specs.NameBooks.{NameBook}
use Rattle.plan_verifier.specs.Rest.{AreOrderedAhead}
use Rattle.plan_schedule.specs.{Calendars.due_in, ScheduleLines.AreScheduleLines, Scheduled.{AreInTime, HaveNoDeadlines, AreEarliest, AreLinesBy}}

-- earliest moments are greatest lengths
pub are_moments : (p : PlannedShop) (c : Cell) (t : ℕ) (times : NodeTimes) → AreOrderedAhead p c t times → AreEarliest p c t (earliest_of times)
are_moments p c t times ordered v is ahead = record { reached = ordered.reached v is ahead; longest = λ nodes k path. ordered.greatest nodes v k path }

module _ (names : NameBook) (p : PlannedShop) (c : Cell) (t : ℕ) (times : NodeTimes) (ordered : AreOrderedAhead p c t times) (lines : List ℕ) where
  pub in_time : (d : NodeMoments) → AreDeadlines p c (moment_of d) → AreScheduleLines names p c t (earliest_of times) (due_in (Some d)) lines
      → AreLinesBy names p c t (AreInTime p c) lines
  in_time d deadlines are =
      record { moments = earliest_of times; earliest = are_moments p c t times ordered; due = due_in (Some d); deadlines = (moment_of d, deadlines, λ v. refl); are = are }

  pub late : AreScheduleLines names p c t (earliest_of times) (due_in None) lines → AreLinesBy names p c t HaveNoDeadlines lines
  late are = record { moments = earliest_of times; earliest = are_moments p c t times ordered; due = due_in None; deadlines = λ v. refl; are = are }
