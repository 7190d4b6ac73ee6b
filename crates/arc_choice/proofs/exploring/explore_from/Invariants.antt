use Rattle.std.proofs.Common.{ℕ, ◌⊎◌}
use Rattle.arc_choice.specs.Choices.{Answers}
use Rattle.arc_choice.specs.Branches.{IsBranch, IsWithin}
use Rattle.arc_choice.specs.Waits.{AreWaiting, IsWithinSome}
use Rattle.arc_choice.proofs.exploring.explore_from.Given as goal

-- all answers are among those of the branch and of what waits
abbrev pub invariant-loop : goal.invariant-loop
invariant-loop g l = record {
  branch : IsBranch l.question l.branch;
  waiting : AreWaiting l.question l.waiting.items;
  keeps : (w : ℕ → ℕ) → Answers l.question w → IsWithin l.question l.branch w ⊎ IsWithinSome l.question l.waiting.items w;
}
