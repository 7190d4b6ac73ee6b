use Rattle.std.proofs.Common.{ℕ, vec_len}
use Rattle.arc_choice.specs.Choices.{Answers}
use Rattle.arc_choice.specs.Waits.{AreWaiting, IsWithinSome}
use Rattle.arc_choice.proofs.exploring.next.Given as goal

-- what still waits has all answers
abbrev pub invariant-loop-last : goal.invariant-loop-last
invariant-loop-last g l = record {
  waiting : AreWaiting l.question l.waiting.items;
  keeps : (w : ℕ → ℕ) → Answers l.question w → IsWithinSome l.question l.fn.waiting.items w → IsWithinSome l.question l.waiting.items w;
}

abbrev pub decreases-loop-last : goal.decreases-loop-last
decreases-loop-last g l = vec_len l.waiting
