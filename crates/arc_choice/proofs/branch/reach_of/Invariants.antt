use Rattle.std.proofs.Common.{◌≡◌, ℕ}
use Rattle.arc_choice.specs.Choices.{nodes, Answers}
use Rattle.arc_choice.specs.Reach.{Rises}
use Rattle.arc_choice.proofs.branch.reach_of.Given as goal

-- what the arcs before this one say
abbrev pub invariant-loop-arc : goal.invariant-loop-arc
invariant-loop-arc l = record {
  nodes : l.reach.nodes ≡ nodes l.question;
  rises : (w : ℕ → ℕ) → Answers l.question w → Rises l.reach w;
}
