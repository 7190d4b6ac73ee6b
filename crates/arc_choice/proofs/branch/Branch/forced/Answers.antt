use Rattle.std.proofs.Common.{subst}
use Rattle.arc_choice.specs.declared.question.Arc.{Arc}
use Rattle.arc_choice.specs.Choices.{Keeps}
use Rattle.arc_choice.specs.Branches.{HasNone}
use Rattle.arc_choice.proofs.Narrowing.{other_forced}
use Rattle.arc_choice.proofs.branch.Branch.forced.Goals as goal

pub returns-then-excludes : goal.returns-then-excludes
returns-then-excludes c =
    let q = c.args.question.now in
    let s = c.args.self.now in
    other_forced q s c.args.pair c.requires.pair (subst (λ (a : Arc). HasNone (λ w. Keeps w a) q s) c.side.ensures (c.excludes.ensures c.if-excludes.true))
