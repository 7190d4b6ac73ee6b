use Rattle.std.proofs.Common.{subst}
use Rattle.arc_choice.specs.declared.question.Arc.{Arc}
use Rattle.arc_choice.specs.Choices.{Keeps, side_of}
use Rattle.arc_choice.specs.Branches.{Propagates}
use Rattle.arc_choice.proofs.Narrowing.{propagates_on}
use Rattle.arc_choice.proofs.branch.Branch.decide.Goals as goal

pub returns : goal.returns
returns c =
    let q = c.args.question.now in
    propagates_on (λ w. Keeps w (side_of q c.args.side.pair c.args.side.one)) q c.args.self.now c.note.new.self c.keep.new.self c.keep.result c.note.ensures
    (subst (λ (a : Arc). Propagates (λ w. Keeps w a) q c.note.new.self c.keep.new.self c.keep.result) c.side.ensures c.keep.ensures)
