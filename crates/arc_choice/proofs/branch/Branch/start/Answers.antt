use Rattle.std.proofs.Common.{arith, rules, ◌∙◌}
use Rattle.arc_choice.proofs.Narrowing.{started, started_with}
use Rattle.arc_choice.proofs.branch.Branch.start.Goals as goal

pub returns-clause-branch : goal.returns-clause-branch
returns-clause-branch c =
    started c.args.question.now _ c.len-2.result c.requires (c.in_ok-heads.ensures.items ∙ c.as_slice.ensures.value) (c.in_ok-latest.ensures.items ∙ c.as_slice-2.ensures.value)
    (omega (arith, c.len-2.ensures, c.args.question.now.pairs.ok.0)) (c.in_ok-decisions.ensures.items_if_clones_equal (search rules)) c.in_ok-reach.ensures.nodes

pub returns-clause-all : goal.returns-clause-all
returns-clause-all c =
    started_with c.args.question.now _ c.len-2.result c.requires (c.in_ok-heads.ensures.items ∙ c.as_slice.ensures.value) (c.in_ok-latest.ensures.items ∙ c.as_slice-2.ensures.value)
    (omega (arith, c.len-2.ensures, c.args.question.now.pairs.ok.0)) (c.in_ok-decisions.ensures.items_if_clones_equal (search rules)) c.in_ok-reach.ensures.rises
