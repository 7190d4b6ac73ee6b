use Rattle.std.proofs.Common.{sym, ap, ◌∙◌, subst, List, ◌++◌, ◌∷◌, []}
use Rattle.arc_choice.specs.declared.exploring.Waiting.{Waiting}
use Rattle.arc_choice.specs.Waits.{Splits}
use Rattle.arc_choice.proofs.Stacking.{split_in_two}
use Rattle.arc_choice.proofs.exploring.split.Goals as goal

pub returns : goal.returns
returns c =
    let items = c.in_ok-push-2.ensures.items ∙ ap (λ (xs : List Waiting). xs ++ record { branch = c.args.branch; side = c.args.side } ∷ []) c.in_ok-push.ensures.items in
    subst (λ (xs : List Waiting). Splits c.args.question.now c.args.branch c.args.waiting.now.items xs) (sym items)
    (split_in_two c.args.question.now c.args.branch c.in_ok-second.second c.args.side.pair c.args.side.one c.args.waiting.now.items c.requires.branch c.in_ok-second.ensures c.requires.pair c.requires.waiting)
