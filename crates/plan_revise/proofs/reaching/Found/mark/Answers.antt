use Rattle.std.proofs.Common.{◌≡◌, ◌∙◌, List, get_or, set, false, true, refl, sym, ap, subst, arith}
use Rattle.std.proofs.lemmas.List.{get_or_read, get_or-set_same}
use Rattle.std.proofs.lemmas.Option.{same_Some}
use Rattle.plan_revise.specs.Reaching.{IsMarked}
use Rattle.plan_revise.proofs.Searching.{mark-inside, more-found}
use Rattle.plan_revise.proofs.reaching.Found.mark.Goals as goal

pub index-requires : goal.index-requires
index-requires c = omega (arith, c.number-at.ensures.number, mark-inside c.args.graph.now c.number-at.ensures.sound c.args.self.now c.requires.found c.in-Some.node (c.requires.node c.in-Some.node c.in-Some.is), c.args.self.now.marks.ok.0)

pub index_mut-requires : goal.index_mut-requires
index_mut-requires c = omega (arith, c.number-at.ensures.number, mark-inside c.args.graph.now c.number-at.ensures.sound c.args.self.now c.requires.found c.in-Some.node (c.requires.node c.in-Some.node c.in-Some.is), c.args.self.now.marks.ok.0)

pub returns-then-index-clause-marked : goal.returns-then-index-clause-marked
returns-then-index-clause-marked c = λ x same.
    let g = c.args.graph.now in
    let marks : List _ = c.args.self.now.marks.items in
    let inside = mark-inside g c.number-at.ensures.sound c.args.self.now c.requires.found c.in-Some.node (c.requires.node c.in-Some.node c.in-Some.is) in
    let read = get_or_read marks c.number-at.result c.index.result.now (omega (arith, c.number-at.ensures.number, inside)) c.index.ensures false in
    let is : c.in-Some.node ≡ x = same_Some c.in-Some.node x (sym c.in-Some.is ∙ same) in
    subst (IsMarked g marks) is (sym (ap (λ n. get_or marks n false) c.number-at.ensures.number) ∙ sym read ∙ c.if-index.true)

pub returns-clause-found : goal.returns-clause-found
returns-clause-found c =
    let g = c.args.graph.now in
    let marks : List _ = c.args.self.now.marks.items in
    let v = c.in-Some.node in
    let inside = mark-inside g c.number-at.ensures.sound c.args.self.now c.requires.found v (c.requires.node v c.in-Some.is) in
    let read = get_or_read marks c.number-at.result c.index.result.now (omega (arith, c.number-at.ensures.number, inside)) c.index.ensures false in
    more-found g c.number-at.ensures.sound c.args.self.now _ c.requires.found v (c.requires.node v c.in-Some.is) (c.requires.reached v c.in-Some.is)
    (sym (ap (λ n. get_or marks n false) c.number-at.ensures.number) ∙ sym read ∙ c.if-index.false) refl c.in_ok-push.ensures.items (ap (λ n. set marks n true) c.number-at.ensures.number)

pub returns-clause-marked : goal.returns-clause-marked
returns-clause-marked c = λ x same.
    let g = c.args.graph.now in
    let marks : List _ = c.args.self.now.marks.items in
    let v = c.in-Some.node in
    let inside = mark-inside g c.number-at.ensures.sound c.args.self.now c.requires.found v (c.requires.node v c.in-Some.is) in
    let is : v ≡ x = same_Some v x (sym c.in-Some.is ∙ same) in
    subst (IsMarked g (set marks c.number-at.result true)) is
    (sym (ap (λ n. get_or (set marks c.number-at.result true) n false) c.number-at.ensures.number) ∙ get_or-set_same marks c.number-at.result true false (omega (arith, c.number-at.ensures.number, inside)))
