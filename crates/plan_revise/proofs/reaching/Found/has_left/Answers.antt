use Rattle.std.proofs.Common.{◌≡◌, ◌+◌, ◌<◌, ◌∙◌, List, Bool, get_or, length, false, sym, ap, arith}
use Rattle.std.proofs.lemmas.List.{get_or_read}
use Rattle.shop_base.specs.declared.node.Node.{Node}
use Rattle.shop_base.specs.Graph.{node, IsNode}
use Rattle.shop_base.proofs.Visits.{steps_job}
use Rattle.alt_graph.specs.Layout.{number_of}
use Rattle.alt_graph.proofs.NodeNumbers.{number_inside}
use Rattle.plan_revise.proofs.Searching.{few-place}
use Rattle.plan_revise.proofs.reaching.Found.has_left.Goals as goal

pub leaving_of-requires : goal.leaving_of-requires
leaving_of-requires c = few-place c.args.graph.now.plan c.requires.reached.sound.shaped c.args.visit.job c.args.visit.place c.requires.visit

pub index-requires : goal.index-requires
index-requires c =
    let p = c.args.graph.now.plan in
    let v : Node = node c.args.visit.job (c.args.visit.place + 1) in
    let is : IsNode p v = record { job = steps_job p c.args.visit.job c.args.visit.place c.requires.visit; place = omega (arith, c.requires.visit) } in
    omega (arith, c.number.ensures.number, ap (number_of c.args.graph.now.firsts) c.leaving_of.ensures, number_inside p c.args.graph.now.firsts c.requires.reached.sound.firsts v is, c.requires.reached.size, c.args.self.now.marks.ok.0)

pub returns : goal.returns
returns c =
    let p = c.args.graph.now.plan in
    let v : Node = node c.args.visit.job (c.args.visit.place + 1) in
    let is : IsNode p v = record { job = steps_job p c.args.visit.job c.args.visit.place c.requires.visit; place = omega (arith, c.requires.visit) } in
    let marks : List Bool = c.args.self.now.marks.items in
    let number : c.number.result ≡ number_of c.args.graph.now.firsts v = c.number.ensures.number ∙ ap (number_of c.args.graph.now.firsts) c.leaving_of.ensures in
    let inside : c.number.result < length marks = omega (arith, number, number_inside p c.args.graph.now.firsts c.requires.reached.sound.firsts v is, c.requires.reached.size) in
    let read : c.index.result.now ≡ get_or marks (number_of c.args.graph.now.firsts v) false = get_or_read marks c.number.result c.index.result.now inside c.index.ensures false ∙ ap (λ n. get_or marks n false) number in
    let exact = c.requires.reached.exact v is in
    (λ found. exact.0 (sym read ∙ found), λ reached. read ∙ exact.1 reached)
