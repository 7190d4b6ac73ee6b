use Rattle.std.proofs.Common.{◌+◌, ◌++◌, ◌<◌, [], length, drop, Vec, Global, List, sym, ap, ◌∙◌, arith}
use Rattle.std.proofs.lemmas.List.{map_push}
use Rattle.shop_base.specs.declared.shop.Step.{Step}
use Rattle.shop_base.specs.Vectors.{lists_of}
use Rattle.run_pruning.specs.Staying.{staying}
use Rattle.run_pruning.proofs.Marking.{number_stays}
use Rattle.run_pruning.proofs.Walks.{staying_more, staying_without}
use Rattle.run_pruning.proofs.pruning.kept_routes.Goals.{then-is_some+in_ok-copy_route+in_ok-push, else-is_some}
use Rattle.run_pruning.proofs.pruning.kept_routes.Goals as goal

pub loop-job-preserved : goal.loop-job-preserved
loop-job-preserved c =
    let rows : Vec (Vec Step Global) Global → List (List Step) = λ v. lists_of v.items in
    let steps : Vec Step Global → List Step = λ v. v.items in
    let routes : List (List Step) = c.args.shaped.now.shop.routes in
    let inside : c.loop-job.job < length routes = omega (arith, c.loop-job-test.true, c.job_count-job-end.ensures.count) in
    let marked : c.loop-job.job < length c.args.kept.now = omega (arith, inside, c.requires) in
    elim c.if-is_some.branch [
      | then-is_some+in_ok-copy_route+in_ok-push w ↦ staying_more c.args.kept.now routes (lists_of c.loop-job.left.items) (lists_of c.if-is_some.left.items) (staying c.args.kept.now routes) c.loop-job.job [] (steps w.in_ok-copy_route.field-0) marked inside
          (number_stays c.args.kept.now c.loop-job.job c.number_of.result _ c.number_of.ensures (sym c.is_some.ensures ∙ w.if-is_some.true))
          (w.in_ok-copy_route.ensures ∙ w.route_of.ensures.route)
          (ap rows w.left-is ∙ ap lists_of w.in_ok-push.ensures.items ∙ map_push steps c.loop-job.left.items w.in_ok-copy_route.field-0) c.loop-job.invariant
      | else-is_some w ↦ ap (λ xs. xs ++ staying (drop (c.loop-job.job + 1) c.args.kept.now) (drop (c.loop-job.job + 1) routes)) (ap rows w.left-is)
          ∙ staying_without c.args.kept.now routes (lists_of c.loop-job.left.items) (staying c.args.kept.now routes) c.loop-job.job [] marked inside
          (number_stays c.args.kept.now c.loop-job.job c.number_of.result _ c.number_of.ensures (sym c.is_some.ensures ∙ w.if-is_some.false)) c.loop-job.invariant
    ]
