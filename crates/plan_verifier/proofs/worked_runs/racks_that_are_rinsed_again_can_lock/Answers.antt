use Rattle.std.proofs.Common.{[], ◌∷◌, refl, arith, inl}
use Rattle.std.proofs.lemmas.List.Elements.{All-nil, All-cons}
use Rattle.shop_base.specs.Graph.{node, IsNode}
use Rattle.shop_base.proofs.GraphTests.{cycle_decides}
use Rattle.alt_graph.specs.Evidence.{IsNodeBefore}
use Rattle.plan_verifier.specs.VisitedAgain.{entangled}
use Rattle.plan_verifier.proofs.worked_runs.racks_that_are_rinsed_again_can_lock.Goals as goal

pub returns : goal.returns
returns c = record {
  cycle = (
    (cycle_decides entangled (node 0 2 ∷ node 1 1 ∷ [])).0 refl,
    All-cons (IsNode entangled) (node 0 2) (node 1 1 ∷ []) (record { job = omega arith; place = omega arith })
        (All-cons (IsNode entangled) (node 1 1) [] (record { job = omega arith; place = omega arith }) (All-nil (IsNode entangled))),
    All-cons (IsNodeBefore (node 0 2)) (node 1 1) [] (inl (omega arith)) (All-nil (IsNodeBefore (node 0 2))),
  );
}
