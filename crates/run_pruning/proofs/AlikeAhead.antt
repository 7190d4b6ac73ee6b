-- Of planned shops and cells of which the same is read the same is ahead.
use Rattle.std.proofs.Common.{ℕ, ◌+◌, List, length, slice_index, map, Bool, true, refl, sym, ap, ◌∙◌, subst, arith}
use Rattle.std.proofs.lemmas.List.{map-id}
use Rattle.shop_base.specs.declared.shop.Step.{Step}
use Rattle.shop_base.specs.declared.node.Node.{Node}
use Rattle.shop_base.specs.Plan.{PlannedShop, Stands}
use Rattle.shop_base.specs.Cell.{Cell}
use Rattle.shop_base.specs.Activity.{Activity, Arrival, Operation, Cleaning}
use Rattle.shop_base.specs.Graph.{Arc, job_arc, blocking_arc, IsNode, node}
use Rattle.shop_base.specs.Ahead.{IsAhead, HoldsUp, PathAhead, now, held, onward}
use Rattle.run_pruning.specs.RestLaw.{IsNodeAhead, IsHeldUntil, IsAheadBy, ArePathsBy}
use Rattle.run_pruning.proofs.Alike.{AreAlike, AreCellsAlike, alike_back, cells_back, route_there, nominal_there, stands_there, made_there, entries_there, goes_there}

module _ (p q : PlannedShop) (alike : AreAlike p q) where
  inside_there : (v : Node) → IsNode p v → IsNode q v
  inside_there v inside = record {
    job = omega (arith, inside.job, ap {A = List (List Step)} length alike.routes);
    place = omega (arith, inside.place, ap length (route_there p q alike v.job));
  }

  arc_there : (u v : Node) (n : ℕ) → Arc p u v n → Arc q u v n
  arc_there _ _ _ (job_arc j k within) =
      subst (λ x. Arc q (node j k) (node j (k + 1)) x) (nominal_there p q alike j k) (job_arc j k (omega (arith, within, ap length (route_there p q alike j))))
  arc_there _ _ _ (blocking_arc m a i k j l one other) =
      subst (λ x. Arc q (node i (k + 1)) (node j l) x) (alike.cleans m) (blocking_arc m a i k j l (stands_there p q alike m a i k one) (stands_there p q alike m (a + 1) j l other))

  module _ (c d : Cell) (cells : AreCellsAlike c d) where
    ahead_there : (v : Node) → IsAhead c v → IsAhead d v
    ahead_there v ahead = omega (arith, ahead, made_there c d cells v.job)

    node_there : (v : Node) → IsNodeAhead p c v → IsNodeAhead q d v
    node_there v here = record { is_node = inside_there v here.is_node; ahead = ahead_there v here.ahead }

    holds_there : (a : Activity) (v : Node) → HoldsUp p c a v → HoldsUp q d a v
    holds_there (Arrival j) v is = is ∙ ap (node j) (sym (made_there c d cells j))
    holds_there (Operation j m) v is = is ∙ ap (node j) (sym (made_there c d cells j))
    holds_there (Cleaning m) v stands =
        subst (λ a. Stands q m a v.job v.place) (sym (ap length (entries_there c d cells m))) (stands_there p q alike m _ v.job v.place stands)

    held_there : (v : Node) (due : ℕ) → IsHeldUntil p c v due → IsHeldUntil q d v due
    held_there v due (a, goes, holds) = (a, goes_there p q alike c d cells a due goes, holds_there a v holds)

    path_there : (t : ℕ) (nodes : List Node) (v : Node) (n : ℕ) → PathAhead p c t nodes v n → PathAhead q d t nodes v n
    path_there t _ _ _ (now v inside ahead) = now v (inside_there v inside) (ahead_there v ahead)
    path_there t _ _ _ (held a due v goes holds) = held a due v (goes_there p q alike c d cells a due goes) (holds_there a v holds)
    path_there t _ _ _ (onward nodes u v n e path arc) = onward nodes u v n e (path_there t nodes u n path) (arc_there u v e arc)

-- what is ahead in one is ahead in the other
module _ (rename : Node → Node) (p : PlannedShop) (c : Cell) (q r : PlannedShop) (alike : AreAlike q r) (d e : Cell) (cells : AreCellsAlike d e) where
  back : AreAlike r q
  back = alike_back q r alike

  cells_were : AreCellsAlike e d
  cells_were = cells_back d e cells

  pub ahead_on : (kept : ℕ → Bool) → IsAheadBy kept rename p c q d → IsAheadBy kept rename p c r e
  ahead_on kept known = record {
    nodes = λ v here. let (stays, there) = known.nodes v here in (stays, node_there q r alike d e cells (rename v) there);
    nodes_back = λ w there. known.nodes_back w (node_there r q back e d cells_were w there);
    arcs = λ u v n ahead arc. arc_there q r alike (rename u) (rename v) n (known.arcs u v n ahead arc);
    arcs_back = λ x y n ahead arc. known.arcs_back x y n (ahead_there r q back e d cells_were x ahead) (arc_there r q back x y n arc);
    held = λ v due goes. held_there q r alike d e cells (rename v) due (known.held v due goes);
    held_back = λ w due goes. known.held_back w due (held_there r q back e d cells_were w due goes);
    budgets = λ v here. ap (λ (ts : List ℕ). slice_index ts (rename v).job) alike.budgets ∙ known.budgets v here;
  }

  pub paths_on : (t : ℕ) → ArePathsBy rename p c q d t → ArePathsBy rename p c r e t
  paths_on t known = record {
    paths = λ nodes v n path. path_there q r alike d e cells t (map rename nodes) (rename v) n (known.paths nodes v n path);
    paths_back = λ others w n path. known.paths_back others w n (path_there r q back e d cells_were t others w n path);
  }

-- and what is ahead of a cell is ahead of it
module _ (p : PlannedShop) (c : Cell) where
  pub ahead_itself : IsAheadBy (λ j. true) (λ v. v) p c p c
  ahead_itself = record {
    nodes = λ v here. (refl, here);
    nodes_back = λ w there. (w, refl, there);
    arcs = λ u v n ahead arc. arc;
    arcs_back = λ x y n ahead arc. (x, y, refl, refl, ahead, arc);
    held = λ v due goes. goes;
    held_back = λ w due goes. (w, refl, goes);
    budgets = λ v here. refl;
  }

  pub paths_itself : (t : ℕ) → ArePathsBy (λ v. v) p c p c t
  paths_itself t = record {
    paths = λ nodes v n path. subst (λ xs. PathAhead p c t xs v n) (sym (map-id nodes)) path;
    paths_back = λ others w n path. (others, w, sym (map-id others), refl, path);
  }
