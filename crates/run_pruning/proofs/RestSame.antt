-- Nothing ahead changes without jobs that are gone.
use Rattle.std.proofs.Common.{◌≡◌, ℕ, suc, ◌+◌, ◌<◌, ◌≤◌, inl, inr, List, [], ◌∷◌, ◌++◌, length, get_or, map, Bool, true, false, le_refl, refl, sym, ap, ap₂, ◌∙◌, subst, arith}
use Rattle.std.proofs.lemmas.Bool.{cases_lt, cases_order}
use Rattle.std.proofs.lemmas.List.{map-append}
use Rattle.std.proofs.Math.ListN.{get_or-append}
use Rattle.shop_base.specs.declared.shop.Step.{Step}
use Rattle.shop_base.specs.declared.job_state.JobState.{JobState}
use Rattle.shop_base.specs.declared.node.Node.{Node}
use Rattle.shop_base.specs.Shop.{step_at}
use Rattle.shop_base.specs.Plan.{PlannedShop, jobs, machines, steps, nominal, release, order, Stands, IsWellShaped}
use Rattle.shop_base.specs.Cell.{Cell, made, ready, since, entries, cleaning, IsOn, IsGone}
use Rattle.shop_base.specs.Activity.{Activity, Arrival, Operation, Cleaning, GoesOn}
use Rattle.shop_base.specs.Run.{ends_in}
use Rattle.shop_base.specs.Graph.{Arc, job_arc, blocking_arc, node}
use Rattle.shop_base.specs.Ahead.{IsAhead, next_node, HoldsUp, PathAhead, now, held, onward}
use Rattle.shop_base.specs.Sound.{IsSound}
use Rattle.shop_base.proofs.Counting.{count_grows, count_passed, count_rises, count_same}
use Rattle.shop_base.proofs.Visits.{steps_job, visits_job, visits_machine}
use Rattle.shop_base.proofs.InShop.{outside_in_shop}
use Rattle.shop_base.proofs.Keeping.{run-sound}
use Rattle.shop_base.proofs.Ahead.{IsLeftIn, arc_left, held_left, path_left}
use Rattle.run_pruning.specs.Staying.{stays, new_number}
use Rattle.run_pruning.specs.Pruned.{pruned, pruned_cell}
use Rattle.run_pruning.specs.PruningLaw.{pruned_run, IsWhatIsLeft}
use Rattle.run_pruning.specs.RestLaw.{new_node, IsNodeAhead, IsHeldUntil, IsAheadRenamed, ArePathsRenamed, NothingAheadChanges}
use Rattle.run_pruning.proofs.Left.{staying_at, number_once, stays_at, new_place, length-renumbered}
use Rattle.run_pruning.proofs.PrunedShops.{number_inside, old_job, route_kept, visits_were, stands_kept, stood}
use Rattle.run_pruning.proofs.PrunedCells.{entries_left, job_left}
use Rattle.run_pruning.proofs.PrunedSteps.{on_left}
use Rattle.run_pruning.proofs.AheadStays.{stays_here, place_stays}
use Rattle.run_pruning.proofs.WhatIsLeft.{what_is_left_is_a_run-holds}

module _ (p : PlannedShop) (marks : List Bool) (count : length marks ≡ jobs p) (shaped : IsWellShaped p) (c : Cell) (sound : IsSound p c)
    (sound_left : IsSound (pruned marks p) (pruned_cell marks c c.last))
    (gone : (j : ℕ) → j < jobs p → stays marks j ≡ false → IsGone p c j) (cleanings : (m : ℕ) → cleaning (pruned_cell marks c c.last) m ≡ cleaning c m) where
  abbrev q : PlannedShop
  q = pruned marks p

  abbrev d : Cell
  d = pruned_cell marks c c.last

  made_left : (j : ℕ) → stays marks j ≡ true → made d (new_number marks j) ≡ made c j
  made_left j kept = ap (λ (s : JobState). s.made) (job_left marks c c.last j kept)

  node_stays : (v : Node) → IsLeftIn p c v → stays marks v.job ≡ true
  node_stays v left = stays_here p marks shaped c sound gone v.job left.job (omega (arith, left.ahead, left.place))

  -- how many of a machine's entries stay
  entered_left : (m : ℕ) → length (entries d m) ≡ new_place marks (order p m) (length (entries c m))
  entered_left m =
      let (rest, e) = sound.in_order m in
      ap length (entries_left marks c c.last m) ∙ length-renumbered marks (entries c m)
      ∙ count_same (stays_at marks (entries c m)) (stays_at marks (order p m)) (length (entries c m))
      (λ i less. ap (stays marks) (sym (get_or-append (entries c m) rest 0 i less) ∙ sym (ap (λ (js : List ℕ). get_or js i 0) e)))

  place_kept : (m a j k : ℕ) → stays marks j ≡ true → Stands p m a j k → stays_at marks (order p m) a ≡ true
  place_kept m a j k kept stands = ap (stays marks) stands.job ∙ kept

  -- behind a place that is left comes the next place of a job that stays, and where that is ahead it is the next place
  place_next : (m a b : ℕ) → stays_at marks (order p m) a ≡ true → a < length (order p m) → b < length (order p m) → m < machines p → length (entries c m) ≤ a + 1
      → new_place marks (order p m) b ≡ new_place marks (order p m) a + 1 → b ≡ a + 1
  place_next m a b kept within below inside past next = elim (cases_order b (a + 1)) [
    | inl same ↦ same
    | inr (inl less) ↦ absurd (omega (arith, next, count_grows (stays_at marks (order p m)) b a (omega arith)))
    | inr (inr more) ↦ (let here : stays_at marks (order p m) (suc a) ≡ true = place_stays p marks shaped c sound gone m (suc a) inside (omega (arith, past)) (omega (arith, more, below)) in
        absurd (omega (arith, next, count_passed (stays_at marks (order p m)) a kept, count_rises (stays_at marks (order p m)) (suc a) b here (omega (arith, more)))))
  ]

  -- the first place ahead is that of the first one that is left
  pub place_first : (m a : ℕ) → m < machines p → stays_at marks (order p m) a ≡ true → a < length (order p m) → new_place marks (order p m) a ≡ length (entries d m) → a ≡ length (entries c m)
  place_first m a inside kept within same = elim (cases_order a (length (entries c m))) [
    | inl is ↦ is
    | inr (inl less) ↦ absurd (omega (arith, same, entered_left m, count_rises (stays_at marks (order p m)) a (length (entries c m)) kept less))
    | inr (inr more) ↦ absurd (omega (
      arith,
      same,
      entered_left m,
      count_rises (stays_at marks (order p m)) (length (entries c m)) a (place_stays p marks shaped c sound gone m (length (entries c m)) inside (omega arith) (omega (arith, more, within))) more,
    ))
  ]

  nominal_kept : (j k : ℕ) → stays marks j ≡ true → nominal q (new_number marks j) k ≡ nominal p j k
  nominal_kept j k kept = ap (λ (r : List Step). (step_at r k).nominal) (route_kept p marks count j kept)

  steps_kept : (j : ℕ) → stays marks j ≡ true → steps q (new_number marks j) ≡ steps p j
  steps_kept j kept = ap length (route_kept p marks count j kept)

  arc_kept : (u v : Node) (n : ℕ) → Arc p u v n → IsAhead c u → stays marks v.job ≡ true → Arc q (new_node marks u) (new_node marks v) n
  arc_kept _ _ _ (job_arc j k within) ahead kept =
      subst (λ x. Arc q (node (new_number marks j) k) (node (new_number marks j) (k + 1)) x) (nominal_kept j k kept) (job_arc (new_number marks j) k (omega (arith, within, steps_kept j kept)))
  arc_kept _ _ _ (blocking_arc m a i k j l one other) ahead kept =
      let first : stays marks i ≡ true = stays_here p marks shaped c sound gone i (visits_job p i k m one.visits) (omega (arith, ahead, one.visits.within)) in
      let step : a + 1 ≡ suc a = omega arith in
      let next : new_place marks (order p m) (a + 1) ≡ new_place marks (order p m) a + 1 = ap (new_place marks (order p m)) step ∙ count_passed (stays_at marks (order p m)) a (place_kept m a i k first one) in
      blocking_arc m (new_place marks (order p m) a) (new_number marks i) k (new_number marks j) l (stands_kept p marks count m a i k first one)
      (subst (λ x. Stands q m x (new_number marks j) l) next (stands_kept p marks count m (a + 1) j l kept other))

  abbrev WasArc : Node → Node → ℕ → Type 0
  WasArc x y n = (u : Node) × (v : Node) × (x ≡ new_node marks u) × (y ≡ new_node marks v) × (stays marks u.job ≡ true) × IsAhead c u × Arc p u v n

  arc_was : (x y : Node) (n : ℕ) → Arc q x y n → IsAhead d x → WasArc x y n
  arc_was _ _ _ (job_arc i k within) ahead =
      let (j, less, kept, is) = old_job p marks count i (steps_job q i k within) in (
        node j k,
        node j (k + 1),
        ap (λ x. node x k) (sym is),
        ap (λ x. node x (k + 1)) (sym is),
        kept,
        omega (arith, ahead, made_left j kept, ap (made d) is),
        subst (λ x. Arc p (node j k) (node j (k + 1)) x) (sym (nominal_kept j k kept) ∙ ap (λ x. nominal q x k) is) (job_arc j k (omega (arith, within, steps_kept j kept, ap (steps q) is))),
      )
  arc_was _ _ _ (blocking_arc m b x k y l one other) ahead =
      let (i, a, kept, is, was, place) = stood p marks count shaped m b x k one in
      let (j, a2, kept2, is2, was2, place2) = stood p marks count shaped m (b + 1) y l other in
      let here : made c i ≤ k + 1 = omega (arith, ahead, made_left i kept, ap (made d) is) in
      let few : length (entries c m) ≤ a + 1 = elim (cases_lt (a + 1) (length (entries c m))) [
        | inr left ↦ left
        | inl more ↦ (let before : k < made c i = sound.entered_made m a i k was (omega (arith, more)) in
            absurd (omega (arith, more, sound.newest m a i k was (omega (arith, before, here)))))
      ] in
      let next : a2 ≡ a + 1 = place_next m a a2 (place_kept m a i k kept was) was.within was2.within (visits_machine p i k m shaped was.visits) few (place2 ∙ ap (λ z. z + 1) (sym place)) in (
        node i (k + 1),
        node j l,
        ap (λ z. node z (k + 1)) (sym is),
        ap (λ z. node z l) (sym is2),
        kept,
        here,
        blocking_arc m a i k j l was (subst (λ z. Stands p m z j l) next was2),
      )

  held_kept : (a : Activity) (due : ℕ) (v : Node) → GoesOn p c a due → HoldsUp p c a v → IsHeldUntil q d (new_node marks v) due
  held_kept (Arrival j) due v going is =
      let kept : stays marks j ≡ true = stays_here p marks shaped c sound gone j (outside_in_shop p c j sound going.outside) (omega (arith, going.outside)) in (
        Arrival (new_number marks j),
        record {
          outside = made_left j kept ∙ going.outside;
          not_ready = ap (λ (s : JobState). s.ready) (job_left marks c c.last j kept) ∙ going.not_ready;
          is_due = going.is_due ∙ sym (staying_at marks p.plan.release j 0 kept);
        },
        ap (new_node marks) is ∙ ap (node (new_number marks j)) (sym (made_left j kept)),
      )
  held_kept (Operation j m) due v (k, going) is =
      let kept : stays marks j ≡ true = stays_here p marks shaped c sound gone j (visits_job p j k m going.on.visits) (omega (arith, going.on.entered, going.on.visits.within)) in (
        Operation (new_number marks j) m,
        (
          k,
          record {
            on = on_left p marks count shaped c sound c.last (le_refl c.last) j k m kept going.on;
            not_ready = ap (λ (s : JobState). s.ready) (job_left marks c c.last j kept) ∙ going.not_ready;
            is_due = omega (arith, going.is_due, nominal_kept j k kept, ap (λ (s : JobState). s.since) (job_left marks c c.last j kept));
          },
        ),
        ap (new_node marks) is ∙ ap (node (new_number marks j)) (sym (made_left j kept)),
      )
  held_kept (Cleaning m) due v (from, going) stands =
      let left : IsLeftIn p c v = held_left p c (Cleaning m) due v sound (from, going) stands in (
        Cleaning m,
        (from, record { is_cleaned = cleanings m ∙ going.is_cleaned; is_due = going.is_due }),
        subst (λ x. Stands q m x (new_number marks v.job) v.place) (sym (entered_left m)) (stands_kept p marks count m (length (entries c m)) v.job v.place (node_stays v left) stands),
      )

  held_was : (a : Activity) (due : ℕ) (w : Node) → GoesOn q d a due → HoldsUp q d a w → (v : Node) × (w ≡ new_node marks v) × IsHeldUntil p c v due
  held_was (Arrival i) due w going is =
      let (j, less, kept, same) = old_job p marks count i (outside_in_shop q d i sound_left going.outside) in (
        next_node c j,
        is ∙ ap₂ node (sym same) (sym (ap (made d) same) ∙ made_left j kept),
        (
          Arrival j,
          record {
            outside = sym (made_left j kept) ∙ ap (made d) same ∙ going.outside;
            not_ready = sym (ap (λ (s : JobState). s.ready) (job_left marks c c.last j kept)) ∙ ap (ready d) same ∙ going.not_ready;
            is_due = going.is_due ∙ ap (release q) (sym same) ∙ staying_at marks p.plan.release j 0 kept;
          },
          refl,
        ),
      )
  held_was (Operation i m) due w (k, going) is =
      let (j, less, kept, same) = old_job p marks count i (visits_job q i k m going.on.visits) in
      let mine : IsOn q d (new_number marks j) k m = subst (λ x. IsOn q d x k m) (sym same) going.on in (
        next_node c j,
        is ∙ ap₂ node (sym same) (sym (ap (made d) same) ∙ made_left j kept),
        (
          Operation j m,
          (
            k,
            record {
              on = record { entered = sym (made_left j kept) ∙ mine.entered; visits = visits_were p marks count j k m kept mine.visits };
              not_ready = sym (ap (λ (s : JobState). s.ready) (job_left marks c c.last j kept)) ∙ ap (ready d) same ∙ going.not_ready;
              is_due = omega (arith, going.is_due, nominal_kept j k kept, ap (λ x. nominal q x k) same, ap (since d) same, ap (λ (s : JobState). s.since) (job_left marks c c.last j kept));
            },
          ),
          refl,
        ),
      )
  held_was (Cleaning m) due w (from, going) stands =
      let (j, a, kept, is, was, place) = stood p marks count shaped m (length (entries d m)) w.job w.place stands in
      let first : a ≡ length (entries c m) = place_first m a (visits_machine p j w.place m shaped was.visits) (place_kept m a j w.place kept was) was.within place in (
        node j w.place,
        ap (λ x. node x w.place) (sym is),
        (Cleaning m, (from, record { is_cleaned = sym (cleanings m) ∙ going.is_cleaned; is_due = going.is_due }), subst (λ x. Stands p m x j w.place) first was),
      )

  node_left : (v : Node) → IsNodeAhead p c v → (stays marks v.job ≡ true) × IsNodeAhead q d (new_node marks v)
  node_left v here =
      let kept : stays marks v.job ≡ true = stays_here p marks shaped c sound gone v.job here.is_node.job (omega (arith, here.ahead, here.is_node.place)) in
      (kept, record { is_node = record { job = number_inside p marks count v.job kept; place = omega (arith, here.is_node.place, steps_kept v.job kept) }; ahead = omega (arith, here.ahead, made_left v.job kept) })

  node_was : (w : Node) → IsNodeAhead q d w → (v : Node) × (w ≡ new_node marks v) × IsNodeAhead p c v
  node_was w there =
      let (j, less, kept, is) = old_job p marks count w.job there.is_node.job in (
        node j w.place,
        ap (λ x. node x w.place) (sym is),
        record {
          is_node = record { job = less; place = omega (arith, there.is_node.place, steps_kept j kept, ap (steps q) is) };
          ahead = omega (arith, there.ahead, made_left j kept, ap (made d) is);
        },
      )

  node_once : (u v : Node) → stays marks u.job ≡ true → stays marks v.job ≡ true → new_node marks u ≡ new_node marks v → u ≡ v
  node_once u v one other same = ap₂ node (number_once marks u.job v.job one other (ap (λ (x : Node). x.job) same)) (ap (λ (x : Node). x.place) same)

  pub ahead_renamed : IsAheadRenamed marks p c q d
  ahead_renamed = record {
    nodes = node_left;
    nodes_back = node_was;
    arcs = λ u v n ahead arc. arc_kept u v n arc ahead (node_stays v (arc_left p c u v n sound arc ahead));
    arcs_back = λ x y n ahead arc. let (u, v, one, other, kept, before, was) = arc_was x y n arc ahead in (u, v, one, other, before, was);
    held = λ v due goes. held_kept goes.0 due v goes.1 goes.2;
    held_back = λ w due goes. held_was goes.0 due w goes.1 goes.2;
    budgets = λ v here. staying_at marks p.plan.budget v.job 0 (node_left v here).0;
  }

  module _ (t : ℕ) where
    path_kept : (nodes : List Node) (v : Node) (n : ℕ) → PathAhead p c t nodes v n → PathAhead q d t (map (new_node marks) nodes) (new_node marks v) n
    path_kept _ _ _ (now v inside ahead) =
        let there : IsNodeAhead q d (new_node marks v) = (node_left v (record { is_node = inside; ahead = ahead })).1 in
        now (new_node marks v) there.is_node there.ahead
    path_kept _ _ _ (held a due v going holds) = let (b, there, same) = held_kept a due v going holds in held b due (new_node marks v) there same
    path_kept _ _ _ (onward nodes u v n e path arc) =
        let left : IsLeftIn p c u = path_left p c t nodes u n sound path in
        subst (λ xs. PathAhead q d t xs (new_node marks v) (n + e)) (sym (map-append (new_node marks) nodes (v ∷ [])))
        (onward (map (new_node marks) nodes) (new_node marks u) (new_node marks v) n e (path_kept nodes u n path) (ahead_renamed.arcs u v e left.ahead arc))

    abbrev WasPath : List Node → Node → ℕ → Type 0
    WasPath others w n = (nodes : List Node) × (v : Node) × (others ≡ map (new_node marks) nodes) × (w ≡ new_node marks v) × PathAhead p c t nodes v n

    path_was : (others : List Node) (w : Node) (n : ℕ) → PathAhead q d t others w n → WasPath others w n
    path_was _ _ _ (now w inside ahead) =
        let (v, is, was) = node_was w (record { is_node = inside; ahead = ahead }) in
        (v ∷ [], v, ap {B = List Node} (λ x. x ∷ []) is, is, now v was.is_node was.ahead)
    path_was _ _ _ (held a due w going holds) =
        let (v, is, (b, goes, same)) = held_was a due w going holds in
        (v ∷ [], v, ap {B = List Node} (λ x. x ∷ []) is, is, held b due v goes same)
    path_was _ _ _ (onward others x y n e path arc) =
        let (nodes, u, same, is, before) = path_was others x n path in
        let left : IsLeftIn q d x = path_left q d t others x n sound_left path in
        let (u2, v, is_u, is_v, kept, ahead, was) = arc_was x y e arc left.ahead in
        let one : u2 ≡ u = node_once u2 u kept (node_stays u (path_left p c t nodes u n sound before)) (sym is_u ∙ is) in
        (nodes ++ v ∷ [], v, ap₂ (λ xs z. xs ++ z ∷ []) same is_v ∙ sym (map-append (new_node marks) nodes (v ∷ [])), is_v, onward nodes u v n e before (subst (λ z. Arc p z v e) one was))

    pub paths_renamed : ArePathsRenamed marks p c q d t
    paths_renamed = record { paths = path_kept; paths_back = path_was }

pub nothing_ahead_changes-holds : NothingAheadChanges
nothing_ahead_changes-holds p es marks t shaped run drops =
    let left : IsWhatIsLeft marks p es = what_is_left_is_a_run-holds p es marks shaped run drops in
    let q : PlannedShop = pruned marks p in
    let c : Cell = ends_in p es in
    let sound : IsSound p c = run-sound p es shaped run in
    let sound_left : IsSound q (pruned_cell marks c c.last) = subst (λ x. IsSound q x) left.ends (run-sound q (pruned_run marks p es) left.shaped left.run) in
    let gone : (j : ℕ) → j < jobs p → stays marks j ≡ false → IsGone p c j = λ j inside dropped. (drops.over j inside dropped).gone in
    let cleanings : (m : ℕ) → cleaning (pruned_cell marks c c.last) m ≡ cleaning c m = λ m. ap (λ x. cleaning x m) (sym left.ends) ∙ left.cleaning_same m in
    subst (λ x. IsAheadRenamed marks p c q x × ArePathsRenamed marks p c q x t) (sym left.ends)
    (ahead_renamed p marks drops.count shaped c sound sound_left gone cleanings, paths_renamed p marks drops.count shaped c sound sound_left gone cleanings t)
