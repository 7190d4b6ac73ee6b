-- In a run that goes on with no report early, no node ahead is made before the length of any path ahead to it: after each event a path at least as long leads to each node that is still ahead.
use Rattle.std.proofs.Common.{◌≡◌, ◌≢◌, ℕ, ◌+◌, ◌<◌, ◌≤◌, ◌⊎◌, inl, inr, List, [], ◌∷◌, ◌++◌, length, Some, None, true, false, refl, sym, ap, ap₂, ◌∙◌, arith, le_refl, max}
use Rattle.std.proofs.lemmas.Bool.{cases_lt, cases_eq}
use Rattle.shop_base.specs.declared.node.Node.{Node}
use Rattle.shop_base.specs.declared.job_state.JobState.{JobState}
use Rattle.shop_base.specs.Plan.{PlannedShop, jobs, steps, nominal, clean, Stands, IsWellShaped}
use Rattle.shop_base.specs.Cell.{Cell, made, ready, since, entries, cleaning, start, IsOn}
use Rattle.shop_base.specs.Activity.{Activity, Arrival, Operation, Cleaning, IsCleaned, GoesOn}
use Rattle.shop_base.specs.Report.{ended, at, with_ready, with_clean, after_end, after_report}
use Rattle.shop_base.specs.Move.{CanMove, KeepsPlan, after_move}
use Rattle.shop_base.specs.Run.{Event, Reported, Moved, AreEvents, after, after_all, ends_in}
use Rattle.shop_base.specs.Punctual.{AreNotEarly}
use Rattle.shop_base.specs.Graph.{Arc, job_arc, blocking_arc, node, leaving}
use Rattle.shop_base.specs.Sound.{IsSound}
use Rattle.shop_base.specs.Ahead.{next_node, IsAhead, HoldsUp, PathAhead, now, held, onward, MoveFrom}
use Rattle.shop_base.specs.AheadLaw.{NoContinuationIsFaster}
use Rattle.shop_base.proofs.Visits.{visits_job, visits_apart, visits_or_not}
use Rattle.shop_base.proofs.Changes.{IsMoved, IsReadied, IsTidied, after_move-moved, with_ready-readied, with_clean-tidied}
use Rattle.shop_base.proofs.Keeping.{after_report-like, after_report-sound, after_move-sound, run-sound, target_free, needs}
use Rattle.shop_base.proofs.InShop.{outside_in_shop}
use Rattle.shop_base.proofs.ControlledRuns.{after_all_join}
use Rattle.shop_base.proofs.InTime.{report_last}
use Rattle.shop_base.proofs.Ahead.{IsLeftIn, held_left, path_left, IsBusyUntil, busy_once, cleaned_once}

-- events in turn: the first, and then the others in the cell that they leave
pub events_split : (p : PlannedShop) (c : Cell) (es rest : List Event) → AreEvents p c (es ++ rest) → AreEvents p c es × AreEvents p (after_all p c es) rest
events_split p c [] rest events = (tt, events)
events_split p c (e ∷ es) rest events =
    let (front, back) = events_split p (after p c e) es rest events.1 in
    ((events.0, front), back)

-- a path ahead of at least this length leads to the node
pub record HasPathOf (p : PlannedShop) (c : Cell) (t : ℕ) (v : Node) (n : ℕ) : Type 0 where
  pub nodes : List Node
  pub size : ℕ
  pub path : PathAhead p c t nodes v size
  pub enough : n ≤ size

shorter : (p : PlannedShop) (c : Cell) (t : ℕ) (v : Node) (n k : ℕ) → n ≤ k → HasPathOf p c t v k → HasPathOf p c t v n
shorter p c t v n k less found = record { nodes = found.nodes; size = found.size; path = found.path; enough = omega (arith, found.enough) }

-- and one arc more
pub further : (p : PlannedShop) (c : Cell) (t : ℕ) (u v : Node) (n d : ℕ) → HasPathOf p c t u n → Arc p u v d → HasPathOf p c t v (n + d)
further p c t u v n d found arc = record { nodes = found.nodes ++ v ∷ []; size = found.size + d; path = onward found.nodes u v found.size d found.path arc; enough = omega (arith, found.enough) }

-- to each node ahead leads a path that begins at the present moment
pub from_now : (p : PlannedShop) (c : Cell) (t : ℕ) (v : Node) → IsLeftIn p c v → HasPathOf p c t v t
from_now p c t v left = record { nodes = v ∷ []; size = t; path = now v (record { job = left.job; place = left.place }) left.ahead; enough = le_refl t }

-- after an event a path that is no shorter leads to each node that is still ahead: from those that were ahead, from what was held up, and from what the event passed
module _ (p : PlannedShop) (c new : Cell) (t u : ℕ) (later : t ≤ u) (sound : IsSound p c)
    (more : (j : ℕ) → made c j ≤ made new j)
    (holds_on : (a : Activity) (due : ℕ) (v : Node) → GoesOn p c a due → HoldsUp p c a v → IsAhead new v → (due ≤ u) ⊎ (GoesOn p new a due × HoldsUp p new a v))
    (passes : (nodes : List Node) (w v : Node) (n d : ℕ) → PathAhead p c t nodes w n → (IsAhead new w → ⊥) → Arc p w v d → IsAhead new v → HasPathOf p new u v (n + d)) where
  path_on : (nodes : List Node) (v : Node) (n : ℕ) → PathAhead p c t nodes v n → IsAhead new v → HasPathOf p new u v n
  path_on _ _ _ (now v inside was) ahead = record { nodes = v ∷ []; size = u; path = now v inside ahead; enough = later }
  path_on _ _ _ (held a due v going holds) ahead = go (holds_on a due v going holds ahead)
    where
      go : (due ≤ u) ⊎ (GoesOn p new a due × HoldsUp p new a v) → HasPathOf p new u v due
      go (inl ended) =
          let left : IsLeftIn p c v = held_left p c a due v sound going holds in
          shorter p new u v due u ended (from_now p new u v (record { ahead = ahead; job = left.job; place = left.place }))
      go (inr (still, stays)) = record { nodes = v ∷ []; size = due; path = held a due v still stays; enough = le_refl due }
  path_on _ _ _ (onward nodes w v n d path arc) ahead = elim (cases_lt w.place (made new w.job)) [
    | inl passed ↦ passes nodes w v n d path (λ here. omega arith) arc ahead
    | inr here ↦ further p new u w v n d (path_on nodes w n path here) arc
  ]

-- what went on before a report that makes job j ready goes on behind it, and holds up the same node, but for what went on with that job
pub readied-holds : (p : PlannedShop) (c new : Cell) (j at : ℕ) → IsReadied c j at new → (a : Activity) (due : ℕ) (v : Node) → GoesOn p c a due → HoldsUp p c a v
    → (IsBusyUntil p c j due × (v ≡ next_node c j)) ⊎ (GoesOn p new a due × HoldsUp p new a v)
readied-holds p c new j at readied (Arrival i) due v awaited is = elim (cases_eq i j) [
  | inl same ↦ inl (inl (rw same at awaited), rw same at is)
  | inr other ↦ inr (
    record { outside = readied.made_same i ∙ awaited.outside; not_ready = ap (λ (s : JobState). s.ready) (readied.others i other) ∙ awaited.not_ready; is_due = awaited.is_due },
    is ∙ ap (node i) (sym (readied.made_same i)),
  )
]
readied-holds p c new j at readied (Operation i m) due v (k, worked) is = elim (cases_eq i j) [
  | inl same ↦ inl (inr (k, m, rw same at worked), rw same at is)
  | inr other ↦ inr (
    (
      k,
      record {
        on = record { entered = readied.made_same i ∙ worked.on.entered; visits = worked.on.visits };
        not_ready = ap (λ (s : JobState). s.ready) (readied.others i other) ∙ worked.not_ready;
        is_due = omega (arith, worked.is_due, readied.since_same i);
      },
    ),
    is ∙ ap (node i) (sym (readied.made_same i)),
  )
]
readied-holds p c new j at readied (Cleaning m) due v (s, cleaned) stands =
    inr ((s, record { is_cleaned = rw readied.machines_same cleaned.is_cleaned; is_due = cleaned.is_due }), rw readied.machines_same stands)

-- and before a report that ends the cleaning of machine m, but for that
pub tidied-holds : (p : PlannedShop) (c new : Cell) (m at : ℕ) → IsTidied c m at new → (a : Activity) (due : ℕ) (v : Node) → GoesOn p c a due → HoldsUp p c a v
    → (((from : ℕ) × IsCleaned p c m from due) × HoldsUp p c (Cleaning m) v) ⊎ (GoesOn p new a due × HoldsUp p new a v)
tidied-holds p c new m at tidied (Arrival i) due v awaited is = inr (
  record { outside = rw tidied.jobs_same awaited.outside; not_ready = rw tidied.jobs_same awaited.not_ready; is_due = awaited.is_due },
  rw tidied.jobs_same is,
)
tidied-holds p c new m at tidied (Operation i o) due v (k, worked) is = inr (
  (
    k,
    record {
      on = record { entered = rw tidied.jobs_same worked.on.entered; visits = worked.on.visits };
      not_ready = rw tidied.jobs_same worked.not_ready;
      is_due = rw tidied.jobs_same worked.is_due;
    },
  ),
  rw tidied.jobs_same is,
)
tidied-holds p c new m at tidied (Cleaning o) due v (from, cleaned) stands = elim (cases_eq o m) [
  | inl same ↦ inl ((from, rw same at cleaned), rw same at stands)
  | inr other ↦ inr (
    (from, record { is_cleaned = tidied.cleaning_elsewhere o other ∙ cleaned.is_cleaned; is_due = cleaned.is_due }),
    rw (tidied.entries_same o) stands,
  )
]

-- a report that makes job j ready when that is due, or later
readied-path : (p : PlannedShop) (c new : Cell) (j t u due at : ℕ) (nodes : List Node) (v : Node) (n : ℕ) → t ≤ u → due ≤ u → IsSound p c → IsReadied c j at new → IsBusyUntil p c j due
    → PathAhead p c t nodes v n → IsAhead new v → HasPathOf p new u v n
readied-path p c new j t u at when nodes v n later past sound readied busy path ahead =
    path_on p c new t u later sound (λ i. omega (arith, readied.made_same i)) holds_on
    (λ nodes w v n d path passed arc ahead. absurd (passed (omega (arith, readied.made_same w.job, (path_left p c t nodes w n sound path).ahead))))
    nodes v n path ahead
  where
    holds_on : (a : Activity) (due : ℕ) (v : Node) → GoesOn p c a due → HoldsUp p c a v → IsAhead new v → (due ≤ u) ⊎ (GoesOn p new a due × HoldsUp p new a v)
    holds_on a due v going holds ahead = elim (readied-holds p c new j when readied a due v going holds) [
      | inl (until, is) ↦ inl (omega (arith, busy_once p c j due at until busy))
      | inr still ↦ inr still
    ]

-- a report that ends a cleaning when that is due, or later
tidied-path : (p : PlannedShop) (c new : Cell) (m s t u due at : ℕ) (nodes : List Node) (v : Node) (n : ℕ) → t ≤ u → due ≤ u → IsSound p c → IsTidied c m at new → IsCleaned p c m s due
    → PathAhead p c t nodes v n → IsAhead new v → HasPathOf p new u v n
tidied-path p c new m s t u at when nodes v n later past sound tidied cleaning_due path ahead =
    path_on p c new t u later sound (λ i. rw tidied.jobs_same (le_refl (made c i))) holds_on
    (λ nodes w v n d path passed arc ahead. absurd (passed (rw tidied.jobs_same (path_left p c t nodes w n sound path).ahead)))
    nodes v n path ahead
  where
    holds_on : (a : Activity) (due : ℕ) (v : Node) → GoesOn p c a due → HoldsUp p c a v → IsAhead new v → (due ≤ u) ⊎ (GoesOn p new a due × HoldsUp p new a v)
    holds_on a due v going holds ahead = elim (tidied-holds p c new m when tidied a due v going holds) [
      | inl ((from, cleaned), stands) ↦ inl (omega (arith, cleaned_once p c m from s due at cleaned cleaning_due))
      | inr still ↦ inr still
    ]

-- the end of an activity when it is due, or later
ended-path : (p : PlannedShop) (c : Cell) (a : Activity) (t u due at : ℕ) (nodes : List Node) (v : Node) (n : ℕ) → t ≤ u → due ≤ u → IsSound p c → GoesOn p c a due
    → PathAhead p c t nodes v n → IsAhead (after_end c a at) v → HasPathOf p (after_end c a at) u v n
ended-path p c (Arrival j) t u due at nodes v n later past sound awaited path ahead =
    readied-path p c (with_ready c j at) j t u due at nodes v n later past sound
    (with_ready-readied c j at awaited.not_ready (omega (arith, sound.job_count, outside_in_shop p c j sound awaited.outside))) (inl awaited) path ahead
ended-path p c (Operation j m) t u due at nodes v n later past sound (k, worked) path ahead =
    readied-path p c (with_ready c j at) j t u due at nodes v n later past sound
    (with_ready-readied c j at worked.not_ready (omega (arith, sound.job_count, visits_job p j k m worked.on.visits))) (inr (k, m, worked)) path ahead
ended-path p c (Cleaning m) t u due at nodes v n later past sound (s, cleaned) path ahead =
    tidied-path p c (with_clean c m at) m s t u due at nodes v n later past sound (with_clean-tidied c m s at cleaned.is_cleaned) cleaned path ahead

-- a job that can move isn't too early for its next node: no arc from a node ahead leads there, and nothing holds it up
next_in_time : (p : PlannedShop) (c : Cell) (j t u : ℕ) (nodes : List Node) (v : Node) (n : ℕ) → IsWellShaped p → IsSound p c → CanMove p c j u → KeepsPlan p c j → t ≤ u
    → PathAhead p c t nodes v n → v ≡ next_node c j → n ≤ u
next_in_time p c j t u _ _ _ shaped sound can keeps later (now v inside ahead) e = later
next_in_time p c j t u _ _ _ shaped sound can keeps later (held a due v going holds) e = absurd (none a due going holds)
  where
    idle : (i : ℕ) → v ≡ next_node c i → ready c i ≡ false → ⊥
    idle i is not_ready =
        let same : i ≡ j = ap (λ (w : Node). w.job) (sym is ∙ e) in
        let is_ready : ready c i ≡ true = rw same can.is_ready in cc

    none : (a : Activity) (due : ℕ) → GoesOn p c a due → HoldsUp p c a v → ⊥
    none (Arrival i) due awaited is = idle i is awaited.not_ready
    none (Operation i m) due (k, worked) is = idle i is worked.not_ready
    none (Cleaning m) due (s, cleaned) stands =
        let next : Stands p m (length (entries c m)) j (made c j) = rw e at stands in
        let is_clean : cleaning c m ≡ None = (target_free p c j u m can next.visits).1 in
        let is_cleaned : cleaning c m ≡ Some s = cleaned.is_cleaned in cc
next_in_time p c j t u _ _ _ shaped sound can keeps later (onward nodes w v n d path arc) e =
    let passed : w.place < made c w.job = needs p c j u w v d shaped sound can keeps arc (ap (λ (x : Node). x.job) e) (ap (λ (x : Node). x.place) e) in
    let ahead : made c w.job ≤ w.place = (path_left p c t nodes w n sound path).ahead in
    absurd (omega arith)

-- a move of job j at moment u
module _ (p : PlannedShop) (c new : Cell) (j t u : ℕ) (shaped : IsWellShaped p) (sound : IsSound p c) (can : CanMove p c j u) (keeps : KeepsPlan p c j) (later : t ≤ u) (change : IsMoved p c j u new) where
  move_others : (i : ℕ) → i ≢ j → made new i ≡ made c i
  move_others i other = ap (λ (s : JobState). s.made) (change.others i other)

  move_more : (i : ℕ) → made c i ≤ made new i
  move_more i = elim (cases_eq i j) [
    | inl same ↦ rw same (omega (arith, change.made_mine))
    | inr other ↦ omega (arith, move_others i other)
  ]

  -- the node that it passes is the next of job j
  move_passes : (v : Node) → IsAhead c v → (IsAhead new v → ⊥) → (v.job ≡ j) × (v.place ≡ made c j)
  move_passes v before passed = elim (cases_eq v.job j) [
    | inl same ↦ (
      same,
      elim (cases_lt v.place (made new v.job)) [
        | inl is ↦ omega (arith, ap (made new) same, ap (made c) same, change.made_mine)
        | inr ahead ↦ absurd (passed ahead)
      ],
    )
    | inr other ↦ absurd (passed (omega (arith, move_others v.job other)))
  ]

  -- what goes on goes on behind it, and holds up the same node
  pub move-holds : (a : Activity) (due : ℕ) (v : Node) → GoesOn p c a due → HoldsUp p c a v → GoesOn p new a due × HoldsUp p new a v
  move-holds (Arrival i) due v awaited is = elim (cases_eq i j) [
    | inl same ↦ (let idle : ready c j ≡ false = rw same at awaited.not_ready in let is_ready : ready c j ≡ true = can.is_ready in absurd cc)
    | inr other ↦ (
      record { outside = move_others i other ∙ awaited.outside; not_ready = ap (λ (s : JobState). s.ready) (change.others i other) ∙ awaited.not_ready; is_due = awaited.is_due },
      is ∙ ap (node i) (sym (move_others i other)),
    )
  ]
  move-holds (Operation i m) due v (k, worked) is = elim (cases_eq i j) [
    | inl same ↦ (let idle : ready c j ≡ false = rw same at worked.not_ready in let is_ready : ready c j ≡ true = can.is_ready in absurd cc)
    | inr other ↦ (
      (
        k,
        record {
          on = record { entered = move_others i other ∙ worked.on.entered; visits = worked.on.visits };
          not_ready = ap (λ (s : JobState). s.ready) (change.others i other) ∙ worked.not_ready;
          is_due = omega (arith, worked.is_due, ap (λ (s : JobState). s.since) (change.others i other));
        },
      ),
      is ∙ ap (node i) (sym (move_others i other)),
    )
  ]
  move-holds (Cleaning m) due v (s, cleaned) stands = elim (visits_or_not p j (made c j) m) [
    | inl visits ↦ (let is_clean : cleaning c m ≡ None = (target_free p c j u m can visits).1 in let is_cleaned : cleaning c m ≡ Some s = cleaned.is_cleaned in absurd cc)
    | inr off ↦ (
      (s, record { is_cleaned = change.cleaning_elsewhere m (sound.cleaned_free m s cleaned.is_cleaned j) ∙ cleaned.is_cleaned; is_due = cleaned.is_due }),
      rw (change.not_entered m off) stands,
    )
  ]

  -- an arc from the node that it makes leads from what begins now, or isn't longer than the present moment
  from_made : (w v : Node) (d : ℕ) → Arc p w v d → w.job ≡ j → w.place ≡ made c j → IsAhead new v → HasPathOf p new u v (u + d)
  from_made _ _ _ (job_arc i k within) same at ahead =
      let begun : made new j ≡ k + 1 = omega (arith, change.made_mine) in
      let here : k < steps p j = rw same at within in
      rw same (record {
        nodes = node j (k + 1) ∷ [];
        size = u + nominal p j k;
        path = held (Operation j _) (u + nominal p j k) (node j (k + 1))
            (k, record { on = record { entered = begun; visits = record { within = here; here = refl } }; not_ready = change.ready_mine; is_due = omega (arith, change.since_mine) })
            (ap (node j) (sym begun));
        enough = le_refl (u + nominal p j k);
      })
  from_made _ _ _ (blocking_arc m a i k h l one other) same at ahead = elim (cases_lt 0 (clean p m)) [
    | inl timed ↦ record {
      nodes = node h l ∷ [];
      size = u + clean p m;
      path = held (Cleaning m) (u + clean p m) (node h l) (u, record { is_cleaned = change.cleaning_begins k m on timed; is_due = refl }) (rw count_new other);
      enough = le_refl (u + clean p m);
    }
    | inr untimed ↦ shorter p new u (node h l) (u + clean p m) u (omega arith)
        (from_now p new u (node h l) (record { ahead = ahead; job = visits_job p h l m other.visits; place = omega (arith, other.visits.within) }))
  ]
    where
      mine : Stands p m a j k
      mine = rw same at one

      on : IsOn p c j k m
      on = record { entered = sym at; visits = mine.visits }

      count_new : length (entries new m) ≡ a + 1
      count_new = ap length (change.not_entered m (λ visits. visits_apart p j k (made c j) m shaped mine.visits visits on.entered)) ∙ sound.newest m a j k mine on.entered

  move-passes : (nodes : List Node) (w v : Node) (n d : ℕ) → PathAhead p c t nodes w n → (IsAhead new w → ⊥) → Arc p w v d → IsAhead new v → HasPathOf p new u v (n + d)
  move-passes nodes w v n d path passed arc ahead =
      let (same, at) = move_passes w (path_left p c t nodes w n sound path).ahead passed in
      let is : w ≡ next_node c j = ap₂ node same at in
      let soon : n ≤ u = next_in_time p c j t u nodes w n shaped sound can keeps later path is in
      shorter p new u v (n + d) (u + d) (omega arith) (from_made w v d arc same at ahead)

  pub move-path : (nodes : List Node) (v : Node) (n : ℕ) → PathAhead p c t nodes v n → IsAhead new v → HasPathOf p new u v n
  move-path = path_on p c new t u later sound move_more (λ a due v going holds ahead. inr (move-holds a due v going holds)) move-passes

-- moves of events that can happen come no earlier than the last moment
pub moves_from_last : (p : PlannedShop) (c : Cell) (t : ℕ) (es : List Event) → t ≤ c.last → AreEvents p c es → MoveFrom t es
moves_from_last p c t [] before events = tt
moves_from_last p c t (Reported r ∷ es) before events =
    moves_from_last p (after_report c r) t es (omega (arith, report_last c (ended r) (at r), events.0.moment.in_order)) events.1
moves_from_last p c t (Moved o ∷ es) before events =
    let now : t ≤ o.at = omega (arith, events.0.0.can.moment.in_order) in
    (now, moves_from_last p (after_move p c o.job o.at) t es now events.1)

-- moves that come from two moments on come from the later of them on
moves_max : (t u : ℕ) (es : List Event) → MoveFrom t es → MoveFrom u es → MoveFrom (max t u) es
moves_max t u [] one other = tt
moves_max t u (Reported r ∷ es) one other = moves_max t u es one other
moves_max t u (Moved o ∷ es) one other = (omega (arith, one.0, other.0), moves_max t u es one.1 other.1)

-- a job makes no fewer moves
pub made_more : (p : PlannedShop) (c : Cell) (es : List Event) (j : ℕ) → IsWellShaped p → IsSound p c → AreEvents p c es → made c j ≤ made (after_all p c es) j
made_more p c [] j shaped sound events = le_refl (made c j)
made_more p c (Reported r ∷ es) j shaped sound events =
    omega (arith, (after_report-like p c r sound events.0).made_same j, made_more p (after_report c r) es j shaped (after_report-sound p c r shaped sound events.0) events.1)
made_more p c (Moved o ∷ es) j shaped sound events =
    let can = events.0.0.can in
    let keeps = events.0.1 in
    let change : IsMoved p c o.job o.at (after_move p c o.job o.at) = after_move-moved p c o.job o.at shaped sound can in
    omega (
      arith,
      move_more p c (after_move p c o.job o.at) o.job o.at o.at shaped sound can keeps (le_refl o.at) change j,
      made_more p (after_move p c o.job o.at) es j shaped (after_move-sound p c o.job o.at shaped sound can keeps) events.1,
    )

-- a job that makes no more moves has made its last since the same moment
pub since_stays : (p : PlannedShop) (c : Cell) (es : List Event) (j : ℕ) → IsWellShaped p → IsSound p c → AreEvents p c es → made (after_all p c es) j ≡ made c j
    → since (after_all p c es) j ≡ since c j
since_stays p c [] j shaped sound events same = refl
since_stays p c (Reported r ∷ es) j shaped sound events same =
    since_stays p (after_report c r) es j shaped (after_report-sound p c r shaped sound events.0) events.1 (same ∙ sym ((after_report-like p c r sound events.0).made_same j))
    ∙ (after_report-like p c r sound events.0).since_same j
since_stays p c (Moved o ∷ es) j shaped sound events same = elim (cases_eq j o.job) [
  | inl is ↦ (let one_more : made (after_move p c o.job o.at) j ≡ made c j + 1 = rw is change.made_mine in
      absurd (omega (arith, made_more p (after_move p c o.job o.at) es j shaped sound_new events.1)))
  | inr other ↦ since_stays p (after_move p c o.job o.at) es j shaped sound_new events.1 (same ∙ sym (ap (λ (s : JobState). s.made) (change.others j other)))
      ∙ ap (λ (s : JobState). s.since) (change.others j other)
]
  where
    change : IsMoved p c o.job o.at (after_move p c o.job o.at)
    change = after_move-moved p c o.job o.at shaped sound events.0.0.can

    sound_new : IsSound p (after_move p c o.job o.at)
    sound_new = after_move-sound p c o.job o.at shaped sound events.0.0.can events.0.1

-- in a run that goes on with no report early, a job that has made a node as its last move made it no earlier than a path ahead to it is long
pub made-no_earlier : (p : PlannedShop) (c : Cell) (t : ℕ) (fs : List Event) (nodes : List Node) (v : Node) (n : ℕ) → IsWellShaped p → IsSound p c → PathAhead p c t nodes v n
    → AreEvents p c fs → MoveFrom t fs → AreNotEarly p c fs → made (after_all p c fs) v.job ≡ v.place + 1 → n ≤ since (after_all p c fs) v.job
made-no_earlier p c t [] nodes v n shaped sound path events from not_early last =
    let ahead : made c v.job ≤ v.place = (path_left p c t nodes v n sound path).ahead in
    absurd (omega arith)
made-no_earlier p c t (Reported r ∷ fs) nodes v n shaped sound path events from not_early last =
    let on = λ (found : HasPathOf p (after_report c r) (max t (at r)) v n).
    made-no_earlier p (after_report c r) (max t (at r)) fs found.nodes v found.size shaped (after_report-sound p c r shaped sound events.0) found.path events.1
    (moves_max t (at r) fs from (moves_from_last p (after_report c r) (at r) fs (omega (arith, report_last c (ended r) (at r))) events.1)) not_early.1 last in
    let found : HasPathOf p (after_report c r) (max t (at r)) v n =
    ended-path p c (ended r) t (max t (at r)) not_early.0.due (at r) nodes v n (omega arith) (omega (arith, not_early.0.later)) sound not_early.0.going path
    (omega (arith, (after_report-like p c r sound events.0).made_same v.job, (path_left p c t nodes v n sound path).ahead)) in
    omega (arith, found.enough, on found)
made-no_earlier p c t (Moved o ∷ fs) nodes v n shaped sound path events from not_early last = elim (cases_lt v.place (made new v.job)) [
  | inr ahead ↦ (let found : HasPathOf p new o.at v n = move-path p c new o.job t o.at shaped sound can keeps from.0 change nodes v n path ahead in
      omega (
        arith,
        found.enough,
        made-no_earlier p new o.at fs found.nodes v found.size shaped sound_new found.path events.1 (moves_from_last p new o.at fs (le_refl o.at) events.1) not_early last,
      ))
  | inl passed ↦ (let (same, at) = move_passes p c new o.job t o.at shaped sound can keeps from.0 change v (path_left p c t nodes v n sound path).ahead (λ here. omega arith) in
      let soon : n ≤ o.at = next_in_time p c o.job t o.at nodes v n shaped sound can keeps from.0 path (ap₂ node same at) in
      let count : made new v.job ≡ v.place + 1 = rw (same, at) change.made_mine in
      let begun : since new v.job ≡ o.at = rw same change.since_mine in
      omega (arith, since_stays p new fs v.job shaped sound_new events.1 (last ∙ sym count)))
]
  where
    new : Cell
    new = after_move p c o.job o.at

    can : CanMove p c o.job o.at
    can = events.0.0.can

    keeps : KeepsPlan p c o.job
    keeps = events.0.1

    change : IsMoved p c o.job o.at new
    change = after_move-moved p c o.job o.at shaped sound can

    sound_new : IsSound p new
    sound_new = after_move-sound p c o.job o.at shaped sound can keeps

pub no_continuation_is_faster-holds : NoContinuationIsFaster
no_continuation_is_faster-holds p es t j nodes n fs shaped run path whole from not_early gone =
    let (front, back) = events_split p (start p) es fs whole in
    let sound : IsSound p (ends_in p es) = run-sound p es shaped run in
    let sound_end : IsSound p (ends_in p (es ++ fs)) = run-sound p (es ++ fs) shaped whole in
    let join : ends_in p (es ++ fs) ≡ after_all p (ends_in p es) fs = after_all_join p (start p) es fs in
    let inside : j < jobs p = (path_left p (ends_in p es) t nodes (leaving p j) n sound path).job in
    let last : made (ends_in p (es ++ fs)) j ≡ steps p j + 1 = omega (arith, sound_end.few_moves j inside) in
    rw join (made-no_earlier p (ends_in p es) t fs nodes (leaving p j) n shaped sound path back from not_early (rw join at last))
