-- Where any moments respect the arcs ahead and meet the budgets there are deadlines: the least of the budgets less the lengths of the ways to them, by induction on the ranks from the last down.
use Rattle.std.proofs.Common.{◌≡◌, ℕ, zero, suc, ◌+◌, ◌-◌, ◌<◌, ◌≤◌, inl, inr, length, refl, sym, ap, ap₂, ◌∙◌, subst, arith, le_refl}
use Rattle.std.proofs.lemmas.Bool.{cases_lt}
use Rattle.shop_base.specs.declared.node.Node.{Node}
use Rattle.shop_base.specs.Plan.{PlannedShop, jobs, steps, machine_of, nominal, budget, clean, order, job_at, Stands, IsWellShaped}
use Rattle.shop_base.specs.Cell.{Cell, made, IsGone}
use Rattle.shop_base.specs.Run.{ends_in}
use Rattle.shop_base.specs.Graph.{Arc, job_arc, blocking_arc, IsNode, node, leaving, RanksRise}
use Rattle.shop_base.specs.Sound.{IsSound}
use Rattle.shop_base.specs.Ahead.{RespectArcs, MeetBudgetsAhead}
use Rattle.shop_base.specs.Deadlines.{IsPressed, AreDeadlines}
use Rattle.shop_base.specs.DeadlinesLaw.{DeadlinesExist}
use Rattle.shop_base.proofs.Visits.{visits_machine, visits-stands, stands_once}
use Rattle.shop_base.proofs.Places.{stands_at, same_stand}
use Rattle.shop_base.proofs.Cycles.{source_node}
use Rattle.shop_base.proofs.Keeping.{run-sound}
use Rattle.shop_base.proofs.Ahead.{IsLeftIn, arc_left}
use Rattle.shop_base.proofs.Deadlines.{all_ranks, rank_within, LeadsOn, here, first, leads_left, apart}

-- the blocking arc from a node, or that there is none
data Next (p : PlannedShop) (v : Node) : Type 0 where
  follows : (w : Node) (d : ℕ) → Arc p v w d → ((m a i k j l : ℕ) → Stands p m a i k → Stands p m (a + 1) j l → node i (k + 1) ≡ v → (node j l ≡ w) × (clean p m ≡ d)) → Next p v
  nothing : ((m a i k j l : ℕ) → Stands p m a i k → Stands p m (a + 1) j l → node i (k + 1) ≡ v → ⊥) → Next p v

-- where step k of job h is at place a of an order, so is each stand whose node behind it is the same
same_behind : (p : PlannedShop) (h k m a : ℕ) (v : Node) → IsWellShaped p → Stands p m a h k → v ≡ node h (k + 1) → (n b i l : ℕ) → Stands p n b i l → node i (l + 1) ≡ v → (n ≡ m) × (b ≡ a)
same_behind p h k m a v shaped mine is n b i l other e =
    let same : node i (l + 1) ≡ node h (k + 1) = e ∙ is in
    let jobs_same : i ≡ h = ap (λ (x : Node). x.job) same in
    let steps_same : l + 1 ≡ k + 1 = ap (λ (x : Node). x.place) same in
    let step_same : l ≡ k = omega arith in
    let here : machine_of p i l ≡ n = other.visits.here in
    let there : machine_of p h k ≡ m = mine.visits.here in
    let machines_same : n ≡ m = sym here ∙ ap₂ (machine_of p) jobs_same step_same ∙ there in
    let moved : Stands p m b h k = rw (machines_same, jobs_same, step_same) at other in
    (machines_same, stands_once p m b a h k moved mine)

next_of : (p : PlannedShop) (v : Node) (k : ℕ) → IsWellShaped p → v.place ≡ k → Next p v
next_of p v zero shaped at = nothing (λ m a i k j l one other e. let same : k + 1 ≡ v.place = ap (λ (x : Node). x.place) e in absurd (omega arith))
next_of p v (suc k) shaped at = elim (cases_lt k (steps p v.job)) [
  | inr past ↦ nothing (λ m a i l j n one other e.
      let place : l + 1 ≡ v.place = ap (λ (x : Node). x.place) e in
      let job : i ≡ v.job = ap (λ (x : Node). x.job) e in
      let within : l < steps p i = one.visits.within in
      absurd (omega (arith, ap (steps p) job)))
  | inl within ↦ at_machine (visits-stands p v.job k (machine_of p v.job k) shaped (record { within = within; here = refl }))
]
  where
    is : v ≡ node v.job (k + 1)
    is = ap (node v.job) (let same : v.place ≡ k + 1 = omega arith in same)

    at_machine : (a : ℕ) × Stands p (machine_of p v.job k) a v.job k → Next p v
    at_machine (a, mine) = elim (cases_lt (a + 1) (length (order p (machine_of p v.job k)))) [
      | inl more ↦ behind a mine (stands_at p (machine_of p v.job k) (a + 1) shaped (visits_machine p v.job k (machine_of p v.job k) shaped mine.visits) more)
      | inr last ↦ nothing (λ m b i l j n one other e.
          let (machines_same, places_same) = same_behind p v.job k (machine_of p v.job k) a v shaped mine is m b i l one e in
          let within : b + 1 < length (order p m) = other.within in
          absurd (omega (arith, ap (λ x. length (order p x)) machines_same)))
    ]
      where
        behind : (a : ℕ) → Stands p (machine_of p v.job k) a v.job k → (l : ℕ) × Stands p (machine_of p v.job k) (a + 1) (job_at p (machine_of p v.job k) (a + 1)) l → Next p v
        behind a mine (l, after) = follows (node (job_at p (machine_of p v.job k) (a + 1)) l) (clean p (machine_of p v.job k))
            (subst (λ x. Arc p x (node (job_at p (machine_of p v.job k) (a + 1)) l) (clean p (machine_of p v.job k))) (sym is)
            (blocking_arc (machine_of p v.job k) a v.job k (job_at p (machine_of p v.job k) (a + 1)) l mine after))
            (λ m b i n j o one other e.
            let (machines_same, places_same) = same_behind p v.job k (machine_of p v.job k) a v shaped mine is m b i n one e in
            let moved : Stands p (machine_of p v.job k) (b + 1) j o = subst (λ x. Stands p x (b + 1) j o) machines_same other in
            let (jobs_same, steps_same) = same_stand p (machine_of p v.job k) (b + 1) (a + 1) j o (job_at p (machine_of p v.job k) (a + 1)) l shaped (omega arith) moved after in
            (ap₂ node jobs_same steps_same, ap (clean p) machines_same))

-- it holds of the blocking arc, if there is one
abbrev NextHolds : (p : PlannedShop) (P : Node → ℕ → Type 0) (v : Node) → Next p v → Type 0
NextHolds p P v (follows w d arc unique) = P w d
NextHolds p P v (nothing none) = Unit {0}

-- what holds of the arc to the next place and of the blocking arc holds of each arc from the node
arcs_cover : (p : PlannedShop) (P : Node → ℕ → Type 0) (v : Node) (next : Next p v) → (v.place < steps p v.job → P (node v.job (v.place + 1)) (nominal p v.job v.place)) → NextHolds p P v next
    → (w : Node) (d : ℕ) → Arc p v w d → P w d
arcs_cover p P _ next on behind _ _ (job_arc j k within) = on within
arcs_cover p P _ (follows w d arc unique) on behind _ _ (blocking_arc m a i k j l one other) =
    let (same, long) = unique m a i k j l one other refl in
    rw (same, long) behind
arcs_cover p P _ (nothing none) on behind _ _ (blocking_arc m a i k j l one other) = absurd (none m a i k j l one other refl)

-- some way to a leaving is exactly as long as its budget allows
abbrev IsExact : PlannedShop → Node → ℕ → Type 0
IsExact p v x = (j : ℕ) × (n : ℕ) × LeadsOn p v (leaving p j) n × (x + n ≡ budget p j)

-- the least of the budgets less the lengths of the ways to their leavings
record IsLeast (p : PlannedShop) (v : Node) (x : ℕ) : Type 0 where
  most : (w : Node) (j n : ℕ) → LeadsOn p v w n → w ≡ leaving p j → x + n ≤ budget p j
  some : IsExact p v x

-- it is at most that behind an arc, less its length
abbrev IsUpTo : PlannedShop → ℕ → Node → ℕ → Type 0
IsUpTo p x w d = (y : ℕ) × IsLeast p w y × (x + d ≤ y)

most_from : (p : PlannedShop) (v : Node) (x : ℕ) → (v.place ≡ steps p v.job → x ≤ budget p v.job) → ((w : Node) (d : ℕ) → Arc p v w d → IsUpTo p x w d)
    → (w : Node) (j n : ℕ) → LeadsOn p v w n → w ≡ leaving p j → x + n ≤ budget p j
most_from p _ x stop on _ j _ (here v) e =
    let job : v.job ≡ j = ap (λ (y : Node). y.job) e in
    let place : v.place ≡ steps p j = ap (λ (y : Node). y.place) e in
    omega (arith, stop (omega (arith, ap (steps p) job)), ap (budget p) job)
most_from p _ x stop on _ j _ (first u v w d n arc leads) e =
    let (y, least, less) = on v d arc in
    omega (arith, least.most w j n leads e, less)

exact_further : (p : PlannedShop) (v w : Node) (d x y : ℕ) → Arc p v w d → x + d ≡ y → IsExact p w y → IsExact p v x
exact_further p v w d x y arc at (j, n, leads, exact) = (j, d + n, first v w (leaving p j) d n arc leads, omega arith)

-- that with the blocking arc left out
record IsCandidate (p : PlannedShop) (v : Node) (x : ℕ) : Type 0 where
  stop : v.place ≡ steps p v.job → x ≤ budget p v.job
  on : v.place < steps p v.job → IsUpTo p x (node v.job (v.place + 1)) (nominal p v.job v.place)
  some : IsExact p v x

-- the least behind each arc, which is at least as long
abbrev AreLeastBehind : PlannedShop → Node → Type 0
AreLeastBehind p v = (w : Node) (d : ℕ) → Arc p v w d → (y : ℕ) × IsLeast p w y × (d ≤ y)

candidate : (p : PlannedShop) (v : Node) → v.place ≤ steps p v.job → AreLeastBehind p v → (x : ℕ) × IsCandidate p v x
candidate p v place behind = elim (cases_lt v.place (steps p v.job)) [
  | inl within ↦ (let (y, least, less) = behind (node v.job (v.place + 1)) (nominal p v.job v.place) (job_arc v.job v.place within) in (
    y - nominal p v.job v.place,
    record {
      stop = λ last. absurd (omega arith);
      on = λ also. (y, least, omega arith);
      some = exact_further p v (node v.job (v.place + 1)) (nominal p v.job v.place) (y - nominal p v.job v.place) y (job_arc v.job v.place within) (omega arith) least.some;
    },
  ))
  | inr past ↦ (let last : v.place ≡ steps p v.job = omega arith in (
    budget p v.job,
    record {
      stop = λ same. le_refl (budget p v.job);
      on = λ within. absurd (omega arith);
      some = (v.job, 0, subst (λ k. LeadsOn p v (node v.job k) 0) last (here v), omega arith);
    },
  ))
]

lower : (p : PlannedShop) (x less d : ℕ) (w : Node) → less ≤ x → IsUpTo p x w d → IsUpTo p less w d
lower p x less d w below (y, least, up) = (y, least, omega arith)

least_of : (p : PlannedShop) (v : Node) → Next p v → AreLeastBehind p v → (x : ℕ) × IsCandidate p v x → (x : ℕ) × IsLeast p v x
least_of p v (nothing none) behind (x, found) =
    (x, record { most = most_from p v x found.stop (arcs_cover p (λ w d. IsUpTo p x w d) v (nothing none) found.on tt); some = found.some })
least_of p v (follows w d arc unique) behind (x, found) = go (behind w d arc)
  where
    go : (z : ℕ) × IsLeast p w z × (d ≤ z) → (x : ℕ) × IsLeast p v x
    go (z, least, less) = elim (cases_lt z (x + d)) [
      | inr fits ↦ (x, record { most = most_from p v x found.stop (arcs_cover p (λ w d. IsUpTo p x w d) v (follows w d arc unique) found.on (z, least, fits)); some = found.some })
      | inl short ↦ (
        z - d,
        record {
          most = most_from p v (z - d) (λ last. omega (arith, found.stop last))
              (arcs_cover p (λ w e. IsUpTo p (z - d) w e) v (follows w d arc unique) (λ within. lower p x (z - d) (nominal p v.job v.place) (node v.job (v.place + 1)) (omega arith) (found.on within)) (z, least, omega arith));
          some = exact_further p v w d (z - d) z arc (omega arith) least.some;
        },
      )
    ]

-- moments that respect the arcs ahead and meet the budgets are at most the least
up_to_least : (p : PlannedShop) (other : Node → ℕ) (c : Cell) (w : Node) (y : ℕ) → IsSound p c → RespectArcs p c other → MeetBudgetsAhead p c other → IsLeftIn p c w → IsLeast p w y → other w ≤ y
up_to_least p other c w y sound arcs budgets left least =
    let (j, n, leads, exact) = least.some in
    let last : IsLeftIn p c (leaving p j) = leads_left p c w (leaving p j) n sound left leads in
    let here_j : made c j ≤ steps p j = last.ahead in
    omega (arith, apart p c other w (leaving p j) n sound arcs left.ahead leads, budgets j last.job (λ gone. omega arith), exact)

-- by induction on how far the rank of the node is from all ranks together
least_below : (p : PlannedShop) (rank other : Node → ℕ) (c : Cell) (n : ℕ) (v : Node) → IsWellShaped p → RanksRise p rank → IsSound p c → RespectArcs p c other → MeetBudgetsAhead p c other → IsLeftIn p c v → all_ranks p rank < rank v + n
    → (x : ℕ) × IsLeast p v x
least_below p rank other c zero v shaped ranks sound arcs budgets left near = absurd (omega (arith, rank_within p rank v left.job left.place))
least_below p rank other c (suc n) v shaped ranks sound arcs budgets left near =
    let behind : AreLeastBehind p v = λ w d arc.
    let on : IsLeftIn p c w = arc_left p c v w d sound arc left.ahead in
    let up : rank v < rank w = ranks v w d arc in
    let (y, least) = least_below p rank other c n w shaped ranks sound arcs budgets on (omega arith) in
    (y, least, omega (arith, arcs v w d left.ahead arc, up_to_least p other c w y sound arcs budgets on least)) in
    least_of p v (next_of p v v.place shaped refl) behind (candidate p v left.place behind)

-- of any node, if it is ahead
least_if_left : (p : PlannedShop) (rank other : Node → ℕ) (c : Cell) (v : Node) → IsWellShaped p → RanksRise p rank → IsSound p c → RespectArcs p c other → MeetBudgetsAhead p c other
    → (x : ℕ) × (IsLeftIn p c v → IsLeast p v x)
least_if_left p rank other c v shaped ranks sound arcs budgets = elim (cases_lt v.job (jobs p)) [
  | inr past ↦ (0, λ left. absurd (omega (arith, left.job)))
  | inl inside ↦ elim (cases_lt v.place (made c v.job)) [
    | inl passed ↦ (0, λ left. absurd (omega (arith, left.ahead)))
    | inr ahead ↦ elim (cases_lt (steps p v.job) v.place) [
      | inl outside ↦ (0, λ left. absurd (omega (arith, left.place)))
      | inr place ↦ (let (x, least) = least_below p rank other c (suc (all_ranks p rank)) v shaped ranks sound arcs budgets (record { ahead = ahead; job = inside; place = place }) (omega arith) in
          (x, λ left. least))
    ]
  ]
]

-- such moments are deadlines
are_deadlines : (p : PlannedShop) (c : Cell) (kept : Node → ℕ) → IsSound p c → ((v : Node) → IsLeftIn p c v → IsLeast p v (kept v)) → AreDeadlines p c kept
are_deadlines p c kept sound least = record {
  budgets = λ j inside there.
      let last : IsLeftIn p c (leaving p j) = record { ahead = not_gone j there; job = inside; place = le_refl (steps p j) } in
      omega (arith, (least (leaving p j) last).most (leaving p j) j 0 (here (leaving p j)) refl);
  arcs = respect;
  pressed = λ v inside ahead.
      let left : IsLeftIn p c v = record { ahead = ahead; job = inside.job; place = inside.place } in
      let (j, n, leads, exact) = (least v left).some in
      press v (leaving p j) j n left leads refl exact;
}
  where
    not_gone : (j : ℕ) → (IsGone p c j → ⊥) → made c j ≤ steps p j
    not_gone j there = elim (cases_lt (steps p j) (made c j)) [ inl gone ↦ absurd (there gone) | inr left ↦ left ]

    respect : RespectArcs p c kept
    respect u v d ahead arc =
        let from : IsNode p u = source_node p u v d arc in
        let left : IsLeftIn p c u = record { ahead = ahead; job = from.job; place = from.place } in
        let (j, n, leads, exact) = (least v (arc_left p c u v d sound arc ahead)).some in
        omega (arith, (least u left).most (leaving p j) j (d + n) (first u v (leaving p j) d n arc leads) refl, exact)

    press : (v w : Node) (j n : ℕ) → IsLeftIn p c v → LeadsOn p v w n → w ≡ leaving p j → kept v + n ≡ budget p j → IsPressed p kept v
    press _ _ j _ left (here v) e exact =
        let job : v.job ≡ j = ap (λ (y : Node). y.job) e in
        let place : v.place ≡ steps p j = ap (λ (y : Node). y.place) e in
        inl (omega (arith, ap (steps p) job), omega (arith, ap (budget p) job))
    press _ _ j _ left (first u v w d n arc leads) e exact =
        inr (v, d, arc, omega (arith, (least v (arc_left p c u v d sound arc left.ahead)).most w j n leads e, respect u v d left.ahead arc))

pub deadlines_exist-holds : DeadlinesExist
deadlines_exist-holds p rank other es shaped ranks run arcs budgets =
    let c : Cell = ends_in p es in
    let sound : IsSound p c = run-sound p es shaped run in
    let found = λ (v : Node). least_if_left p rank other c v shaped ranks sound arcs budgets in
    ((λ v. (found v).0), are_deadlines p c (λ v. (found v).0) sound (λ v left. (found v).1 left))
