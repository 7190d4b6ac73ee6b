-- The events of the jobs that stay are a run of the planned shop of them alone.
use Rattle.std.proofs.Common.{◌≡◌, ℕ, zero, suc, ◌-◌, ◌<◌, ◌≤◌, ◌⊎◌, inl, inr, List, [], ◌∷◌, length, length-append, get_or, map, replicate, Option, None, Some, Bool, true, false, if◌then◌else◌, le_refl, refl, sym, ap, ap₂, ◌∙◌, subst, arith, length-set, get_or-set_same, get_or-set_other}
use Rattle.std.proofs.lemmas.List.{length-replicate}
use Rattle.shop_base.specs.declared.job_state.JobState.{JobState}
use Rattle.shop_base.specs.declared.report.Report.{TheVariants.{Arrive, Finish, Clean}}
use Rattle.shop_base.specs.declared.move_order.Spot.{Spot, TheVariants.{Out, At}}
use Rattle.shop_base.specs.declared.move_order.MoveOrder.{MoveOrder}
use Rattle.shop_base.specs.Plan.{PlannedShop, jobs, machines, steps, order, job_at, IsWellShaped}
use Rattle.shop_base.specs.Cell.{Cell, MachineState, unused, start, made, entries, cleaning}
use Rattle.shop_base.specs.Report.{after_report}
use Rattle.shop_base.specs.Move.{source, CanMove, KeepsPlan, after_move}
use Rattle.shop_base.specs.Run.{Event, Reported, Moved, CanHappen, after, AreEvents, after_all, IsRun, ends_in}
use Rattle.shop_base.specs.Sound.{IsSound}
use Rattle.shop_base.proofs.Visits.{visits_job, visits_apart, visits_machine}
use Rattle.shop_base.proofs.InShop.{outside_in_shop, ready_in_shop, cleaned_in_shop, start_unused}
use Rattle.shop_base.proofs.CellFacts.{source_on, after_report-last}
use Rattle.shop_base.proofs.Changes.{IsMoved, after_move-moved, moves_within}
use Rattle.shop_base.proofs.Keeping.{IsLike, after_report-like, after-sound, start-sound, target_free, cleaned_why}
use Rattle.shop_base.proofs.Sizes.{place_job}
use Rattle.std.proofs.Math.ListN.{get_or-append}
use Rattle.run_pruning.specs.Staying.{stays, new_number}
use Rattle.run_pruning.specs.Pruned.{pruned, last_in, pruned_machine, pruned_cell}
use Rattle.run_pruning.specs.PrunedEvents.{owner, left_spot, left_after, last_owner, renamed, pruned_events}
use Rattle.run_pruning.specs.PruningLaw.{nobody_left, pruned_run, run_owner, AnyJobsHaveTheirRun}
use Rattle.run_pruning.proofs.Left.{staying-replicate}
use Rattle.run_pruning.proofs.PrunedShops.{jobs_left, pruned-shaped}
use Rattle.run_pruning.proofs.PrunedCells.{unused_left}
use Rattle.run_pruning.proofs.PrunedSteps.{newest_in, source_held, event_kept, event_dropped}

-- the list says of each machine that is being cleaned which job left it last: the one that entered it last
pub record Tracks (p : PlannedShop) (c : Cell) (left : List ℕ) : Type 0 where
  pub size : length left ≡ machines p
  pub last : (m s : ℕ) → cleaning c m ≡ Some s → get_or left m 0 ≡ last_in (entries c m)

pub start-tracks : (p : PlannedShop) → Tracks p (start p) (nobody_left p)
start-tracks p = record {
  size = length-replicate (machines p) 0;
  last = λ m s is. absurd (let none = ap (λ (x : MachineState). x.cleaning) (start_unused p m) in cc);
}

reported-tracks : (p : PlannedShop) (c new : Cell) (left : List ℕ) → IsLike p c new → Tracks p c left → Tracks p new left
reported-tracks p c new left alike tracks = record {
  size = tracks.size;
  last = λ m s is. tracks.last m s (alike.cleaned_before m s is) ∙ ap last_in (sym (alike.entries_same m));
}

length-left_spot : (left : List ℕ) (j : ℕ) (spot : Spot) → length (left_spot left j spot) ≡ length left
length-left_spot left j Out = refl
length-left_spot left j (At m) = length-set left m j

left_elsewhere : (left : List ℕ) (j : ℕ) (spot : Spot) (m : ℕ) → (spot ≡ At m → ⊥) → get_or (left_spot left j spot) m 0 ≡ get_or left m 0
left_elsewhere left j Out m apart = refl
left_elsewhere left j (At n) m apart = get_or-set_other left n m j 0 (λ same. apart (ap At (sym same)))

moved-tracks : (p : PlannedShop) (c : Cell) (j t : ℕ) (left : List ℕ) → IsWellShaped p → IsSound p c → CanMove p c j t → KeepsPlan p c j → Tracks p c left
    → Tracks p (after_move p c j t) (left_spot left j (source p c j))
moved-tracks p c j t left shaped sound can keeps tracks = record {
  size = length-left_spot left j (source p c j) ∙ tracks.size;
  last = λ m s is. elim (cleaned_why p c j t new shaped sound can keeps change m s is) [
    | inl was ↦ left_elsewhere left j (source p c j) m (λ same. let (k, on) = source_held p c j m few same in sound.cleaned_free m s was j k on)
        ∙ tracks.last m s was ∙ ap last_in (sym (change.not_entered m (λ next. let none = (target_free p c j t m can next).1 in cc)))
    | inr (k, (on, timed)) ↦ ap (λ (x : Spot). get_or (left_spot left j x) m 0) (source_on p c j k m on)
        ∙ get_or-set_same left m j 0 (omega (arith, tracks.size, visits_machine p j k m shaped on.visits))
        ∙ sym (newest_in p c j k m shaped sound on)
        ∙ ap last_in (sym (change.not_entered m (λ next. visits_apart p j k (made c j) m shaped on.visits next on.entered)))
  ];
}
  where
    new : Cell
    new = after_move p c j t

    change : IsMoved p c j t new
    change = after_move-moved p c j t shaped sound can

    few : made c j ≤ steps p j
    few = moves_within p c j t sound can

pub after-tracks : (p : PlannedShop) (c : Cell) (e : Event) (left : List ℕ) → IsWellShaped p → IsSound p c → CanHappen p c e → Tracks p c left → Tracks p (after p c e) (left_after left e)
after-tracks p c (Reported r) left shaped sound can tracks = reported-tracks p c (after_report c r) left (after_report-like p c r sound can) tracks
after-tracks p c (Moved o) left shaped sound (obeys, keeps) tracks =
    subst (λ (x : Spot). Tracks p (after_move p c o.job o.at) (left_spot left o.job x)) (sym (ap (λ (x : MoveOrder). x.source) obeys.is_move))
    (moved-tracks p c o.job o.at left shaped sound obeys.can keeps tracks)

-- an event isn't before the last moment
pub after-later : (p : PlannedShop) (c : Cell) (e : Event) → CanHappen p c e → c.last ≤ (after p c e).last
after-later p c (Reported r) can = omega (arith, can.moment.in_order, after_report-last c r)
after-later p c (Moved o) (obeys, keeps) = obeys.can.moment.in_order

-- where the last event is that of a job that stays, u is the last moment
abbrev pub IsLatest : List Bool → Option ℕ → Cell → ℕ → Type 0
IsLatest marks None c u = u ≡ c.last
IsLatest marks (Some j) c u = stays marks j ≡ true → u ≡ c.last

-- fs are the events of the jobs that stay of es, which happen from cell c on
record AreTheirs (p : PlannedShop) (marks : List Bool) (c : Cell) (es : List Event) (u : ℕ) (found : Option ℕ) (fs : List Event) : Type 0 where
  events : AreEvents (pruned marks p) (pruned_cell marks c u) fs
  last : ℕ
  not_later : last ≤ (after_all p c es).last
  ends : after_all (pruned marks p) (pruned_cell marks c u) fs ≡ pruned_cell marks (after_all p c es) last
  latest : IsLatest marks found (after_all p c es) last

pub pruned_first : (marks : List Bool) (left : List ℕ) (e : Event) (es : List Event) (b : Bool) → stays marks (owner left e) ≡ b
    → pruned_events marks left (e ∷ es) ≡ (if b then renamed marks e ∷ pruned_events marks (left_after left e) es else pruned_events marks (left_after left e) es)
pruned_first marks left e es b is =
    ap {B = List Event} (λ (x : Bool). if x then renamed marks e ∷ pruned_events marks (left_after left e) es else pruned_events marks (left_after left e) es) is

module _ (p : PlannedShop) (marks : List Bool) (count : length marks ≡ jobs p) (shaped : IsWellShaped p) where
  abbrev Later : Cell → List Event → List ℕ → Option ℕ → Type 0
  Later c es left found = (w : ℕ) → w ≤ c.last → IsLatest marks found c w → AreTheirs p marks c es w (last_owner found left es) (pruned_events marks left es)

  one_more : (c : Cell) (e : Event) (es : List Event) (left : List ℕ) (u : ℕ) (b : Bool) → stays marks (owner left e) ≡ b → IsSound p c → CanHappen p c e → Tracks p c left → u ≤ c.last
      → Later (after p c e) es (left_after left e) (Some (owner left e))
      → AreTheirs p marks c (e ∷ es) u (last_owner (Some (owner left e)) (left_after left e) es)
      (if b then renamed marks e ∷ pruned_events marks (left_after left e) es else pruned_events marks (left_after left e) es)
  one_more c e es left u true is sound can tracks sooner later =
      let (can_left, same) = event_kept p marks count shaped c sound u sooner e left can tracks.last is in
      let r = later (after p c e).last (le_refl (after p c e).last) (λ stays. refl) in record {
        events = (can_left, subst (λ x. AreEvents (pruned marks p) x (pruned_events marks (left_after left e) es)) (sym same) r.events);
        last = r.last;
        not_later = r.not_later;
        ends = ap (λ x. after_all (pruned marks p) x (pruned_events marks (left_after left e) es)) same ∙ r.ends;
        latest = r.latest;
      }
  one_more c e es left u false is sound can tracks sooner later =
      let same : pruned_cell marks (after p c e) u ≡ pruned_cell marks c u = event_dropped p marks count shaped c sound u sooner e left can tracks.last is in
      let r = later u (omega (arith, sooner, after-later p c e can)) (λ kept. absurd (cc)) in record {
        events = subst (λ x. AreEvents (pruned marks p) x (pruned_events marks (left_after left e) es)) same r.events;
        last = r.last;
        not_later = r.not_later;
        ends = ap (λ x. after_all (pruned marks p) x (pruned_events marks (left_after left e) es)) (sym same) ∙ r.ends;
        latest = r.latest;
      }

  pruned_on : (c : Cell) (es : List Event) (left : List ℕ) (found : Option ℕ) → IsSound p c → AreEvents p c es → Tracks p c left → Later c es left found
  pruned_on c [] left found sound events tracks u sooner latest = record { events = tt; last = u; not_later = sooner; ends = refl; latest = latest }
  pruned_on c (e ∷ es) left found sound (can, events) tracks u sooner latest =
      subst (λ fs. AreTheirs p marks c (e ∷ es) u (last_owner (Some (owner left e)) (left_after left e) es) fs) (sym (pruned_first marks left e es (stays marks (owner left e)) refl))
      (one_more c e es left u (stays marks (owner left e)) refl sound can tracks sooner
      (pruned_on (after p c e) es (left_after left e) (Some (owner left e)) (after-sound p c e shaped sound can) events (after-tracks p c e left shaped sound can tracks)))

  pub start_left : pruned_cell marks (start p) 0 ≡ start (pruned marks p)
  start_left = parts (staying-replicate marks (jobs p) (record { made = 0; ready = false; since = 0 }) count
      ∙ ap (λ n. replicate n (record { made = 0; ready = false; since = 0 })) (ap (new_number marks) (sym count) ∙ sym (jobs_left p marks count)))
      (unused_all (machines p))
    where
      unused_all : (n : ℕ) → map (pruned_machine marks) (replicate n unused) ≡ replicate n unused
      unused_all zero = refl
      unused_all (suc n) = ap₂ {C = List MachineState} (λ (x : MachineState) (xs : List MachineState). x ∷ xs) (unused_left marks) (unused_all n)

      parts : {js ks : List JobState} → js ≡ ks → {ms ns : List MachineState} → ms ≡ ns
          → (let one : Cell = record { jobs = js; machines = ms; last = 0 } in let other : Cell = record { jobs = ks; machines = ns; last = 0 } in one ≡ other)
      parts one other = ap₂ {C = Cell} (λ (js : List JobState) (ms : List MachineState). record { jobs = js; machines = ms; last = 0 }) one other

  pub their_run : (es : List Event) → IsRun p es
      → (v : ℕ) × (v ≤ (ends_in p es).last) × IsRun (pruned marks p) (pruned_run marks p es)
      × (ends_in (pruned marks p) (pruned_run marks p es) ≡ pruned_cell marks (ends_in p es) v) × IsLatest marks (run_owner p es) (ends_in p es) v
  their_run es run =
      let r = pruned_on (start p) es (nobody_left p) None (start-sound p shaped) run (start-tracks p) 0 (omega arith) refl in (
        r.last,
        r.not_later,
        subst (λ x. AreEvents (pruned marks p) x (pruned_run marks p es)) start_left r.events,
        ap (λ x. after_all (pruned marks p) x (pruned_run marks p es)) (sym start_left) ∙ r.ends,
        r.latest,
      )

pub any_jobs_have_their_run-holds : AnyJobsHaveTheirRun
any_jobs_have_their_run-holds p es marks shaped run choice =
    let (v, not_later, theirs, ends, latest) = their_run p marks choice.count shaped es run in
    record { shaped = pruned-shaped p marks choice.count shaped choice.some choice.some_stays; run = theirs; last = v; not_later = not_later; ends = ends }

-- the job that entered a machine last stands at that place of its order
pub last_place : (p : PlannedShop) (c : Cell) (m : ℕ) → IsSound p c → 0 < length (entries c m)
    → (length (entries c m) - 1 < length (order p m)) × (last_in (entries c m) ≡ job_at p m (length (entries c m) - 1))
last_place p c m sound some =
    let (rest, e) = sound.in_order m in (
      omega (arith, some, ap length e, length-append (entries c m) rest),
      sym (ap (λ (js : List ℕ). get_or js (length (entries c m) - 1) 0) e ∙ get_or-append (entries c m) rest 0 (length (entries c m) - 1) (omega (arith, some))),
    )

-- each event is that of a job of the shop
owner_in : (p : PlannedShop) (c : Cell) (e : Event) (left : List ℕ) → IsWellShaped p → IsSound p c → CanHappen p c e → Tracks p c left → owner left e < jobs p
owner_in p c (Reported (Arrive j t)) left shaped sound can tracks = outside_in_shop p c j sound can.going.1.outside
owner_in p c (Reported (Finish j m t)) left shaped sound can tracks = visits_job p j can.going.1.0 m can.going.1.1.on.visits
owner_in p c (Reported (Clean m t)) left shaped sound can tracks =
    let s : ℕ = can.going.1.0 in
    let is : cleaning c m ≡ Some s = can.going.1.1.is_cleaned in
    let (within, same) = last_place p c m sound (sound.cleaned_entered m s is) in
    subst (λ x. x < jobs p) (sym (tracks.last m s is ∙ same)) (place_job p shaped m (length (entries c m) - 1) (cleaned_in_shop p c m s sound is) within)
owner_in p c (Moved o) left shaped sound (obeys, keeps) tracks = ready_in_shop p c o.job sound obeys.can.is_ready

-- so the last is that of one
last_owner_in : (p : PlannedShop) (c : Cell) (es : List Event) (left : List ℕ) (i : ℕ) → IsWellShaped p → IsSound p c → AreEvents p c es → Tracks p c left → i < jobs p
    → (j : ℕ) × (j < jobs p) × (last_owner (Some i) left es ≡ Some j)
last_owner_in p c [] left i shaped sound events tracks inside = (i, inside, refl)
last_owner_in p c (e ∷ es) left i shaped sound (can, events) tracks inside =
    last_owner_in p (after p c e) es (left_after left e) (owner left e) shaped (after-sound p c e shaped sound can) events (after-tracks p c e left shaped sound can tracks) (owner_in p c e left shaped sound can tracks)

-- a run has no event, or its last event is that of a job
pub run_owner_in : (p : PlannedShop) (es : List Event) → IsWellShaped p → IsRun p es → (es ≡ []) ⊎ ((j : ℕ) × (j < jobs p) × (run_owner p es ≡ Some j))
run_owner_in p [] shaped run = inl refl
run_owner_in p (e ∷ es) shaped (can, events) =
    let sound : IsSound p (start p) = start-sound p shaped in
    inr (last_owner_in p (after p (start p) e) es (left_after (nobody_left p) e) (owner (nobody_left p) e) shaped (after-sound p (start p) e shaped sound can) events
    (after-tracks p (start p) e (nobody_left p) shaped sound can (start-tracks p)) (owner_in p (start p) e (nobody_left p) shaped sound can (start-tracks p)))
