-- Each event of a run without the jobs that don't stay: one of a job that stays can happen, and makes of the cell without the others what it is; one of another isn't seen.
use Rattle.std.proofs.Common.{◌≡◌, ℕ, zero, suc, ◌+◌, ◌-◌, ◌≤◌, inl, inr, List, [], ◌∷◌, ◌++◌, length, get_or, drop, None, Some, Bool, true, false, nat_lt, if◌then◌else◌, refl, sym, ap, ap₂, ◌∙◌, subst, arith, get_or-set_other}
use Rattle.std.proofs.Math.ListN.{get_or-append}
use Rattle.shop_base.specs.declared.shop.Step.{Step}
use Rattle.shop_base.specs.declared.job_state.JobState.{JobState}
use Rattle.shop_base.specs.declared.report.Report.{Report, TheVariants.{Arrive, Finish, Clean}}
use Rattle.shop_base.specs.declared.move_order.Spot.{Spot, TheVariants.{Out, At}}
use Rattle.shop_base.specs.declared.move_order.MoveOrder.{MoveOrder}
use Rattle.shop_base.specs.Plan.{PlannedShop, jobs, route, steps, machine_of, nominal, release, clean, Visits, IsWellShaped}
use Rattle.shop_base.specs.Cell.{Cell, MachineState, unused, machine_in, with_machine, made, ready, since, entries, cleaning, IsOn, IsFree}
use Rattle.shop_base.specs.Report.{at, IsNextMoment, CanReport, after_report}
use Rattle.shop_base.specs.Move.{first_stop, spot_after, source, target, CanMove, KeepsPlan, after_leaving, with_entry, with_moved, after_move, order_for}
use Rattle.shop_base.specs.Run.{Event, Reported, Moved, CanHappen, after}
use Rattle.shop_base.specs.Sound.{IsSound}
use Rattle.shop_base.proofs.Visits.{visits_job, visits_apart, visits-stands, leaves_past, past_leaves}
use Rattle.shop_base.proofs.CellFacts.{visits_target, source_outside, source_on, after_report-last}
use Rattle.shop_base.proofs.Changes.{moves_within}
use Rattle.shop_base.proofs.Keeping.{target_free}
use Rattle.run_pruning.specs.Staying.{stays, new_number, renumbered}
use Rattle.run_pruning.specs.Pruned.{pruned, last_in, pruned_cell}
use Rattle.run_pruning.specs.PrunedEvents.{owner, renamed_report, renamed}
use Rattle.run_pruning.proofs.Left.{renumbered-append, renumbered_kept}
use Rattle.run_pruning.proofs.PrunedShops.{old_job, route_kept, order_left, visits_kept, visits_were}
use Rattle.run_pruning.proofs.PrunedCells.{entries_left, cleaning_kept, cleaning_none, job_left, readied_kept, readied_dropped, moved_kept, moved_dropped, tidied_kept, tidied_dropped, leaving_kept, leaving_dropped, entering_kept, entering_dropped}

-- the job that is on a machine is the one that entered it last
pub newest_in : (p : PlannedShop) (c : Cell) (j k m : ℕ) → IsWellShaped p → IsSound p c → IsOn p c j k m → last_in (entries c m) ≡ j
newest_in p c j k m shaped sound on =
    let (a, stands) = visits-stands p j k m shaped on.visits in
    let size : length (entries c m) ≡ a + 1 = sound.newest m a j k stands on.entered in
    let place : length (entries c m) - 1 ≡ a = omega (arith, size) in
    let (rest, e) = sound.in_order m in
    ap (λ (x : ℕ). get_or (entries c m) x 0) place ∙ sym (get_or-append (entries c m) rest 0 a (omega (arith, size))) ∙ sym (ap (λ (js : List ℕ). get_or js a 0) e) ∙ stands.job

-- what a job leaves changes no other machine
leaving_elsewhere : (p : PlannedShop) (c : Cell) (spot : Spot) (t m : ℕ) → (spot ≡ At m → ⊥) → machine_in (after_leaving p c spot t) m ≡ machine_in c m
leaving_elsewhere p c Out t m apart = refl
leaving_elsewhere p c (At n) t m apart = go (nat_lt 0 (clean p n))
  where
    go : (b : Bool) → machine_in (if b then with_machine c n (record (machine_in c n) { cleaning = Some t }) else c) m ≡ machine_in c m
    go true = get_or-set_other c.machines n m (record (machine_in c n) { cleaning = Some t }) unused (λ same. apart (ap At (sym same)))
    go false = refl

-- where a job is after so many moves is told by its route
spot_same : (p q : PlannedShop) (i j n : ℕ) → route q i ≡ route p j → spot_after q i n ≡ spot_after p j n
spot_same p q i j zero same = refl
spot_same p q i j (suc k) same = ap (λ (r : List Step). first_stop (drop k r)) same

-- a job that can move is on the machine that it leaves
pub source_held : (p : PlannedShop) (c : Cell) (j m : ℕ) → made c j ≤ steps p j → source p c j ≡ At m → (k : ℕ) × IsOn p c j k m
source_held p c j m few is = go (made c j) refl
  where
    go : (n : ℕ) → made c j ≡ n → (k : ℕ) × IsOn p c j k m
    go zero outside = absurd (let out = source_outside p c j outside in cc)
    go (suc k) entered =
        let on : IsOn p c j k (machine_of p j k) = record { entered = omega (arith, entered); visits = record { within = omega (arith, entered, few); here = refl } } in
        let there : At (machine_of p j k) ≡ At m = sym (source_on p c j k (machine_of p j k) on) ∙ is in
        let same : machine_of p j k ≡ m = cc in
        (k, subst (λ x. IsOn p c j k x) same on)

order_parts : (j t : ℕ) (a b x y : Spot) → a ≡ b → x ≡ y
    → (let one : MoveOrder = record { job = j; source = a; target = x; at = t } in let other : MoveOrder = record { job = j; source = b; target = y; at = t } in one ≡ other)
order_parts j t a b x y one other = rw (one, other) refl

-- the report is of a job that stays; a cleaning is that of the job that entered last
abbrev pub IsOfThose : List Bool → Cell → Report → Type 0
IsOfThose marks c (Arrive j t) = stays marks j ≡ true
IsOfThose marks c (Finish j m t) = stays marks j ≡ true
IsOfThose marks c (Clean m t) = stays marks (last_in (entries c m)) ≡ true

module _ (p : PlannedShop) (marks : List Bool) (count : length marks ≡ jobs p) (shaped : IsWellShaped p) (c : Cell) (sound : IsSound p c) (u : ℕ) (sooner : u ≤ c.last) where
  abbrev q : PlannedShop
  q = pruned marks p

  abbrev d : Cell
  d = pruned_cell marks c u

  next_moment : (t : ℕ) → IsNextMoment c t → IsNextMoment d t
  next_moment t moment = record { in_order = omega (arith, sooner, moment.in_order); in_range = moment.in_range }

  made_left : (j : ℕ) → stays marks j ≡ true → made d (new_number marks j) ≡ made c j
  made_left j kept = ap (λ (s : JobState). s.made) (job_left marks c u j kept)

  ready_left : (j : ℕ) → stays marks j ≡ true → ready d (new_number marks j) ≡ ready c j
  ready_left j kept = ap (λ (s : JobState). s.ready) (job_left marks c u j kept)

  pub on_left : (j k m : ℕ) → stays marks j ≡ true → IsOn p c j k m → IsOn q d (new_number marks j) k m
  on_left j k m kept on = record { entered = made_left j kept ∙ on.entered; visits = visits_kept p marks count j k m kept on.visits }

  pub was_on : (i k m : ℕ) → IsOn q d i k m → (j : ℕ) × (stays marks j ≡ true) × IsOn p c j k m
  was_on i k m on =
      let (j, less, kept, is) = old_job p marks count i (visits_job q i k m on.visits) in
      let there : IsOn q d (new_number marks j) k m = subst (λ x. IsOn q d x k m) (sym is) on in
      (j, kept, record { entered = sym (made_left j kept) ∙ there.entered; visits = visits_were p marks count j k m kept there.visits })

  pub free_left : (m : ℕ) → IsFree p c m → IsFree q d m
  free_left m free i k on = let (j, kept, was) = was_on i k m on in free j k was

  -- a report of a job that stays
  pub report_kept : (r : Report) → CanReport p c r → IsOfThose marks c r
      → CanReport q d (renamed_report marks r) × (after_report d (renamed_report marks r) ≡ pruned_cell marks (after_report c r) (at r))
  report_kept (Arrive j t) can kept =
      let awaits = can.going.1 in (
        record {
          going = (release q (new_number marks j), record { outside = made_left j kept ∙ awaits.outside; not_ready = ready_left j kept ∙ awaits.not_ready; is_due = refl });
          moment = next_moment t can.moment;
        },
        sym (readied_kept marks c u j t kept),
      )
  report_kept (Finish j m t) can kept =
      let k : ℕ = can.going.1.0 in
      let works = can.going.1.1 in (
        record {
          going = (since d (new_number marks j) + nominal q (new_number marks j) k, (k, record { on = on_left j k m kept works.on; not_ready = ready_left j kept ∙ works.not_ready; is_due = refl }));
          moment = next_moment t can.moment;
        },
        sym (readied_kept marks c u j t kept),
      )
  report_kept (Clean m t) can kept =
      let s : ℕ = can.going.1.0 in
      let is : cleaning c m ≡ Some s = can.going.1.1.is_cleaned in (
        record { going = (s + clean q m, (s, record { is_cleaned = cleaning_kept marks c u m kept ∙ is; is_due = refl })); moment = next_moment t can.moment },
        sym (tidied_kept marks c u m t),
      )

  -- whose a report is, by the list
  report_owner : (r : Report) (left : List ℕ) → CanReport p c r → ((m s : ℕ) → cleaning c m ≡ Some s → get_or left m 0 ≡ last_in (entries c m)) → stays marks (owner left (Reported r)) ≡ true
      → IsOfThose marks c r
  report_owner (Arrive j t) left can tracks kept = kept
  report_owner (Finish j m t) left can tracks kept = kept
  report_owner (Clean m t) left can tracks kept = ap (stays marks) (sym (tracks m can.going.1.0 can.going.1.1.is_cleaned)) ∙ kept

  -- a report of another
  report_dropped : (r : Report) (left : List ℕ) → CanReport p c r → ((m s : ℕ) → cleaning c m ≡ Some s → get_or left m 0 ≡ last_in (entries c m)) → stays marks (owner left (Reported r)) ≡ false
      → pruned_cell marks (after_report c r) u ≡ d
  report_dropped (Arrive j t) left can tracks dropped = readied_dropped marks c u j t dropped
  report_dropped (Finish j m t) left can tracks dropped = readied_dropped marks c u j t dropped
  report_dropped (Clean m t) left can tracks dropped =
      tidied_dropped marks c u m t (ap (stays marks) (sym (tracks m can.going.1.0 can.going.1.1.is_cleaned)) ∙ dropped)

  module _ (j t : ℕ) (can : CanMove p c j t) (keeps : KeepsPlan p c j) where
    few : made c j ≤ steps p j
    few = moves_within p c j t sound can

    -- the job leaves the machine that it entered last
    newest_leaves : (m : ℕ) → source p c j ≡ At m → last_in (entries c m) ≡ j
    newest_leaves m is = let (k, on) = source_held p c j m few is in newest_in p c j k m shaped sound on

    -- and comes to one that isn't being cleaned
    target_clean : (m : ℕ) → target p c j ≡ At m → cleaning (after_leaving p c (source p c j) t) m ≡ None
    target_clean m is =
        let next : Visits p j (made c j) m = visits_target p c j m is in
        ap (λ (s : MachineState). s.cleaning) (leaving_elsewhere p c (source p c j) t m (λ same.
        let (k, on) = source_held p c j m few same in visits_apart p j k (made c j) m shaped on.visits next on.entered))
        ∙ (target_free p c j t m can next).1

    move_dropped : stays marks j ≡ false → pruned_cell marks (after_move p c j t) u ≡ d
    move_dropped dropped =
        moved_dropped marks (with_entry (after_leaving p c (source p c j) t) j (target p c j)) u j t dropped
        ∙ entering_dropped marks (after_leaving p c (source p c j) t) u j (target p c j) dropped target_clean
        ∙ leaving_dropped marks c u p (source p c j) t (λ m is. ap (stays marks) (newest_leaves m is) ∙ dropped)

    module _ (kept : stays marks j ≡ true) where
      source_left : source q d (new_number marks j) ≡ source p c j
      source_left = ap (spot_after q (new_number marks j)) (made_left j kept) ∙ spot_same p q (new_number marks j) j (made c j) (route_kept p marks count j kept)

      target_left : target q d (new_number marks j) ≡ target p c j
      target_left = ap₂ (λ (n : ℕ) (r : List Step). first_stop (drop n r)) (made_left j kept) (route_kept p marks count j kept)

      pub move_kept : after_move q d (new_number marks j) t ≡ pruned_cell marks (after_move p c j t) t
      move_kept = sym (
          moved_kept marks (with_entry (after_leaving p c (source p c j) t) j (target p c j)) u j t kept
          ∙ ap (λ (x : Cell). with_moved x (new_number marks j) t)
          (entering_kept marks (after_leaving p c (source p c j) t) u j (target p c j) kept target_clean
          ∙ ap (λ (x : Cell). with_entry x (new_number marks j) (target p c j)) (leaving_kept marks c u p (source p c j) t (λ m is. ap (stays marks) (newest_leaves m is) ∙ kept))
          ∙ ap₂ (λ (a b : Spot). with_entry (after_leaving q d a t) (new_number marks j) b) (sym source_left) (sym target_left))
          )

      -- the order to make it names the same spots
      pub order_left_for : order_for q d (new_number marks j) t ≡ record (order_for p c j t) { job = new_number marks j }
      order_left_for = order_parts (new_number marks j) t (source q d (new_number marks j)) (source p c j) (target q d (new_number marks j)) (target p c j) source_left target_left

      next_left : (m : ℕ) → Visits p j (made c j) m → Visits q (new_number marks j) (made d (new_number marks j)) m
      next_left m next = subst (λ n. Visits q (new_number marks j) n m) (sym (made_left j kept)) (visits_kept p marks count j (made c j) m kept next)

      next_was : (m : ℕ) → Visits q (new_number marks j) (made d (new_number marks j)) m → Visits p j (made c j) m
      next_was m next = visits_were p marks count j (made c j) m kept (subst (λ n. Visits q (new_number marks j) n m) (made_left j kept) next)

      pub can_left : CanMove q d (new_number marks j) t
      can_left = record {
        is_ready = ready_left j kept ∙ can.is_ready;
        way = elim can.way [
          | inl leaves ↦ inl (past_leaves q d (new_number marks j) (omega (arith, leaves_past p c j leaves, made_left j kept, ap length (route_kept p marks count j kept))))
          | inr (m, enters) ↦ inr (m, record { next = next_left m enters.next; free = free_left m enters.free; is_clean = cleaning_none marks c u m enters.is_clean })
        ];
        moment = next_moment t can.moment;
      }

      pub keeps_left : KeepsPlan q d (new_number marks j)
      keeps_left m next =
          let (rest, e) = keeps m (next_was m next) in (
            renumbered marks rest,
            order_left p marks count m ∙ ap (renumbered marks) e ∙ renumbered-append marks (entries c m ++ j ∷ []) rest
                ∙ ap (λ (js : List ℕ). js ++ renumbered marks rest) (renumbered-append marks (entries c m) (j ∷ [])
                ∙ ap₂ (λ (js ks : List ℕ). js ++ ks) (sym (entries_left marks c u m)) (renumbered_kept marks j kept)),
          )

  -- an event of a job that stays
  pub event_kept : (e : Event) (left : List ℕ) → CanHappen p c e → ((m s : ℕ) → cleaning c m ≡ Some s → get_or left m 0 ≡ last_in (entries c m)) → stays marks (owner left e) ≡ true
      → CanHappen q d (renamed marks e) × (after q d (renamed marks e) ≡ pruned_cell marks (after p c e) (after p c e).last)
  event_kept (Reported r) left can tracks kept =
      let (can_left, same) = report_kept r can (report_owner r left can tracks kept) in
      (can_left, same ∙ ap (pruned_cell marks (after_report c r)) (sym (after_report-last c r)))
  event_kept (Moved o) left (obeys, keeps) tracks kept = (
    (
      record {
        can = can_left o.job o.at obeys.can keeps kept;
        is_move = ap {B = MoveOrder} (λ (x : MoveOrder). record x { job = new_number marks o.job }) obeys.is_move ∙ sym (order_left_for o.job o.at obeys.can keeps kept);
      },
      keeps_left o.job o.at obeys.can keeps kept,
    ),
    move_kept o.job o.at obeys.can keeps kept,
  )

  -- an event of another
  pub event_dropped : (e : Event) (left : List ℕ) → CanHappen p c e → ((m s : ℕ) → cleaning c m ≡ Some s → get_or left m 0 ≡ last_in (entries c m)) → stays marks (owner left e) ≡ false
      → pruned_cell marks (after p c e) u ≡ d
  event_dropped (Reported r) left can tracks dropped = report_dropped r left can tracks dropped
  event_dropped (Moved o) left (obeys, keeps) tracks dropped = move_dropped o.job o.at obeys.can keeps dropped
