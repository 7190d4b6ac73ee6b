-- A controlled run goes on without jobs that are gone as it does with them.
use Rattle.std.proofs.Common.{◌≡◌, ℕ, ◌+◌, ◌<◌, inl, inr, List, [], ◌∷◌, ◌++◌, length, get_or, map, Some, Bool, true, false, le_refl, refl, sym, ap, ap₂, ◌∙◌, subst, arith}
use Rattle.std.proofs.lemmas.List.{map-append}
use Rattle.shop_base.specs.declared.job_state.JobState.{JobState}
use Rattle.shop_base.specs.declared.report.Report.{Report, TheVariants.{Arrive, Finish, Clean}}
use Rattle.shop_base.specs.declared.move_order.MoveOrder.{MoveOrder}
use Rattle.shop_base.specs.Plan.{PlannedShop, jobs, machines, nominal, release, clean, order, job_at, Visits, IsWellShaped}
use Rattle.shop_base.specs.Cell.{Cell, made, ready, since, entries, cleaning, IsGone}
use Rattle.shop_base.specs.Report.{at, CanReport, after_report}
use Rattle.shop_base.specs.Move.{CanMove, KeepsPlan, after_move}
use Rattle.shop_base.specs.Run.{Event, Reported, Moved, ends_in, IsAtRest}
use Rattle.shop_base.specs.Controlled.{moved, AreMoves, after_moves, orders_for, after_step, step_orders, IsStep, Leads, done, accepted, refused}
use Rattle.shop_base.specs.Ahead.{Settles, GoesOnTo, settled}
use Rattle.shop_base.specs.Sound.{IsSound}
use Rattle.shop_base.proofs.Counting.{count_found}
use Rattle.shop_base.proofs.Visits.{visits_job, visits_machine, visits_apart, leaves_past, past_leaves}
use Rattle.shop_base.proofs.Places.{prefix_grows}
use Rattle.shop_base.proofs.InShop.{ready_in_shop}
use Rattle.shop_base.proofs.CellFacts.{after_report-last}
use Rattle.shop_base.proofs.Changes.{IsMoved, after_move-moved, moves_within}
use Rattle.shop_base.proofs.Keeping.{IsLike, after_report-like, after_report-sound, after_move-sound, target_free, target_next, cleaned_why, run-sound}
use Rattle.shop_base.proofs.OneControlledRun.{leads-none, leads-some}
use Rattle.run_pruning.specs.Staying.{stays, new_number}
use Rattle.run_pruning.specs.Pruned.{pruned, last_in, pruned_cell}
use Rattle.run_pruning.specs.PrunedEvents.{renamed_report, renamed}
use Rattle.run_pruning.specs.PruningLaw.{pruned_run, IsWhatIsLeft}
use Rattle.run_pruning.specs.OnwardLaw.{NamesNoOther, NameNoOthers, GoesOnRenamed, TheRunGoesOnRenamed}
use Rattle.run_pruning.proofs.Left.{number_once, stays_at, renumbered_at, length-renumbered}
use Rattle.run_pruning.proofs.PrunedShops.{old_job, route_kept, order_left, visits_kept, visits_were}
use Rattle.run_pruning.proofs.PrunedCells.{cleanings_kept, job_left}
use Rattle.run_pruning.proofs.PrunedSteps.{newest_in, IsOfThose, on_left, report_kept, move_kept, can_left, keeps_left, order_left_for}
use Rattle.run_pruning.proofs.AheadStays.{stays_here}
use Rattle.run_pruning.proofs.RestSame.{place_first}
use Rattle.run_pruning.proofs.WhatIsLeft.{what_is_left_is_a_run-holds, cleaned_stays}

-- a renamed report is of the same moment
at_same : (marks : List Bool) (r : Report) → at (renamed_report marks r) ≡ at r
at_same marks (Arrive j t) = refl
at_same marks (Finish j m t) = refl
at_same marks (Clean m t) = refl

-- renamed events, and then renamed events
both_renamed : (marks : List Bool) (xs es ys fs : List Event) → xs ≡ map (renamed marks) es → ys ≡ map (renamed marks) fs → xs ++ ys ≡ map (renamed marks) (es ++ fs)
both_renamed marks xs es ys fs one other = ap₂ {C = List Event} (λ zs ws. zs ++ ws) one other ∙ sym (map-append (renamed marks) es fs)

-- a renamed report, and then both
step_renamed : (marks : List Bool) (r : Report) (gs xs es ys fs : List Event) → gs ≡ Reported (renamed_report marks r) ∷ (xs ++ ys) → xs ≡ map (renamed marks) es → ys ≡ map (renamed marks) fs
    → gs ≡ map (renamed marks) (Reported r ∷ (es ++ fs))
step_renamed marks r gs xs es ys fs whole one other = whole ∙ ap {B = List Event} (λ zs. Reported (renamed_report marks r) ∷ zs) (both_renamed marks xs es ys fs one other)

-- a number, and then numbers
cons_same : (x y : ℕ) (xs ys : List ℕ) → x ≡ y → xs ≡ ys → x ∷ xs ≡ y ∷ ys
cons_same x y xs ys one other = ap₂ {C = List ℕ} (λ z zs. z ∷ zs) one other

module _ (p : PlannedShop) (marks : List Bool) (count : length marks ≡ jobs p) (shaped : IsWellShaped p) (shaped_left : IsWellShaped (pruned marks p)) where
  abbrev q : PlannedShop
  q = pruned marks p

  -- the cell without the others, at its last moment
  abbrev left : Cell → Cell
  left c = pruned_cell marks c c.last

  -- what holds while a run goes on: the others are gone, and no machine is being cleaned after them
  record IsOnward (c : Cell) : Type 0 where
    sound : IsSound p c
    sound_left : IsSound q (left c)
    gone : (j : ℕ) → j < jobs p → stays marks j ≡ false → IsGone p c j
    cleaned : (m s : ℕ) → cleaning c m ≡ Some s → stays marks (last_in (entries c m)) ≡ true

  module _ (c : Cell) (on : IsOnward c) where
    cleanings : (m : ℕ) → cleaning (left c) m ≡ cleaning c m
    cleanings = cleanings_kept marks c c.last on.cleaned

    made_left : (j : ℕ) → stays marks j ≡ true → made (left c) (new_number marks j) ≡ made c j
    made_left j kept = ap (λ (s : JobState). s.made) (job_left marks c c.last j kept)

    ready_left : (j : ℕ) → stays marks j ≡ true → ready (left c) (new_number marks j) ≡ ready c j
    ready_left j kept = ap (λ (s : JobState). s.ready) (job_left marks c c.last j kept)

    theirs : (r : Report) → CanReport p c r → NamesNoOther marks r → IsOfThose marks c r
    theirs (Arrive j t) can names = names
    theirs (Finish j m t) can names = names
    theirs (Clean m t) can names = on.cleaned m can.going.1.0 can.going.1.1.is_cleaned

    report_left : (r : Report) → CanReport p c r → NamesNoOther marks r → CanReport q (left c) (renamed_report marks r) × (after_report (left c) (renamed_report marks r) ≡ left (after_report c r))
    report_left r can names =
        let (can_left, same) = report_kept p marks count shaped c on.sound c.last (le_refl c.last) r can (theirs r can names) in
        (can_left, same ∙ ap (pruned_cell marks (after_report c r)) (sym (after_report-last c r)))

    report_back : (r : Report) → NamesNoOther marks r → CanReport q (left c) (renamed_report marks r) → CanReport p c r
    report_back (Arrive j t) kept can =
        let awaits = can.going.1 in record {
          going = (release p j, record { outside = sym (made_left j kept) ∙ awaits.outside; not_ready = sym (ready_left j kept) ∙ awaits.not_ready; is_due = refl });
          moment = record { in_order = can.moment.in_order; in_range = can.moment.in_range };
        }
    report_back (Finish j m t) kept can =
        let k : ℕ = can.going.1.0 in
        let works = can.going.1.1 in record {
          going = (
            since c j + nominal p j k,
            (
              k,
              record {
                on = record { entered = sym (made_left j kept) ∙ works.on.entered; visits = visits_were p marks count j k m kept works.on.visits };
                not_ready = sym (ready_left j kept) ∙ works.not_ready;
                is_due = refl;
              },
            ),
          );
          moment = record { in_order = can.moment.in_order; in_range = can.moment.in_range };
        }
    report_back (Clean m t) names can =
        let s : ℕ = can.going.1.0 in record {
          going = (s + clean p m, (s, record { is_cleaned = sym (cleanings m) ∙ can.going.1.1.is_cleaned; is_due = refl }));
          moment = record { in_order = can.moment.in_order; in_range = can.moment.in_range };
        }

    onward_reported : (r : Report) → CanReport p c r → NamesNoOther marks r → IsOnward (after_report c r)
    onward_reported r can names =
        let (can_left, same) = report_left r can names in
        let alike : IsLike p c (after_report c r) = after_report-like p c r on.sound can in record {
          sound = after_report-sound p c r shaped on.sound can;
          sound_left = subst (λ x. IsSound q x) same (after_report-sound q (left c) (renamed_report marks r) shaped_left on.sound_left can_left);
          gone = λ j inside dropped. omega (arith, alike.made_same j, on.gone j inside dropped);
          cleaned = λ m s is. ap (λ js. stays marks (last_in js)) (alike.entries_same m) ∙ on.cleaned m s (alike.cleaned_before m s is);
        }

    mover_stays : (j t : ℕ) → CanMove p c j t → stays marks j ≡ true
    mover_stays j t can = stays_here p marks shaped c on.sound on.gone j (ready_in_shop p c j on.sound can.is_ready) (moves_within p c j t on.sound can)

    onward_moved : (j t : ℕ) → CanMove p c j t → KeepsPlan p c j → IsOnward (after_move p c j t)
    onward_moved j t can keeps =
        let kept : stays marks j ≡ true = mover_stays j t can in
        let new : Cell = after_move p c j t in
        let change : IsMoved p c j t new = after_move-moved p c j t shaped on.sound can in record {
          sound = after_move-sound p c j t shaped on.sound can keeps;
          sound_left = subst (λ x. IsSound q x) (move_kept p marks count shaped c on.sound c.last (le_refl c.last) j t can keeps kept)
              (after_move-sound q (left c) (new_number marks j) t shaped_left on.sound_left (can_left p marks count shaped c on.sound c.last (le_refl c.last) j t can keeps kept)
              (keeps_left p marks count shaped c on.sound c.last (le_refl c.last) j t can keeps kept));
          gone = λ i inside dropped. omega (arith, on.gone i inside dropped, ap (λ (s : JobState). s.made) (change.others i (λ same. let mine = ap (stays marks) same in absurd (cc))));
          cleaned = λ m s is. elim (cleaned_why p c j t new shaped on.sound can keeps change m s is) [
            | inl was ↦ ap (λ js. stays marks (last_in js)) (change.not_entered m (λ next. let none = (target_free p c j t m can next).1 in cc)) ∙ on.cleaned m s was
            | inr (k, (held, timed)) ↦ ap (λ js. stays marks (last_in js)) (change.not_entered m (λ next. visits_apart p j k (made c j) m shaped held.visits next held.entered))
                ∙ ap (stays marks) (newest_in p c j k m shaped on.sound held) ∙ kept
          ];
        }

    -- a move of the cell without the others is one of the cell
    move_back : (j t : ℕ) → stays marks j ≡ true → CanMove q (left c) (new_number marks j) t → KeepsPlan q (left c) (new_number marks j) → CanMove p c j t × KeepsPlan p c j
    move_back j t kept can keeps = (
      record {
        is_ready = sym (ready_left j kept) ∙ can.is_ready;
        way = elim can.way [
          | inl leaves ↦ inl (past_leaves p c j (omega (arith, leaves_past q (left c) (new_number marks j) leaves, made_left j kept, ap length (route_kept p marks count j kept))))
          | inr (m, enters) ↦ inr (
            m,
            record {
              next = visits_were p marks count j (made c j) m kept (subst (λ n. Visits q (new_number marks j) n m) (made_left j kept) enters.next);
              free = λ i k held. enters.free (new_number marks i) k
                  (on_left p marks count shaped c on.sound c.last (le_refl c.last) i k m
                  (stays_here p marks shaped c on.sound on.gone i (visits_job p i k m held.visits) (omega (arith, held.entered, held.visits.within))) held);
              is_clean = sym (cleanings m) ∙ enters.is_clean;
            },
          )
        ];
        moment = record { in_order = can.moment.in_order; in_range = can.moment.in_range };
      },
      λ m next.
          let inside : m < machines p = visits_machine p j (made c j) m shaped next in
          let there : Visits q (new_number marks j) (made (left c) (new_number marks j)) m = subst (λ n. Visits q (new_number marks j) n m) (sym (made_left j kept)) (visits_kept p marks count j (made c j) m kept next) in
          let (within, at) = target_next q (left c) (new_number marks j) m keeps there in
          let (a, before, stands, place) = count_found (stays_at marks (order p m)) (length (order p m)) (length (entries (left c) m))
          (omega (arith, within, ap length (order_left p marks count m), length-renumbered marks (order p m))) in
          let first : a ≡ length (entries c m) = place_first p marks count shaped c on.sound on.sound_left on.gone cleanings m a inside stands before place in
          let number : new_number marks (job_at p m a) ≡ new_number marks j =
          sym (renumbered_at marks (order p m) a before stands) ∙ ap₂ (λ js x. get_or js x 0) (sym (order_left p marks count m)) place ∙ at in
          let mine : job_at p m a ≡ j = number_once marks (job_at p m a) j stands kept number in
          prefix_grows (entries c m) (order p m) j (on.sound.in_order m) (omega (arith, before, first)) (ap (job_at p m) (sym first) ∙ mine),
    )

    rest_left : IsAtRest p c → IsAtRest q (left c)
    rest_left rest i t can keeps =
        let (j, less, kept, is) = old_job p marks count i (ready_in_shop q (left c) i on.sound_left can.is_ready) in
        let (can_here, keeps_here) = move_back j t kept (subst (λ x. CanMove q (left c) x t) (sym is) can) (subst (λ x. KeepsPlan q (left c) x) (sym is) keeps) in
        rest j t can_here keeps_here

    rest_back : IsAtRest q (left c) → IsAtRest p c
    rest_back rest j t can keeps =
        let kept : stays marks j ≡ true = mover_stays j t can in
        rest (new_number marks j) t (can_left p marks count shaped c on.sound c.last (le_refl c.last) j t can keeps kept) (keeps_left p marks count shaped c on.sound c.last (le_refl c.last) j t can keeps kept)

  -- what moves of jobs make of the cell without the others
  record AreMovesLeft (c : Cell) (t : ℕ) (js : List ℕ) : Type 0 where
    moves : AreMoves q (left c) t (map (new_number marks) js)
    cell : after_moves q (left c) t (map (new_number marks) js) ≡ left (after_moves p c t js)
    events : moved (orders_for q (left c) t (map (new_number marks) js)) ≡ map (renamed marks) (moved (orders_for p c t js))
    onward : IsOnward (after_moves p c t js)

  moves_left : (c : Cell) (t : ℕ) (js : List ℕ) → IsOnward c → AreMoves p c t js → AreMovesLeft c t js
  moves_left c t [] on moves = record { moves = tt; cell = refl; events = refl; onward = on }
  moves_left c t (j ∷ js) on (can, keeps, moves) =
      let kept : stays marks j ≡ true = mover_stays c on j t can in
      let same : after_move q (left c) (new_number marks j) t ≡ left (after_move p c j t) = move_kept p marks count shaped c on.sound c.last (le_refl c.last) j t can keeps kept in
      let later : AreMovesLeft (after_move p c j t) t js = moves_left (after_move p c j t) t js (onward_moved c on j t can keeps) moves in record {
        moves = (
          can_left p marks count shaped c on.sound c.last (le_refl c.last) j t can keeps kept,
          keeps_left p marks count shaped c on.sound c.last (le_refl c.last) j t can keeps kept,
          subst (λ x. AreMoves q x t (map (new_number marks) js)) (sym same) later.moves,
        );
        cell = ap (λ x. after_moves q x t (map (new_number marks) js)) same ∙ later.cell;
        events = ap₂ {C = List Event} (λ (o : MoveOrder) (es : List Event). Moved o ∷ es) (order_left_for p marks count shaped c on.sound c.last (le_refl c.last) j t can keeps kept)
            (ap (λ x. moved (orders_for q x t (map (new_number marks) js))) same ∙ later.events);
        onward = later.onward;
      }

  moves_back : (c : Cell) (t : ℕ) (ks : List ℕ) → IsOnward c → AreMoves q (left c) t ks → (js : List ℕ) × (ks ≡ map (new_number marks) js) × AreMoves p c t js
  moves_back c t [] on moves = ([], refl, tt)
  moves_back c t (k ∷ ks) on (can, keeps, moves) =
      let (j, less, kept, is) = old_job p marks count k (ready_in_shop q (left c) k on.sound_left can.is_ready) in
      let (can_here, keeps_here) = move_back c on j t kept (subst (λ x. CanMove q (left c) x t) (sym is) can) (subst (λ x. KeepsPlan q (left c) x) (sym is) keeps) in
      let one : after_move q (left c) k t ≡ after_move q (left c) (new_number marks j) t = ap (λ x. after_move q (left c) x t) (sym is) in
      let other : after_move q (left c) (new_number marks j) t ≡ left (after_move p c j t) =
      move_kept p marks count shaped c on.sound c.last (le_refl c.last) j t can_here keeps_here kept in
      let same : after_move q (left c) k t ≡ left (after_move p c j t) = one ∙ other in
      let (js, rest, here) = moves_back (after_move p c j t) t ks (onward_moved c on j t can_here keeps_here) (subst (λ x. AreMoves q x t ks) same moves) in
      (j ∷ js, cons_same k (new_number marks j) ks (map (new_number marks) js) (sym is) rest, (can_here, keeps_here, here))

  leads_left : (c : Cell) (rs : List Report) (es : List Event) (end : Cell) → IsOnward c → Leads p c rs es end → NameNoOthers marks rs
      → Leads q (left c) (map (renamed_report marks) rs) (map (renamed marks) es) (left end)
  leads_left _ _ _ _ on (done c) names = done (left c)
  leads_left _ _ _ _ on (accepted c r js rs es end step leads) (name, names) =
      let (can_here, same) = report_left c on r step.can name in
      let onward : IsOnward (after_report c r) = onward_reported c on r step.can name in
      let there : AreMovesLeft (after_report c r) (at r) js = moves_left (after_report c r) (at r) js onward step.moves in
      let cell : after_step q (left c) (renamed_report marks r) (map (new_number marks) js) ≡ left (after_step p c r js) =
      ap₂ (λ x t. after_moves q x t (map (new_number marks) js)) same (at_same marks r) ∙ there.cell in
      let events : moved (step_orders q (left c) (renamed_report marks r) (map (new_number marks) js)) ≡ map (renamed marks) (moved (step_orders p c r js)) =
      ap₂ (λ x t. moved (orders_for q x t (map (new_number marks) js))) same (at_same marks r) ∙ there.events in
      let moves : AreMoves q (after_report (left c) (renamed_report marks r)) (at (renamed_report marks r)) (map (new_number marks) js) =
      subst (λ x. AreMoves q x (at (renamed_report marks r)) (map (new_number marks) js)) (sym same) (subst (λ t. AreMoves q (left (after_report c r)) t (map (new_number marks) js)) (sym (at_same marks r)) there.moves) in
      let step_left : IsStep q (left c) (renamed_report marks r) (map (new_number marks) js) = record {
        can = can_here;
        moves = moves;
        quiescent = subst (λ x. IsAtRest q x) (sym cell) (rest_left (after_step p c r js) there.onward step.quiescent);
      } in
      let later = leads_left (after_step p c r js) rs es end there.onward leads names in
      subst (λ fs. Leads q (left c) (renamed_report marks r ∷ map (renamed_report marks) rs) (Reported (renamed_report marks r) ∷ fs) (left end))
      (both_renamed marks (moved (step_orders q (left c) (renamed_report marks r) (map (new_number marks) js))) (moved (step_orders p c r js)) (map (renamed marks) es) es events refl)
      (accepted (left c) (renamed_report marks r) (map (new_number marks) js) (map (renamed_report marks) rs) (map (renamed marks) es) (left end) step_left
      (subst (λ x. Leads q x (map (renamed_report marks) rs) (map (renamed marks) es) (left end)) (sym cell) later))
  leads_left _ _ _ _ on (refused c r rs es end cannot leads) (name, names) =
      refused (left c) (renamed_report marks r) (map (renamed_report marks) rs) (map (renamed marks) es) (left end) (λ can. cannot (report_back c on r name can)) (leads_left c rs es end on leads names)

  abbrev WasLed : Cell → List Report → List Event → Cell → Type 0
  WasLed c rs gs last = (fs : List Event) × (end : Cell) × (gs ≡ map (renamed marks) fs) × (last ≡ left end) × Leads p c rs fs end

  leads_back : (c : Cell) (rs : List Report) (gs : List Event) (last : Cell) → IsOnward c → NameNoOthers marks rs → Leads q (left c) (map (renamed_report marks) rs) gs last → WasLed c rs gs last
  leads_back c [] gs last on names leads =
      let (none, same) = leads-none q (left c) gs last leads in
      ([], c, none, same, done c)
  leads_back c (r ∷ rs) gs last on (name, names) leads = elim (leads-some q (left c) (renamed_report marks r) (map (renamed_report marks) rs) gs last leads) [
    | inr past ↦ (let (fs, end, one, other, was) = leads_back c rs gs last on names past.leads in
        (fs, end, one, other, refused c r rs fs end (λ can. past.cannot (report_left c on r can name).0) was))
    | inl led ↦ (let can : CanReport p c r = report_back c on r name led.step.can in
        let (can_here, same) = report_left c on r can name in
        let onward : IsOnward (after_report c r) = onward_reported c on r can name in
        let moves : AreMoves q (left (after_report c r)) (at r) led.jobs =
        subst (λ t. AreMoves q (left (after_report c r)) t led.jobs) (at_same marks r) (subst (λ x. AreMoves q x (at (renamed_report marks r)) led.jobs) same led.step.moves) in
        let (js, is, here) = moves_back (after_report c r) (at r) led.jobs onward moves in
        let there : AreMovesLeft (after_report c r) (at r) js = moves_left (after_report c r) (at r) js onward here in
        let cell : after_step q (left c) (renamed_report marks r) led.jobs ≡ left (after_step p c r js) =
        ap (λ x. after_moves q (after_report (left c) (renamed_report marks r)) (at (renamed_report marks r)) x) is ∙ ap₂ (λ x t. after_moves q x t (map (new_number marks) js)) same (at_same marks r) ∙ there.cell in
        let events : moved (step_orders q (left c) (renamed_report marks r) led.jobs) ≡ map (renamed marks) (moved (step_orders p c r js)) =
        ap (λ x. moved (orders_for q (after_report (left c) (renamed_report marks r)) (at (renamed_report marks r)) x)) is
        ∙ ap₂ (λ x t. moved (orders_for q x t (map (new_number marks) js))) same (at_same marks r) ∙ there.events in
        let step : IsStep p c r js = record { can = can; moves = here; quiescent = rest_back (after_step p c r js) there.onward (subst (λ x. IsAtRest q x) cell led.step.quiescent) } in
        let (fs, end, one, other, was) = leads_back (after_step p c r js) rs led.rest last there.onward names (subst (λ x. Leads q x (map (renamed_report marks) rs) led.rest last) cell led.leads) in (
          Reported r ∷ (moved (step_orders p c r js) ++ fs),
          end,
          step_renamed marks r gs (moved (step_orders q (left c) (renamed_report marks r) led.jobs)) (moved (step_orders p c r js)) led.rest fs led.events events one,
          other,
          accepted c r js rs fs end step was,
        ))
  ]

  goes_left : (c : Cell) (t : ℕ) (rs : List Report) (fs : List Event) (end : Cell) → IsOnward c → NameNoOthers marks rs → GoesOnTo p c t rs fs end
      → GoesOnTo q (left c) t (map (renamed_report marks) rs) (map (renamed marks) fs) (left end)
  goes_left c t _ _ _ on names (settled js rs es end settles leads) =
      let there : AreMovesLeft c t js = moves_left c t js on settles.moves in
      let later = leads_left (after_moves p c t js) rs es end there.onward leads names in
      let settles_left : Settles q (left c) t (map (new_number marks) js) = record {
        moves = there.moves;
        quiescent = subst (λ x. IsAtRest q x) (sym there.cell) (rest_left (after_moves p c t js) there.onward settles.quiescent);
      } in
      subst (λ fs. GoesOnTo q (left c) t (map (renamed_report marks) rs) fs (left end))
      (both_renamed marks (moved (orders_for q (left c) t (map (new_number marks) js))) (moved (orders_for p c t js)) (map (renamed marks) es) es there.events refl)
      (settled (map (new_number marks) js) (map (renamed_report marks) rs) (map (renamed marks) es) (left end) settles_left
      (subst (λ x. Leads q x (map (renamed_report marks) rs) (map (renamed marks) es) (left end)) (sym there.cell) later))

  abbrev WentOn : Cell → ℕ → List Report → List Event → Cell → Type 0
  WentOn c t rs gs last = (fs : List Event) × (end : Cell) × (gs ≡ map (renamed marks) fs) × (last ≡ left end) × GoesOnTo p c t rs fs end

  goes_back : (c : Cell) (t : ℕ) (rs : List Report) (others : List Report) (gs : List Event) (last : Cell) → IsOnward c → NameNoOthers marks rs → others ≡ map (renamed_report marks) rs
      → GoesOnTo q (left c) t others gs last → WentOn c t rs gs last
  goes_back c t rs _ _ _ on names same (settled ks others es last settles leads) =
      let (js, is, here) = moves_back c t ks on settles.moves in
      let there : AreMovesLeft c t js = moves_left c t js on here in
      let cell : after_moves q (left c) t ks ≡ left (after_moves p c t js) = ap (after_moves q (left c) t) is ∙ there.cell in
      let settles_here : Settles p c t js = record { moves = here; quiescent = rest_back (after_moves p c t js) there.onward (subst (λ x. IsAtRest q x) cell settles.quiescent) } in
      let (fs, end, one, other, was) = leads_back (after_moves p c t js) rs es last there.onward names (subst (λ xs. Leads q (left (after_moves p c t js)) xs es last) same (subst (λ x. Leads q x others es last) cell leads)) in (
        moved (orders_for p c t js) ++ fs,
        end,
        both_renamed marks (moved (orders_for q (left c) t ks)) (moved (orders_for p c t js)) es fs (ap (λ x. moved (orders_for q (left c) t x)) is ∙ there.events) one,
        other,
        settled js rs fs end settles_here was,
      )

pub the_run_goes_on_renamed-holds : TheRunGoesOnRenamed
the_run_goes_on_renamed-holds p es marks t rs shaped run drops names =
    let known : IsWhatIsLeft marks p es = what_is_left_is_a_run-holds p es marks shaped run drops in
    let q : PlannedShop = pruned marks p in
    let c : Cell = ends_in p es in
    let on : IsOnward p marks drops.count shaped known.shaped c = record {
      sound = run-sound p es shaped run;
      sound_left = subst (λ x. IsSound q x) known.ends (run-sound q (pruned_run marks p es) known.shaped known.run);
      gone = λ j inside dropped. (drops.over j inside dropped).gone;
      cleaned = cleaned_stays p es marks shaped run drops;
    } in
    subst (λ x. GoesOnRenamed marks p c q x t rs) (sym known.ends) (record {
      onward = λ fs end goes. goes_left p marks drops.count shaped known.shaped c t rs fs end on names goes;
      back = λ gs last goes. goes_back p marks drops.count shaped known.shaped c t rs (map (renamed_report marks) rs) gs last on names refl goes;
    })
