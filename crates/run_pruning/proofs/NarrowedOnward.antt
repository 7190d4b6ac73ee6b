-- A controlled run goes on with the first machines alone as it does with all, where the others are neither visited nor cleaned.
use Rattle.std.proofs.Common.{◌≡◌, ℕ, List, [], ◌∷◌, ◌++◌, refl, sym, ap, ap₂, ◌∙◌, subst}
use Rattle.shop_base.specs.declared.report.Report.{Report}
use Rattle.shop_base.specs.declared.move_order.MoveOrder.{MoveOrder}
use Rattle.shop_base.specs.Plan.{PlannedShop, IsWellShaped}
use Rattle.shop_base.specs.Cell.{Cell}
use Rattle.shop_base.specs.Report.{at, CanReport, after_report}
use Rattle.shop_base.specs.Move.{CanMove, KeepsPlan, after_move}
use Rattle.shop_base.specs.Run.{Event, Reported, IsAtRest}
use Rattle.shop_base.specs.Controlled.{moved, AreMoves, after_moves, orders_for, after_step, step_orders, IsStep, Leads, done, accepted, refused}
use Rattle.shop_base.specs.Ahead.{Settles, GoesOnTo, settled}
use Rattle.shop_base.specs.Sound.{IsSound}
use Rattle.shop_base.proofs.Keeping.{after_report-sound, after_move-sound}
use Rattle.run_pruning.specs.Spare.{narrowed, narrowed_cell}
use Rattle.run_pruning.specs.OnwardLaw.{GoesOnBy}
use Rattle.run_pruning.proofs.Alike.{AreAlike, AreCellsAlike, alike_back, cells_back, report_there, move_there, keeps_there, order_there, rest_there}
use Rattle.run_pruning.proofs.Narrowed.{AreEnough, narrowed-alike, narrowed-cells, move_same, report_same}

module _ (p : PlannedShop) (n : ℕ) (shaped : IsWellShaped p) (enough : AreEnough p n) where
  abbrev q : PlannedShop
  q = narrowed n p

  abbrev left : Cell → Cell
  left c = narrowed_cell n c

  alike : AreAlike p q
  alike = narrowed-alike p n shaped enough

  back : AreAlike q p
  back = alike_back p q alike

  cells : (c : Cell) → IsSound p c → AreCellsAlike c (left c)
  cells c sound = narrowed-cells p n shaped enough c sound

  rest_left : (c : Cell) → IsSound p c → IsAtRest p c → IsAtRest q (left c)
  rest_left c sound rest = rest_there p q alike c (left c) (cells c sound) rest

  rest_was : (c : Cell) → IsSound p c → IsAtRest q (left c) → IsAtRest p c
  rest_was c sound rest = rest_there q p back (left c) c (cells_back c (left c) (cells c sound)) rest

  report_was : (c : Cell) (r : Report) → IsSound p c → CanReport q (left c) r → CanReport p c r
  report_was c r sound can = report_there q p back (left c) c (cells_back c (left c) (cells c sound)) r can

  -- what moves of jobs make of the cell
  record AreMovesLeft (c : Cell) (t : ℕ) (js : List ℕ) : Type 0 where
    moves : AreMoves q (left c) t js
    cell : after_moves q (left c) t js ≡ left (after_moves p c t js)
    orders : orders_for q (left c) t js ≡ orders_for p c t js
    sound : IsSound p (after_moves p c t js)

  moves_left : (c : Cell) (t : ℕ) (js : List ℕ) → IsSound p c → AreMoves p c t js → AreMovesLeft c t js
  moves_left c t [] sound moves = record { moves = tt; cell = refl; orders = refl; sound = sound }
  moves_left c t (j ∷ js) sound (can, keeps, moves) =
      let same : after_move q (left c) j t ≡ left (after_move p c j t) = move_same p n shaped enough c sound j t in
      let later : AreMovesLeft (after_move p c j t) t js = moves_left (after_move p c j t) t js (after_move-sound p c j t shaped sound can keeps) moves in record {
        moves = (
          move_there p q alike c (left c) (cells c sound) j t can,
          keeps_there p q alike c (left c) (cells c sound) j keeps,
          subst (λ x. AreMoves q x t js) (sym same) later.moves,
        );
        cell = ap (λ x. after_moves q x t js) same ∙ later.cell;
        orders = ap₂ {C = List MoveOrder} (λ o os. o ∷ os) (order_there p q alike c (left c) (cells c sound) j t) (ap (λ x. orders_for q x t js) same ∙ later.orders);
        sound = later.sound;
      }

  moves_were : (c : Cell) (t : ℕ) (js : List ℕ) → IsSound p c → AreMoves q (left c) t js → AreMoves p c t js
  moves_were c t [] sound moves = tt
  moves_were c t (j ∷ js) sound (can, keeps, moves) =
      let can_here : CanMove p c j t = move_there q p back (left c) c (cells_back c (left c) (cells c sound)) j t can in
      let keeps_here : KeepsPlan p c j = keeps_there q p back (left c) c (cells_back c (left c) (cells c sound)) j keeps in (
        can_here,
        keeps_here,
        moves_were (after_move p c j t) t js (after_move-sound p c j t shaped sound can_here keeps_here) (subst (λ x. AreMoves q x t js) (move_same p n shaped enough c sound j t) moves),
      )

  leads_left : (c : Cell) (rs : List Report) (es : List Event) (end : Cell) → IsSound p c → Leads p c rs es end → Leads q (left c) rs es (left end)
  leads_left _ _ _ _ sound (done c) = done (left c)
  leads_left _ _ _ _ sound (accepted c r js rs es end step leads) =
      let same : after_report (left c) r ≡ left (after_report c r) = report_same p n shaped enough c sound r in
      let there : AreMovesLeft (after_report c r) (at r) js = moves_left (after_report c r) (at r) js (after_report-sound p c r shaped sound step.can) step.moves in
      let cell : after_step q (left c) r js ≡ left (after_step p c r js) = ap (λ x. after_moves q x (at r) js) same ∙ there.cell in
      let orders : step_orders q (left c) r js ≡ step_orders p c r js = ap (λ x. orders_for q x (at r) js) same ∙ there.orders in
      let step_there : IsStep q (left c) r js = record {
        can = report_there p q alike c (left c) (cells c sound) r step.can;
        moves = subst (λ x. AreMoves q x (at r) js) (sym same) there.moves;
        quiescent = subst (λ x. IsAtRest q x) (sym cell) (rest_left (after_step p c r js) there.sound step.quiescent);
      } in
      subst (λ os. Leads q (left c) (r ∷ rs) (Reported r ∷ (moved os ++ es)) (left end)) orders
      (accepted (left c) r js rs es (left end) step_there (subst (λ x. Leads q x rs es (left end)) (sym cell) (leads_left (after_step p c r js) rs es end there.sound leads)))
  leads_left _ _ _ _ sound (refused c r rs es end cannot leads) =
      refused (left c) r rs es (left end) (λ can. cannot (report_was c r sound can)) (leads_left c rs es end sound leads)

  abbrev WasLed : Cell → List Report → List Event → Cell → Type 0
  WasLed c rs es last = (end : Cell) × (last ≡ left end) × Leads p c rs es end

  leads_were : (c d : Cell) (rs : List Report) (es : List Event) (last : Cell) → d ≡ left c → IsSound p c → Leads q d rs es last → WasLed c rs es last
  leads_were c _ _ _ _ is sound (done d) = (c, is, done c)
  leads_were c _ _ _ _ is sound (accepted d r js rs es last step leads) =
      let here : IsStep q (left c) r js = subst (λ x. IsStep q x r js) is step in
      let can : CanReport p c r = report_was c r sound here.can in
      let same : after_report (left c) r ≡ left (after_report c r) = report_same p n shaped enough c sound r in
      let next : IsSound p (after_report c r) = after_report-sound p c r shaped sound can in
      let moves : AreMoves p (after_report c r) (at r) js = moves_were (after_report c r) (at r) js next (subst (λ x. AreMoves q x (at r) js) same here.moves) in
      let there : AreMovesLeft (after_report c r) (at r) js = moves_left (after_report c r) (at r) js next moves in
      let cell : after_step q d r js ≡ left (after_step p c r js) = ap (λ x. after_step q x r js) is ∙ ap (λ x. after_moves q x (at r) js) same ∙ there.cell in
      let orders : step_orders q d r js ≡ step_orders p c r js = ap (λ x. step_orders q x r js) is ∙ ap (λ x. orders_for q x (at r) js) same ∙ there.orders in
      let step_here : IsStep p c r js = record { can = can; moves = moves; quiescent = rest_was (after_step p c r js) there.sound (subst (λ x. IsAtRest q x) cell step.quiescent) } in
      let (end, ends, was) = leads_were (after_step p c r js) (after_step q d r js) rs es last cell there.sound leads in
      (end, ends, subst (λ os. Leads p c (r ∷ rs) (Reported r ∷ (moved os ++ es)) end) (sym orders) (accepted c r js rs es end step_here was))
  leads_were c _ _ _ _ is sound (refused d r rs es last cannot leads) =
      let (end, ends, was) = leads_were c d rs es last is sound leads in
      (end, ends, refused c r rs es end (λ can. cannot (subst (λ x. CanReport q x r) (sym is) (report_there p q alike c (left c) (cells c sound) r can))) was)

  goes_left : (c : Cell) (t : ℕ) (rs : List Report) (es : List Event) (end : Cell) → IsSound p c → GoesOnTo p c t rs es end → GoesOnTo q (left c) t rs es (left end)
  goes_left c t _ _ _ sound (settled js rs es end settles leads) =
      let there : AreMovesLeft c t js = moves_left c t js sound settles.moves in
      let settles_there : Settles q (left c) t js = record {
        moves = there.moves;
        quiescent = subst (λ x. IsAtRest q x) (sym there.cell) (rest_left (after_moves p c t js) there.sound settles.quiescent);
      } in
      subst (λ os. GoesOnTo q (left c) t rs (moved os ++ es) (left end)) there.orders
      (settled js rs es (left end) settles_there (subst (λ x. Leads q x rs es (left end)) (sym there.cell) (leads_left (after_moves p c t js) rs es end there.sound leads)))

  abbrev WentOn : Cell → ℕ → List Report → List Event → Cell → Type 0
  WentOn c t rs es last = (fs : List Event) × (end : Cell) × (es ≡ fs) × (last ≡ left end) × GoesOnTo p c t rs fs end

  goes_were : (c : Cell) (t : ℕ) (rs : List Report) (es : List Event) (last : Cell) → IsSound p c → GoesOnTo q (left c) t rs es last → WentOn c t rs es last
  goes_were c t _ _ _ sound (settled js rs es last settles leads) =
      let moves : AreMoves p c t js = moves_were c t js sound settles.moves in
      let there : AreMovesLeft c t js = moves_left c t js sound moves in
      let settles_here : Settles p c t js = record { moves = moves; quiescent = rest_was (after_moves p c t js) there.sound (subst (λ x. IsAtRest q x) there.cell settles.quiescent) } in
      let (end, ends, was) = leads_were (after_moves p c t js) (after_moves q (left c) t js) rs es last there.cell there.sound leads in
      (moved (orders_for p c t js) ++ es, end, ap (λ os. moved os ++ es) there.orders, ends, settled js rs es end settles_here was)

  pub narrowed-onward : (c : Cell) (t : ℕ) (rs : List Report) → IsSound p c → GoesOnBy (λ rs. rs) (λ es. es) (narrowed_cell n) p c q (left c) t rs
  narrowed-onward c t rs sound = record { onward = λ es end goes. goes_left c t rs es end sound goes; back = λ es last goes. goes_were c t rs es last sound goes }
