-- There is only one list of moves: what settles first is settled, which report is next is settled, and which moves follow it.
use Rattle.std.proofs.Common.{◌≡◌, ℕ, inl, inr, List, [], ◌∷◌, ◌++◌, arith, refl, sym, ap, ◌∙◌, subst}
use Rattle.std.proofs.lemmas.Bool.{cases_lt}
use Rattle.shop_base.specs.declared.move_order.MoveOrder.{MoveOrder}
use Rattle.shop_base.specs.declared.report.Report.{Report}
use Rattle.shop_base.specs.declared.report.Report.TheVariants.{Arrive, Finish, Clean}
use Rattle.shop_base.specs.Plan.{PlannedShop, machine_of, IsWellShaped}
use Rattle.shop_base.specs.Cell.{Cell, made}
use Rattle.shop_base.specs.Activity.{Activity, Arrival, Operation, Cleaning, GoesOn}
use Rattle.shop_base.specs.Report.{ended, at, after_report}
use Rattle.shop_base.specs.Move.{after_move}
use Rattle.shop_base.specs.Run.{Event, IsAtRest, ends_in}
use Rattle.shop_base.specs.Controlled.{after_moves, orders_for, step_orders, after_step, IsStep, Leads, done, accepted, refused}
use Rattle.shop_base.specs.Punctual.{EachReport}
use Rattle.shop_base.specs.Sound.{IsSound}
use Rattle.shop_base.proofs.Visits.{visits_job}
use Rattle.shop_base.proofs.InShop.{outside_in_shop}
use Rattle.shop_base.proofs.Keeping.{run-sound}
use Rattle.shop_base.proofs.OneStep.{one_step}
use Rattle.shop_base.proofs.ControlledRuns.{after_moves-sound, after_step-sound}
use Rattle.shop_base.proofs.InTime.{reports_later}
use Rattle.cell_control.specs.Settled.{IsFirstMover, SettlesInOrder}
use Rattle.plan_moves.specs.NextReports.{report_turn, IsNextReport, IsOver}
use Rattle.plan_moves.specs.MovesFrom.{orders_in}
use Rattle.plan_moves.specs.MovesLaw.{OneListOfMoves}
use Rattle.plan_moves.proofs.GoingOn.{orders_in-moved}

-- ---- what settles

one_first : (p : PlannedShop) (c : Cell) (t i j : ℕ) → IsFirstMover p c t i → IsFirstMover p c t j → i ≡ j
one_first p c t i j one other = elim (cases_lt i j) [
  | inl less ↦ absurd (other.first i less one.can one.keeps)
  | inr more ↦ elim (cases_lt j i) [ inl less ↦ absurd (one.first j less other.can other.keeps) | inr same ↦ omega arith ]
]

one_settling : (p : PlannedShop) (c : Cell) (t : ℕ) (is js : List ℕ) → SettlesInOrder p c t is → SettlesInOrder p c t js → IsAtRest p (after_moves p c t is) → IsAtRest p (after_moves p c t js) → is ≡ js
one_settling p c t [] [] one other rest still = refl
one_settling p c t [] (j ∷ js) one other rest still = absurd (rest j t other.0.can other.0.keeps)
one_settling p c t (i ∷ is) [] one other rest still = absurd (still i t one.0.can one.0.keeps)
one_settling p c t (i ∷ is) (j ∷ js) one other rest still =
    let same : j ≡ i = one_first p c t j i other.0 one.0 in
    let later : SettlesInOrder p (after_move p c i t) t js = subst (λ k. SettlesInOrder p (after_move p c k t) t js) same other.1 in
    let still_then : IsAtRest p (after_moves p (after_move p c i t) t js) = subst (λ k. IsAtRest p (after_moves p (after_move p c k t) t js)) same still in
    ap (λ (ks : List ℕ). i ∷ ks) (one_settling p (after_move p c i t) t is js one.1 later rest still_then) ∙ ap (λ k. k ∷ js) (sym same)

-- ---- which report is next

-- of each turn only one activity can go on
one_of_turn : (p : PlannedShop) (c : Cell) (a b : Activity) (d e : ℕ) → IsSound p c → GoesOn p c a d → GoesOn p c b e → report_turn p a ≡ report_turn p b → a ≡ b
one_of_turn p c (Arrival i) (Arrival j) d e sound one other same = ap Arrival same
one_of_turn p c (Arrival i) (Operation j m) d e sound one (k, other) same = absurd (omega (arith, ap (made c) same, one.outside, other.on.entered))
one_of_turn p c (Arrival i) (Cleaning m) d e sound one other same = absurd (omega (arith, outside_in_shop p c i sound one.outside, same))
one_of_turn p c (Operation i m) (Arrival j) d e sound (k, one) other same = absurd (omega (arith, ap (made c) same, other.outside, one.on.entered))
one_of_turn p c (Operation i m) (Operation j n) d e sound (k, one) (l, other) same =
    let step : k ≡ l = omega (arith, ap (made c) same, one.on.entered, other.on.entered) in
    let there : m ≡ n = sym one.on.visits.here ∙ ap (machine_of p i) step ∙ ap (λ x. machine_of p x l) same ∙ other.on.visits.here in
    ap (Operation i) there ∙ ap (λ x. Operation x n) same
one_of_turn p c (Operation i m) (Cleaning n) d e sound (k, one) other same = absurd (omega (arith, visits_job p i k m one.on.visits, same))
one_of_turn p c (Cleaning m) (Arrival j) d e sound one other same = absurd (omega (arith, outside_in_shop p c j sound other.outside, same))
one_of_turn p c (Cleaning m) (Operation j n) d e sound one (k, other) same = absurd (omega (arith, visits_job p j k n other.on.visits, same))
one_of_turn p c (Cleaning m) (Cleaning n) d e sound one other same = (let there : m ≡ n = omega (arith, same) in ap Cleaning there)

-- a report is its activity and its moment
one_report : (r q : Report) → ended r ≡ ended q → at r ≡ at q → r ≡ q
one_report (Arrive i t) (Arrive j u) same when = cc
one_report (Arrive i t) (Finish j m u) same when = absurd (cc)
one_report (Arrive i t) (Clean m u) same when = absurd (cc)
one_report (Finish i m t) (Arrive j u) same when = absurd (cc)
one_report (Finish i m t) (Finish j n u) same when = cc
one_report (Finish i m t) (Clean n u) same when = absurd (cc)
one_report (Clean m t) (Arrive j u) same when = absurd (cc)
one_report (Clean m t) (Finish j n u) same when = absurd (cc)
one_report (Clean m t) (Clean n u) same when = cc

one_next : (p : PlannedShop) (t : ℕ) (c : Cell) (r q : Report) → IsSound p c → IsNextReport p t c r → IsNextReport p t c q → r ≡ q
one_next p t c r q sound one other = one_report r q (one_of_turn p c (ended r) (ended q) one.due other.due sound one.going other.going turns) when
  where
    when : at r ≡ at q
    when = omega (arith, one.when, other.when, one.soonest (ended q) other.due other.going, other.soonest (ended r) one.due one.going)

    turns : report_turn p (ended r) ≡ report_turn p (ended q)
    turns = elim (cases_lt (report_turn p (ended r)) (report_turn p (ended q))) [
      | inl less ↦ absurd (omega (arith, when, one.when, other.first (ended r) one.due one.going less))
      | inr more ↦ elim (cases_lt (report_turn p (ended q)) (report_turn p (ended r))) [
        | inl less ↦ absurd (omega (arith, when, other.when, one.first (ended q) other.due other.going less))
        | inr same ↦ omega arith
      ]
    ]

-- ---- the run

module _ (p : PlannedShop) (t : ℕ) (shaped : IsWellShaped p) where
  abbrev AreNext : Cell → List Event → Type 0
  AreNext = EachReport p (IsNextReport p t)

  -- where nothing more is due in range there is no next report
  ends_there : (c : Cell) (rs : List Report) (es : List Event) (end : Cell) → Leads p c rs es end → IsOver p t c → AreNext c es → orders_in es ≡ []
  ends_there c rs es end (done start) over next = refl
  ends_there c rs es end (accepted first r js qs fs last step later) over next = absurd (omega (arith, over (ended r) next.0.due next.0.going, next.0.when, next.0.range))
  ends_there c rs es end (refused first r qs fs last cannot later) over next = ends_there c qs es end later over next

  -- the other run reports the same next
  meets : (c : Cell) (rs : List Report) (es : List Event) (end : Cell) (r : Report) (js : List ℕ) (orders : List MoveOrder) → Leads p c rs es end → IsOver p t end → AreNext c es
      → IsSound p c → IsAtRest p c → IsStep p c r js → IsNextReport p t c r
      → ((qs : List Report) (fs : List Event) → Leads p (after_step p c r js) qs fs end → AreNext (after_step p c r js) fs → orders ≡ orders_in fs)
      → step_orders p c r js ++ orders ≡ orders_in es
  meets c rs es end r js orders (done start) over next sound rest step is later = absurd (omega (arith, over (ended r) is.due is.going, is.when, is.range))
  meets c rs es end r js orders (refused first q qs fs last cannot leads) over next sound rest step is later = meets c qs es end r js orders leads over next sound rest step is later
  meets c rs es end r js orders (accepted first q ks qs fs last other leads) over next sound rest step is later =
      let same : q ≡ r = one_next p t c q r sound next.0 is in
      let found = one_step p c r shaped sound rest step.can in
      let other_is : IsStep p c r ks = subst (λ (x : Report). IsStep p c x ks) same other in
      let moves_same : ks ≡ js = found.2 ks other_is ∙ sym (found.2 js step) in
      let cell_same : after_step p c q ks ≡ after_step p c r js = ap (λ (x : Report). after_step p c x ks) same ∙ ap (after_step p c r) moves_same in
      let there : AreNext (after_step p c q ks) fs = reports_later p (IsNextReport p t) (after_report c q) (at q) ks fs next.1 in
      let orders_same : orders ≡ orders_in fs = later qs fs (subst (λ (x : Cell). Leads p x qs fs end) cell_same leads) (subst (λ (x : Cell). AreNext x fs) cell_same there) in
      let step_same : step_orders p c r js ≡ step_orders p c q ks = ap (step_orders p c r) (sym moves_same) ∙ ap (λ (x : Report). step_orders p c x ks) (sym same) in
      ap (λ (os : List MoveOrder). os ++ orders) step_same ∙ ap (λ (os : List MoveOrder). step_orders p c q ks ++ os) orders_same ∙ sym (orders_in-moved (step_orders p c q ks) fs)

  one_run : (c : Cell) (rs qs : List Report) (es fs : List Event) (end last : Cell) → Leads p c rs es end → Leads p c qs fs last → IsSound p c → IsAtRest p c → IsOver p t end → IsOver p t last
      → AreNext c es → AreNext c fs → orders_in es ≡ orders_in fs
  one_run c rs qs es fs end last (done start) other sound rest over past next others = sym (ends_there c qs fs last other over others)
  one_run c rs qs es fs end last (refused first r rest_of gs stop cannot leads) other sound rest over past next others = one_run c rest_of qs es fs end last leads other sound rest over past next others
  one_run c rs qs es fs end last (accepted first r js rest_of gs stop step leads) other sound rest over past next others =
      orders_in-moved (step_orders p c r js) gs
      ∙ meets c qs fs last r js (orders_in gs) other past others sound rest step next.0
      (λ ks hs later there. one_run (after_step p c r js) rest_of ks gs hs end last leads later (after_step-sound p c r js shaped sound step) step.quiescent over past
      (reports_later p (IsNextReport p t) (after_report c r) (at r) js gs next.1) there)

pub one_list-holds : OneListOfMoves
one_list-holds p es t moves others shaped run one other =
    one.moves_are ∙ ap (λ (os : List MoveOrder). os ++ orders_in one.events) (one.settled.orders_are ∙ ap (orders_for p c t) movers_same ∙ sym other.settled.orders_are)
    ∙ ap (λ (os : List MoveOrder). other.first ++ os) orders_same ∙ sym other.moves_are
  where
    c : Cell
    c = ends_in p es

    sound : IsSound p c
    sound = run-sound p es shaped run

    movers_same : one.settled.movers ≡ other.settled.movers
    movers_same = one_settling p c t one.settled.movers other.settled.movers one.settled.in_order other.settled.in_order one.settled.settles.quiescent other.settled.settles.quiescent

    cell_same : other.rested ≡ one.rested
    cell_same = other.settled.leads ∙ ap (after_moves p c t) (sym movers_same) ∙ sym one.settled.leads

    sound_then : IsSound p one.rested
    sound_then = rw one.settled.leads (after_moves-sound p c t one.settled.movers shaped sound one.settled.settles.moves)

    rest_then : IsAtRest p one.rested
    rest_then = rw one.settled.leads one.settled.settles.quiescent

    orders_same : orders_in one.events ≡ orders_in other.events
    orders_same = one_run p t shaped one.rested one.reports other.reports one.events other.events one.end other.end one.leads (subst (λ (x : Cell). Leads p x other.reports other.events other.end) cell_same other.leads)
        sound_then rest_then one.over other.over one.next (subst (λ (x : Cell). EachReport p (IsNextReport p t) x other.events) cell_same other.next)
