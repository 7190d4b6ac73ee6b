-- The calls on a ticket are calls on a controller alone, and so make the controlled run of its plan.
use Rattle.std.proofs.Common.{◌≡◌, ◌≢◌, List, [], ◌∷◌, ◌++◌, Some, None, true, false, refl, sym, ap, ◌∙◌, subst, inl, inr}
use Rattle.std.proofs.lemmas.Bool.{eq-eqb, ne_eqb, cases_eq}
use Rattle.std.specs.declared.result.Result.TheVariants.{Ok, Err}
use Rattle.shop_base.specs.{declared.report.Report.Report, Plan.{PlannedShop, IsWellShaped}, Run.Event, Sound.IsSound}
use Rattle.shop_base.proofs.{Keeping.start-sound, ControlledRuns.after_step-sound}
use Rattle.plan_verifier.specs.Accepted.{VerifiedPlan}
use Rattle.cell_control.specs.{declared.ack.Ack.Ack, Control.{Control, control_at_start, IsAnswered}, Promises.AreCalled}
use Rattle.cell_control.specs.Promises as promise
use Rattle.cell_control.proofs.{Promises.calls_make_the_controlled_run, Reasons.reason-cannot}
use Rattle.cell_hub.specs.{declared.slots.Ticket.Ticket, declared.hub_fault.HubFault.TheVariants.Cell, Hub.is_ticket}
use Rattle.cell_hub.specs.Calls.{HubCall, Admitted, Reported, Shown, Dismissed}
use Rattle.cell_hub.specs.Laws.{Life, not_given, stands, dismissed, content_in, Lives, AreLived, FindsNoCell, IsOnTicket, reports_on, CallsMakeTheControlledRuns}
use Rattle.cell_hub.specs.Laws as law
use Rattle.cell_hub.proofs.Lives.{cells_are_apart}

its_own : (t : Ticket) → is_ticket t t ≡ true
its_own t = rw (eq-eqb t.slot t.slot refl, eq-eqb t.serial t.serial refl) refl

another : (t other : Ticket) → other ≢ t → is_ticket t other ≡ false
another t other differ =
    elim (cases_eq t.slot other.slot) [
      | inl slots ↦ elim (cases_eq t.serial other.serial) [
        | inl serials ↦ absurd (differ (sym (λ i. record { slot = slots i; serial = serials i })))
        | inr apart ↦ rw (ne_eqb t.serial other.serial apart, eq-eqb t.slot other.slot slots) refl
      ]
      | inr apart ↦ rw (ne_eqb t.slot other.slot apart) refl
    ]

-- a report on the ticket comes first, and a call on another ticket adds none
own_first : (t : Ticket) (r : _) (answer : _) (calls : List HubCall) → reports_on t (Reported t r answer ∷ calls) ≡ r ∷ reports_on t calls
own_first t r answer calls = rw (its_own t) refl

elsewhere_adds_none : (t : Ticket) (call : HubCall) (calls : List HubCall) → (IsOnTicket t call → ⊥) → reports_on t (call ∷ calls) ≡ reports_on t calls
elsewhere_adds_none t (Admitted plan answer) calls off = refl
elsewhere_adds_none t (Reported other r answer) calls off = rw (another t other off) refl
elsewhere_adds_none t (Shown other content) calls off = refl
elsewhere_adds_none t (Dismissed other answer) calls off = refl

-- after a dismissal no content stands
stays_dismissed : (t : Ticket) (calls : List HubCall) (last : Life) → AreLived t dismissed calls last → content_in last ≡ None
stays_dismissed t _ _ (law.none_yet same) = refl
stays_dismissed t _ _ (law.once_more _ _ end call calls (law.after same none) rest) = stays_dismissed t calls end rest

-- the calls on a ticket from where a controller stands under it, as calls of report on this controller
record AreItsCalls (c : Control) (rs : List Report) (content : Control) : Type 0 where
  events : List Event
  calls : AreCalled c rs events content

module _ (p : PlannedShop) (shaped : IsWellShaped p) (t : Ticket) where
  answered_sound : (c new : Control) (r : Report) (ack : Ack) → c.planned ≡ p → IsSound p c.cell → IsAnswered c r ack new → (new.planned ≡ p) × IsSound p new.cell
  answered_sound c new r ack of_plan sound is = (
    is.planned ∙ of_plan,
    subst (λ q. IsSound q new.cell) of_plan
        (subst (IsSound c.planned) (sym is.cell)
        (after_step-sound c.planned c.cell r is.movers (subst IsWellShaped (sym of_plan) shaped) (subst (λ q. IsSound q c.cell) (sym of_plan) sound) is.step)),
  )

  stand : (c : Control) (calls : List HubCall) (last : Life) (content : Control) → c.planned ≡ p → IsSound p c.cell → AreLived t (stands c) calls last → content_in last ≡ Some content
      → AreItsCalls c (reports_on t calls) content
  stand c _ _ content of_plan sound (law.none_yet same) there =
      let same : c ≡ content = cc in
      subst (λ x. AreItsCalls c [] x) same (record { events = []; calls = promise.not_yet c })
  stand _ _ _ content of_plan sound (law.once_more _ _ end _ calls (law.answered c new r ack is) rest) there =
      let (of_same, sound_after) = answered_sound c new r ack of_plan sound is in
      let more = stand new calls end content of_same sound_after rest there in
      subst (λ rs. AreItsCalls c rs content) (sym (own_first t r (Ok ack) calls))
      (record { events = _; calls = promise.once_more c new content r (reports_on t calls) _ more.events (promise.answered c r ack new is) more.calls })
  stand _ _ _ content of_plan sound (law.once_more _ _ end _ calls (law.refused c r reason first) rest) there =
      let more = stand c calls end content of_plan sound rest there in
      subst (λ rs. AreItsCalls c rs content) (sym (own_first t r (Err (Cell reason)) calls))
      (record {
        events = _;
        calls = promise.once_more c c content r (reports_on t calls) [] more.events
            (promise.refused c r (reason-cannot c.planned c.cell r reason (subst (λ q. IsSound q c.cell) (sym of_plan) sound) first)) more.calls;
      })
  stand _ _ _ content of_plan sound (law.once_more _ _ end _ calls (law.shown c) rest) there = stand c calls end content of_plan sound rest there
  stand _ _ _ content of_plan sound (law.once_more _ _ end _ calls (law.removed c) rest) there = let none = stays_dismissed t calls end rest in absurd (cc)
  stand _ _ _ content of_plan sound (law.once_more _ _ end call calls (law.elsewhere c same off) rest) there =
      subst (λ rs. AreItsCalls c rs content) (sym (elsewhere_adds_none t call calls off)) (stand c calls end content of_plan sound rest there)

-- the ticket is given at its admission, so its controller begins there
given_there : (t : Ticket) (plan : VerifiedPlan) (life next : Life) (call : HubCall) → Lives t life call next → call ≡ Admitted plan (Ok t) → next ≡ stands (control_at_start plan)
given_there t plan _ _ _ (law.given other) is = let same : other ≡ plan = cc in ap (λ (v : VerifiedPlan). stands (control_at_start v)) same
given_there t plan _ _ _ (law.answered c new r ack answer) is = absurd (cc)
given_there t plan _ _ _ (law.refused c r reason first) is = absurd (cc)
given_there t plan _ _ _ (law.shown c) is = absurd (cc)
given_there t plan _ _ _ (law.removed c) is = absurd (cc)
given_there t plan _ _ _ (law.elsewhere c call off) is = absurd (off (subst (IsOnTicket t) (sym is) refl))
given_there t plan _ _ _ (law.before call none) is = absurd (subst (FindsNoCell t) is none refl)
given_there t plan _ _ _ (law.after call none) is = absurd (subst (FindsNoCell t) is none refl)

from_start : (t : Ticket) (plan : VerifiedPlan) (life last : Life) (before after : List HubCall) → AreLived t life (before ++ Admitted plan (Ok t) ∷ after) last → AreLived t (stands (control_at_start plan)) after last
from_start t plan _ _ [] after (law.once_more life mid last _ _ lives rest) = subst (λ l. AreLived t l after last) (given_there t plan life mid _ lives refl) rest
from_start t plan _ _ (call ∷ before) after (law.once_more _ mid last _ _ lives rest) = from_start t plan mid last before after rest

pub calls_make_the_controlled_runs : CallsMakeTheControlledRuns
calls_make_the_controlled_runs first before after end t plan content verified are there =
    let (life, lived, same) = cells_are_apart first (before ++ Admitted plan (Ok t) ∷ after) end t are in
    let shaped = verified.schedule.shaped in
    let its = stand plan.planned shaped t (control_at_start plan) after life content refl (start-sound plan.planned shaped) (from_start t plan not_given life before after lived) (sym same ∙ there) in
    (its.events, calls_make_the_controlled_run plan (reports_on t after) its.events content its.calls)
