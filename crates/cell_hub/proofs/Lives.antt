-- The life of a ticket over a list of calls.
use Rattle.std.proofs.Common.{◌≡◌, ◌≢◌, ℕ, ◌<◌, ◌≤◌, List, [], ◌∷◌, ◌++◌, Option, None, All, refl, sym, ap, ◌∙◌, inl, inr, arith, subst}
use Rattle.std.proofs.lemmas.List.Elements.{All-nil, All-cons}
use Rattle.std.specs.declared.result.Result.TheVariants.{Ok, Err}
use Rattle.shop_base.specs.declared.report.Report.{Report}
use Rattle.plan_verifier.specs.Accepted.{VerifiedPlan}
use Rattle.cell_control.specs.{declared.ack.Ack.Ack, Control.{Control, control_at_start, IsAnswered}, Reports.IsFirstReason}
use Rattle.cell_hub.specs.{declared.slots.Ticket.Ticket, Hub.{HubState, hub_from, cell_at, Puts, AreSerialsBelow}}
use Rattle.cell_hub.specs.declared.hub_fault.HubFault.{HubFault, TheVariants.{NoSuchCell, SerialsSpent, Memory, Cell}}
use Rattle.cell_tables.specs.declared.claim.Claim.TheVariants as claims
use Rattle.cell_hub.specs.Calls.{HubCall, Admitted, Reported, Shown, Dismissed, IsCall, AreCalls, IsAdmitted, IsSeated, IsReported, IsNotClaimed, IsDismissed}
use Rattle.cell_hub.specs.Laws.{DismissedNeverAnswers, CellsAreApart, Life, not_given, stands, dismissed, content_in, Lives, AreLived, FindsNoCell, IsOnTicket}
use Rattle.cell_hub.specs.Calls as call
use Rattle.cell_hub.specs.Laws as law
use Rattle.cell_hub.proofs.{Tickets.same_ticket, Puts.serials_below}

-- so they are after a controller got a cell
pub seated_serials : (old new : HubState) (c : Control) (t : Ticket) → IsSeated old c t new → AreSerialsBelow old → AreSerialsBelow new
seated_serials old new c t is below = serials_below old new t _ is.cells (omega (arith, is.next_serial)) (λ c some. omega (arith, is.serial, is.next_serial)) below

-- after any call the serials are still below the next one
pub call_serials : (old new : HubState) (call : HubCall) → IsCall old call new → AreSerialsBelow old → AreSerialsBelow new
call_serials old new (Admitted plan (Ok t)) is below = seated_serials old new _ t is below
call_serials old new (Admitted plan (Err refused)) is below = subst AreSerialsBelow (sym is.2) below
call_serials old new (Reported t r (Ok ack)) is below = serials_below old new t _ is.cells (omega (arith, is.next_serial)) (λ c some. let so = below t is.before is.cell in omega (arith, so, is.next_serial)) below
call_serials old new (Reported t r (Err fault)) is below = subst AreSerialsBelow (sym is.1) below
call_serials old new (Shown t content) is below = subst AreSerialsBelow (sym is.1) below
call_serials old new (Dismissed t (Ok content)) is below = serials_below old new t _ is.cells (omega (arith, is.next_serial)) (λ c some. absurd (cc)) below
call_serials old new (Dismissed t (Err fault)) is below = subst AreSerialsBelow (sym is.2) below

-- a ticket's life fits a hub: the hub has its content, and the serial of a ticket that was dismissed is spent
record Fits (h : HubState) (t : Ticket) (life : Life) : Type 0 where
  content : cell_at h t ≡ content_in life
  spent : life ≡ dismissed → t.serial < h.next_serial

-- the life of the ticket goes on with this call, and fits the hub after it
record LifeGoesOn (new : HubState) (t : Ticket) (life : Life) (call : HubCall) : Type 0 where
  next : Life
  lives : Lives t life call next
  fits : Fits new t next

-- a call on another ticket
apart : (t : Ticket) (life : Life) (call : HubCall) → (IsOnTicket t call → ⊥) → FindsNoCell t call → Lives t life call life
apart t not_given call off none = law.before call none
apart t (stands c) call off none = law.elsewhere c call off
apart t dismissed call off none = law.after call none

-- a call on another ticket, which may change that ticket's cell
past : (old new : HubState) (t other : Ticket) (content : Option Control) (life : Life) (call : HubCall) → t ≢ other → Puts old new other content → old.next_serial ≤ new.next_serial → (IsOnTicket t call → ⊥) → FindsNoCell t call → Fits old t life → LifeGoesOn new t life call
past old new t other content life call differ puts up off none fits = record {
  next = life;
  lives = apart t life call off none;
  fits = record { content = puts.others t differ ∙ fits.content; spent = λ was. let so = fits.spent was in omega arith };
}

-- a call that changes nothing
kept : (old new : HubState) (t : Ticket) (life : Life) (call : HubCall) → new ≡ old → Lives t life call life → Fits old t life → LifeGoesOn new t life call
kept old new t life call same lives fits = record { next = life; lives = lives; fits = subst (λ h. Fits h t life) (sym same) fits }

-- a call that finds no cell under the ticket
unfound : (old : HubState) (t : Ticket) (life : Life) (call : HubCall) → Fits old t life → cell_at old t ≡ None → FindsNoCell t call → Lives t life call life
unfound old t not_given call fits empty none = law.before call none
unfound old t (stands c) call fits empty none = let e = fits.content in absurd (cc)
unfound old t dismissed call fits empty none = law.after call none

given_on : (old new : HubState) (plan : VerifiedPlan) (t : Ticket) (life : Life) → IsAdmitted old plan t new → Fits old t life → LifeGoesOn new t life (Admitted plan (Ok t))
given_on old new plan t not_given is fits = record {
  next = stands (control_at_start plan);
  lives = law.given plan;
  fits = record { content = is.cells.changed; spent = λ was. absurd (cc) };
}
given_on old new plan t (stands c) is fits = let e = fits.content in let f = is.vacant in absurd (cc)
given_on old new plan t dismissed is fits = let so = fits.spent refl in absurd (omega (arith, is.serial))

answered_on : (old new : HubState) (t : Ticket) (r : Report) (ack : Ack) (life : Life) → IsReported old t r ack new → Fits old t life → LifeGoesOn new t life (Reported t r (Ok ack))
answered_on old new t r ack not_given is fits = let e = fits.content in let f = is.cell in absurd (cc)
answered_on old new t r ack (stands c) is fits =
    let e = fits.content in
    let f = is.cell in
    let same : is.before ≡ c = cc in
    record {
      next = stands is.after;
      lives = law.answered c is.after r ack (subst (λ x. IsAnswered x r ack is.after) same is.answered);
      fits = record { content = is.cells.changed; spent = λ was. absurd (cc) };
    }
answered_on old new t r ack dismissed is fits = let e = fits.content in let f = is.cell in absurd (cc)

refused_on : (old : HubState) (t : Ticket) (r : Report) (fault : HubFault) (life : Life) → IsNotClaimed old t (claims.Report r) fault → Fits old t life → Lives t life (Reported t r (Err fault)) life
refused_on old t r NoSuchCell life is fits = unfound old t life _ fits is (λ on. refl)
refused_on old t r SerialsSpent life is fits = absurd is
refused_on old t r Memory life is fits = absurd is
refused_on old t r (Cell reason) not_given is fits = let e = fits.content in let f = is.1 in absurd (cc)
refused_on old t r (Cell reason) (stands c) is fits =
    let e = fits.content in
    let f = is.1 in
    let same : is.0 ≡ c = cc in
    law.refused c r reason (subst (λ (x : Control). IsFirstReason x.planned x.cell r reason) same is.2)
refused_on old t r (Cell reason) dismissed is fits = let e = fits.content in let f = is.1 in absurd (cc)

shown_on : (old : HubState) (t : Ticket) (content : Option Control) (life : Life) → content ≡ cell_at old t → Fits old t life → Lives t life (Shown t content) life
shown_on old t content not_given is fits = law.before _ (λ on. is ∙ fits.content)
shown_on old t content (stands c) is fits = subst (λ x. Lives t (stands c) (Shown t x) (stands c)) (sym (is ∙ fits.content)) (law.shown c)
shown_on old t content dismissed is fits = law.after _ (λ on. is ∙ fits.content)

removed_on : (old new : HubState) (t : Ticket) (content : Control) (life : Life) → AreSerialsBelow old → IsDismissed old t content new → Fits old t life → LifeGoesOn new t life (Dismissed t (Ok content))
removed_on old new t content not_given below is fits = let e = fits.content in let f = is.cell in absurd (cc)
removed_on old new t content (stands c) below is fits =
    let e = fits.content in
    let f = is.cell in
    let same : c ≡ content = cc in
    record {
      next = dismissed;
      lives = subst (λ x. Lives t (stands c) (Dismissed t (Ok x)) dismissed) same (law.removed c);
      fits = record { content = is.cells.changed; spent = λ was. let so = below t c fits.content in omega (arith, is.next_serial) };
    }
removed_on old new t content dismissed below is fits = let e = fits.content in let f = is.cell in absurd (cc)

-- any call
goes_on : (old new : HubState) (t : Ticket) (life : Life) (call : HubCall) → AreSerialsBelow old → IsCall old call new → Fits old t life → LifeGoesOn new t life call
goes_on old new t life (Admitted plan (Ok given)) below is fits =
    elim (same_ticket t given) [
      | inl same ↦ subst (λ (u : Ticket). IsAdmitted old plan u new → LifeGoesOn new t life (Admitted plan (Ok u))) same (λ on. given_on old new plan t life on fits) is
      | inr differ ↦ past old new t given _ life _ differ is.cells (omega (arith, is.next_serial)) (λ on. differ (cc)) (λ on. differ (cc)) fits
    ]
goes_on old new t life (Admitted plan (Err refused)) below is fits = kept old new t life _ is.2 (apart t life _ (λ on. absurd (cc)) (λ on. absurd (cc))) fits
goes_on old new t life (Reported other r (Ok ack)) below is fits =
    elim (same_ticket t other) [
      | inl same ↦ subst (λ (u : Ticket). IsReported old u r ack new → LifeGoesOn new t life (Reported u r (Ok ack))) same (λ on. answered_on old new t r ack life on fits) is
      | inr differ ↦ past old new t other _ life _ differ is.cells (omega (arith, is.next_serial)) (λ on. differ (sym on)) (λ on. absurd (differ (sym on))) fits
    ]
goes_on old new t life (Reported other r (Err fault)) below is fits =
    elim (same_ticket t other) [
      | inl same ↦ kept old new t life _ is.1 (subst (λ (u : Ticket). IsNotClaimed old u (claims.Report r) fault → Lives t life (Reported u r (Err fault)) life) same (λ on. refused_on old t r fault life on fits) is.0) fits
      | inr differ ↦ kept old new t life _ is.1 (apart t life _ (λ on. differ (sym on)) (λ on. absurd (differ (sym on)))) fits
    ]
goes_on old new t life (Shown other content) below is fits =
    elim (same_ticket t other) [
      | inl same ↦ kept old new t life _ is.1 (subst (λ (u : Ticket). content ≡ cell_at old u → Lives t life (Shown u content) life) same (λ on. shown_on old t content life on fits) is.0) fits
      | inr differ ↦ kept old new t life _ is.1 (apart t life _ (λ on. differ (sym on)) (λ on. absurd (differ (sym on)))) fits
    ]
goes_on old new t life (Dismissed other (Ok content)) below is fits =
    elim (same_ticket t other) [
      | inl same ↦ subst (λ (u : Ticket). IsDismissed old u content new → LifeGoesOn new t life (Dismissed u (Ok content))) same (λ on. removed_on old new t content life below on fits) is
      | inr differ ↦ past old new t other _ life _ differ is.cells (omega (arith, is.next_serial)) (λ on. differ (sym on)) (λ on. absurd (differ (sym on))) fits
    ]
goes_on old new t life (Dismissed other (Err fault)) below is fits =
    elim (same_ticket t other) [
      | inl same ↦ kept old new t life _ is.2 (unfound old t life _ fits (ap (cell_at old) same ∙ is.1) (λ on. ap Err is.0)) fits
      | inr differ ↦ kept old new t life _ is.2 (apart t life _ (λ on. differ (sym on)) (λ on. absurd (differ (sym on)))) fits
    ]

-- all calls
lived : (h end : HubState) (t : Ticket) (life : Life) (calls : List HubCall) → AreSerialsBelow h → Fits h t life → AreCalls h calls end → (last : Life) × AreLived t life calls last × (cell_at end t ≡ content_in last)
lived h _ t life _ below fits (call.none_yet same) = (life, law.none_yet life, fits.content)
lived _ _ t life _ below fits (call.once_more h mid end now later is rest) =
    let step = goes_on h mid t life now below is fits in
    let more = lived mid end t step.next later (call_serials h mid now is below) step.fits rest in
    (more.0, law.once_more life step.next more.0 now later step.lives more.1, more.2)

-- a hub without cells has no serial to keep below
none_below : (first : ℕ) → AreSerialsBelow (hub_from first)
none_below first t c found = absurd (cc)

pub cells_are_apart : CellsAreApart
cells_are_apart first calls end t are = lived (hub_from first) end t not_given calls (none_below first) (record { content = refl; spent = λ was. absurd (cc) }) are

-- the call finds no cell under a ticket that was dismissed, which stays so
stays : (t : Ticket) (call : HubCall) (next : Life) → Lives t dismissed call next → FindsNoCell t call × (next ≡ dismissed)
stays t _ _ (law.after call none) = (none, refl)

never : (h end : HubState) (t : Ticket) (calls : List HubCall) → AreSerialsBelow h → Fits h t dismissed → AreCalls h calls end → All (FindsNoCell t) calls
never h _ t _ below fits (call.none_yet same) = All-nil (FindsNoCell t)
never _ _ t _ below fits (call.once_more h mid end now later is rest) =
    let step = goes_on h mid t dismissed now below is fits in
    let same = stays t now step.next step.lives in
    All-cons (FindsNoCell t) now later same.0 (never mid end t later (call_serials h mid now is below) (subst (Fits mid t) same.1 step.fits) rest)

never_after : (h end : HubState) (before after : List HubCall) (t : Ticket) (content : Control) → AreSerialsBelow h → AreCalls h (before ++ Dismissed t (Ok content) ∷ after) end → All (FindsNoCell t) after
never_after _ _ [] after t content below (call.once_more h mid end now later is rest) =
    never mid end t after (call_serials h mid (Dismissed t (Ok content)) is below)
    (record { content = is.cells.changed; spent = λ was. let so = below t content is.cell in omega (arith, is.next_serial) }) rest
never_after _ _ (now ∷ before) after t content below (call.once_more h mid end same later is rest) =
    never_after mid end before after t content (call_serials h mid now is below) rest

pub dismissed_never_answers : DismissedNeverAnswers
dismissed_never_answers first before after end t content are = never_after (hub_from first) end before after t content (none_below first) are
