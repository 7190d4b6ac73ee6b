-- Where nothing goes on at the end, all that goes on was reported; so it is enough that each report comes by the moment of what its own activity holds up.
use Rattle.std.proofs.Common.{ℕ, ◌≤◌, ◌⊎◌, inl, inr, List, [], ◌∷◌, arith, le_refl}
use Rattle.shop_base.specs.declared.node.Node.{Node}
use Rattle.shop_base.specs.Plan.{PlannedShop, IsWellShaped}
use Rattle.shop_base.specs.Cell.{Cell, start}
use Rattle.shop_base.specs.Activity.{Activity, Arrival, Operation, Cleaning, GoesOn, IsIdle}
use Rattle.shop_base.specs.Report.{ended, at, with_ready, with_clean, after_end, after_report}
use Rattle.shop_base.specs.Move.{after_move}
use Rattle.shop_base.specs.Run.{Event, Reported, Moved, AreEvents, after_all, ends_in}
use Rattle.shop_base.specs.Sound.{IsSound}
use Rattle.shop_base.specs.Ahead.{HoldsUp}
use Rattle.shop_base.specs.Within.{AreWithin, AreByTheirOwn}
use Rattle.shop_base.specs.WithinLaw.{TheirOwnAreEnough}
use Rattle.shop_base.proofs.Visits.{visits_job}
use Rattle.shop_base.proofs.InShop.{outside_in_shop}
use Rattle.shop_base.proofs.Changes.{after_move-moved, with_ready-readied, with_clean-tidied}
use Rattle.shop_base.proofs.Keeping.{after_report-sound, after_move-sound, run-sound}
use Rattle.shop_base.proofs.ControlledRuns.{after_all_join}
use Rattle.shop_base.proofs.InTime.{report_last}
use Rattle.shop_base.proofs.LowerBounds.{readied-holds, tidied-holds, move-holds, events_split}

-- what goes on before the end of an activity goes on behind it, and holds up the same node; or that one holds up the node
ended-holds : (p : PlannedShop) (c : Cell) (ended : Activity) (is_due at : ℕ) → IsSound p c → GoesOn p c ended is_due → (a : Activity) (due : ℕ) (v : Node) → GoesOn p c a due → HoldsUp p c a v
    → HoldsUp p c ended v ⊎ (GoesOn p (after_end c ended at) a due × HoldsUp p (after_end c ended at) a v)
ended-holds p c (Arrival j) is_due at sound awaited a due v going holds =
    elim (readied-holds p c (with_ready c j at) j at (with_ready-readied c j at awaited.not_ready (omega (arith, sound.job_count, outside_in_shop p c j sound awaited.outside))) a due v going holds)
    [ inl (busy, is) ↦ inl is | inr still ↦ inr still ]
ended-holds p c (Operation j m) is_due at sound (k, worked) a due v going holds =
    elim (readied-holds p c (with_ready c j at) j at (with_ready-readied c j at worked.not_ready (omega (arith, sound.job_count, visits_job p j k m worked.on.visits))) a due v going holds)
    [ inl (busy, is) ↦ inl is | inr still ↦ inr still ]
ended-holds p c (Cleaning m) is_due at sound (s, cleaned) a due v going holds =
    elim (tidied-holds p c (with_clean c m at) m at (with_clean-tidied c m s at cleaned.is_cleaned) a due v going holds)
    [ inl (mine, stands) ↦ inl stands | inr still ↦ inr still ]

-- what goes on in a cell isn't past the moment of what it holds up, if it is reported by then later
not_past : (p : PlannedShop) (kept : Node → ℕ) (c : Cell) (es : List Event) (a : Activity) (due : ℕ) (v : Node) → IsWellShaped p → IsSound p c → AreEvents p c es → IsIdle p (after_all p c es) → AreByTheirOwn p kept c es
    → GoesOn p c a due → HoldsUp p c a v → c.last ≤ kept v
not_past p kept c [] a due v shaped sound events idle own going holds = absurd (idle a due going)
not_past p kept c (Reported r ∷ es) a due v shaped sound events idle own going holds =
    elim (ended-holds p c (ended r) events.0.going.0 (at r) sound events.0.going.1 a due v going holds) [
      | inl mine ↦ omega (arith, own.0 v mine, events.0.moment.in_order)
      | inr (still, same) ↦ omega (
        arith,
        events.0.moment.in_order,
        report_last c (ended r) (at r),
        not_past p kept (after_report c r) es a due v shaped (after_report-sound p c r shaped sound events.0) events.1 idle own.1 still same,
      )
    ]
not_past p kept c (Moved o ∷ es) a due v shaped sound events idle own going holds =
    let (still, same) = move-holds p c (after_move p c o.job o.at) o.job o.at o.at shaped sound events.0.0.can events.0.1 (le_refl o.at) (after_move-moved p c o.job o.at shaped sound events.0.0.can) a due v going holds in
    omega (
      arith,
      events.0.0.can.moment.in_order,
      not_past p kept (after_move p c o.job o.at) es a due v shaped (after_move-sound p c o.job o.at shaped sound events.0.0.can events.0.1) events.1 idle own still same,
    )

pub own-within : (p : PlannedShop) (kept : Node → ℕ) (c : Cell) (es : List Event) → IsWellShaped p → IsSound p c → AreEvents p c es → IsIdle p (after_all p c es) → AreByTheirOwn p kept c es → AreWithin p kept c es
own-within p kept c [] shaped sound events idle own = tt
own-within p kept c (Reported r ∷ es) shaped sound events idle own = (
  λ a due v going holds. elim (ended-holds p c (ended r) events.0.going.0 (at r) sound events.0.going.1 a due v going holds) [
    | inl mine ↦ own.0 v mine
    | inr (still, same) ↦ omega (
      arith,
      report_last c (ended r) (at r),
      not_past p kept (after_report c r) es a due v shaped (after_report-sound p c r shaped sound events.0) events.1 idle own.1 still same,
    )
  ],
  own-within p kept (after_report c r) es shaped (after_report-sound p c r shaped sound events.0) events.1 idle own.1,
)
own-within p kept c (Moved o ∷ es) shaped sound events idle own =
    own-within p kept (after_move p c o.job o.at) es shaped (after_move-sound p c o.job o.at shaped sound events.0.0.can events.0.1) events.1 idle own

pub their_own_are_enough-holds : TheirOwnAreEnough
their_own_are_enough-holds p kept es fs shaped run whole idle own =
    let (front, back) = events_split p (start p) es fs whole in
    own-within p kept (ends_in p es) fs shaped (run-sound p es shaped run) back (rw (after_all_join p (start p) es fs) at idle) own
