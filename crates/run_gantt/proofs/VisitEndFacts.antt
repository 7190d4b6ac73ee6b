-- What an entry records of a job on a machine, and the table in which it is noted.
use Rattle.std.proofs.Common.{◌≡◌, ℕ, ◌+◌, ◌*◌, ◌<◌, ◌⊎◌, inl, inr, Bool, true, false, ◌==◌, ◌&&◌, if◌then◌else◌, List, ◌∷◌, length, get_or, set, None, Some, refl, sym, ap, ◌∙◌, arith, get_or-set_other, length-set}
use Rattle.std.proofs.lemmas.Bool.{cases_eq, eq-eqb, eqb-true}
use Rattle.std.proofs.lemmas.Grind.{get_or-set_at}
use Rattle.shop_base.specs.declared.move_order.Spot.TheVariants.{Out, At}
use Rattle.shop_base.specs.declared.move_order.MoveOrder.{MoveOrder}
use Rattle.shop_base.specs.declared.report.Report.TheVariants.{Arrive, Finish, Clean}
use Rattle.cell_tables.specs.declared.entry.Entry.{Entry}
use Rattle.cell_tables.specs.declared.entry.Entry.TheVariants.{Report as ReportEntry, Order as OrderEntry}
use Rattle.run_gantt.specs.declared.visit_ends.VisitEnd.{VisitEnd}
use Rattle.run_gantt.specs.Visits.{finish_in, leave_in, visit_end}
use Rattle.run_gantt.specs.VisitEnds.{no_end, IsPlace, AreVisitEnds}

-- an entry records nothing of this job and machine
pub record HasNoEnd (entry : Entry) (j m : ℕ) : Type 0 where
  pub finish : finish_in j m entry ≡ None
  pub leave : leave_in j m entry ≡ None

-- so the end of the visit is what the later entries record
no_end-passed : (j m : ℕ) (entry : Entry) (later : List Entry) → HasNoEnd entry j m → visit_end j m (entry ∷ later) ≡ visit_end j m later
no_end-passed j m entry later nothing = rw (nothing.finish, nothing.leave) refl

neither : (a b : Bool) (at : ℕ) → (a ≡ true → b ≡ true → ⊥) → (if a && b then Some at else None) ≡ None
neither true true at apart = absurd (apart refl refl)
neither true false at apart = refl
neither false b at apart = refl

finish-elsewhere : (j m i n at : ℕ) → (j ≡ i → m ≡ n → ⊥) → HasNoEnd (ReportEntry (Finish j m at)) i n
finish-elsewhere j m i n at apart = record {
  finish = neither (j == i) (m == n) at (λ same_job same_machine. apart (eqb-true j i same_job) (eqb-true m n same_machine));
  leave = refl;
}

leave-elsewhere : (order : MoveOrder) (m i n : ℕ) → order.source ≡ At m → (order.job ≡ i → m ≡ n → ⊥) → HasNoEnd (OrderEntry order) i n
leave-elsewhere order m i n from apart = record {
  finish = refl;
  leave = rw from (neither (order.job == i) (m == n) order.at (λ same_job same_machine. apart (eqb-true order.job i same_job) (eqb-true m n same_machine)));
}

entry-no_end : (order : MoveOrder) (i n : ℕ) → order.source ≡ Out → HasNoEnd (OrderEntry order) i n
entry-no_end order i n from = record {
  finish = refl;
  leave = rw from (neither (order.job == i) false order.at (λ same_job never. cc));
}

finish-first : (j m at : ℕ) (later : List Entry) → visit_end j m (ReportEntry (Finish j m at) ∷ later) ≡ record { finish = Some at; leave = (visit_end j m later).leave }
finish-first j m at later = rw (eq-eqb j j refl, eq-eqb m m refl) refl

leave-first : (order : MoveOrder) (m : ℕ) (later : List Entry) → order.source ≡ At m
    → visit_end order.job m (OrderEntry order ∷ later) ≡ record { finish = (visit_end order.job m later).finish; leave = Some order.at }
leave-first order m later from = rw (from, eq-eqb order.job order.job refl, eq-eqb m m refl) refl

-- an entry that records nothing of what the table is for leaves it as it was
pub ends-kept : (ends : List VisitEnd) (entry : Entry) (later : List Entry)
    → ((i n place : ℕ) → IsPlace (length ends) i n place → HasNoEnd entry i n) → AreVisitEnds ends later → AreVisitEnds ends (entry ∷ later)
ends-kept ends entry later nothing are = record {
  exact = λ i n place is. are.exact i n place is ∙ sym (no_end-passed i n entry later (nothing i n place is));
}

-- an end of an operation of which the table has no place
pub finish-passed : (ends : List VisitEnd) (later : List Entry) (j m at : ℕ)
    → (m < 100 → j * 100 + m < length ends → ⊥) → AreVisitEnds ends later → AreVisitEnds ends (ReportEntry (Finish j m at) ∷ later)
finish-passed ends later j m at no_place = ends-kept ends _ later λ i n place is.
    finish-elsewhere j m i n at (λ same_job same_machine. no_place (omega (arith, is.machine)) (omega (arith, is.index, is.within)))

-- a move from a machine of which the table has no place
pub leave-passed : (ends : List VisitEnd) (later : List Entry) (order : MoveOrder) (m : ℕ) → order.source ≡ At m
    → (m < 100 → order.job * 100 + m < length ends → ⊥) → AreVisitEnds ends later → AreVisitEnds ends (OrderEntry order ∷ later)
leave-passed ends later order m from no_place = ends-kept ends _ later λ i n place is.
    leave-elsewhere order m i n from (λ same_job same_machine. no_place (omega (arith, is.machine)) (omega (arith, is.index, is.within)))

-- a move into the cell
pub entering-passed : (ends : List VisitEnd) (later : List Entry) (order : MoveOrder) → order.source ≡ Out → AreVisitEnds ends later → AreVisitEnds ends (OrderEntry order ∷ later)
entering-passed ends later order from = ends-kept ends _ later λ i n place is. entry-no_end order i n from

-- an arrival
pub arrival-passed : (ends : List VisitEnd) (later : List Entry) (j at : ℕ) → AreVisitEnds ends later → AreVisitEnds ends (ReportEntry (Arrive j at) ∷ later)
arrival-passed ends later j at = ends-kept ends _ later λ i n place is. record { finish = refl; leave = refl }

-- the end of a cleaning
pub cleaning-passed : (ends : List VisitEnd) (later : List Entry) (m at : ℕ) → AreVisitEnds ends later → AreVisitEnds ends (ReportEntry (Clean m at) ∷ later)
cleaning-passed ends later m at = ends-kept ends _ later λ i n place is. record { finish = refl; leave = refl }

-- the table with new ends at one place
ends-noted : (ends : List VisitEnd) (entry : Entry) (later : List Entry) (j m place : ℕ) (new : VisitEnd) → IsPlace (length ends) j m place
    → new ≡ visit_end j m (entry ∷ later) → ((i n : ℕ) → (j ≡ i → m ≡ n → ⊥) → HasNoEnd entry i n)
    → AreVisitEnds ends later → AreVisitEnds (set ends place new) (entry ∷ later)
ends-noted ends entry later j m place new at is_new nothing are = record { exact = λ i n other is. go i n other is (cases_eq other place) }
  where
    go : (i n other : ℕ) → IsPlace (length (set ends place new)) i n other → (other ≡ place) ⊎ (other ≡ place → ⊥)
        → get_or (set ends place new) other no_end ≡ visit_end i n (entry ∷ later)
    go i n other is (inl same) =
        let same_job : i ≡ j = omega (arith, is.index, at.index, is.machine, at.machine) in
        let same_machine : n ≡ m = omega (arith, is.index, at.index, is.machine, at.machine) in
        get_or-set_at ends place other new no_end same at.within
        ∙ is_new
        ∙ ap (λ (x : ℕ). visit_end x m (entry ∷ later)) (sym same_job)
        ∙ ap (λ (x : ℕ). visit_end i x (entry ∷ later)) (sym same_machine)
    go i n other is (inr differ) =
        let old : IsPlace (length ends) i n other = record { machine = is.machine; index = is.index; within = omega (arith, is.within, length-set ends place new) } in
        get_or-set_other ends place other new no_end differ
        ∙ are.exact i n other old
        ∙ sym (no_end-passed i n entry later (nothing i n (λ same_job same_machine. differ (omega (arith, is.index, at.index)))))

-- the end of an operation is noted
pub finish-noted : (ends : List VisitEnd) (later : List Entry) (j m place at : ℕ) → IsPlace (length ends) j m place → AreVisitEnds ends later
    → AreVisitEnds (set ends place (record { finish = Some at; leave = (get_or ends place no_end).leave })) (ReportEntry (Finish j m at) ∷ later)
finish-noted ends later j m place at is are = ends-noted ends (ReportEntry (Finish j m at)) later j m place _ is
    (rw (are.exact j m place is) (sym (finish-first j m at later)))
    (λ i n apart. finish-elsewhere j m i n at apart) are

-- a move away from a machine is noted
pub leave-noted : (ends : List VisitEnd) (later : List Entry) (order : MoveOrder) (m place : ℕ) → order.source ≡ At m → IsPlace (length ends) order.job m place
    → AreVisitEnds ends later
    → AreVisitEnds (set ends place (record { finish = (get_or ends place no_end).finish; leave = Some order.at })) (OrderEntry order ∷ later)
leave-noted ends later order m place from is are = ends-noted ends (OrderEntry order) later order.job m place _ is
    (rw (are.exact order.job m place is) (sym (leave-first order m later from)))
    (λ i n apart. leave-elsewhere order m i n from apart) are
