-- The lines of a log have one first fault.
use Rattle.std.proofs.Common.{◌≡◌, ℕ, zero, suc, ◌<◌, ◌≤◌, false, List, [], ◌∷◌, ◌++◌, length, Option, ◌⊎◌, inl, inr, refl, sym, ap, ◌∙◌, subst, arith, append-nil}
use Rattle.std.proofs.lemmas.Bool.{false≢true, cases_lt}
use Rattle.shop_base.specs.{declared.move_order.MoveOrder.MoveOrder, Plan.PlannedShop, Cell.{Cell, ready}, Run.ends_in}
use Rattle.shop_base.specs.{declared.move_order.Spot.{Spot, TheVariants.{Out, At}}, Report.{at, ended}}
use Rattle.cell_tables.specs.declared.entry.Entry.{Entry, TheVariants.{Report as ReportEntry, Order as OrderEntry}}
use Rattle.cell_tables.specs.Events.{events_of}
use Rattle.event_lines.specs.LogLines.{LineParses, LinesParse}
use Rattle.event_lines.proofs.Readings.{one_parse, one_reading}
use Rattle.run_log.specs.declared.audit_fault.AuditFault.{AuditFault, TheVariants.{BadLine, NotExpected, Backwards, NotReady, Occupied, OutOfOrder, WrongPlace, NotClean, Memory}}
use Rattle.run_log.specs.Audits.{IsFaultOf, IsGoingOn, IsLineFault, IsBadLine, IsFirstBad, IsItsWay, IsOccupied, IsTimely, IsUnclean, IsOutOfTurn, IsOpen, fault_line}
use Rattle.run_log.specs.{Present.IsRunFault, declared.present_run.RunFault.{RunFault, TheVariants.{Log, Present}}}
use Rattle.run_log.proofs.Audits.{first_bad-no_run}
use Rattle.cell_drive.specs.{ResumeFaults.IsOnlyLogFault, declared.resume_fault.ResumeFault.TheVariants.{Run}}
use Rattle.cell_drive.proofs.Parts.{append_parts}

-- which fault it is
abbrev kind : AuditFault → ℕ
kind (BadLine line) = 0
kind (NotExpected line) = 1
kind (Backwards line) = 2
kind (NotReady line) = 3
kind (Occupied line) = 4
kind (NotClean line) = 5
kind (OutOfOrder line) = 6
kind (WrongPlace line) = 7
kind Memory = 8

-- the fault of a kind and a line
abbrev fault_at : ℕ → ℕ → AuditFault
fault_at zero line = BadLine line
fault_at (suc zero) line = NotExpected line
fault_at (suc (suc zero)) line = Backwards line
fault_at (suc (suc (suc zero))) line = NotReady line
fault_at (suc (suc (suc (suc zero)))) line = Occupied line
fault_at (suc (suc (suc (suc (suc zero))))) line = NotClean line
fault_at (suc (suc (suc (suc (suc (suc zero)))))) line = OutOfOrder line
fault_at (suc (suc (suc (suc (suc (suc (suc zero))))))) line = WrongPlace line
fault_at (suc (suc (suc (suc (suc (suc (suc (suc k)))))))) line = Memory

fault_is : (f : AuditFault) → f ≡ fault_at (kind f) (fault_line f)
fault_is (BadLine line) = refl
fault_is (NotExpected line) = refl
fault_is (Backwards line) = refl
fault_is (NotReady line) = refl
fault_is (Occupied line) = refl
fault_is (NotClean line) = refl
fault_is (OutOfOrder line) = refl
fault_is (WrongPlace line) = refl
fault_is Memory = refl

same_fault : (f g : AuditFault) → kind f ≡ kind g → fault_line f ≡ fault_line g → g ≡ f
same_fault f g kinds lines =
    fault_is g ∙ ap (λ k. fault_at k (fault_line g)) (sym kinds) ∙ ap (fault_at (kind f)) (sym lines) ∙ sym (fault_is f)

module _ (p : PlannedShop) (c : Cell) where
  -- ---- a target has one fault

  clear_of_job : (spot : Spot) → IsOccupied p c spot → IsUnclean p c spot → ⊥
  clear_of_job Out occupied unclean = occupied
  clear_of_job (At m) occupied unclean = occupied unclean.0

  clear_of_turn : (spot : Spot) (j : ℕ) → IsOutOfTurn p c spot j → (IsOccupied p c spot → ⊥) × (IsUnclean p c spot → ⊥)
  clear_of_turn Out j out = absurd out
  clear_of_turn (At m) j out = ((λ occupied. occupied out.0), λ unclean. let (s, is) = unclean.1 in let none = out.1 in cc)

  open_for : (spot : Spot) (j : ℕ) → IsOpen p c spot j → (IsOccupied p c spot → ⊥) × (IsUnclean p c spot → ⊥) × (IsOutOfTurn p c spot j → ⊥)
  open_for Out j open_there = ((λ occupied. occupied), (λ unclean. unclean), λ out. out)
  open_for (At m) j open_there = ((λ occupied. occupied open_there.0), (λ unclean. let (s, is) = unclean.1 in let none = open_there.1 in cc), λ out. out.2 open_there.2)

  -- ---- so has an entry

  -- what a fault of a kind has against an entry
  abbrev HasAgainst : ℕ → Entry → Type 0
  HasAgainst (suc zero) (ReportEntry r) = IsGoingOn p c (ended r) → ⊥
  HasAgainst (suc (suc zero)) (ReportEntry r) = at r < c.last
  HasAgainst (suc (suc zero)) (OrderEntry o) = o.at < c.last
  HasAgainst (suc (suc (suc zero))) (OrderEntry o) = ready c o.job ≡ false
  HasAgainst (suc (suc (suc (suc zero)))) (OrderEntry o) = IsOccupied p c o.target
  HasAgainst (suc (suc (suc (suc (suc zero))))) (OrderEntry o) = IsUnclean p c o.target
  HasAgainst (suc (suc (suc (suc (suc (suc zero)))))) (OrderEntry o) = IsOutOfTurn p c o.target o.job
  HasAgainst (suc (suc (suc (suc (suc (suc (suc zero))))))) (OrderEntry o) = IsItsWay p c o → ⊥
  HasAgainst k entry = ⊥

  -- no fault of an earlier kind has anything against it
  abbrev IsPast : Entry → ℕ → Type 0
  IsPast entry n = (k : ℕ) → k < n → HasAgainst k entry → ⊥

  past_none : (entry : Entry) → IsPast entry 1
  past_none entry zero below has = has
  past_none entry (suc k) below has = omega (arith, below)

  past_more : (entry : Entry) (n : ℕ) → IsPast entry n → (HasAgainst n entry → ⊥) → IsPast entry (suc n)
  past_more entry n past clear k below has = elim (cases_lt k n) [
    | inl less ↦ past k less has
    | inr not_less ↦ (let same : k ≡ n = omega (arith, below, not_less) in clear (subst (λ i. HasAgainst i entry) same has))
  ]

  past_backwards : (o : MoveOrder) → c.last ≤ o.at → IsPast (OrderEntry o) 3
  past_backwards o in_order = past_more (OrderEntry o) 2 (past_more (OrderEntry o) 1 (past_none (OrderEntry o)) (λ has. has)) (λ late. omega (arith, late, in_order))

  past_ready : (o : MoveOrder) → IsTimely c o → IsPast (OrderEntry o) 4
  past_ready o timely = past_more (OrderEntry o) 3 (past_backwards o timely.in_order) (λ not_ready. false≢true (sym not_ready ∙ timely.is_ready))

  first_against : (entry : Entry) (f : AuditFault) → IsFaultOf p c entry f → HasAgainst (kind f) entry × IsPast entry (kind f)
  first_against (ReportEntry r) (NotExpected line) fault = (fault, past_none (ReportEntry r))
  first_against (ReportEntry r) (Backwards line) fault = (fault.1, past_more (ReportEntry r) 1 (past_none (ReportEntry r)) (λ not_so. not_so fault.0))
  first_against (ReportEntry r) (BadLine line) fault = absurd fault
  first_against (ReportEntry r) (NotReady line) fault = absurd fault
  first_against (ReportEntry r) (Occupied line) fault = absurd fault
  first_against (ReportEntry r) (NotClean line) fault = absurd fault
  first_against (ReportEntry r) (OutOfOrder line) fault = absurd fault
  first_against (ReportEntry r) (WrongPlace line) fault = absurd fault
  first_against (ReportEntry r) Memory fault = absurd fault
  first_against (OrderEntry o) (BadLine line) fault = absurd fault
  first_against (OrderEntry o) (NotExpected line) fault = absurd fault
  first_against (OrderEntry o) (Backwards line) fault = (fault, past_more (OrderEntry o) 1 (past_none (OrderEntry o)) (λ has. has))
  first_against (OrderEntry o) (NotReady line) fault = (fault.1, past_backwards o fault.0)
  first_against (OrderEntry o) (Occupied line) fault = (fault.1, past_ready o fault.0)
  first_against (OrderEntry o) (NotClean line) fault = (fault.1, past_more (OrderEntry o) 4 (past_ready o fault.0) (λ occupied. clear_of_job o.target occupied fault.1))
  first_against (OrderEntry o) (OutOfOrder line) fault =
      let clear = clear_of_turn o.target o.job fault.1 in (fault.1, past_more (OrderEntry o) 5 (past_more (OrderEntry o) 4 (past_ready o fault.0) clear.0) clear.1)
  first_against (OrderEntry o) (WrongPlace line) fault =
      let clear = open_for o.target o.job fault.1 in
      (fault.2, past_more (OrderEntry o) 6 (past_more (OrderEntry o) 5 (past_more (OrderEntry o) 4 (past_ready o fault.0) clear.0) clear.1) clear.2)
  first_against (OrderEntry o) Memory fault = absurd fault

  entry_kinds : (entry : Entry) (f g : AuditFault) → IsFaultOf p c entry f → IsFaultOf p c entry g → kind f ≡ kind g
  entry_kinds entry f g fault other = elim (cases_lt (kind f) (kind g)) [
    | inl less ↦ absurd ((first_against entry g other).1 (kind f) less (first_against entry f fault).0)
    | inr not_less ↦ elim (cases_lt (kind g) (kind f)) [
      | inl less ↦ absurd ((first_against entry f fault).1 (kind g) less (first_against entry g other).0)
      | inr not_more ↦ omega (arith, not_less, not_more)
    ]
  ]

  -- ---- and a line

  -- a line is bad, or records an entry that has the fault
  abbrev FoundIn : List ℕ → AuditFault → Type 0
  FoundIn line f = ((kind f ≡ 0) × IsBadLine p line) ⊎ ((entry : Entry) × LineParses p line (entry ∷ []) × IsFaultOf p c entry f)

  found_in : (line : List ℕ) (f : AuditFault) → IsLineFault p c line f → FoundIn line f
  found_in line (BadLine number) fault = inl (refl, fault)
  found_in line (NotExpected number) fault = inr fault
  found_in line (Backwards number) fault = inr fault
  found_in line (NotReady number) fault = inr fault
  found_in line (Occupied number) fault = inr fault
  found_in line (NotClean number) fault = inr fault
  found_in line (OutOfOrder number) fault = inr fault
  found_in line (WrongPlace number) fault = inr fault
  found_in line Memory fault = absurd fault

  line_kinds : (line : List ℕ) (f g : AuditFault) → FoundIn line f → FoundIn line g → kind f ≡ kind g
  line_kinds line f g (inl one) (inl two) = one.0 ∙ sym two.0
  line_kinds line f g (inl one) (inr (entry, parses, fault)) = absurd (one.1.unparsed entry parses.1 parses.2)
  line_kinds line f g (inr (entry, parses, fault)) (inl two) = absurd (two.1.unparsed entry parses.1 parses.2)
  line_kinds line f g (inr (a, parses, fault)) (inr (b, also, other)) =
      let lists = one_parse p line (a ∷ []) (b ∷ []) parses also in
      let heads : b ≡ a = cc in
      entry_kinds a f g fault (subst (λ (e : Entry). IsFaultOf p c e g) heads other)

-- lines have one first fault
module _ (p : PlannedShop) (lines : List (List ℕ)) where
  -- none is among the lines before another, which record a run
  no_earlier : (f g : AuditFault) (one : IsFirstBad p lines f) (other : IsFirstBad p lines g) (x : List ℕ) (rest : List (List ℕ)) → one.before ≡ other.before ++ x ∷ rest
      → other.line ∷ other.after ≡ x ∷ (rest ++ one.line ∷ one.after) → ⊥
  no_earlier f g one other x rest longer lines_are =
      let line_is : x ≡ other.line = cc in
      let front : one.before ≡ other.before ++ other.line ∷ rest = longer ∙ ap (λ l. other.before ++ l ∷ rest) line_is in
      first_bad-no_run p one.before g
      (record { before = other.before; line = other.line; after = rest; split = front; number = other.number; recorded = other.recorded; parses = other.parses; run = other.run; is_fault = other.is_fault })
      (one.recorded, one.parses, one.run)

  one_bad : (f g : AuditFault) → IsFirstBad p lines f → IsFirstBad p lines g → g ≡ f
  one_bad f g one other = elim (append_parts one.before (one.line ∷ one.after) other.before (other.line ∷ other.after) (sym one.split ∙ other.split)) [
    | inl (rest, longer, lines_are) ↦ go rest longer lines_are
    | inr (rest, longer, lines_are) ↦ back rest longer lines_are
  ]
    where
      same : one.before ≡ other.before → one.line ≡ other.line → g ≡ f
      same befores line_is =
          let recorded : other.recorded ≡ one.recorded = one_reading p one.before other.recorded one.recorded (subst (λ (ls : List (List ℕ)). LinesParse p ls other.recorded) (sym befores) other.parses) one.parses in
          let fault : IsLineFault p (ends_in p (events_of one.recorded)) one.line g =
          subst (λ (l : List ℕ). IsLineFault p (ends_in p (events_of one.recorded)) l g) (sym line_is) (subst (λ (es : List Entry). IsLineFault p (ends_in p (events_of es)) other.line g) recorded other.is_fault) in
          let c = ends_in p (events_of one.recorded) in
          same_fault f g (line_kinds p c one.line f g (found_in p c one.line f one.is_fault) (found_in p c one.line g fault)) (omega (arith, one.number, other.number, ap length befores))

      go : (rest : List (List ℕ)) → one.before ≡ other.before ++ rest → other.line ∷ other.after ≡ rest ++ one.line ∷ one.after → g ≡ f
      go [] longer lines_are = let line_is : one.line ≡ other.line = cc in same (longer ∙ append-nil other.before) line_is
      go (x ∷ rest) longer lines_are = absurd (no_earlier f g one other x rest longer lines_are)

      back : (rest : List (List ℕ)) → other.before ≡ one.before ++ rest → one.line ∷ one.after ≡ rest ++ other.line ∷ other.after → g ≡ f
      back [] longer lines_are = let line_is : one.line ≡ other.line = cc in same (sym (longer ∙ append-nil one.before)) line_is
      back (x ∷ rest) longer lines_are = absurd (no_earlier g f other one x rest longer lines_are)

  pub only_run_fault : (at : Option ℕ) (fault : RunFault) → IsRunFault lines at p fault → IsOnlyLogFault p lines (Run fault)
  only_run_fault at (Log fault) is = λ other also. one_bad fault other is also
  only_run_fault at (Present fault) is = tt
