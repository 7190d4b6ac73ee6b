-- A text that is written in two parts.
use Rattle.std.proofs.Common.{◌≡◌, ℕ, ◌+◌, ◌<◌, length, get_or, drop, List, [], ◌++◌, Bool, true, false, Option, Result, Ok, Err, refl, sym, ap, ◌∙◌, append-nil, append_assoc}
use Rattle.std.proofs.{KnownBytes.Appends-trans, lemmas.List.{drop_more, Concat.flat_map-cons}}
use Rattle.std.specs.{Io.KnownBytes.Appends, List.flat_map, Result.IsErrAnd}
use Rattle.shop_base.specs.{declared.move_order.MoveOrder.MoveOrder, declared.report.Report.Report, Report.at}
use Rattle.event_lines.specs.{declared.details.Overdue.Overdue, EventLines.{order_line, report_line}}
use Rattle.byte_streams.specs.Sinks.{TookPart, Wrote}
use Rattle.byte_streams.proofs.Written.{AllBut-none, AllBut-more, TookPart-rest}
use Rattle.cell_drive.specs.ProtocolText.{acceptance_lines, end_part, lateness_part}

-- the first part was written, and then the second
pub wrote_next : {T E : Type 0} (outcome : Result T E) (failed : Bool) (before mid after : Option (List ℕ)) (first rest : List ℕ)
    → Appends before mid first → Wrote outcome failed mid after rest → Wrote outcome failed before after (first ++ rest)
wrote_next (Ok x) failed before mid after first rest took wrote = Appends-trans before mid after first rest took wrote
wrote_next (Err e) failed before mid after first rest took wrote =
    (wrote.0, TookPart-rest before mid after (first ++ rest) rest rest [] (AllBut-more before before mid (first ++ rest) (first ++ rest) first rest (AllBut-none before (first ++ rest)) took refl) wrote.1 (append-nil rest))

-- part of the first part was written
pub took_first : (before after : Option (List ℕ)) (first rest : List ℕ) → TookPart before after first → TookPart before after (first ++ rest)
took_first before after first rest part = TookPart-rest before before after (first ++ rest) (first ++ rest) first rest (AllBut-none before (first ++ rest)) part refl

-- so it is where `?` gives back that its writing failed
pub broke_first : {T E : Type 0} (Q : E → Type 0) (outcome : Result T E) (failed : Bool) (before after : Option (List ℕ)) (first rest : List ℕ) → IsErrAnd outcome Q
    → (failed ≡ true) × TookPart before after first → Wrote outcome failed before after (first ++ rest)
broke_first Q (Ok x) failed before after first rest is took = absurd is
broke_first Q (Err e) failed before after first rest is took = (took.0, took_first before after first rest took.1)

-- the first part was written, and part of the second
pub took_second : (before mid after : Option (List ℕ)) (first rest : List ℕ) → Appends before mid first → TookPart mid after rest → TookPart before after (first ++ rest)
took_second before mid after first rest took part =
    TookPart-rest before mid after (first ++ rest) rest rest [] (AllBut-more before before mid (first ++ rest) (first ++ rest) first rest (AllBut-none before (first ++ rest)) took refl) part (append-nil rest)

-- the first of lines that are left, and those after it
pub next_line : {X : Type 0} (line : X → List ℕ) (xs : List X) (i : ℕ) (d : X) → i < length xs → line (get_or xs i d) ++ flat_map line (drop (i + 1) xs) ≡ flat_map line (drop i xs)
next_line line xs i d below = sym (ap (flat_map line) (drop_more xs i d below) ∙ flat_map-cons line (get_or xs i d) (drop (i + 1) xs))

-- the lines of an accepted report, where the first order is written together with the report unless it was late
module _ (prefix first : List ℕ) (report : Report) (overdue : Option Overdue) (orders others : List MoveOrder) (ended : Bool)
    (joined : first ++ flat_map (λ o. prefix ++ order_line o) others ≡ flat_map (λ o. prefix ++ order_line o) orders) where
  abbrev line : List ℕ
  line = report_line report

  abbrev rest : List ℕ
  rest = flat_map (λ o. prefix ++ order_line o) others

  abbrev end : List ℕ
  end = end_part prefix (at report) ended

  pub accepted_text : (late : Bool) (bytes : List ℕ) → bytes ≡ prefix ++ (line ++ first) → (late ≡ true → first ≡ [])
      → bytes ++ (lateness_part prefix (at report) late overdue ++ (rest ++ end)) ≡ acceptance_lines prefix report late overdue orders ended
  accepted_text true bytes is none =
      let only : first ≡ [] = none refl in
      let lateness = lateness_part prefix (at report) true overdue in
      ap (λ (b : List ℕ). b ++ (lateness ++ (rest ++ end))) (is ∙ ap (λ (l : List ℕ). prefix ++ l) (ap (λ (f : List ℕ). line ++ f) only ∙ append-nil line))
      ∙ ap (λ (r : List ℕ). (prefix ++ line) ++ (lateness ++ (r ++ end))) (sym (ap (λ (f : List ℕ). f ++ rest) only) ∙ joined)
  accepted_text false bytes is none =
      ap (λ (l : List ℕ). l ++ (rest ++ end)) (is ∙ sym (append_assoc prefix line first)) ∙ append_assoc (prefix ++ line) first (rest ++ end)
      ∙ ap (λ (t : List ℕ). (prefix ++ line) ++ t) (sym (append_assoc first rest end) ∙ ap (λ (o : List ℕ). o ++ end) joined)
