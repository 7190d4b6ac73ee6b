-- What is said of a cell and a report, where they are there and where they aren't.
use Rattle.std.proofs.Common.{◌≡◌, ◌≢◌, ℕ, List, Option, None, Some, IfSome, refl, sym, subst}
use Rattle.cellplan_c.specs.declared.cell.Cell.{Cell}
use Rattle.cellplan_c.specs.declared.numbers.Order.{Order}
use Rattle.cellplan_c.specs.Cells.{WritesOrders}

pub of_both : {A B : Type 0} (P : A → B → Type 0) (held : Option A) (reported : Option B) (a : A) (b : B)
    → held ≡ Some a → reported ≡ Some b → P a b → IfSome held (λ old. IfSome reported (λ report. P old report))
of_both {A} {B} P held reported a b e f p =
    subst (λ (h : Option A). IfSome h (λ old. IfSome reported (λ report. P old report))) (sym e)
    (subst (λ (t : Option B). IfSome t (λ report. P a report)) (sym f) p)

-- and of the cell afterwards
pub of_three : {A B : Type 0} (P : A → A → B → Type 0) (held after : Option A) (reported : Option B) (a new : A) (b : B)
    → held ≡ Some a → after ≡ Some new → reported ≡ Some b → P a new b
    → IfSome held (λ old. IfSome after (λ new. IfSome reported (λ report. P old new report)))
of_three {A} {B} P held after reported a new b e g f p =
    subst (λ (h : Option A). IfSome h (λ old. IfSome after (λ new. IfSome reported (λ report. P old new report)))) (sym e)
    (of_both (P a) after reported new b g f p)

-- what holds of everything holds of what is there
of_each : {A : Type 0} (P : A → Type 0) (held : Option A) → ((a : A) → P a) → IfSome held P
of_each P None is = tt
of_each P (Some a) is = is a

-- without a report nothing is said
pub of_none : {A B : Type 0} (P : A → A → B → Type 0) (held after : Option A) (reported : Option B) → reported ≡ None
    → IfSome held (λ old. IfSome after (λ new. IfSome reported (λ report. P old new report)))
of_none P held after None is = of_each _ held (λ old. of_each _ after (λ new. tt))
of_none P held after (Some report) is = absurd (cc is)

-- and at another status than 0 no order is written
pub unwritten : (cell : Cell) (status first : ℕ) (room : List Order) → status ≢ 0 → WritesOrders cell status first room room 0
unwritten cell status first room bad = record {
  no_orders = λ _. (refl, refl);
  count = of_each _ cell.slot.held (λ held good. absurd (bad good));
  orders = of_each _ cell.slot.held (λ held good. absurd (bad good));
  kept = of_each _ cell.slot.held (λ held good. absurd (bad good));
}
