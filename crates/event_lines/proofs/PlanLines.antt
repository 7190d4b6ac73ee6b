-- The parts of a line of a plan, and which lines are none.
use Rattle.std.proofs.Common.{◌≡◌, ℕ, false, IsTrue, List, ◌++◌, codes, length, take, drop, sym, ap, ◌∙◌, subst}
use Rattle.std.specs.List.{list_all}
use Rattle.std.proofs.lemmas.List.{append_cancel_left}
use Rattle.std.proofs.Math.Seq.{take-append_seam, drop-append_seam}
use Rattle.text_lines.specs.Cuts.{LacksPrefix}
use Rattle.event_lines.specs.declared.run_digits.RunDigits.{RunDigits}
use Rattle.event_lines.specs.RunDigits.{is_small_hex, IsPlanLine}

pub no_plan_line : (line : List ℕ) → LacksPrefix (codes "unfinished plan ") line → (digits : RunDigits) → IsPlanLine line digits → ⊥
no_plan_line line lacks digits is = lacks (digits.plan ++ (codes " shop " ++ digits.shop)) is.0

module _ (line rest : List ℕ) (split : line ≡ codes "unfinished plan " ++ rest) (digits : RunDigits) (is : IsPlanLine line digits) where
  same_rest : rest ≡ digits.plan ++ (codes " shop " ++ digits.shop)
  same_rest = append_cancel_left (codes "unfinished plan ") rest (digits.plan ++ (codes " shop " ++ digits.shop)) (sym split ∙ is.0)

  pub plan_part : take 16 rest ≡ digits.plan
  plan_part = ap (λ n. take n rest) (sym is.1.0.0) ∙ ap (λ (bytes : List ℕ). take (length digits.plan) bytes) same_rest ∙ take-append_seam digits.plan (codes " shop " ++ digits.shop)

  pub shop_part : drop 16 rest ≡ codes " shop " ++ digits.shop
  shop_part = ap (λ n. drop n rest) (sym is.1.0.0) ∙ ap (λ (bytes : List ℕ). drop (length digits.plan) bytes) same_rest ∙ drop-append_seam digits.plan (codes " shop " ++ digits.shop)

  -- behind the plan's digits stands another word
  pub no_shop : (back : List ℕ) → back ≡ drop 16 rest → LacksPrefix (codes " shop ") back → ⊥
  no_shop back is_back lacks = lacks digits.shop (is_back ∙ shop_part)

  pub same_shop : (back shop : List ℕ) → back ≡ drop 16 rest → back ≡ codes " shop " ++ shop → shop ≡ digits.shop
  same_shop back shop is_back is_shop = append_cancel_left (codes " shop ") shop digits.shop (sym is_shop ∙ is_back ∙ shop_part)

pub no_digits : (text digits : List ℕ) → text ≡ digits → false ≡ list_all is_small_hex text → IsTrue (list_all is_small_hex digits) → ⊥
no_digits text digits same none all = let there : IsTrue (list_all is_small_hex text) = subst (λ (bytes : List ℕ). IsTrue (list_all is_small_hex bytes)) (sym same) all in cc
