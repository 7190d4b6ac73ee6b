-- Texts of one number after another, and what is overdue among them.
use Rattle.std.proofs.Common.{◌≡◌, ℕ, suc, ◌+◌, ◌-◌, ◌<◌, ◌≤◌, Bool, true, false, cond, List, [], ◌++◌, Option, Some, None, sym, ap, ◌∙◌, add-one, arith}
use Rattle.cell_tables.specs.{declared.standing.Standing.Standing, Standings.is_overdue}
use Rattle.event_lines.specs.declared.details.Overdue.{Overdue}
use Rattle.cell_drive.specs.States.{texts_from, count_of, one_more, with_one, with_those}

one_fewer : (k n : ℕ) → k < n → n - k ≡ suc (n - (k + 1))
one_fewer k n below = omega (arith, below)

-- before the first all are left
pub all_texts : (text : ℕ → List ℕ) (n : ℕ) → texts_from text 0 (n - 0) ≡ texts_from text 0 n
all_texts text n = let all : n - 0 ≡ n = omega arith in ap (texts_from text 0) all

-- the next text, and those after it
pub next_text : (text : ℕ → List ℕ) (k n : ℕ) → k < n → text k ++ texts_from text (k + 1) (n - (k + 1)) ≡ texts_from text k (n - k)
next_text text k n below =
    sym (ap (texts_from text k) (one_fewer k n below) ∙ ap (λ (i : ℕ). text k ++ texts_from text i (n - (k + 1))) (sym (add-one k)))

pub no_more_texts : (text : ℕ → List ℕ) (k n : ℕ) → n ≤ k → texts_from text k (n - k) ≡ []
no_more_texts text k n past = let none : n - k ≡ 0 = omega (arith, past) in ap (texts_from text k) none

-- ---- what is overdue

module _ (at : ℕ) where
  module _ (standing : ℕ → Standing) (found : Option Overdue) where
    pub all_found : (n : ℕ) → with_those at standing found 0 (n - 0) ≡ with_those at standing found 0 n
    all_found n = let all : n - 0 ≡ n = omega arith in ap (with_those at standing found 0) all

    pub next_found : (k n : ℕ) → k < n → with_those at standing (with_one at found (standing k)) (k + 1) (n - (k + 1)) ≡ with_those at standing found k (n - k)
    next_found k n below =
        sym (ap (with_those at standing found k) (one_fewer k n below) ∙ ap (λ (i : ℕ). with_those at standing (with_one at found (standing k)) i (n - (k + 1))) (sym (add-one k)))

    pub no_more_found : (k n : ℕ) → n ≤ k → with_those at standing found k (n - k) ≡ found
    no_more_found k n past = let none : n - k ≡ 0 = omega (arith, past) in ap (with_those at standing found k) none

  pub one_counted : (found : Option Overdue) (standing : Standing) → count_of (with_one at found standing) ≤ count_of found + 1
  one_counted found standing = counted (is_overdue standing at) found
    where
      counted : (is : Bool) (found : Option Overdue) → count_of (cond is (one_more found standing) found) ≤ count_of found + 1
      counted true None = omega arith
      counted true (Some overdue) = omega arith
      counted false found = omega arith
