-- The text that is written for an instance: job lines one after the other, and what reading it back says.
use Rattle.std.proofs.Common.{◌≡◌, ℕ, suc, ◌+◌, ◌<◌, Bool, true, false, List, [], ◌++◌, length, get_or, drop, MatchBool, sym, ap, ◌∙◌, subst, append_assoc, add-one, drop-cons}
use Rattle.shop_base.specs.declared.shop.Step.{Step}
use Rattle.shop_base.specs.Shop.{JobShop}
use Rattle.orlib_read.specs.Instance.{IsInstance}
use Rattle.orlib_read.specs.Lines.{job_line, job_lines}

-- one more job line
pub jobs_more : (text all : List ℕ) (routes : List (List Step)) (i : ℕ) → i < length routes → text ++ job_lines (drop i routes) ≡ all
    → (text ++ job_line (get_or routes i [])) ++ job_lines (drop (i + 1) routes) ≡ all
jobs_more text all routes i within so_far =
    let front : job_lines (drop i routes) ≡ job_line (get_or routes i []) ++ job_lines (drop (suc i) routes) = ap job_lines (drop-cons routes i [] within) in
    rw (add-one i) (append_assoc text (job_line (get_or routes i [])) (job_lines (drop (suc i) routes)) ∙ ap (λ rest. text ++ rest) (sym front) ∙ so_far)

-- what is read is the same, or the text isn't read so
pub decided : (text description : List ℕ) (shop : JobShop) (read_description : List ℕ) (read_shop : JobShop) (same : Bool) → IsInstance text read_description read_shop
    → ((d : List ℕ) (s : JobShop) → IsInstance text d s → (read_description ≡ d) × (read_shop ≡ s))
    → MatchBool same ((read_description ≡ description) × (read_shop ≡ shop)) ((read_description ≡ description) × (read_shop ≡ shop) → ⊥)
    → MatchBool same (IsInstance text description shop) (IsInstance text description shop → ⊥)
decided text description shop read_description read_shop true found only (one, other) =
    subst (λ (s : JobShop). IsInstance text description s) other (subst (λ (d : List ℕ). IsInstance text d read_shop) one found)
decided text description shop read_description read_shop false found only differ = λ is. differ (only description shop is)
