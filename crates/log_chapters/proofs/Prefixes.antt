-- What stands behind a prefix is there where the line begins with it.
use Rattle.std.proofs.Common.{◌≡◌, ℕ, ◌↔◌, List, ◌++◌, Option, None, Some, MatchOption, IsTrue, is_some, Bool, true, refl, ◌∙◌, sym}
use Rattle.text_lines.specs.Cuts.{LacksPrefix}

begins_or_not : {A : Type 0} (text : A → List ℕ) (prefix line : List ℕ) (found : Option A) → MatchOption found (LacksPrefix prefix line) (λ rest. line ≡ prefix ++ text rest)
    → (is_some found ≡ true) ↔ ((rest : List ℕ) × (line ≡ prefix ++ rest))
begins_or_not text prefix line None lacks = (λ some. absurd (cc), λ begins. absurd (lacks begins.0 begins.1))
begins_or_not text prefix line (Some rest) is = (λ some. (text rest, is), λ begins. refl)

-- by a test of what was found
pub begins_where_found : {A : Type 0} (text : A → List ℕ) (prefix line : List ℕ) (found : Option A) (b : Bool) → b ≡ is_some found → MatchOption found (LacksPrefix prefix line) (λ rest. line ≡ prefix ++ text rest)
    → IsTrue b ↔ ((rest : List ℕ) × (line ≡ prefix ++ rest))
begins_where_found text prefix line found b is known = let both = begins_or_not text prefix line found known in (λ t. both.0 (sym is ∙ t), λ begins. is ∙ both.1 begins)
