-- The changes that are asked for, one more of them at a time.
use Rattle.std.proofs.Common.{◌≡◌, ◌∙◌, ◌++◌, ◌+◌, ◌<◌, ℕ, suc, List, [], ◌∷◌, ap, sym, subst, length, map, drop, get_or, append_assoc, add-one}
use Rattle.std.specs.String.{string_bytes}
use Rattle.std.specs.Borrow.{Bor}
use Rattle.std.proofs.Math.Seq.{drop-cons}
use Rattle.std.proofs.lemmas.List.{map-append}
use Rattle.plan_revise.specs.declared.change.Change.{Change}
use Rattle.command_words.specs.declared.words.changes.AskedChange.{AskedChange}
use Rattle.command_run.specs.Revisions.{AreChangesOf, IsChangeOf, values_asked}

module _ (asked : List AskedChange) (i : ℕ) (one : AskedChange) (inside : i < length asked) (is : one ≡ get_or asked i one) where
  there : drop i asked ≡ one ∷ drop (i + 1) asked
  there = rw add-one (drop-cons asked i one inside ∙ ap (λ (x : AskedChange). x ∷ drop (suc i) asked) (sym is))

  pub next_change : (old new : List Change) (change : Change) → new ≡ old ++ change ∷ [] → IsChangeOf (string_bytes one.value) one.kind change
      → ((rest : List Change) → AreChangesOf (drop i asked) rest → AreChangesOf asked (old ++ rest))
      → (rest : List Change) → AreChangesOf (drop (i + 1) asked) rest → AreChangesOf asked (new ++ rest)
  next_change old new change pushed stands so_far rest are =
      let here : AreChangesOf (drop i asked) (change ∷ rest) = subst (λ (some : List AskedChange). AreChangesOf some (change ∷ rest)) (sym there) (stands, are) in
      subst (λ (all : List Change). AreChangesOf asked all) (sym (ap (λ (all : List Change). all ++ rest) pushed ∙ append_assoc old (change ∷ []) rest)) (so_far (change ∷ rest) here)

  pub next_value : (old new : List (Bor (List ℕ))) (value : Bor (List ℕ)) → new ≡ old ++ value ∷ [] → value.now ≡ string_bytes one.value
      → map (λ (v : Bor (List ℕ)). v.now) old ++ values_asked (drop i asked) ≡ values_asked asked
      → map (λ (v : Bor (List ℕ)). v.now) new ++ values_asked (drop (i + 1) asked) ≡ values_asked asked
  next_value old new value pushed text so_far =
      let texts : List (Bor (List ℕ)) → List (List ℕ) = map (λ (v : Bor (List ℕ)). v.now) in
      let rest : List (List ℕ) = values_asked (drop (i + 1) asked) in
      ap (λ (all : List (Bor (List ℕ))). texts all ++ rest) pushed
      ∙ ap (λ (all : List (List ℕ)). all ++ rest) (map-append (λ (v : Bor (List ℕ)). v.now) old (value ∷ []))
      ∙ append_assoc (texts old) (value.now ∷ []) rest
      ∙ ap (λ (x : List ℕ). texts old ++ x ∷ rest) text
      ∙ sym (ap (λ (some : List AskedChange). texts old ++ values_asked some) there)
      ∙ so_far
