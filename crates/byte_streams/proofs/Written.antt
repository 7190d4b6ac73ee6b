-- A text that is written part by part.
use Rattle.std.proofs.Common.{◌≡◌, ℕ, List, [], ◌++◌, Option, refl, sym, ap, ◌∙◌, append_assoc, append-nil, subst}
use Rattle.std.specs.Io.KnownBytes.{Appends}
use Rattle.std.proofs.KnownBytes.{Appends-nil, Appends-trans}
use Rattle.byte_streams.specs.Sinks.{AllBut, TookPart}

-- at first nothing is accepted
pub AllBut-none : (before : Option (List ℕ)) (text : List ℕ) → AllBut before before text text
AllBut-none before text = record { out = []; took = Appends-nil before; whole = refl }

-- the first bytes of the rest are accepted
pub AllBut-more : (before now after : Option (List ℕ)) (text rest first more : List ℕ)
    → AllBut before now text rest → Appends now after first → first ++ more ≡ rest → AllBut before after text more
AllBut-more before now after text rest first more so_far took split = record {
  out = so_far.out ++ first;
  took = Appends-trans before now after so_far.out first so_far.took took;
  whole = append_assoc so_far.out first more ∙ ap (λ l. so_far.out ++ l) split ∙ so_far.whole;
}

-- all is accepted
pub AllBut-all : (before after : Option (List ℕ)) (text rest : List ℕ) → AllBut before after text rest → rest ≡ [] → Appends before after text
AllBut-all before after text rest so_far none =
    let whole : so_far.out ≡ text = sym (append-nil so_far.out) ∙ ap (λ l. so_far.out ++ l) (sym none) ∙ so_far.whole in
    subst (Appends before after) whole so_far.took

-- part of what comes first of the rest is accepted
pub TookPart-rest : (before now after : Option (List ℕ)) (text rest first more : List ℕ)
    → AllBut before now text rest → TookPart now after first → first ++ more ≡ rest → TookPart before after text
TookPart-rest before now after text rest first more so_far part split = (
  part.0 ++ more,
  record {
    out = so_far.out ++ part.1.out;
    took = Appends-trans before now after so_far.out part.1.out so_far.took part.1.took;
    whole = append_assoc so_far.out part.1.out (part.0 ++ more)
        ∙ ap (λ l. so_far.out ++ l) (sym (append_assoc part.1.out part.0 more) ∙ ap (λ l. l ++ more) part.1.whole ∙ split)
        ∙ so_far.whole;
  },
)
