-- The names that stay, job by job and place by place.
use Rattle.std.proofs.Common.{◌≡◌, ◌∙◌, ℕ, ◌+◌, ◌<◌, ◌≤◌, arith, inl, inr, subst, List, [], ◌∷◌, ◌++◌, Option, None, Some, add-one, ap, append-nil, append_assoc, drop, get_or, length, sym}
use Rattle.std.specs.Prelude.{slice_get}
use Rattle.std.proofs.Math.Seq.{drop-cons}
use Rattle.std.specs.Prelude.{String, map, string_bytes, take}
use Rattle.std.specs.Global.{Global}
use Rattle.std.proofs.lemmas.List.{drop_all, get_or-map, length-map, take_all, take_more}
use Rattle.std.proofs.lemmas.List.Elements.{All-cons}
use Rattle.std.proofs.lemmas.Option.{slice_get_cases}
use Rattle.people_names.specs.declared.names.TheConstants.{LONGEST_NAME}
use Rattle.people_names.specs.KeptNames.{named_first, names_of_jobs}
use Rattle.people_names.specs.Lists.{AreShort}

module _ (names : List (List ℕ)) (jobs : List ℕ) (i d : ℕ) (kept whole : List (List ℕ)) (inside : i < length jobs) (so_far : kept ++ names_of_jobs names (drop i jobs) ≡ whole) where
  at_job : (o : Option (List ℕ)) → slice_get names (get_or jobs i d) ≡ o → kept ++ named_first o (names_of_jobs names (drop (i + 1) jobs)) ≡ whole
  at_job o is =
      let at : drop i jobs ≡ get_or jobs i d ∷ drop (i + 1) jobs = rw add-one (drop-cons jobs i d inside) in
      sym (ap (λ (xs : List (List ℕ)). kept ++ xs) (ap (names_of_jobs names) at ∙ ap (λ (n : Option (List ℕ)). named_first n (names_of_jobs names (drop (i + 1) jobs))) is)) ∙ so_far

  pub no_name : slice_get names (get_or jobs i d) ≡ None → kept ≡ whole
  no_name none = sym (append-nil kept) ∙ at_job None none

  pub one_name : (name : List ℕ) (after : List (List ℕ)) → slice_get names (get_or jobs i d) ≡ Some name → after ≡ kept ++ name ∷ [] → after ++ names_of_jobs names (drop (i + 1) jobs) ≡ whole
  one_name name after is added =
      ap (λ (xs : List (List ℕ)). xs ++ names_of_jobs names (drop (i + 1) jobs)) added ∙ append_assoc kept (name ∷ []) (names_of_jobs names (drop (i + 1) jobs)) ∙ at_job (Some name) is

-- behind the last job
pub no_more_jobs : (names : List (List ℕ)) (jobs : List ℕ) (i : ℕ) (kept : List (List ℕ)) → length jobs ≤ i → kept ++ names_of_jobs names (drop i jobs) ≡ names_of_jobs names jobs
    → kept ≡ names_of_jobs names jobs
no_more_jobs names jobs i kept outside so_far = sym (append-nil kept) ∙ sym (ap (λ (js : List ℕ). kept ++ names_of_jobs names js) (drop_all i jobs outside)) ∙ so_far

-- the names that stay are as short
pub short_of_jobs : (names : List (List ℕ)) (jobs : List ℕ) → AreShort names → AreShort (names_of_jobs names jobs)
short_of_jobs names [] short = λ k d inside. absurd (omega (arith, inside))
short_of_jobs names (job ∷ jobs) short = elim (slice_get_cases names job).1 [
  | inr past ↦ rw past.1 (λ k d inside. absurd (omega (arith, inside)))
  | inl there ↦ rw there.2 (All-cons (λ name. length name ≤ LONGEST_NAME) there.0 (names_of_jobs names jobs)
      (subst (λ (name : List ℕ). length name ≤ LONGEST_NAME) there.3 (short job there.0 there.1)) (short_of_jobs names jobs short))
]

pub are_short : (kept same : List (List ℕ)) → kept ≡ same → AreShort same → AreShort kept
are_short kept same is short = rw is short

-- ---- the first names

module _ (names : List (String Global)) (place most : ℕ) (kept : List (List ℕ)) (so_far : kept ≡ take place (map string_bytes names)) where
  pub one_more_name : (x : String Global) (name : List ℕ) (after : List (List ℕ)) → place < length names → x ≡ get_or names place x → name ≡ string_bytes x → after ≡ kept ++ name ∷ []
      → after ≡ take (place + 1) (map string_bytes names)
  one_more_name x name after inside is text added =
      let at : get_or (map string_bytes names) place [] ≡ name = get_or-map string_bytes names place x [] inside ∙ sym (text ∙ ap string_bytes is) in
      added ∙ ap (λ (first : List (List ℕ)). first ++ name ∷ []) so_far ∙ ap (λ (last : List ℕ). take place (map string_bytes names) ++ last ∷ []) (sym at)
      ∙ sym (take_more (map string_bytes names) place [] (rw (length-map names string_bytes) inside))

  pub all_names : length names ≤ place → place ≤ most → kept ≡ take most (map string_bytes names)
  all_names outside few =
      let long = length-map names string_bytes in
      so_far ∙ take_all place (map string_bytes names) (omega (arith, long, outside)) ∙ sym (take_all most (map string_bytes names) (omega (arith, long, outside, few)))
