-- What the getters of the matches give, by the rows.
use Rattle.std.proofs.Common.{◌≡◌, ◌∙◌, ◌++◌, ◌+◌, ◌<◌, ◌≤◌, ◌^◌, ap, ap₂, sym, refl, [], ◌∷◌, Some, None, List, ℕ, Option, Result, Ok, option_map, map, length, take, append_assoc, get_or, subst}
use Rattle.std.specs.Option.{option_map_or}
use Rattle.std.specs.Str.Parse.{ParsesUnsigned, digits_value, without_leading_plus}
use Rattle.std.specs.Prelude.{unwrap_or, is_some}
use Rattle.std.specs.Borrow.{Bor}
use Rattle.std.proofs.lemmas.List.{map-append, take_more}
use Rattle.clap.specs.Words.{Text, first_of, first_value, matched_of, raw_values, rows_of}
use Rattle.clap.specs.declared.parser.matches.Found.{Found}
use Rattle.clap.proofs.WalkLemmas.{first_value-rows, raw_values-rows}
use Rattle.clap.proofs.CallerReads.{signed_reads}
use Rattle.clap.specs.Words.{ReadsOne, one_of, one_text, without_minus}
use Rattle.clap.proofs.WalkLemmas.{one_text-rows}
use Rattle.command_words.specs.Given.{values_of}
use Rattle.command_words.specs.Choice.{FitsBetween, number_chosen}

pub text_given : (f : Found) (id bytes : Text) (o : Option (Bor Text)) (s : Bor Text) → option_map (λ t. t.now) o ≡ first_value f id → o ≡ Some s → bytes ≡ s.now
    → Some bytes ≡ first_of id (rows_of f)
text_given f id bytes o s h is e = ap (λ x. Some x) e ∙ sym (ap (option_map (λ t. t.now)) is) ∙ h ∙ first_value-rows f id

pub text_left_out : (f : Found) (id : Text) (o : Option (Bor Text)) → option_map (λ t. t.now) o ≡ first_value f id → o ≡ None → None ≡ first_of id (rows_of f)
text_left_out f id o h is = sym (ap (option_map (λ t. t.now)) is) ∙ h ∙ first_value-rows f id

pub text_there : (f : Found) (id : Text) (o : Option (Bor Text)) → option_map (λ t. t.now) o ≡ first_value f id → is_some o ≡ is_some (first_of id (rows_of f))
text_there f id None h = ap (λ (x : Option Text). is_some x) (h ∙ first_value-rows f id)
text_there f id (Some s) h = ap (λ (x : Option Text). is_some x) (h ∙ first_value-rows f id)

pub values_given : (f : Found) (id : Text) (o : Option (Bor (List (Bor Text)))) (s : Bor (List (Bor Text)))
    → option_map (λ (t : Bor (List (Bor Text))). map (λ v. v.now) t.now) o ≡ option_map raw_values (matched_of f id) → o ≡ Some s
    → map (λ v. v.now) s.now ≡ values_of id (rows_of f)
values_given f id o s h is =
    ap (λ (x : Option (List Text)). unwrap_or x []) (sym (ap (option_map (λ (t : Bor (List (Bor Text))). map (λ v. v.now) t.now)) is) ∙ h ∙ raw_values-rows f id)

pub values_left_out : (f : Found) (id : Text) (o : Option (Bor (List (Bor Text))))
    → option_map (λ (t : Bor (List (Bor Text))). map (λ v. v.now) t.now) o ≡ option_map raw_values (matched_of f id) → o ≡ None
    → [] ≡ values_of id (rows_of f)
values_left_out f id o h is =
    ap (λ (x : Option (List Text)). unwrap_or x []) (sym (ap (option_map (λ (t : Bor (List (Bor Text))). map (λ v. v.now) t.now)) is) ∙ h ∙ raw_values-rows f id)

-- one more item, and its text
pub one_more : {S : Type 0} (text : S → Text) (old new : List S) (s : S) (first : List Text) (vals : List (Bor Text)) (i : ℕ) (d : Bor Text) → i < length vals
    → map text old ≡ first ++ map (λ v. v.now) (take i vals) → new ≡ old ++ s ∷ [] → text s ≡ (get_or vals i d).now
    → map text new ≡ first ++ map (λ v. v.now) (take (i + 1) vals)
one_more text old new s first vals i d lt before is at =
    let more : map (λ (v : Bor Text). v.now) (take (i + 1) vals) ≡ map (λ v. v.now) (take i vals) ++ (get_or vals i d).now ∷ [] =
    ap (map (λ (v : Bor Text). v.now)) (take_more vals i d lt) ∙ map-append (λ (v : Bor Text). v.now) (take i vals) (get_or vals i d ∷ []) in
    ap (map text) is ∙ map-append text old (s ∷ []) ∙ ap₂ (λ xs t. xs ++ t ∷ []) before at
    ∙ append_assoc first (map (λ v. v.now) (take i vals)) ((get_or vals i d).now ∷ []) ∙ ap (λ xs. first ++ xs) (sym more)

-- the number that is read for an option, or the other one where it was left out
pub number_read : (E : Type 0) (G : List ℕ → Result ℕ E → Type 0) (id : Text) (least most other : ℕ) (f : Found) (o : Option ℕ)
    → ((u : List ℕ) (x : Result ℕ E) → G u x → ParsesUnsigned 32 10 u x) → most < 2 ^ 32 → least ≤ other → other ≤ most
    → (one_text f id ≡ None → o ≡ None) → ((t : List ℕ) → one_text f id ≡ Some t → ReadsOne G t o)
    → FitsBetween least most (one_of id (rows_of f))
    → (unwrap_or o other ≡ number_chosen id other (rows_of f)) × (least ≤ unwrap_or o other) × (unwrap_or o other ≤ most)
number_read E G id least most other f o only narrow low high left_out read fits = go (one_of id (rows_of f)) (one_text-rows f id) fits
  where
    go : (t : Option Text) → one_text f id ≡ t → FitsBetween least most t
        → (unwrap_or o other ≡ option_map_or (λ text. digits_value 10 (without_leading_plus text)) t other) × (least ≤ unwrap_or o other) × (unwrap_or o other ≤ most)
    go None is fits =
        let e = left_out is in
        rw e (refl, low, high)
    go (Some text) is fits =
        let as_written : ReadsOne G (without_minus fits.0) o = subst (λ (t : List ℕ). ReadsOne G t o) fits.1 (read text is) in
        let n = signed_reads E G 32 least most fits.0 o as_written only narrow fits.2 in
        let value = only text (Ok n.0) (subst (λ (x : Option ℕ). ReadsOne G text x) n.1 (read text is)) in
        rw n.1 (value.1, n.2, n.3)
