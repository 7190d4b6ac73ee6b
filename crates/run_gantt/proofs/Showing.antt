-- A machine's visits are shown one after another.
use Rattle.std.proofs.Common.{◌≡◌, ℕ, ◌+◌, ◌*◌, ◌<◌, List, [], ◌∷◌, ◌++◌, length, get_or, Option, None, Some, refl, sym, ap, subst, ◌∙◌, arith, append_assoc, append-nil}
use Rattle.std.proofs.lemmas.List.Concat.{flat_map-cons}
use Rattle.std.specs.Prelude.{flat_map}
use Rattle.people_names.specs.NameBooks.{NameBook}
use Rattle.run_gantt.specs.declared.visits.LoggedVisit.{LoggedVisit}
use Rattle.run_gantt.specs.declared.visits.LinkedVisit.{LinkedVisit}
use Rattle.std.specs.Option.{option_or}
use Rattle.run_gantt.specs.Visits.{first_of}
use Rattle.run_gantt.specs.GanttText.{sign_of, gantt_visit_word}
use Rattle.run_gantt.specs.LinkedVisits.{no_visit, IsBelow, AreLinked}
use Rattle.run_gantt.proofs.Bars.{option_or-none, option_or-assoc}

-- the number above a place, 0 for none
abbrev pub above : Option ℕ → ℕ
above None = 0
above (Some place) = place + 1

-- of a machine's visits, those from the next on are still to be shown
pub record AreLeft (names : NameBook) (table : List LinkedVisit) (next : Option ℕ) (visits : List LoggedVisit) (start now : List ℕ) (before after : List (Option ℕ)) (scale : ℕ) : Type 0 where
  pub rest : List LoggedVisit
  pub chain : AreLinked table next rest
  pub text : now ++ flat_map (gantt_visit_word names) rest ≡ start ++ flat_map (gantt_visit_word names) visits
  pub bar : (c : ℕ) → c < 60 → option_or (get_or after c None) (first_of (sign_of (c * scale)) rest) ≡ option_or (get_or before c None) (first_of (sign_of (c * scale)) visits)

-- a chain that goes on with this visit
record ChainGoesOn (table : List LinkedVisit) (place : ℕ) (linked : LinkedVisit) (visits : List LoggedVisit) : Type 0 where
  rest : List LoggedVisit
  within : place < length table
  whole : visits ≡ linked.visit ∷ rest
  below : IsBelow linked.next place
  chain : AreLinked table linked.next rest

goes_on : (table : List LinkedVisit) (next : Option ℕ) (place : ℕ) (linked : LinkedVisit) (visits : List LoggedVisit)
    → next ≡ Some place → linked ≡ get_or table place no_visit → AreLinked table next visits → ChainGoesOn table place linked visits
goes_on table next place linked [] at is chain = absurd (cc)
goes_on table next place linked (visit ∷ visits) at is (other, first, within, here, below, chain) =
    let same : other ≡ place = cc in
    let found : get_or table other no_visit ≡ linked = ap (λ (x : ℕ). get_or table x no_visit) same ∙ sym is in
    record {
      rest = visits;
      within = omega (arith, same, within);
      whole = ap (λ (v : LoggedVisit). v ∷ visits) (sym here ∙ ap (λ (l : LinkedVisit). l.visit) found);
      below = subst (λ (x : ℕ). IsBelow linked.next x) same (subst (λ (l : LinkedVisit). IsBelow l.next other) found below);
      chain = subst (λ (l : LinkedVisit). AreLinked table l.next visits) found chain;
    }

module _ (names : NameBook) (table : List LinkedVisit) (next : Option ℕ) (visits : List LoggedVisit) (start now : List ℕ) (before after : List (Option ℕ)) (scale : ℕ) (left : AreLeft names table next visits start now before after scale) where
  -- the next place is one of the table
  pub left-within : (place : ℕ) → next ≡ Some place → place < length table
  left-within place at = (goes_on table next place (get_or table place no_visit) left.rest at refl left.chain).within

  -- the places fall
  pub left-falls : (place : ℕ) (linked : LinkedVisit) → next ≡ Some place → linked ≡ get_or table place no_visit → above linked.next < above next
  left-falls place linked at is = rw at (go linked.next (goes_on table next place linked left.rest at is left.chain).below)
    where
      go : (behind : Option ℕ) → IsBelow behind place → above behind < place + 1
      go None below = omega arith
      go (Some other) below = omega (arith, below)

  -- the next visit is shown
  pub left-fewer : (new : List ℕ) (shown : List (Option ℕ)) (place : ℕ) (linked : LinkedVisit) → next ≡ Some place → linked ≡ get_or table place no_visit
      → new ≡ now ++ gantt_visit_word names linked.visit
      → ((c : ℕ) → c < 60 → get_or shown c None ≡ option_or (get_or after c None) (sign_of (c * scale) linked.visit))
      → AreLeft names table linked.next visits start new before shown scale
  left-fewer new shown place linked at is pushed is_shown =
      let on = goes_on table next place linked left.rest at is left.chain in
      let visit = linked.visit in
      record {
        rest = on.rest;
        chain = on.chain;
        text =
            ap (λ (l : List ℕ). l ++ flat_map (gantt_visit_word names) on.rest) pushed
            ∙ append_assoc now (gantt_visit_word names visit) (flat_map (gantt_visit_word names) on.rest)
            ∙ ap (λ (l : List ℕ). now ++ l) (sym (flat_map-cons (gantt_visit_word names) visit on.rest))
            ∙ ap (λ (l : List LoggedVisit). now ++ flat_map (gantt_visit_word names) l) (sym on.whole)
            ∙ left.text;
        bar = λ c inside.
            ap (λ (x : Option ℕ). option_or x (first_of (sign_of (c * scale)) on.rest)) (is_shown c inside)
            ∙ option_or-assoc (get_or after c None) (sign_of (c * scale) visit) (first_of (sign_of (c * scale)) on.rest)
            ∙ ap (λ (l : List LoggedVisit). option_or (get_or after c None) (first_of (sign_of (c * scale)) l)) (sym on.whole)
            ∙ left.bar c inside;
      }

none_left : (table : List LinkedVisit) (next : Option ℕ) (visits : List LoggedVisit) → next ≡ None → AreLinked table next visits → visits ≡ []
none_left table next [] at chain = refl
none_left table next (visit ∷ visits) at (place, first, within, here, below, chain) = absurd (cc)

module _ (names : NameBook) (table : List LinkedVisit) (next : Option ℕ) (visits : List LoggedVisit) (start now : List ℕ) (before after : List (Option ℕ)) (scale : ℕ) (left : AreLeft names table next visits start now before after scale) (at : next ≡ None) where
  -- at the end all words are there
  pub all_words : now ≡ start ++ flat_map (gantt_visit_word names) visits
  all_words = sym (append-nil now) ∙ ap (λ (l : List LoggedVisit). now ++ flat_map (gantt_visit_word names) l) (sym (none_left table next left.rest at left.chain)) ∙ left.text

  -- and all visits are in the bar
  pub all_signs : (c : ℕ) → c < 60 → get_or after c None ≡ option_or (get_or before c None) (first_of (sign_of (c * scale)) visits)
  all_signs c inside =
      sym (option_or-none (get_or after c None))
      ∙ ap (λ (l : List LoggedVisit). option_or (get_or after c None) (first_of (sign_of (c * scale)) l)) (sym (none_left table next left.rest at left.chain))
      ∙ left.bar c inside
