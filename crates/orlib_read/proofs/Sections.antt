-- The section of a name in a collection.
use Rattle.std.proofs.Common.{◌≡◌, ℕ, true, false, length, List, [], ◌∷◌, ◌++◌, Some, None, Ok, Err, refl, sym, ap, subst, ◌∙◌, inl, inr}
use Rattle.std.specs.Prelude.{◌⊎◌}
use Rattle.std.specs.Str.{bytes_eq}
use Rattle.std.specs.List.{AllByRecursion}
use Rattle.std.proofs.lemmas.Option.{same_Some}
use Rattle.std.proofs.lemmas.Slice.Eq.{bytes_eq-Decides}
use Rattle.shop_base.specs.Shop.{JobShop}
use Rattle.orlib_read.specs.declared.or_fault.OrFault.{OrFault}
use Rattle.orlib_read.specs.declared.or_fault.OrFault.TheVariants.{NoInstance}
use Rattle.text_lines.specs.Lines.{NumberedLine}
use Rattle.orlib_read.specs.Words.{words_of}
use Rattle.orlib_read.specs.Kinds.{IsInstanceLine, IsOtherLine}
use Rattle.orlib_read.specs.Instance.{Reads, EndsSection, IsSection}
use Rattle.orlib_read.specs.Faults.{IsCutShort, LacksName}
use Rattle.orlib_read.specs.Reading.{◌>>=◌, Content, is_name, name_of, is_instance_line, before_title, section_of, draft_at, section_at}
use Rattle.orlib_read.proofs.Parts.{cases_bool}
use Rattle.orlib_read.proofs.Heads.{cases_option}
use Rattle.orlib_read.proofs.Numbers.{bind_ok, bind_err, done, failed, ok_is, err_is, title_is, title_again, any_title, any_title_again, other_line, other_line_again}
use Rattle.orlib_read.proofs.Drafts.{draft_is, draft_fault, draft_again, cut_again}

-- ---- where a section ends

record EndsAt (lines : List NumberedLine) : Type 0 where
  after : List NumberedLine
  whole : lines ≡ before_title lines ++ after
  inside : AllByRecursion IsOtherLine (before_title lines)
  ends : EndsSection after

ends_at : (lines : List NumberedLine) → EndsAt lines
ends_at [] = record { after = []; whole = refl; inside = tt; ends = tt }
ends_at (line ∷ lines) = cases_bool (is_instance_line line) _
    (λ e. record { after = line ∷ lines; whole = rw e refl; inside = rw e tt; ends = any_title line e })
    (λ e.
    let rest = ends_at lines in
    record { after = rest.after; whole = rw e (ap (λ (all : List NumberedLine). line ∷ all) rest.whole); inside = rw e (other_line line e, rest.inside); ends = rest.ends })

ends_again : (section after : List NumberedLine) → AllByRecursion IsOtherLine section → EndsSection after → before_title (section ++ after) ≡ section
ends_again [] [] h ends = refl
ends_again [] (line ∷ after) h ends = rw (any_title_again line ends) refl
ends_again (line ∷ section) after h ends = rw (other_line_again line h.0) (ap (λ (all : List NumberedLine). line ∷ all) (ends_again section after h.1 ends))

-- ---- where it begins

named_is : (line : NumberedLine) (name : List ℕ) → is_name name (name_of (words_of line.bytes)) ≡ true → IsInstanceLine line name
named_is line name h = cases_option (name_of (words_of line.bytes)) _
    (λ e. let wrong : false ≡ true = rw e at h in absurd (cc))
    (λ other e.
    let same : bytes_eq other name ≡ true = rw e at h in
    let is : other ≡ name = (bytes_eq-Decides other name).0 same in
    title_is line name (e ∙ ap (λ (n : List ℕ). Some n) is))

named_again : (line : NumberedLine) (name : List ℕ) → IsInstanceLine line name → is_name name (name_of (words_of line.bytes)) ≡ true
named_again line name h = rw (title_again line name h) ((bytes_eq-Decides name name).1 refl)

named_not : (line : NumberedLine) (name : List ℕ) → is_name name (name_of (words_of line.bytes)) ≡ false → IsInstanceLine line name → ⊥
named_not line name h i = let both : true ≡ false = sym (named_again line name i) ∙ h in absurd (cc)

unnamed_again : (line : NumberedLine) (name : List ℕ) → (IsInstanceLine line name → ⊥) → is_name name (name_of (words_of line.bytes)) ≡ false
unnamed_again line name h = cases_bool (is_name name (name_of (words_of line.bytes))) _ (λ e. absurd (h (named_is line name e))) (λ e. e)

pub section_is : (name : List ℕ) (lines section : List NumberedLine) → section_of name lines ≡ Some section → IsSection lines name section
section_is name [] section h = absurd cc
section_is name (line ∷ lines) section h = cases_bool (is_name name (name_of (words_of line.bytes))) _
    (λ e.
    let here : Some (before_title lines) ≡ Some section = rw e at h in
    let rest = ends_at lines in
    subst (λ (s : List NumberedLine). IsSection (line ∷ lines) name s) (same_Some (before_title lines) section here)
    (record { before = []; title = line; after = rest.after; whole = ap (λ (all : List NumberedLine). line ∷ all) rest.whole; first = tt; named = named_is line name e; inside = rest.inside; ends = rest.ends }))
    (λ e.
    let later : section_of name lines ≡ Some section = rw e at h in
    let s = section_is name lines section later in
    record {
      before = line ∷ s.before;
      title = s.title;
      after = s.after;
      whole = ap (λ (all : List NumberedLine). line ∷ all) s.whole;
      first = (named_not line name e, s.first);
      named = s.named;
      inside = s.inside;
      ends = s.ends;
    })

pub no_section : (name : List ℕ) (lines : List NumberedLine) → section_of name lines ≡ None → AllByRecursion (λ line. IsInstanceLine line name → ⊥) lines
no_section name [] h = tt
no_section name (line ∷ lines) h = cases_bool (is_name name (name_of (words_of line.bytes))) _
    (λ e. let here : Some (before_title lines) ≡ None = rw e at h in absurd (cc))
    (λ e. let later : section_of name lines ≡ None = rw e at h in (named_not line name e, no_section name lines later))

found_again : (name : List ℕ) (before : List NumberedLine) (title : NumberedLine) (section after : List NumberedLine)
    → AllByRecursion (λ line. IsInstanceLine line name → ⊥) before → IsInstanceLine title name → AllByRecursion IsOtherLine section → EndsSection after
    → section_of name (before ++ (title ∷ (section ++ after))) ≡ Some section
found_again name [] title section after first named inside ends = rw (named_again title name named) (ap (λ (s : List NumberedLine). Some s) (ends_again section after inside ends))
found_again name (line ∷ before) title section after first named inside ends = rw (unnamed_again line name first.0) (found_again name before title section after first.1 named inside ends)

pub section_again : (name : List ℕ) (lines section : List NumberedLine) → IsSection lines name section → section_of name lines ≡ Some section
section_again name lines section s = ap (section_of name) s.whole ∙ found_again name s.before s.title section s.after s.first s.named s.inside s.ends

pub no_section_again : (name : List ℕ) (lines : List NumberedLine) → AllByRecursion (λ line. IsInstanceLine line name → ⊥) lines → section_of name lines ≡ None
no_section_again name [] h = refl
no_section_again name (line ∷ lines) h = rw (unnamed_again line name h.0) (no_section_again name lines h.1)

-- ---- an instance in its section

pub record SectionRead (name : List ℕ) (lines : List NumberedLine) (content : Content) : Type 0 where
  pub section : List NumberedLine
  pub rest : List NumberedLine
  pub is_section : IsSection lines name section
  pub reads : Reads section content.description (length content.shop.routes) content.shop rest

pub section_content : (name : List ℕ) (lines : List NumberedLine) (content : Content) → section_at name lines ≡ Ok content → SectionRead name lines content
unfolding section_at
section_content name lines content h = cases_option (section_of name lines) _
    (λ e. let wrong : failed {A = Content} NoInstance ≡ done content = rw e at h in absurd (cc))
    (λ section e.
    let here : (draft_at section >>= λ draft. done draft.0) ≡ done content = rw e at h in
    let a = bind_ok (draft_at section) (λ draft. done draft.0) content here in
    let r = draft_is section a.0 a.1 in
    record {
      section = section;
      rest = a.0.1;
      is_section = section_is name lines section e;
      reads = subst (λ (c : Content). Reads section c.description (length c.shop.routes) c.shop a.0.1) (ok_is a.0.0 content a.2) r;
    })

pub section_content_again : (name : List ℕ) (lines section : List NumberedLine) (description : List ℕ) (shop : JobShop) (rest : List NumberedLine)
    → IsSection lines name section → Reads section description (length shop.routes) shop rest → section_at name lines ≡ Ok (record { description = description; shop = shop })
unfolding section_at
section_content_again name lines section description shop rest s r =
    rw (section_again name lines section s, draft_again section description shop rest r) refl

-- ---- its faults

pub record SectionCut (name : List ℕ) (lines : List NumberedLine) (fault : OrFault) : Type 0 where
  pub section : List NumberedLine
  pub is_section : IsSection lines name section
  pub cut : IsCutShort section fault

pub section_fault : (name : List ℕ) (lines : List NumberedLine) (fault : OrFault) → section_at name lines ≡ Err fault → LacksName lines name fault ⊎ SectionCut name lines fault
unfolding section_at
section_fault name lines fault h = cases_option (section_of name lines) _
    (λ e.
    let none : failed {A = Content} NoInstance ≡ failed fault = rw e at h in
    inl (record { none = no_section name lines e; is = sym (err_is {A = Content} NoInstance fault none) }))
    (λ section e.
    let here : (draft_at section >>= λ draft. done draft.0) ≡ failed fault = rw e at h in
    bind_err (draft_at section) (λ draft. done draft.0) fault here
    (λ e2. inr (record { section = section; is_section = section_is name lines section e; cut = draft_fault section fault e2 }))
    (λ x e2 e3. absurd cc))

pub section_lacks : (name : List ℕ) (lines : List NumberedLine) (fault : OrFault) → LacksName lines name fault → section_at name lines ≡ Err fault
unfolding section_at
section_lacks name lines fault h = rw (no_section_again name lines h.none) (ap (λ (f : OrFault). failed {A = Content} f) (sym h.is))

pub section_cut : (name : List ℕ) (lines section : List NumberedLine) (fault : OrFault) → IsSection lines name section → IsCutShort section fault → section_at name lines ≡ Err fault
unfolding section_at
section_cut name lines section fault s h = rw (section_again name lines section s, cut_again section fault h) refl
