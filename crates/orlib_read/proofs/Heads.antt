-- The lines before the job lines.
use Rattle.std.proofs.Common.{◌≡◌, ℕ, List, [], ◌∷◌, ◌++◌, Option, Some, None, Ok, Err, refl, sym, ap, subst}
use Rattle.std.specs.List.{AllByRecursion}
use Rattle.orlib_read.specs.declared.named.Sizes.{Sizes}
use Rattle.orlib_read.specs.declared.or_fault.OrFault.{OrFault}
use Rattle.orlib_read.specs.declared.or_fault.OrFault.TheVariants.{NoSizes, BadSizes}
use Rattle.text_lines.specs.Lines.{NumberedLine}
use Rattle.orlib_read.specs.Words.{words_of}
use Rattle.orlib_read.specs.Kinds.{IsAnyInstanceLine, IsOtherLine}
use Rattle.orlib_read.specs.Instance.{Opens}
use Rattle.orlib_read.specs.Faults.{IsSizesFault}
use Rattle.orlib_read.specs.Reading.{Head, is_instance_line, without_titles, sizes_of, worded_sizes_of, head_at}
use Rattle.orlib_read.proofs.Parts.{cases_bool}
use Rattle.orlib_read.proofs.Numbers.{done, failed, ok_is, err_is, any_title, any_title_again, other_line, other_line_again, size_line_is, size_line_again, no_size_line_is, no_size_line_again, worded_line_is, worded_line_again, no_worded_line_is, no_worded_line_again, size_is_other}

-- no line is left, or one that is no instance line comes first
abbrev pub IsBare : List NumberedLine → Type 0
IsBare [] = Unit {0}
IsBare (line ∷ lines) = IsOtherLine line

-- the instance lines that are passed over
pub record Passes (lines : List NumberedLine) : Type 0 where
  pub titles : List NumberedLine
  pub whole : lines ≡ titles ++ without_titles lines
  pub passed : AllByRecursion IsAnyInstanceLine titles
  pub bare : IsBare (without_titles lines)

pub passes : (lines : List NumberedLine) → Passes lines
passes [] = record { titles = []; whole = refl; passed = tt; bare = tt }
passes (line ∷ lines) = cases_bool (is_instance_line line) _
    (λ e.
    let rest = passes lines in
    record { titles = line ∷ rest.titles; whole = rw e (ap (λ (all : List NumberedLine). line ∷ all) rest.whole); passed = (any_title line e, rest.passed); bare = rw e rest.bare })
    (λ e. record { titles = []; whole = rw e refl; passed = tt; bare = rw e (other_line line e) })

bare_stays : (lines : List NumberedLine) → IsBare lines → without_titles lines ≡ lines
bare_stays [] h = refl
bare_stays (line ∷ lines) h = rw (other_line_again line h) refl

pub without_again : (titles rest : List NumberedLine) → AllByRecursion IsAnyInstanceLine titles → IsBare rest → without_titles (titles ++ rest) ≡ rest
without_again [] rest h bare = bare_stays rest bare
without_again (title ∷ titles) rest h bare = rw (any_title_again title h.0) (without_again titles rest h.1 bare)

-- ---- the head

abbrev pub Opened : Type 0
Opened = Head × List NumberedLine

-- an opening, and the lines behind it
pub record HeadRead (lines : List NumberedLine) (x : Head × List NumberedLine) : Type 0 where
  pub opening : List NumberedLine
  pub whole : lines ≡ opening ++ x.1
  pub opens : Opens opening x.0.description x.0.sizes

pub cases_option : {A : Type 0} (o : Option A) (P : Type 0) → (o ≡ None → P) → ((x : A) → o ≡ Some x → P) → P
cases_option None P first second = first refl
cases_option (Some x) P first second = second x refl

pub head_is : (lines : List NumberedLine) (x : Opened) → IsBare lines → head_at lines ≡ Ok x → HeadRead lines x
head_is [] x bare h = absurd cc
head_is (first ∷ []) x bare h = cases_option (sizes_of (words_of first.bytes)) _
    (λ e. let wrong : failed {A = Opened} NoSizes ≡ done x = rw e at h in absurd (cc))
    (λ s e.
    let made : Opened = (record { description = []; sizes = s }, []) in
    let ok : done made ≡ done x = rw e at h in
    subst (λ (y : Opened). HeadRead (first ∷ []) y) (ok_is made x ok) (record { opening = first ∷ []; whole = refl; opens = (refl, (size_line_is first s e).0, (size_line_is first s e).1) }))
head_is (first ∷ line ∷ rest) x bare h = cases_option (sizes_of (words_of first.bytes)) _
    (λ e. cases_option (worded_sizes_of (words_of line.bytes)) _
    (λ f. let wrong : failed {A = Opened} (BadSizes line.number) ≡ done x = rw (e, f) at h in absurd (cc))
    (λ s f.
    let made : Opened = (record { description = first.bytes; sizes = s }, rest) in
    let ok : done made ≡ done x = rw (e, f) at h in
    subst (λ (y : Opened). HeadRead (first ∷ line ∷ rest) y) (ok_is made x ok)
    (record { opening = first ∷ line ∷ []; whole = refl; opens = (refl, record { no_instance_line = bare; no_size_line = no_size_line_is first e }, worded_line_is line s f) })))
    (λ s e.
    let made : Opened = (record { description = []; sizes = s }, line ∷ rest) in
    let ok : done made ≡ done x = rw e at h in
    subst (λ (y : Opened). HeadRead (first ∷ line ∷ rest) y) (ok_is made x ok) (record { opening = first ∷ []; whole = refl; opens = (refl, (size_line_is first s e).0, (size_line_is first s e).1) }))

pub head_fault : (lines : List NumberedLine) (fault : OrFault) → IsBare lines → head_at lines ≡ Err fault → IsSizesFault lines fault
head_fault [] fault bare h = sym (err_is {A = Opened} NoSizes fault h)
head_fault (first ∷ []) fault bare h = cases_option (sizes_of (words_of first.bytes)) _
    (λ e.
    let wrong : failed {A = Opened} NoSizes ≡ failed fault = rw e at h in
    (record { no_instance_line = bare; no_size_line = no_size_line_is first e }, sym (err_is {A = Opened} NoSizes fault wrong)))
    (λ s e.
    let made : Opened = (record { description = []; sizes = s }, []) in
    let ok : done made ≡ failed fault = rw e at h in absurd (cc))
head_fault (first ∷ line ∷ rest) fault bare h = cases_option (sizes_of (words_of first.bytes)) _
    (λ e. cases_option (worded_sizes_of (words_of line.bytes)) _
    (λ f.
    let wrong : failed {A = Opened} (BadSizes line.number) ≡ failed fault = rw (e, f) at h in
    (record { no_instance_line = bare; no_size_line = no_size_line_is first e }, no_worded_line_is line f, sym (err_is {A = Opened} (BadSizes line.number) fault wrong)))
    (λ s f.
    let made : Opened = (record { description = first.bytes; sizes = s }, rest) in
    let ok : done made ≡ failed fault = rw (e, f) at h in absurd (cc)))
    (λ s e.
    let made : Opened = (record { description = []; sizes = s }, line ∷ rest) in
    let ok : done made ≡ failed fault = rw e at h in absurd (cc))

-- ---- and back

pub opens_bare : (opening rest : List NumberedLine) (description : List ℕ) (sizes : Sizes) → Opens opening description sizes → IsBare (opening ++ rest)
opens_bare [] rest description sizes h = absurd h
opens_bare (size ∷ []) rest description sizes h = size_is_other size sizes.jobs sizes.machines h.2
opens_bare (first ∷ size ∷ []) rest description sizes h = h.1.no_instance_line
opens_bare (first ∷ size ∷ other ∷ lines) rest description sizes h = absurd h

pub head_again : (opening rest : List NumberedLine) (description : List ℕ) (sizes : Sizes) → Opens opening description sizes
    → head_at (opening ++ rest) ≡ Ok (record { description = description; sizes = sizes }, rest)
head_again [] rest description sizes h = absurd h
head_again (size ∷ []) rest description sizes h = rw (size_line_again size sizes (h.1, h.2))
    (ap (λ (d : List ℕ). done {A = Opened} (record { description = d; sizes = sizes }, rest)) (sym h.0))
head_again (first ∷ size ∷ []) rest description sizes h = rw (no_size_line_again first h.1.no_size_line, worded_line_again size sizes h.2)
    (ap (λ (d : List ℕ). done {A = Opened} (record { description = d; sizes = sizes }, rest)) (sym h.0))
head_again (first ∷ size ∷ other ∷ lines) rest description sizes h = absurd h

pub sizes_fault_bare : (rest : List NumberedLine) (fault : OrFault) → IsSizesFault rest fault → IsBare rest
sizes_fault_bare [] fault h = tt
sizes_fault_bare (first ∷ []) fault h = h.0.no_instance_line
sizes_fault_bare (first ∷ line ∷ rest) fault h = h.0.no_instance_line

pub sizes_fault_again : (rest : List NumberedLine) (fault : OrFault) → IsSizesFault rest fault → head_at rest ≡ Err fault
sizes_fault_again [] fault h = ap (λ (f : OrFault). failed {A = Opened} f) (sym h)
sizes_fault_again (first ∷ []) fault h = rw (no_size_line_again first h.0.no_size_line) (ap (λ (f : OrFault). failed {A = Opened} f) (sym h.1))
sizes_fault_again (first ∷ line ∷ rest) fault h =
    rw (no_size_line_again first h.0.no_size_line, no_worded_line_again line h.1) (ap (λ (f : OrFault). failed {A = Opened} f) (sym h.2))
