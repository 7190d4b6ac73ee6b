-- What a log gets of a text, byte by byte.
use Rattle.std.proofs.Common.{◌≡◌, ◌≢◌, ℕ, ◌≤◌, ◌<◌, ◌==◌, true, false, List, [], ◌∷◌, ◌++◌, length, take, inl, inr, refl, sym, ap, ◌∙◌, subst, arith, append_assoc, append-nil, length-append}
use Rattle.std.proofs.lemmas.{Bool.{cases_Bool, ne_eqb}, List.{length-take, take-append-le, take_all}}
use Rattle.std.specs.List.{onto_first, flat_map}
use Rattle.run_journal.specs.LoggedLines.{is_logged, logged_line, fed_lines, logged}
use Rattle.run_journal.specs.Selecting.{added, Gets, IsFront, line_after, line_behind, more, open_line, undecided}
use Rattle.run_journal.proofs.Starts.{logged-stays, logged-decided}

pub logged_line-more : (line : List ℕ) (byte : ℕ) → logged_line (line ++ byte ∷ []) ≡ logged_line line ++ more line byte
logged_line-more line byte = elim (cases_Bool (is_logged line)) [
  | inl is ↦ rw is (let kept = logged-stays line (byte ∷ []) is in rw kept refl)
  | inr not ↦ rw not refl
]

-- ---- lines, and bytes

-- these bytes before the first of some lines
abbrev join : List ℕ → List (List ℕ) → List (List ℕ)
join front [] = front ∷ []
join front (line ∷ lines) = (front ++ line) ∷ lines

join-onto : (front : List ℕ) (b : ℕ) (lines : List (List ℕ)) → join front (onto_first b lines) ≡ join (front ++ b ∷ []) lines
join-onto front b [] = refl
join-onto front b (line ∷ lines) = ap (λ l. l ∷ lines) (sym (append_assoc front (b ∷ []) line))

join-none : (lines : List (List ℕ)) → flat_map logged_line (join [] lines) ≡ flat_map logged_line lines
join-none [] = refl
join-none (line ∷ lines) = refl

lines_as_bytes : (front text : List ℕ) → flat_map logged_line (join front (fed_lines text)) ≡ logged_line front ++ added front text
lines_as_bytes front [] = refl
lines_as_bytes front (b ∷ text) = elim (cases_Bool (b == 10)) [
  | inl feed ↦ rw feed (
      ap (λ l. l ++ flat_map logged_line (fed_lines text)) (logged_line-more front b)
      ∙ ap (λ l. (logged_line front ++ more front b) ++ l) (sym (join-none (fed_lines text)) ∙ lines_as_bytes [] text)
      ∙ append_assoc (logged_line front) (more front b) (added [] text)
      )
  | inr other ↦ rw other (
      ap (λ lines. flat_map logged_line lines) (join-onto front b (fed_lines text))
      ∙ lines_as_bytes (front ++ b ∷ []) text
      ∙ ap (λ l. l ++ added (front ++ b ∷ []) text) (logged_line-more front b)
      ∙ append_assoc (logged_line front) (more front b) (added (front ++ b ∷ []) text)
      )
]

pub added_all : (text : List ℕ) → logged text ≡ added [] text
added_all text = sym (join-none (fed_lines text)) ∙ lines_as_bytes [] text

added-append : (line xs ys : List ℕ) → added line (xs ++ ys) ≡ added line xs ++ added (line_after line xs) ys
added-append line [] ys = refl
added-append line (x ∷ xs) ys = ap (λ l. more line x ++ l) (added-append (line_behind line x) xs ys) ∙ sym (append_assoc (more line x) (added (line_behind line x) xs) (added (line_after (line_behind line x) xs) ys))

pub line_after-append : (line xs ys : List ℕ) → line_after line (xs ++ ys) ≡ line_after (line_after line xs) ys
line_after-append line [] ys = refl
line_after-append line (x ∷ xs) ys = line_after-append (line_behind line x) xs ys

-- more bytes only add to what a log gets
pub logged-more : (text bytes : List ℕ) → logged (text ++ bytes) ≡ logged text ++ added (open_line text) bytes
logged-more text bytes = added_all (text ++ bytes) ∙ added-append [] text bytes ∙ ap (λ l. l ++ added (open_line text) bytes) (sym (added_all text))

pub logged-front : (text bytes : List ℕ) → (rest : List ℕ) × (logged (text ++ bytes) ≡ logged text ++ rest)
logged-front text bytes = (added (open_line text) bytes, logged-more text bytes)

-- ---- the first bytes of a line

-- they have decided, and one byte more changes nothing
pub front_stays : (front line : List ℕ) (byte : ℕ) → is_logged front ≡ true → IsFront front line → IsFront front (line ++ byte ∷ []) × (byte ∷ [] ≡ more line byte)
front_stays front line byte is (same, first) =
    let logged_too : is_logged line ≡ true = sym same ∙ is in
    ((is ∙ sym (logged-stays line (byte ∷ []) logged_too), λ not. absurd (cc (sym is ∙ not))), rw logged_too refl)

-- or they are all of it yet
pub front_grows : (front line : List ℕ) (byte : ℕ) → is_logged front ≡ false → length front < 7 → IsFront front line → IsFront (front ++ byte ∷ []) (line ++ byte ∷ []) × (logged_line (front ++ byte ∷ []) ≡ more line byte)
front_grows front line byte not few (same, first) =
    let whole : line ≡ front = all_of line (first not) in
    let longer : front ++ byte ∷ [] ≡ line ++ byte ∷ [] = ap (λ (l : List ℕ). l ++ byte ∷ []) (sym whole) in
    ((ap is_logged longer, λ still. longer ∙ sym (take_all 7 (line ++ byte ∷ []) (omega (arith, few, ap length whole, length-append line (byte ∷ []))))), ap logged_line longer ∙ (rw (sym same ∙ not) refl))
  where
    all_of : (line : List ℕ) → front ≡ take 7 line → line ≡ front
    all_of line is = sym (take_all 7 line (omega (arith, few, ap length is, length-take 7 line))) ∙ sym is

-- or the seventh has decided that a log doesn't get the line
pub front_decided : (front line : List ℕ) (byte : ℕ) → is_logged front ≡ false → length front ≡ 7 → IsFront front line → IsFront front (line ++ byte ∷ []) × ([] ≡ more line byte)
front_decided front line byte not all (same, first) =
    let long : 7 ≤ length line = omega (arith, all, ap length (first not), length-take 7 line) in
    let kept : is_logged (line ++ byte ∷ []) ≡ is_logged line = logged-decided line (byte ∷ []) long in
    let passed : is_logged line ≡ false = sym same ∙ not in
    ((same ∙ sym kept, λ still. first not ∙ sym (take-append-le 7 line (byte ∷ []) long)), rw passed (rw (kept ∙ passed) refl))

-- ---- more bytes

-- a log gets this by a byte of any line with this front
abbrev GetsByte : List ℕ → ℕ → List ℕ → List ℕ → List ℕ → Type 0
GetsByte front byte front_now events events_now = (line : List ℕ) → IsFront front line → IsFront front_now (line ++ byte ∷ []) × (events_now ≡ events ++ more line byte)

-- which ends the line
pub byte_ends : (front mid end events after : List ℕ) (byte : ℕ) → byte ≡ 10 → end ≡ [] → GetsByte front byte mid events after → Gets front (byte ∷ []) end events after
byte_ends front mid end events after byte feed none gets line is =
    let ended : line_behind line byte ≡ [] = ap (line_behind line) feed in (
      subst (IsFront end) (sym ended) (subst (λ (f : List ℕ). IsFront f []) (sym none) (refl, λ no. refl)),
      (gets line is).1 ∙ ap (λ (l : List ℕ). events ++ l) (sym (append-nil (more line byte))),
    )

-- or doesn't
pub byte_stays : (front mid events after : List ℕ) (byte : ℕ) → byte ≢ 10 → GetsByte front byte mid events after → Gets front (byte ∷ []) mid events after
byte_stays front mid events after byte other gets line is =
    let stays : line_behind line byte ≡ line ++ byte ∷ [] = rw (ne_eqb byte 10 other) refl in
    (subst (IsFront mid) (sym stays) (gets line is).0, (gets line is).1 ∙ ap (λ (l : List ℕ). events ++ l) (sym (append-nil (more line byte))))

pub few_undecided : (front : List ℕ) → length front ≤ 7 → undecided front ≤ 7
few_undecided front few = elim (cases_Bool (is_logged front)) [
  | inl is ↦ rw is (omega arith)
  | inr not ↦ rw not few
]

pub gets-none : (front events : List ℕ) → Gets front [] front events events
gets-none front events line is = (is, sym (append-nil events))

pub gets-more : (front xs middle ys end events between after : List ℕ) → Gets front xs middle events between → Gets middle ys end between after → Gets front (xs ++ ys) end events after
gets-more front xs middle ys end events between after first second line is =
    let one = first line is in
    let two = second (line_after line xs) one.0 in (
      subst (IsFront end) (sym (line_after-append line xs ys)) two.0,
      two.1 ∙ ap (λ l. l ++ added (line_after line xs) ys) one.1 ∙ append_assoc events (added line xs) (added (line_after line xs) ys) ∙ ap (λ l. events ++ l) (sym (added-append line xs ys)),
    )
