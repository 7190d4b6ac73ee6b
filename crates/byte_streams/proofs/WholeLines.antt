-- The lines of a whole input, and those that have ended in it.
use Rattle.std.proofs.Common.{◌≡◌, ℕ, suc, ◌+◌, ◌-◌, ◌<◌, ◌≤◌, cond, List, [], ◌∷◌, ◌++◌, Option, Some, None, length, take, map, filter, refl, sym, ap, ◌∙◌, arith, append_assoc, append-nil, length-append, leb, nat_eq, length-take-le}
use Rattle.std.specs.List.{onto_first, ends_with}
use Rattle.std.proofs.Math.Seq.{take-append_seam}
use Rattle.std.proofs.lemmas.Bool.{le-leb, lt-leb, leb-true, leb-false}
use Rattle.text_lines.specs.Lines.{is_line_feed, parts_of, without_return, lines_of}
use Rattle.byte_streams.specs.Lines.{within_limit, input_lines, complete_lines}
use Rattle.byte_streams.specs.Holding.{joined, held_line, ended, held_after}
use Rattle.byte_streams.specs.Reading.{last_line}
use Rattle.text_lines.proofs.EndedLines.{take_map}
use Rattle.byte_streams.proofs.Held.{cases_bool, joined-fits, joined-over}

-- ---- what is held of the first bytes of a line

-- what is held: all of them, none where there are too many
abbrev kept : List ℕ → Option (List ℕ)
kept raw = cond (leb (length raw) 64) (Some raw) None

kept-some : (raw : List ℕ) → length raw ≤ 64 → kept raw ≡ Some raw
kept-some raw fits = rw (le-leb (length raw) 64 fits) refl

kept-none : (raw : List ℕ) → 64 < length raw → kept raw ≡ None
kept-none raw over = rw (lt-leb (length raw) 64 over) refl

joined-kept : (raw more : List ℕ) → joined (kept raw) more ≡ kept (raw ++ more)
joined-kept raw more = cases_bool (leb (length raw) 64) _
    (λ short. let le : length raw ≤ 64 = leb-true _ _ short in
    ap (λ h. joined h more) (kept-some raw le) ∙ cases_bool (leb (length more) (64 - length raw)) _
    (λ fits. let more_le : length more ≤ 64 - length raw = leb-true _ _ fits in
    let all : length (raw ++ more) ≤ 64 = omega (arith, more_le, le, length-append raw more) in
    joined-fits raw more more_le ∙ sym (kept-some (raw ++ more) all))
    (λ over. let more_gt : 64 - length raw < length more = leb-false _ _ over in
    let all : 64 < length (raw ++ more) = omega (arith, more_gt, le, length-append raw more) in
    joined-over raw more more_gt ∙ sym (kept-none (raw ++ more) all)))
    (λ long. let gt : 64 < length raw = leb-false _ _ long in
    let all : 64 < length (raw ++ more) = omega (arith, gt, length-append raw more) in
    ap (λ h. joined h more) (kept-none raw gt) ∙ sym (kept-none (raw ++ more) all))

within_limit-over : (line : List ℕ) → 63 < length line → within_limit line ≡ None
within_limit-over line over = rw (lt-leb (length line) 63 over) refl

-- at most one byte is cut off a line
length-without_return : (raw : List ℕ) → length raw ≤ length (without_return raw) + 1
length-without_return raw = cases_bool (ends_with nat_eq raw (13 ∷ [])) _
    (λ returned. rw returned (omega (arith, length-take-le (length raw - 1) raw (omega arith))))
    (λ plain. rw plain (omega arith))

held_line-kept : (raw : List ℕ) → held_line (kept raw) ≡ within_limit (without_return raw)
held_line-kept raw = cases_bool (leb (length raw) 64) _
    (λ short. ap held_line (kept-some raw (leb-true _ _ short)))
    (λ long. let gt : 64 < length raw = leb-false _ _ long in
    let over : 63 < length (without_return raw) = omega (arith, gt, length-without_return raw) in
    ap held_line (kept-none raw gt) ∙ sym (within_limit-over (without_return raw) over))

-- ---- the last line

pub last_line-some : (held : Option (List ℕ)) → (held ≡ Some [] → ⊥) → last_line held ≡ held_line held ∷ []
last_line-some None some_held = refl
last_line-some (Some []) some_held = absurd (some_held refl)
last_line-some (Some (b ∷ bytes)) some_held = refl

last_line-kept : (b : ℕ) (raw : List ℕ) → last_line (kept (b ∷ raw)) ≡ within_limit (without_return (b ∷ raw)) ∷ []
last_line-kept b raw = cases_bool (leb (length (b ∷ raw)) 64) _
    (λ short. let is_some = kept-some (b ∷ raw) (leb-true _ _ short) in
    ap last_line is_some ∙ ap (λ l. l ∷ []) (ap held_line (sym is_some) ∙ held_line-kept (b ∷ raw)))
    (λ long. let is_none = kept-none (b ∷ raw) (leb-false _ _ long) in
    ap last_line is_none ∙ ap (λ l. l ∷ []) (ap held_line (sym is_none) ∙ held_line-kept (b ∷ raw)))

-- ---- the parts of a text behind some bytes

-- the bytes before the first part
abbrev put_before : List ℕ → List (List ℕ) → List (List ℕ)
put_before [] [] = []
put_before (b ∷ raw) [] = (b ∷ raw) ∷ []
put_before raw (part ∷ parts) = (raw ++ part) ∷ parts

put_before-nil : (parts : List (List ℕ)) → put_before [] parts ≡ parts
put_before-nil [] = refl
put_before-nil (part ∷ parts) = refl

put_before-part : (raw part : List ℕ) (parts : List (List ℕ)) → put_before raw (part ∷ parts) ≡ (raw ++ part) ∷ parts
put_before-part [] part parts = refl
put_before-part (b ∷ raw) part parts = refl

put_before-onto : (raw : List ℕ) (b : ℕ) (parts : List (List ℕ)) → put_before (raw ++ b ∷ []) parts ≡ put_before raw (onto_first b parts)
put_before-onto [] b [] = refl
put_before-onto (c ∷ raw) b [] = refl
put_before-onto raw b (part ∷ parts) =
    put_before-part (raw ++ b ∷ []) part parts ∙ ap (λ l. l ∷ parts) (append_assoc raw (b ∷ []) part) ∙ sym (put_before-part raw (b ∷ part) parts)

-- lines as they are answered
abbrev answered : List (List ℕ) → List (Option (List ℕ))
answered parts = map within_limit (map without_return parts)

-- ---- all lines: those that have ended, and the last

all_lines : (bytes raw : List ℕ) → ended (kept raw) bytes ++ last_line (held_after (kept raw) bytes) ≡ answered (put_before raw (parts_of is_line_feed bytes))
all_lines [] [] = refl
all_lines [] (b ∷ raw) = last_line-kept b raw
all_lines (b ∷ bytes) raw = cases_bool (is_line_feed b) _
    (λ feed.
    let here : held_line (kept raw) ≡ within_limit (without_return (raw ++ [])) = held_line-kept raw ∙ ap (λ l. within_limit (without_return l)) (sym (append-nil raw)) in
    let rest : ended (Some []) bytes ++ last_line (held_after (Some []) bytes) ≡ answered (parts_of is_line_feed bytes) =
    all_lines bytes [] ∙ ap answered (put_before-nil (parts_of is_line_feed bytes)) in
    rw feed (ap (λ l. held_line (kept raw) ∷ l) rest ∙ ap (λ l. l ∷ answered (parts_of is_line_feed bytes)) here
    ∙ sym (ap answered (put_before-part raw [] (parts_of is_line_feed bytes)))))
    (λ inside.
    rw inside (ap (λ h. ended h bytes ++ last_line (held_after h bytes)) (joined-kept raw (b ∷ [])) ∙ all_lines bytes (raw ++ b ∷ [])
    ∙ ap answered (put_before-onto raw b (parts_of is_line_feed bytes))))

pub input_lines-ended : (text : List ℕ) → ended (Some []) text ++ last_line (held_after (Some []) text) ≡ input_lines text
input_lines-ended text = all_lines text [] ∙ ap answered (put_before-nil (parts_of is_line_feed text))

length-feeds : (bytes : List ℕ) (held : Option (List ℕ)) → length (filter is_line_feed bytes) ≡ length (ended held bytes)
length-feeds [] held = refl
length-feeds (b ∷ bytes) held = cases_bool (is_line_feed b) _
    (λ feed. rw feed (ap suc (length-feeds bytes (Some []))))
    (λ inside. rw inside (length-feeds bytes (joined held (b ∷ []))))

pub complete_lines-ended : (text : List ℕ) → ended (Some []) text ≡ complete_lines text
complete_lines-ended text =
    sym (ap (λ l. take (length (filter is_line_feed text)) l) (sym (input_lines-ended text))
    ∙ ap (λ (n : ℕ). take n (ended (Some []) text ++ last_line (held_after (Some []) text))) (length-feeds text (Some []))
    ∙ take-append_seam (ended (Some []) text) (last_line (held_after (Some []) text)))
    ∙ take_map within_limit (length (filter is_line_feed text)) (lines_of text)
