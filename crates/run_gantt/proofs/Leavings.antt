-- Tables of what is recorded first: at first no entry is noted, and in the end all are.
use Rattle.std.proofs.Common.{◌≡◌, ℕ, List, [], Option, None, length, drop, sym, ap, subst, ◌∙◌, arith}
use Rattle.std.proofs.lemmas.List.{ext_get_or}
use Rattle.std.proofs.lemmas.List.FromFn.{length-map-range_with_len, get_or-map-range_with_len}
use Rattle.cell_tables.specs.declared.entry.Entry.{Entry}
use Rattle.run_gantt.specs.Visits.{first_of}
use Rattle.std.proofs.Math.Seq.{drop-length}
use Rattle.run_gantt.specs.FirstMoments.{AreFirstMoments, AreLeavingsAhead}
use Rattle.run_gantt.specs.LeavingsSoFar.{leaving_in, leavings_so_far}

pub none_noted : (moment_in : ℕ → Entry → Option ℕ) (n m : ℕ) (ends : List (Option ℕ)) (entries : List Entry) → n ≡ m → ((t : ℕ → Entry → Option ℕ) → AreFirstMoments t n ends [])
    → AreFirstMoments moment_in m ends (drop (length entries) entries)
none_noted moment_in n m ends entries same none = rw (drop-length entries) (subst (λ (k : ℕ). AreFirstMoments moment_in k ends []) same (none moment_in))

-- the leavings of all jobs
pub all_leavings : (n : ℕ) (leavings : List (Option ℕ)) (entries : List Entry) (place : ℕ) → place ≡ 0 → AreLeavingsAhead n leavings (drop place entries) → leavings ≡ leavings_so_far n entries
all_leavings n leavings entries place none are =
    let of : ℕ → Option ℕ = λ j. first_of (leaving_in j) entries in
    let whole : drop place entries ≡ entries = ap (λ (k : ℕ). drop k entries) none in
    ext_get_or None leavings (leavings_so_far n entries) (are.all ∙ sym (length-map-range_with_len of 0 n))
    (λ j below.
    are.first j below
    ∙ ap (λ (l : List Entry). first_of (leaving_in j) l) whole
    ∙ sym (get_or-map-range_with_len of 0 n j j None (omega (arith, below, are.all)) (omega arith)))
