-- The lines of all machines, one after another.
use Rattle.std.proofs.Common.{◌≡◌, ℕ, zero, suc, ◌+◌, ◌<◌, List, [], ◌∷◌, ◌++◌, get_or, refl, sym, ap, subst, add-one, codes, decimal, ◌∙◌, arith}
use Rattle.std.specs.Prelude.{flat_map}
use Rattle.std.specs.List.{range_with_len}
use Rattle.std.proofs.lemmas.List.{map-id, flat_map_more}
use Rattle.std.proofs.lemmas.List.FromFn.{map-range_with_len_more}
use Rattle.cell_tables.specs.declared.entry.Entry.{Entry}
use Rattle.people_names.specs.NameBooks.{NameBook}
use Rattle.run_gantt.specs.declared.visits.LoggedVisit.{LoggedVisit}
use Rattle.run_gantt.specs.Visits.{last_entry_moment, machine_visits}
use Rattle.run_gantt.specs.GanttText.{scale_for, columns_for, visit_lines, machine_lines, row_lines, gantt_text}
use Rattle.run_gantt.proofs.MachineVisits.{machine_visits-at}

range-more : (n : ℕ) → range_with_len 0 (n + 1) ≡ range_with_len 0 n ++ n ∷ []
range-more n =
    sym (map-id (range_with_len 0 (n + 1))) ∙ map-range_with_len_more (λ x. x) 0 n n (omega arith) ∙ ap (λ (l : List ℕ). l ++ n ∷ []) (map-id (range_with_len 0 n))

-- the lines of one more machine
pub one_more : (lines : ℕ → List ℕ) (start now new : List ℕ) (n : ℕ) → now ≡ start ++ flat_map lines (range_with_len 0 n) → new ≡ now ++ lines n
    → new ≡ start ++ flat_map lines (range_with_len 0 (n + 1))
one_more lines start now new n so_far pushed =
    pushed
    ∙ ap (λ (l : List ℕ). l ++ lines n) so_far
    ∙ flat_map_more lines start (range_with_len 0 n) n
    ∙ ap (λ (l : List ℕ). start ++ flat_map lines l) (sym (range-more n))

-- lines that are the same at each machine
same_lines : (f g : ℕ → List ℕ) (n : ℕ) → ((m : ℕ) → m < n → f m ≡ g m) → flat_map f (range_with_len 0 n) ≡ flat_map g (range_with_len 0 n)
same_lines f g zero same = refl
same_lines f g (suc n) same =
    let before = same_lines f g n (λ m below. same m (omega arith)) in
    let one : flat_map f (range_with_len 0 n) ++ f n ≡ flat_map f (range_with_len 0 (n + 1)) = one_more f [] (flat_map f (range_with_len 0 n)) _ n refl refl in
    let other : flat_map g (range_with_len 0 n) ++ g n ≡ flat_map g (range_with_len 0 (n + 1)) = one_more g [] (flat_map g (range_with_len 0 n)) _ n refl refl in
    subst (λ (k : ℕ). flat_map f (range_with_len 0 k) ≡ flat_map g (range_with_len 0 k)) (add-one n)
    (sym one ∙ ap (λ (l : List ℕ). l ++ f n) before ∙ ap (λ (l : List ℕ). flat_map g (range_with_len 0 n) ++ l) (same n (omega arith)) ∙ other)

-- the lines of the rows are those of the entries
pub rows-drawn : (names : NameBook) (n scale columns : ℕ) (entries : List Entry) (rows : List (List LoggedVisit)) → rows ≡ machine_visits n entries
    → flat_map (row_lines names scale columns rows) (range_with_len 0 n) ≡ flat_map (machine_lines names scale columns entries) (range_with_len 0 n)
rows-drawn names n scale columns entries rows is = same_lines (row_lines names scale columns rows) (machine_lines names scale columns entries) n λ m inside.
    ap (visit_lines names scale columns m) (ap (λ (l : List (List LoggedVisit)). get_or l m []) is ∙ machine_visits-at n m entries inside)

-- the scale and the lines of the rows are written one after another
pub text-drawn : (names : NameBook) (n count last scale columns : ℕ) (entries : List Entry) (rows : List (List LoggedVisit)) (none one two three four : List ℕ)
    → count ≡ n → last ≡ last_entry_moment entries → scale ≡ scale_for last → columns ≡ columns_for last scale → rows ≡ machine_visits n entries
    → none ≡ [] → one ≡ none ++ codes "scale " → two ≡ one ++ decimal scale → three ≡ two ++ codes "\n"
    → four ≡ three ++ flat_map (row_lines names scale columns rows) (range_with_len 0 count) → four ≡ gantt_text names n entries
text-drawn names n count last scale columns entries rows none one two three four is_count is_last is_scale is_columns is_rows is_none is_one is_two is_three is_four =
    let long : ℕ = scale_for (last_entry_moment entries) in
    rw (is_four, is_three, is_two, is_one, is_none, is_columns, is_scale, is_last, is_count)
    (ap (λ (l : List ℕ). codes "scale " ++ decimal long ++ codes "\n" ++ l) (rows-drawn names n long (columns_for (last_entry_moment entries) long) entries rows is_rows))
