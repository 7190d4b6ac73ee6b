-- The Gantt text of a list of entries.
use Rattle.std.specs.Prelude.{ℕ, ◌+◌, ◌*◌, ◌/◌, ◌%◌, nat_lt, nat_le, Bool, true, ◌&&◌, if◌then◌else◌, List, [], ◌++◌, map, flat_map, codes, decimal, slice_index_or, Option, None, Some}
use Rattle.std.specs.List.{range_with_len}
use Rattle.cell_tables.specs.declared.entry.Entry.{Entry}
use Rattle.people_names.specs.NameBooks.{NameBook}
use Rattle.people_names.specs.Words.{job_word, machine_word, moment_word}
use Rattle.run_gantt.specs.declared.bar.TheConstants.{MAX_COLUMNS}
use Rattle.run_gantt.specs.declared.visits.LoggedVisit.{LoggedVisit}
use Rattle.run_gantt.specs.Visits.{first_of, last_entry_moment, visits_to}

-- how long a column of a bar is, so that at most MAX_COLUMNS columns reach to the last moment
abbrev pub scale_for : ℕ → ℕ
scale_for last = last / MAX_COLUMNS + 1

-- how many columns of this length reach to the last moment
abbrev pub columns_for : ℕ → ℕ → ℕ
columns_for last scale = last / scale + 1

-- whether moment t is before a moment that may never come
abbrev pub is_before : ℕ → Option ℕ → Bool
is_before t None = true
is_before t (Some moment) = nat_lt t moment

-- the last digit of a job's number
abbrev pub digit_of : ℕ → ℕ
digit_of j = 48 + j % 10

-- what a visit shows at moment t, if the job is there: its digit, and `=` once its operation has ended
abbrev pub sign_of : ℕ → LoggedVisit → Option ℕ
sign_of t visit =
    if nat_le visit.enter t && is_before t visit.leave
    then Some (if is_before t visit.finish then digit_of visit.job else 61)
    else None

-- a column: what is shown in it, else `.`
abbrev pub column_sign : Option ℕ → ℕ
column_sign None = 46
column_sign (Some sign) = sign

-- a bar: each column shows the first visit that shows something at the column's first moment
abbrev pub bar_of : ℕ → ℕ → List LoggedVisit → List ℕ
bar_of scale columns visits = map (λ c. column_sign (first_of (sign_of (c * scale)) visits)) (range_with_len 0 columns)

module _ (names : NameBook) where
  -- a moment, or `?` for one that isn't recorded
  abbrev pub moment_or_unknown : Option ℕ → List ℕ
  moment_or_unknown None = codes "?"
  moment_or_unknown (Some moment) = moment_word names moment

  -- ` JOB:ENTER-FINISH-LEAVE`
  abbrev pub gantt_visit_word : LoggedVisit → List ℕ
  gantt_visit_word visit = codes " " ++ job_word names visit.job ++ codes ":" ++ moment_word names visit.enter ++ codes "-" ++ moment_or_unknown visit.finish ++ codes "-" ++ moment_or_unknown visit.leave

  -- the two lines of machine m: its visits, and its bar
  abbrev pub visit_lines : ℕ → ℕ → ℕ → List LoggedVisit → List ℕ
  visit_lines scale columns m visits =
      codes "machine " ++ machine_word names m ++ flat_map gantt_visit_word visits ++ codes "\nbar " ++ bar_of scale columns visits ++ codes "\n"

  -- those of the visits that the entries record
  abbrev pub machine_lines : ℕ → ℕ → List Entry → ℕ → List ℕ
  machine_lines scale columns entries m = visit_lines scale columns m (visits_to m entries)

  -- those of the visits in a row for each machine
  abbrev pub row_lines : ℕ → ℕ → List (List LoggedVisit) → ℕ → List ℕ
  row_lines scale columns rows m = visit_lines scale columns m (slice_index_or rows m [])

  -- the Gantt text of entries, for so many machines
  abbrev pub gantt_text : ℕ → List Entry → List ℕ
  gantt_text machines entries =
      let last = last_entry_moment entries in
      let scale = scale_for last in
      codes "scale " ++ decimal scale ++ codes "\n" ++ flat_map (machine_lines scale (columns_for last scale) entries) (range_with_len 0 machines)
