-- The jobs that stay, told by a mark for each job, and what is left of lists without the others.
use Rattle.std.specs.Prelude.{ℕ, List, [], ◌∷◌, Bool, false, map, filter, slice_index_or, if◌then◌else◌}
use Rattle.shop_base.specs.Plan.{count_below}

-- whether job j stays; a job without a mark doesn't
abbrev pub stays : List Bool → ℕ → Bool
stays marks j = slice_index_or marks j false

-- the new number of job j: how many of the jobs below it stay
abbrev pub new_number : List Bool → ℕ → ℕ
new_number marks j = count_below (stays marks) j

-- of a list with something for each job, what it has for those that stay
abbrev pub staying : {A : Type 0} → List Bool → List A → List A
staying [] xs = []
staying (b ∷ bs) [] = []
staying (b ∷ bs) (x ∷ xs) = if b then x ∷ staying bs xs else staying bs xs

-- of a list of jobs those that stay, by their new numbers
abbrev pub renumbered : List Bool → List ℕ → List ℕ
renumbered marks js = map (new_number marks) (filter (stays marks) js)
