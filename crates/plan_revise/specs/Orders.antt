-- Orders that lose the last place of a job, or have it last, at the machines of some steps.
use Rattle.std.specs.Prelude.{ℕ, ◌==◌, if◌then◌else◌, List, [], ◌∷◌, ◌++◌, slice_index_or, slice_set}
use Rattle.std.specs.List.{list_any}
use Rattle.shop_base.specs.declared.shop.Step.{Step}

-- an order without the last place of job j
abbrev pub without_last : ℕ → List ℕ → List ℕ
without_last j [] = []
without_last j (i ∷ order) =
    if list_any (λ other. other == j) order
    then i ∷ without_last j order
    else if i == j then order else i ∷ order

-- an order with job j last
abbrev pub then_last : ℕ → List ℕ → List ℕ
then_last j order = order ++ j ∷ []

-- the orders, with that of the machine of each of these steps changed
abbrev pub changed_at : (List ℕ → List ℕ) → List Step → List (List ℕ) → List (List ℕ)
changed_at f [] orders = orders
changed_at f (step ∷ steps) orders = changed_at f steps (slice_set orders step.machine (f (slice_index_or orders step.machine [])))

-- the orders, with job j taken out of the last of its places in that of the machine of each of these steps
abbrev pub removed : ℕ → List Step → List (List ℕ) → List (List ℕ)
removed j steps orders = changed_at (without_last j) steps orders

-- the orders, with job j last in those of the machines of these steps
abbrev pub put_last : ℕ → List Step → List (List ℕ) → List (List ℕ)
put_last j steps orders = changed_at (then_last j) steps orders
