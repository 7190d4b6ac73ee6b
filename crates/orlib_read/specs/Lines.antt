-- The text that is written for an instance.
use Rattle.std.specs.Prelude.{ℕ, if◌then◌else◌, List, [], ◌∷◌, ◌++◌, length, codes, decimal}
use Rattle.std.specs.List.{flat_map}
use Rattle.shop_base.specs.declared.shop.Step.{Step}
use Rattle.shop_base.specs.Shop.{JobShop}

-- the line of a description; none where it has no bytes
abbrev pub description_line : List ℕ → List ℕ
description_line [] = []
description_line (b ∷ bytes) = (b ∷ bytes) ++ codes "\n"

-- the description that is written: one that is empty is `recirculation` in a shop with recirculation, whose size line stands behind a description
abbrev pub written_description : List ℕ → JobShop → List ℕ
written_description [] shop = if shop.recirculates then codes "recirculation" else []
written_description (b ∷ bytes) shop = b ∷ bytes

-- the line of the sizes: the jobs and the machines, and the word for recirculation
abbrev pub sizes_line : JobShop → List ℕ
sizes_line shop = decimal (length shop.routes) ++ (codes " " ++ (decimal shop.machines ++ (if shop.recirculates then codes " recrc\n" else codes "\n")))

-- a step: its machine and its nominal time
abbrev pub step_text : Step → List ℕ
step_text step = decimal step.machine ++ (codes " " ++ decimal step.nominal)

-- further steps of a route, each with a blank before it
abbrev pub more_steps : List Step → List ℕ
more_steps steps = flat_map (λ step. codes " " ++ step_text step) steps

-- the line of a job, with the steps of its route
abbrev pub job_line : List Step → List ℕ
job_line [] = codes "\n"
job_line (step ∷ steps) = step_text step ++ (more_steps steps ++ codes "\n")

-- the lines of the jobs
abbrev pub job_lines : List (List Step) → List ℕ
job_lines routes = flat_map job_line routes

-- the lines of an instance with a description
abbrev pub instance_lines : List ℕ → JobShop → List ℕ
instance_lines description shop = description_line (written_description description shop) ++ (sizes_line shop ++ job_lines shop.routes)
