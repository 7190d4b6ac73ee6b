-- What lines call visits.
use Rattle.std.specs.Prelude.{ℕ, List}
use Rattle.shop_base.specs.Shop.{JobShop, shown_step}
use Rattle.people_names.specs.{NameBooks.NameBook, Words.visit_word}
use Rattle.plan_explain.specs.declared.labels.Label.{Label}

-- the label of job j's visit by step k
abbrev pub label_of : JobShop → ℕ → ℕ → Label
label_of shop j k = record { job = j; step = shown_step shop k }

-- its word: the job's, and in a shop with recirculation the step behind it
abbrev pub label_word : NameBook → Label → List ℕ
label_word names label = visit_word names label.job label.step
