-- What a node ahead waits for first, in words.
use Rattle.std.specs.Prelude.{ℕ, ◌-◌, Option, None, Some, List, [], ◌∷◌, ◌++◌, codes, decimal}
use Rattle.shop_base.specs.{declared.node.Node.Node, NodeText.node_text, Shop.JobShop}
use Rattle.people_names.specs.{NameBooks.NameBook, Words.job_word, Words.machine_word, Words.moment_word}
use Rattle.plan_explain.specs.Labels.{label_of, label_word}
use Rattle.plan_explain.specs.Arcs.{words_and}
use Rattle.plan_verifier.specs.declared.node_bound.Hold.{Hold}
use Rattle.plan_verifier.specs.declared.node_bound.Hold.TheVariants.{Awaited, Arrived, Worked, Done, Cleaned}
use Rattle.plan_verifier.specs.declared.node_bound.NodeBound.{NodeBound}

-- `release of job J`, `job J has arrived`, `job J on machine M since S for P`, `job J done on machine M` or `machine M cleaned since S for C`, of what holds up node v; the visit that the job is in is that by the step before v
abbrev pub hold_words : NameBook → JobShop → Node → Hold → List (List ℕ)
hold_words names shop v (Awaited job) = codes "release of job " ∷ job_word names job ∷ []
hold_words names shop v (Arrived job) = codes "job " ∷ job_word names job ∷ codes " has arrived" ∷ []
hold_words names shop v (Worked job machine from nominal) =
    codes "job " ∷ label_word names (label_of shop job (v.place - 1)) ∷ codes " on machine " ∷ machine_word names machine ∷ codes " since " ∷ moment_word names from ∷ codes " for " ∷ decimal nominal ∷ []
hold_words names shop v (Done job machine) = codes "job " ∷ label_word names (label_of shop job (v.place - 1)) ∷ codes " done on machine " ∷ machine_word names machine ∷ []
hold_words names shop v (Cleaned machine from clean) =
    codes "machine " ∷ machine_word names machine ∷ codes " cleaned since " ∷ moment_word names from ∷ codes " for " ∷ decimal clean ∷ []

-- ` overdue since D`, where it was due before the present moment
abbrev pub overdue_since_words : NameBook → Option ℕ → List ℕ
overdue_since_words names None = []
overdue_since_words names (Some due) = codes " overdue since " ++ moment_word names due

-- `T B WORDS`, of a node with this bound
abbrev pub node_bound_line : NameBook → JobShop → Node → NodeBound → List ℕ
node_bound_line names shop v bound =
    words_and (moment_word names bound.moment ∷ codes " " ∷ node_text v ∷ codes " " ∷ []) (words_and (hold_words names shop v bound.holds) (overdue_since_words names bound.overdue ++ codes "\n"))
