-- The names of the jobs with one more, as a text would have them.
use Rattle.std.proofs.Common.{◌≡◌, Bool, ℕ, ◌+◌, List, [], ◌∷◌, ◌++◌, None, length, refl, sym, ap, ◌∙◌, append-nil, append_assoc, arith, inl, inr}
use Rattle.std.proofs.lemmas.Bool.{cases_Bool}
use Rattle.toml.specs.Data.{string}
use Rattle.people_names.specs.declared.keys.NamesKey.{NamesKey}
use Rattle.people_names.specs.declared.keys.NamesKey.TheVariants.{Jobs}
use Rattle.people_names.specs.declared.names_fault.NamesFault.{NamesFault}
use Rattle.people_names.specs.AddedNames.{AreJobNames, text_items, why_unnamed}
use Rattle.people_names.specs.Faults.{each_faults, is_among, name_faults}
use Rattle.people_names.specs.NameTexts.{is_name}

-- the faults of texts and of one behind them
pub faults_behind : (key : NamesKey) (place end : ℕ) (before names all : List (List ℕ)) (name : List ℕ) → end ≡ place + length names → all ≡ before ++ names
    → each_faults key place before (text_items (names ++ name ∷ [])) ≡ each_faults key place before (text_items names) ++ name_faults key end all (string name)
faults_behind key place end before [] all name at are =
    let here : end ≡ place = omega (arith, at) in
    let those : all ≡ before = are ∙ append-nil before in
    rw (here, those) (append-nil (name_faults key place before (string name)))
faults_behind key place end before (other ∷ names) all name at are =
    let rest = faults_behind key (place + 1) end (before ++ other ∷ []) names all name (omega (arith, at)) (are ∙ sym (append_assoc before (other ∷ []) names)) in
    ap (λ (faults : List NamesFault). name_faults key place before (string other) ++ faults) rest
    ∙ sym (append_assoc (name_faults key place before (string other)) _ _)

-- a name that a job gets has no fault as one behind the others
pub fine_behind : (place : ℕ) (names : List (List ℕ)) (all : Bool) (name : List ℕ) → why_unnamed names all name ≡ None → name_faults Jobs place names (string name) ≡ []
fine_behind place names jobs name h = elim (cases_Bool (is_name name)) [
  | inr isnt ↦ let found = rw isnt at h in cc
  | inl is ↦ elim (cases_Bool (is_among name names)) [
    | inl among ↦ let found = rw (is, among) at h in cc
    | inr other ↦ rw (is, other) refl
  ]
]

pub job_names_added : (names : List (List ℕ)) (all : Bool) (name : List ℕ) → why_unnamed names all name ≡ None → AreJobNames names → AreJobNames (names ++ name ∷ [])
job_names_added names all name fine are =
    faults_behind Jobs 0 (length names) [] names names name (omega (arith)) refl
    ∙ ap (λ (faults : List NamesFault). faults ++ name_faults Jobs (length names) names (string name)) are
    ∙ fine_behind (length names) names all name fine
