-- What the reader's answer says of a text, where its checks answer the first fault of the table.
use Rattle.std.proofs.Common.{◌≡◌, ◌≢◌, ◌⊎◌, ℕ, List, [], ◌∷◌, Result, Ok, Err, IfOk, IfErr, refl, sym, ap, ◌∙◌, inl, inr}
use Rattle.std.proofs.lemmas.Option.{same_Some}
use Rattle.toml.specs.Data.{Members}
use Rattle.people_names.specs.declared.names_fault.NamesFault.{NamesFault}
use Rattle.people_names.specs.declared.names_fault.NamesFault.TheVariants.{NotToml, UnknownKey, NotArray, NotText, BadName, NameTwice, BadClock, TooManyNames, Memory}
use Rattle.people_names.specs.NameBooks.{NameBook}
use Rattle.people_names.specs.Documents.{IsNamesDocument, IsNamesText, IsFirstNamesFault, IsNoNamesDocument, IsFirstOf}
use Rattle.people_names.specs.Answers.{IsReadNames, IsRefusedNames, Passes}
use Rattle.people_names.specs.Faults.{faults_of}
use Rattle.people_names.specs.Reading.{names_in}

-- a text has one table
one_table : (text : List ℕ) (t u : Members) → IsNamesDocument text t → IsNamesDocument text u → t ≡ u
one_table text t u h k = same_Some t u (sym h.read ∙ k.read)

first_same : (faults : List NamesFault) (a b : NamesFault) → IsFirstOf faults a → IsFirstOf faults b → a ≡ b
first_same [] a b h k = absurd h
first_same (x ∷ faults) a b h k = sym h ∙ k

-- a fault is out of memory, or it isn't
memory_or_not : (fault : NamesFault) → (fault ≡ Memory) ⊎ (fault ≢ Memory)
memory_or_not NotToml = inr (λ e. cc)
memory_or_not (UnknownKey key) = inr (λ e. cc)
memory_or_not (NotArray key) = inr (λ e. cc)
memory_or_not (NotText key place) = inr (λ e. cc)
memory_or_not (BadName key place) = inr (λ e. cc)
memory_or_not (NameTwice key place) = inr (λ e. cc)
memory_or_not BadClock = inr (λ e. cc)
memory_or_not (TooManyNames key) = inr (λ e. cc)
memory_or_not Memory = inl refl

module _ (jobs machines : ℕ) where
  -- ---- the text is a document with this table

  pub found : (text : List ℕ) (t : Members) (result : Result NameBook NamesFault) → IsNamesDocument text t
      → Passes (faults_of jobs machines t) result → IfOk result (λ names. names ≡ names_in t) → IfOk result (λ names. IsNamesText jobs machines text names)
  found text t (Ok names) document none is = record { table = t; document = document; right = none; are = is }
  found text t (Err fault) document first is = tt

  pub only : (text : List ℕ) (t : Members) (result : Result NameBook NamesFault) → IsNamesDocument text t
      → Passes (faults_of jobs machines t) result → IfOk result (λ names. names ≡ names_in t) → (names : NameBook) → IsNamesText jobs machines text names → IsReadNames result names
  only text t (Ok answered) document none is names h =
      let same = one_table text t h.table document h.document in
      is ∙ ap names_in same ∙ sym h.are
  only text t (Err fault) document first is names h =
      let same = one_table text t h.table document h.document in
      let none : faults_of jobs machines t ≡ [] = rw same h.right in
      elim (memory_or_not fault) [
        | inl memory ↦ memory
        | inr other ↦ absurd (rw none at (first other))
      ]

  pub fault_is_first : (text : List ℕ) (t : Members) (result : Result NameBook NamesFault) → IsNamesDocument text t
      → Passes (faults_of jobs machines t) result → IfErr result (λ fault. fault ≢ Memory → IsFirstNamesFault jobs machines text fault)
  fault_is_first text t (Ok names) document none = tt
  fault_is_first text t (Err fault) document first = λ other. inr (record { table = t; document = document; is = first other })

  pub first_is_fault : (text : List ℕ) (t : Members) (result : Result NameBook NamesFault) → IsNamesDocument text t
      → Passes (faults_of jobs machines t) result → (fault : NamesFault) → IsFirstNamesFault jobs machines text fault → IsRefusedNames result fault
  first_is_fault text t (Ok names) document none fault h = elim h [
    | inl without ↦ without.none t document
    | inr some ↦
        let same = one_table text t some.table document some.document in
        let listed = some.is in
        rw (← same, none) at listed
  ]
  first_is_fault text t (Err answered) document first fault h = elim h [
    | inl without ↦ absurd (without.none t document)
    | inr some ↦ λ other.
        let same = one_table text t some.table document some.document in
        first_same (faults_of jobs machines t) answered fault (first other) (rw same some.is)
  ]

  -- ---- the text is no document

  pub refused_names : (text : List ℕ) (answered : NamesFault) → (answered ≢ Memory → IsNoNamesDocument text answered) → (names : NameBook) → IsNamesText jobs machines text names → answered ≡ Memory
  refused_names text answered refused names h =
      elim (memory_or_not answered) [
        | inl memory ↦ memory
        | inr other ↦ absurd ((refused other).none h.table h.document)
      ]

  pub refused_fault : (text : List ℕ) (answered : NamesFault) → (answered ≢ Memory → IsNoNamesDocument text answered) → (fault : NamesFault) → IsFirstNamesFault jobs machines text fault → answered ≢ Memory → answered ≡ fault
  refused_fault text answered refused fault h = λ other. elim h [
    | inl without ↦ (refused other).is ∙ sym without.is
    | inr some ↦ absurd ((refused other).none some.table some.document)
  ]
