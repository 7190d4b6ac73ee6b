-- What a reader's answer says of a text, where its checks answer the first fault of the table.
use Rattle.std.proofs.Common.{◌≡◌, ◌≢◌, ◌⊎◌, ℕ, List, [], ◌∷◌, Result, Ok, Err, IfOk, IfErr, refl, sym, ap, ◌∙◌, inl, inr}
use Rattle.std.proofs.lemmas.Option.{same_Some}
use Rattle.shop_base.specs.Plan.{ShopPlan}
use Rattle.toml.specs.Data.{Members}
use Rattle.plan_text.specs.declared.plan_fault.PlanFault.{PlanFault}
use Rattle.plan_text.specs.declared.plan_fault.PlanFault.TheVariants.{NotToml, BadVersion, UnknownKey, MissingKey, NotArray, NotWhole, OutOfRange, Memory, NotReadBack}
use Rattle.plan_text.specs.Documents.{IsDocument, IsPlanText, IsFirstPlanFault, IsNoDocument}
use Rattle.plan_text.specs.Answers.{IsReadPlan, IsRefusedPlan, IsFirstOf, Passes}
use Rattle.plan_text.specs.Listing.{faults_of}
use Rattle.plan_text.specs.Reading.{plan_in}
use Rattle.plan_text.proofs.Tables.{table_found, table_only}
use Rattle.plan_text.proofs.Turns.{listed_first, first_listed}

-- a text has one table
pub one_table : (text : List ℕ) (t u : Members) → IsDocument text t → IsDocument text u → t ≡ u
one_table text t u h k = same_Some t u (sym h.read ∙ k.read)

first_same : (faults : List PlanFault) (a b : PlanFault) → IsFirstOf faults a → IsFirstOf faults b → a ≡ b
first_same [] a b h k = absurd h
first_same (x ∷ faults) a b h k = sym h ∙ k

-- a fault is out of memory, or it isn't
memory_or_not : (fault : PlanFault) → (fault ≡ Memory) ⊎ (fault ≢ Memory)
memory_or_not NotToml = inr (λ e. cc)
memory_or_not BadVersion = inr (λ e. cc)
memory_or_not UnknownKey = inr (λ e. cc)
memory_or_not (MissingKey key) = inr (λ e. cc)
memory_or_not (NotArray key row) = inr (λ e. cc)
memory_or_not (NotWhole key row place) = inr (λ e. cc)
memory_or_not (OutOfRange key row place) = inr (λ e. cc)
memory_or_not Memory = inl refl
memory_or_not NotReadBack = inr (λ e. cc)

-- ---- the text is a document with this table

pub found : (text : List ℕ) (t : Members) (result : Result ShopPlan PlanFault) → IsDocument text t
    → Passes (faults_of t) result → IfOk result (λ plan. plan ≡ plan_in t) → IfOk result (λ plan. IsPlanText text plan)
found text t (Ok plan) document none is = record { table = t; document = document; is = rw is (table_found t none) }
found text t (Err fault) document first is = tt

pub only : (text : List ℕ) (t : Members) (result : Result ShopPlan PlanFault) → IsDocument text t
    → Passes (faults_of t) result → IfOk result (λ plan. plan ≡ plan_in t) → (plan : ShopPlan) → IsPlanText text plan → IsReadPlan result plan
only text t (Ok answered) document none is plan h =
    let same = one_table text t h.table document h.document in
    let p = table_only h.table plan h.is in
    is ∙ ap plan_in same ∙ sym p.1
only text t (Err fault) document first is plan h =
    let same = one_table text t h.table document h.document in
    let p = table_only h.table plan h.is in
    let none : faults_of t ≡ [] = rw same p.0 in
    elim (memory_or_not fault) [
      | inl memory ↦ memory
      | inr other ↦ absurd (rw none at (first other))
    ]

pub fault_is_first : (text : List ℕ) (t : Members) (result : Result ShopPlan PlanFault) → IsDocument text t
    → Passes (faults_of t) result → IfErr result (λ fault. fault ≢ Memory → IsFirstPlanFault text fault)
fault_is_first text t (Ok plan) document none = tt
fault_is_first text t (Err fault) document first = λ other. inr (record { table = t; document = document; is = listed_first t fault (first other) })

pub first_is_fault : (text : List ℕ) (t : Members) (result : Result ShopPlan PlanFault) → IsDocument text t
    → Passes (faults_of t) result → (fault : PlanFault) → IsFirstPlanFault text fault → IsRefusedPlan result fault
first_is_fault text t (Ok plan) document none fault h = elim h [
  | inl without ↦ without.none t document
  | inr some ↦
      let same = one_table text t some.table document some.document in
      let listed = first_listed some.table fault some.is in
      rw (← same, none) at listed
]
first_is_fault text t (Err answered) document first fault h = elim h [
  | inl without ↦ absurd (without.none t document)
  | inr some ↦ λ other.
      let same = one_table text t some.table document some.document in
      first_same (faults_of t) answered fault (first other) (rw same (first_listed some.table fault some.is))
]

-- ---- the text is no document

pub refused_plan : (text : List ℕ) (answered : PlanFault) → (answered ≢ Memory → IsNoDocument text answered) → (plan : ShopPlan) → IsPlanText text plan → answered ≡ Memory
refused_plan text answered refused plan h =
    elim (memory_or_not answered) [
      | inl memory ↦ memory
      | inr other ↦ absurd ((refused other).none h.table h.document)
    ]

pub refused_fault : (text : List ℕ) (answered : PlanFault) → (answered ≢ Memory → IsNoDocument text answered) → (fault : PlanFault) → IsFirstPlanFault text fault → answered ≢ Memory → answered ≡ fault
refused_fault text answered refused fault h = λ other. elim h [
  | inl without ↦ (refused other).is ∙ sym without.is
  | inr some ↦ absurd ((refused other).none some.table some.document)
]
