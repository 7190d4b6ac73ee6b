-- How each job's promise stands, and what is listed of promises that can't be kept, while it is collected.
use Rattle.std.specs.Prelude.{◌≡◌, ◌⊎◌, ℕ, ◌<◌, Bool, true, false, List, [], ◌∷◌, All, AllPairs, Contains, length, slice_index_or}
use Rattle.plan_decide.specs.declared.decided.Excluded.{Excluded}
use Rattle.plan_decide.specs.declared.decided.Excluded.TheVariants.{Alone, Pair, Several}
use Rattle.plan_decide.specs.declared.decided.Exclusions.{Exclusions}
use Rattle.plan_decide.specs.declared.listing.Listing.{Listing}
use Rattle.plan_decide.specs.declared.standing.Standing.{Standing}
use Rattle.plan_decide.specs.declared.standing.Standing.TheVariants.{Unpromised, Late, Doubt}
use Rattle.plan_decide.specs.declared.pairs.Both.{Both}
use Rattle.plan_decide.specs.declared.pairs.Both.TheVariants.{Never, Kept, Open}
use Rattle.plan_decide.specs.declared.promises.Reply.{Reply}
use Rattle.plan_decide.specs.declared.promises.Reply.TheVariants.{Orders, Never as Excluding, Cyclic, Open as Undecided}
use Rattle.plan_decide.specs.Cases.{Case}
use Rattle.plan_decide.specs.Promises.{IsPromised}
use Rattle.plan_decide.specs.Excluding.{AreAllCyclic, AreExcluded, HasPlanFor, IsInDoubt, IsExclusion, ComesBefore, IsNotOf, AreExclusions, NoneIsAlone}

-- how the promise of job j stands
abbrev pub standing_of : List Standing → ℕ → Standing
standing_of standings j = slice_index_or standings j Unpromised

-- what is listed, and whether it is open if any plan is without a cycle
abbrev pub exclusions_of : Listing → Bool → Exclusions
exclusions_of found cycles_open = record { listed = found.listed; pairs_open = found.pairs_open; cycles_open = cycles_open }

module _ (t : Case) where
  -- it stands so
  abbrev pub IsStanding : ℕ → Standing → Type 0
  IsStanding j Unpromised = IsPromised t j → ⊥
  IsStanding j Late = IsExclusion t (Alone j)
  IsStanding j Doubt = IsInDoubt t j

  -- the promises of the first n jobs stand so
  pub record AreStandings (n : ℕ) (standings : List Standing) : Type 0 where
    pub count : length standings ≡ n
    pub each : (j : ℕ) → j < n → IsStanding j (standing_of standings j)

  -- what is found of the promises to two jobs is so
  abbrev pub IsBoth : ℕ → ℕ → Both → Type 0
  IsBoth i j Never = AreExcluded t (i ∷ j ∷ [])
  IsBoth i j Kept = HasPlanFor t (Contains (i ∷ j ∷ []))
  IsBoth i j Open = Unit {0}

  -- the two are listed as a pair, or some plan keeps both promises
  abbrev pub IsPairSettled : List Excluded → ℕ → ℕ → Type 0
  IsPairSettled es i j = ((or_fewer : Bool) × Contains es (Pair i j or_fewer)) ⊎ HasPlanFor t (Contains (i ∷ j ∷ []))

  -- what is found of all promises together
  abbrev pub IsReply : Reply → Type 0
  IsReply (Orders order) = NoneIsAlone t
  IsReply (Excluding found) = AreExclusions t (exclusions_of found true)
  IsReply Cyclic = AreAllCyclic t
  IsReply Undecided = NoneIsAlone t

-- jobs that are late alone, and pairs of jobs in doubt
abbrev pub IsFrom : List Standing → Excluded → Type 0
IsFrom standings (Alone j) = standing_of standings j ≡ Late
IsFrom standings (Pair i j or_fewer) = (standing_of standings i ≡ Doubt) × (standing_of standings j ≡ Doubt)
IsFrom standings (Several js or_fewer) = ⊥

-- two jobs that are in doubt
pub record AreTwoInDoubt (standings : List Standing) : Type 0 where
  pub lesser : ℕ
  pub greater : ℕ
  pub ascending : lesser < greater
  pub doubt : (standing_of standings lesser ≡ Doubt) × (standing_of standings greater ≡ Doubt)

-- so many of the first n jobs are in doubt that one is, or two are
pub record AreCounted (standings : List Standing) (n count : ℕ) : Type 0 where
  pub one : 0 < count → (i : ℕ) × (i < n) × (standing_of standings i ≡ Doubt)
  pub two : 1 < count → AreTwoInDoubt standings

-- two jobs in doubt before i and j are listed neither alone nor as a pair
pub record IsLeftBefore (standings : List Standing) (i j : ℕ) (es : List Excluded) : Type 0 where
  pub two : AreTwoInDoubt standings
  pub before : (two.lesser < i) ⊎ ((two.lesser ≡ i) × (two.greater < j))
  pub unlisted : All (IsNotOf two.lesser two.greater) es

-- several jobs
abbrev pub IsSeveral : Excluded → Type 0
IsSeveral (Alone j) = ⊥
IsSeveral (Pair i j or_fewer) = ⊥
IsSeveral (Several js or_fewer) = Unit {0}

module _ (t : Case) (standings : List Standing) where
  -- such jobs that exclude each other, in order, and all of them come before this one
  pub record AreListedBefore (next : Excluded) (es : List Excluded) : Type 0 where
    pub each : All (IsExclusion t) es
    pub from : All (IsFrom standings) es
    pub order : AllPairs ComesBefore es
    pub before : All (λ e. ComesBefore e next) es

  -- of the first n jobs, each that is late alone is listed
  pub record AreAllAlone (n : ℕ) (es : List Excluded) : Type 0 where
    pub listed : AreListedBefore (Alone n) es
    pub alone : (j : ℕ) → j < n → standing_of standings j ≡ Late → Contains es (Alone j)

  -- each job that is late alone is listed, and each pair before i and j that excludes each other, where none is open
  pub record ArePairedTo (i j : ℕ) (found : Listing) : Type 0 where
    pub listed : AreListedBefore (Pair i j false) found.listed.items
    pub alone : (k : ℕ) → standing_of standings k ≡ Late → Contains found.listed.items (Alone k)
    pub settled : found.pairs_open ≡ false → (k l : ℕ) → k < l → (k < i) ⊎ ((k ≡ i) × (l < j)) → standing_of standings k ≡ Doubt → standing_of standings l ≡ Doubt
        → IsPairSettled t found.listed.items k l
    pub left : found.pairs_open ≡ true → IsLeftBefore standings i j found.listed.items
