-- Plans that are loaded one after another.
use Rattle.std.proofs.Common.{◌≡◌, ℕ, ◌+◌, ◌<◌, List, [], ◌∷◌, Option, None, Some, Result, Ok, Err, length, inl, inr, refl, subst, sym, ap, ◌∙◌, map, drop, get_or, string_bytes, String, Global}
use Rattle.std.proofs.lemmas.List.{at_drop_more}
use Rattle.shop_base.specs.Shop.{JobShop}
use Rattle.orlib_read.specs.declared.named.Named.{Named}
use Rattle.plan_verifier.specs.Accepted.{VerifiedPlan}
use Rattle.command_answers.specs.declared.cells.Cells.{Cells}
use Rattle.command_answers.specs.declared.command_fault.CommandFault.{CommandFault}
use Rattle.command_answers.specs.declared.loading.Loaded.{Loaded}
use Rattle.command_answers.specs.Checks.{accepted_in}
use Rattle.command_answers.specs.declared.command_fault.CommandFault.TheVariants.{Memory}
use Rattle.command_answers.specs.{Parsed.IsInstanceRead, Steps.IsOrMemory}
use Rattle.command_answers.specs.Cells.{AddsCell, AfterPlan, IsAdded, IsReadBefore, IsShopRead, LoadsFor, LoadsOne, LoadsEach}

-- what the plans that are left come to, all plans come to
abbrev pub Carries : {W : Type 0} → (W → List ℕ → Result (List ℕ) CommandFault → W → Type 0) → List ℕ → Option (List ℕ) → List VerifiedPlan → List (List ℕ) → W → List (List ℕ) → W → Type 0
Carries {W} gives text name cells left now all start = (outcome : Result Cells CommandFault) (after : W) → LoadsEach gives text name cells left now outcome after
    → LoadsEach gives text name [] all start outcome after

-- an accepted plan stands after these, and then there is the rest
after_none : {W : Type 0} (cells more : List VerifiedPlan) (rest : List VerifiedPlan → W → Result Cells CommandFault → W → Type 0) (asked : Result VerifiedPlan Loaded) (mid : W)
    (outcome : Result Cells CommandFault) (after : W) → IsAdded cells asked None more → rest more mid outcome after → AfterPlan cells rest asked mid outcome after
after_none cells more rest (Ok v) mid outcome after same so = inl (subst (λ cs. rest cs mid outcome after) same so)
after_none cells more rest (Err other) mid outcome after wrong so = absurd wrong

-- any other ends all
after_some : {W : Type 0} (cells more : List VerifiedPlan) (rest : List VerifiedPlan → W → Result Cells CommandFault → W → Type 0) (asked : Result VerifiedPlan Loaded) (mid : W)
    (outcome : Result Cells CommandFault) → IsAdded cells asked (Some outcome) more → AfterPlan cells rest asked mid outcome mid
after_some cells more rest (Ok v) mid outcome memory = inr (memory, refl)
after_some cells more rest (Err other) mid outcome line = (line, refl)

module _ {W : Type 0} (gives : W → List ℕ → Result (List ℕ) CommandFault → W → Type 0) (text : List ℕ) (name : Option (List ℕ)) (cells : List VerifiedPlan) where
  -- what comes of a plan that is loaded
  pub one_added : (path : List ℕ) (before mid : W) (came : Result Loaded CommandFault) (loaded : Loaded) (ended : Option (Result Cells CommandFault)) (more : List VerifiedPlan) → came ≡ Ok loaded
      → LoadsOne gives text name path before came mid → IsAdded cells (accepted_in loaded) ended more → AddsCell gives text name cells path before ended more mid
  one_added path before mid came loaded None more is one added = λ paths outcome after so. record {
    came = Ok loaded;
    mid = mid;
    is = subst (λ (r : Result Loaded CommandFault). LoadsOne gives text name path before r mid) is one;
    goes_on = after_none cells more (λ cs. LoadsEach gives text name cs paths) (accepted_in loaded) mid outcome after added so;
  }
  one_added path before mid came loaded (Some outcome) more is one added = λ paths. record {
    came = Ok loaded;
    mid = mid;
    is = subst (λ (r : Result Loaded CommandFault). LoadsOne gives text name path before r mid) is one;
    goes_on = after_some cells more (λ cs. LoadsEach gives text name cs paths) (accepted_in loaded) mid outcome added;
  }

  -- what comes of one that isn't
  pub none_added : (path : List ℕ) (before mid : W) (came : Result Loaded CommandFault) (fault : CommandFault) → came ≡ Err fault → LoadsOne gives text name path before came mid
      → AddsCell gives text name cells path before (Some (Err fault)) cells mid
  none_added path before mid came fault is one = λ paths. record {
    came = Err fault;
    mid = mid;
    is = subst (λ (r : Result Loaded CommandFault). LoadsOne gives text name path before r mid) is one;
    goes_on = (refl, refl);
  }

  module _ (paths : List (String Global)) (i : ℕ) (now : W) (all : List (List ℕ)) (start : W) (carries : Carries gives text name cells (map string_bytes (drop i paths)) now all start)
      (item : String Global) (inside : i < length paths) (is : item ≡ get_or paths i item) (path : List ℕ) (same_path : path ≡ string_bytes item)
      (ended : Option (Result Cells CommandFault)) (more : List VerifiedPlan) (mid : W) (adds : AddsCell gives text name cells path now ended more mid) where
    -- what the plans from this one on come to, all plans come to
    from_here : (outcome : Result Cells CommandFault) (after : W) → LoadsEach gives text name cells (path ∷ map string_bytes (drop (i + 1) paths)) now outcome after
        → LoadsEach gives text name [] all start outcome after
    from_here outcome after so =
        let left : drop i paths ≡ item ∷ drop (i + 1) paths = at_drop_more (λ x. x) paths i item inside ∙ ap (λ x. x ∷ drop (i + 1) paths) (sym is) in
        carries outcome after (subst (λ ps. LoadsEach gives text name cells (map string_bytes ps) now outcome after) (sym left)
        (subst (λ p. LoadsEach gives text name cells (p ∷ map string_bytes (drop (i + 1) paths)) now outcome after) same_path so))

    -- so do those after this one
    pub carried_on : ended ≡ None → Carries gives text name more (map string_bytes (drop (i + 1) paths)) mid all start
    carried_on none = λ outcome after so. from_here outcome after
        (subst (λ (e : Option (Result Cells CommandFault)). AddsCell gives text name cells path now e more mid) none adds (map string_bytes (drop (i + 1) paths)) outcome after so)

    -- this one ends all
    pub ended_here : (outcome : Result Cells CommandFault) → ended ≡ Some outcome → LoadsEach gives text name [] all start outcome mid
    ended_here outcome some = from_here outcome mid
        (subst (λ (e : Option (Result Cells CommandFault)). AddsCell gives text name cells path now e more mid) some adds (map string_bytes (drop (i + 1) paths)))

-- ---- the instance, which is read once

memory_read : (text : List ℕ) (name : Option (List ℕ)) → IsInstanceRead text name (Err Memory)
memory_read text name = record { found = tt; only = λ description shop parses. refl; fault = tt; first = λ fault first. tt }

-- the shop that was read is given once more, unless memory ran out
pub read_again : (text : List ℕ) (name : Option (List ℕ)) (read : JobShop) (one : Result JobShop CommandFault) → IsReadBefore text name (Some read) → IsOrMemory (λ (s : JobShop). s ≡ read) one → IsShopRead text name one
read_again text name read (Ok shop) (named, is, same) again = (Ok named, is, same ∙ sym again)
read_again text name read (Err fault) before memory = (Err Memory, memory_read text name, sym memory)

-- one that is read now is read before the next plan
pub read_before : (text : List ℕ) (name : Option (List ℕ)) (shop : JobShop) → IsShopRead text name (Ok shop) → IsReadBefore text name (Some shop)
read_before text name shop (Ok named, is, same) = (named, is, same)
read_before text name shop (Err fault, is, wrong) = absurd wrong

-- its routes are laid where others can read them, unless memory ran out
pub now_shared : (text : List ℕ) (name : Option (List ℕ)) (named : Named) (shared : JobShop) → IsInstanceRead text name (Ok named) → shared ≡ named.shop → IsShopRead text name (Ok shared)
now_shared text name named shared is same = (Ok named, is, sym same)

pub not_shared : (text : List ℕ) (name : Option (List ℕ)) (fault : CommandFault) → fault ≡ Memory → IsShopRead text name (Err fault)
not_shared text name fault memory = (Err Memory, memory_read text name, sym memory)

pub not_read : (text : List ℕ) (name : Option (List ℕ)) (fault : CommandFault) → IsInstanceRead text name (Err fault) → IsShopRead text name (Err fault)
not_read text name fault is = (Err fault, is, refl)

module _ {W : Type 0} (gives : W → List ℕ → Result (List ℕ) CommandFault → W → Type 0) (text : List ℕ) (name : Option (List ℕ)) (path : List ℕ) (before : W) where
  -- what comes of a plan for the shop of the instance
  pub loads_for : (shop : JobShop) (outcome : Result Loaded CommandFault) (after : W) → IsShopRead text name (Ok shop) → LoadsFor gives shop path before outcome after → LoadsOne gives text name path before outcome after
  loads_for shop outcome after (Ok named, is, same) loads = record {
    came = Ok named;
    mid = before;
    is = (is, refl);
    goes_on = subst (λ (s : JobShop). LoadsFor gives s path before outcome after) (sym same) loads;
  }
  loads_for shop outcome after (Err fault, is, wrong) loads = absurd wrong

  -- and where that can't be read
  pub loads_none : (fault : CommandFault) → IsShopRead text name (Err fault) → LoadsOne gives text name path before (Err fault) before
  loads_none fault (Ok named, is, wrong) = absurd wrong
  loads_none fault (Err same, is, which) = record { came = Err same; mid = before; is = (is, refl); goes_on = (ap Err (sym which), refl) }
