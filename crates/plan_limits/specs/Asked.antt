-- The nodes ahead of the jobs that are asked for, by number, and what is asked of their moments.
use Rattle.std.specs.Prelude.{◌≡◌, ◌≢◌, ℕ, ◌+◌, ◌-◌, ◌*◌, ◌^◌, ◌<◌, ◌≤◌, ◌⊎◌, List, [], length, slice_index, slice_index_or, Contains, Option, Some, Vec}
use Rattle.std.specs.declared.alloc.Global.{Global}
use Rattle.shop_base.specs.declared.node.Node.{Node}
use Rattle.shop_base.specs.Shop.{step_at}
use Rattle.shop_base.specs.Plan.{clean_in}
use Rattle.shop_base.specs.Cell.{Cell, made}
use Rattle.shop_base.specs.Graph.{node}
use Rattle.shop_base.specs.Vectors.{lists_of}
use Rattle.alt_graph.specs.Evidence.{IsNodeBefore}
use Rattle.alt_graph.specs.Places.{node_at}
use Rattle.arc_choice.specs.declared.question.Arc.{Arc}
use Rattle.arc_choice.specs.declared.question.Pair.{Pair}
use Rattle.arc_choice.specs.declared.question.Question.{Question}
use Rattle.arc_choice.specs.Choices.{Answers, no_arc, no_pair}
use Rattle.plan_bounds.specs.Bounds.{ShopTimes, job_count, route_in, IsVisit}
use Rattle.plan_limits.specs.declared.moments.TheConstants.{FINE}
use Rattle.plan_limits.specs.Stages.{Stage}
use Rattle.plan_limits.specs.Limits.{limit_of}
use Rattle.plan_limits.specs.LimitsLaw.{AreFineMoments, LeaveWithin}

-- the moments of nodes by number
abbrev pub by_number : List Node → (Node → ℕ) → ℕ → ℕ
by_number nodes w n = w (node_at nodes n)

-- number n is followed by its job's next place
pub record IsFollowed (nodes : List Node) (n : ℕ) : Type 0 where
  pub within : n + 1 < length nodes
  pub next : node_at nodes (n + 1) ≡ node (node_at nodes n).job ((node_at nodes n).place + 1)

-- it is the last one, and place k of job j follows it
pub record IsLast (j k : ℕ) (nodes : List Node) (n : ℕ) : Type 0 where
  pub last : n + 1 ≡ length nodes
  pub job : (node_at nodes n).job ≡ j
  pub place : (node_at nodes n).place + 1 ≡ k

-- each row is empty
abbrev pub AreEmpty : List (Vec ℕ Global) → Type 0
AreEmpty rows = (m : ℕ) → slice_index_or (lists_of rows) m [] ≡ []

-- the two arcs between jobs that enter a machine at these numbers: each enters after the other's next place, by a length
abbrev pub pair_between : ℕ → ℕ → ℕ → Pair
pair_between one other n = record { one = record { from = one + 1; to = other; length = n }; other = record { from = other + 1; to = one; length = n } }

-- a moment in fine units and of 64 bits, within the limit of job j where it has one
pub record IsWithinLimit (limits : List (Option ℕ)) (j x : ℕ) : Type 0 where
  pub small : x < 2 ^ 64
  pub within : (n : ℕ) → limit_of limits j ≡ Some n → x < n * FINE + FINE

module _ (t : ShopTimes) (c : Cell) where
  -- the node is of the shop, and ahead
  pub record IsPlace (v : Node) : Type 0 where
    pub job : v.job < job_count t
    pub place : v.place ≤ length (route_in t v.job)
    pub ahead : made c v.job ≤ v.place

  -- nodes before place k of job j are numbered, in their order, and of each of their jobs all up to there
  pub record AreNumberedTo (j k : ℕ) (nodes : List Node) : Type 0 where
    pub inside : (n : ℕ) → n < length nodes → IsPlace (node_at nodes n)
    pub before : (n : ℕ) → n < length nodes → IsNodeBefore (node_at nodes n) (node j k)
    pub sorted : (n l : ℕ) → n < l → l < length nodes → IsNodeBefore (node_at nodes n) (node_at nodes l)
    pub followed : (n : ℕ) → n < length nodes → (node_at nodes n).place < length (route_in t (node_at nodes n).job) → IsFollowed nodes n ⊎ IsLast j k nodes n

  -- all nodes ahead of some jobs are numbered
  abbrev pub AreNumbered : List Node → Type 0
  AreNumbered nodes = AreNumberedTo (job_count t) 0 nodes

  -- the node is that by which its job leaves machine m, on which it is
  pub record IsHeld (m : ℕ) (v : Node) : Type 0 where
    pub place : ℕ
    pub is : v.place ≡ place + 1
    pub visit : IsVisit t m v.job place
    pub next : made c v.job ≡ v.place

  -- the arc from the number by which a job leaves the machine that it is on to one by which it is entered later, as long as its cleaning time
  pub record IsHolderArc (nodes : List Node) (arc : Arc) : Type 0 where
    pub machine : ℕ
    pub leaves : ℕ
    pub enters : ℕ
    pub inside : (leaves < length nodes) × (enters < length nodes)
    pub held : IsHeld machine (node_at nodes leaves)
    pub visit : IsVisit t machine (node_at nodes enters).job (node_at nodes enters).place
    pub is : arc ≡ record { from = leaves; to = enters; length = clean_in t.clean machine * FINE + 1 }

module _ (s : Stage) (nodes : List Node) where
  -- moments of the nodes that aren't after those that fit, whichever they are
  abbrev pub AreFirst : List ℕ → Type 0
  AreFirst first = (n : ℕ) → n < length first → (w : Node → ℕ) → AreFineMoments s w → slice_index first n ≤ by_number nodes w n

  -- moments that aren't before those that fit and leave within the limits
  abbrev pub AreLast : List (Option ℕ) → List ℕ → Type 0
  AreLast limits last = (n : ℕ) → n < length last → (w : Node → ℕ) → AreFineMoments s w → LeaveWithin s limits w → by_number nodes w n ≤ slice_index last n

  -- the question is answered by all moments that fit and leave within the limits
  abbrev pub Asks : List (Option ℕ) → Question → Type 0
  Asks limits q = (w : Node → ℕ) → AreFineMoments s w → LeaveWithin s limits w → Answers q (by_number nodes w)

module _ (t : ShopTimes) (m : ℕ) (v : Node) where
  -- the node's job enters machine m by its place l, and between the two by none
  pub record IsNextVisit (l : ℕ) : Type 0 where
    pub behind : v.place < l
    pub visit : IsVisit t m v.job l
    pub none : (k : ℕ) → v.place < k → k < l → IsVisit t m v.job k → ⊥

  -- behind the node it doesn't enter it
  abbrev pub HasNoNext : Type 0
  HasNoNext = (k : ℕ) → v.place < k → IsVisit t m v.job k → ⊥

module _ (t : ShopTimes) (nodes : List Node) where
  -- number e is one of the first n, and its job enters machine m there
  pub record IsEntry (m n e : ℕ) : Type 0 where
    pub inside : e < length nodes
    pub earlier : e < n
    pub visit : IsVisit t m (node_at nodes e).job (node_at nodes e).place

  -- each machine's row has such numbers
  pub record AreEntries (n : ℕ) (entries : List (Vec ℕ Global)) : Type 0 where
    pub count : length entries ≡ t.shop.machines
    pub rows : (m i : ℕ) → i < length (slice_index_or (lists_of entries) m []) → IsEntry m n (slice_index (slice_index_or (lists_of entries) m []) i)

  -- the arc from a place to its job's next, as long as the step between them
  pub record IsRouteArc (arc : Arc) : Type 0 where
    pub number : ℕ
    pub inside : number < length nodes
    pub place : (node_at nodes number).place < length (route_in t (node_at nodes number).job)
    pub is : arc ≡ record { from = number; to = number + 1; length = (step_at (route_in t (node_at nodes number).job) (node_at nodes number).place).nominal * FINE + 1 }

  -- the arc from where a job leaves machine m, which it enters at a number, to its place l, as long as the machine's cleaning time
  abbrev pub arc_again : ℕ → ℕ → ℕ → Arc
  arc_again m number l = record { from = number + 1; to = number + (l - (node_at nodes number).place); length = clean_in t.clean m * FINE + 1 }

  -- that to where the job enters the machine next
  pub record IsAgainArc (arc : Arc) : Type 0 where
    pub machine : ℕ
    pub number : ℕ
    pub place : ℕ
    pub inside : number < length nodes
    pub visit : IsVisit t machine (node_at nodes number).job (node_at nodes number).place
    pub next : IsNextVisit t machine (node_at nodes number) place
    pub is : arc ≡ arc_again machine number place

  -- each of the first n numbers at which a job enters a machine that it enters again has it
  abbrev pub HaveArcsAgain : ℕ → List Arc → Type 0
  HaveArcsAgain n arcs = (m number l : ℕ) → number < n → IsVisit t m (node_at nodes number).job (node_at nodes number).place → IsNextVisit t m (node_at nodes number) l → Contains arcs (arc_again m number l)

  -- the two arcs between two entries of a machine, of two jobs, as long as its cleaning time
  pub record IsMachinePair (pair : Pair) : Type 0 where
    pub machine : ℕ
    pub one : ℕ
    pub other : ℕ
    pub earlier : IsEntry machine other one
    pub later : IsEntry machine (other + 1) other
    pub apart : (node_at nodes one).job ≢ (node_at nodes other).job
    pub is : pair ≡ pair_between one other (clean_in t.clean machine * FINE + 1)

  -- each of these is one of two such entries
  abbrev pub AreMachinePairs : List Pair → Type 0
  AreMachinePairs pairs = (a : ℕ) → a < length pairs → IsMachinePair (slice_index_or pairs a no_pair)

-- an arc between two places of a job, one from a job that is on a machine to a later entry, or one to where a job enters a machine again
abbrev pub IsFixedArc : ShopTimes → Cell → List Node → Arc → Type 0
IsFixedArc t c nodes arc = IsRouteArc t nodes arc ⊎ IsHolderArc t c nodes arc ⊎ IsAgainArc t nodes arc

-- each of these is one
abbrev pub AreFixedArcs : ShopTimes → Cell → List Node → List Arc → Type 0
AreFixedArcs t c nodes arcs = (a : ℕ) → a < length arcs → IsFixedArc t c nodes (slice_index_or arcs a no_arc)
