-- The arcs of the graph in words.
use Rattle.std.specs.Prelude.{ℕ, ◌+◌, ◌-◌, ◌==◌, Bool, not, ◌&&◌, nat_lt, if◌then◌else◌, List, [], ◌∷◌, ◌++◌, length, codes, decimal}
use Rattle.shop_base.specs.{declared.node.Node.Node, Graph.node}
use Rattle.shop_base.specs.Plan.{PlannedShop, steps, machine_of, nominal, clean, order, job_at, count_below, visits_before, places_before}
use Rattle.people_names.specs.{NameBooks.NameBook, Words.machine_word}
use Rattle.plan_explain.specs.Labels.{label_of, label_word}
use Rattle.plan_explain.specs.declared.arcs.ArcKind.{ArcKind}
use Rattle.plan_explain.specs.declared.arcs.ArcKind.TheVariants.{Job, Blocking}

-- the words one after another, and what is behind them
abbrev pub words_and : List (List ℕ) → List ℕ → List ℕ
words_and [] rest = rest
words_and (word ∷ words) rest = word ++ words_and words rest

-- how long the arc is
abbrev pub time_of : ArcKind → ℕ
time_of (Job visit machine nominal) = nominal
time_of (Blocking machine from to clean) = clean

-- the cleaning time, where there is one
abbrev pub clean_words : ℕ → List ℕ
clean_words clean = if clean == 0 then [] else codes " cleaned for " ++ decimal clean

-- `job J on machine M for P`, or `machine M from job I to job J`, with ` cleaned for C` where the machine has a cleaning time; in a shop with recirculation with the steps, as `J.K`
abbrev pub arc_words : NameBook → ArcKind → List (List ℕ)
arc_words names (Job visit machine nominal) = codes "job " ∷ label_word names visit ∷ codes " on machine " ∷ machine_word names machine ∷ codes " for " ∷ decimal nominal ∷ []
arc_words names (Blocking machine from to clean) =
    codes "machine " ∷ machine_word names machine ∷ codes " from job " ∷ label_word names from ∷ codes " to job " ∷ label_word names to ∷ clean_words clean ∷ []

module _ (p : PlannedShop) where
  -- the job's arc from a visit of it to its next place
  abbrev pub job_arc_kind : Node → ArcKind
  job_arc_kind u = Job (label_of p.shop u.job u.place) (machine_of p u.job u.place) (nominal p u.job u.place)

  -- the order's arc, by which v enters a machine directly behind the visit that u ends
  abbrev pub blocking_arc_kind : Node → Node → ArcKind
  blocking_arc_kind u v = Blocking (machine_of p v.job v.place) (label_of p.shop u.job (u.place - 1)) (label_of p.shop v.job v.place) (clean p (machine_of p v.job v.place))

  -- whether place a of machine m's order is for visit v
  abbrev pub is_for : ℕ → Node → ℕ → Bool
  is_for m v a = nat_lt v.place (steps p v.job) && ((machine_of p v.job v.place == m) && ((job_at p m a == v.job) && (places_before p m v.job a == visits_before p v.job m v.place)))

  -- whether visit w stands directly behind visit v there
  abbrev pub is_behind : ℕ → Node → Node → Bool
  is_behind m v w = nat_lt 0 (count_below (λ a. is_for m v a && is_for m w (a + 1)) (length (order p m) - 1))

  -- whether the order has an arc from u to v that is longer than the job's own
  abbrev pub is_held_longer : Node → Node → Bool
  is_held_longer u v =
      let m = machine_of p v.job v.place in
      nat_lt 0 u.place && (is_behind m (node u.job (u.place - 1)) v && nat_lt (nominal p u.job u.place) (clean p m))

  -- whether the arc from u to v is the job's own: v is its next place, and no arc of the order between them is longer
  abbrev pub is_own : Node → Node → Bool
  is_own u v = (u.job == v.job) && ((v.place == u.place + 1) && not (is_held_longer u v))

  -- the arc from u to v, the longer one where there are two
  abbrev pub arc_kind : Node → Node → ArcKind
  arc_kind u v = if is_own u v then job_arc_kind u else blocking_arc_kind u v
