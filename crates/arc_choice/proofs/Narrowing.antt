-- States that become others without losing answers.
use Rattle.std.proofs.Common.{◌≡◌, ◌≢◌, ℕ, ◌+◌, ◌<◌, ◌≤◌, ◌⊎◌, inl, inr, Bool, true, false, Result, Ok, Err, List, length, get_or, set, arith, sym, ap, ◌∙◌, subst, get_or-set_same, get_or-set_other, length-set, replicate}
use Rattle.std.proofs.lemmas.Bool.{cases_eq}
use Rattle.std.proofs.lemmas.List.{get_or_default, get_or-replicate, length-replicate}
use Rattle.arc_choice.specs.declared.question.Arc.{Arc}
use Rattle.arc_choice.specs.declared.question.Question.{Question}
use Rattle.arc_choice.specs.declared.branch.State.{State}
use Rattle.arc_choice.specs.declared.branch.Branch.{Branch}
use Rattle.arc_choice.specs.declared.rules.Clash.{Clash}
use Rattle.arc_choice.specs.declared.branch.Decision.{Decision}
use Rattle.arc_choice.specs.declared.branch.Decision.TheVariants.{Open, One}
use Rattle.arc_choice.specs.Choices.{Keeps, KeepsOne, Answers, IsArc, IsSoundQuestion, nodes, pair_at, arc_at, no_arc, side_of}
use Rattle.arc_choice.specs.Reach.{Rises, HasBit}
use Rattle.arc_choice.specs.Branches.{IsForced, IsBranch, IsWithin, HasAll, IsCopy, Narrows, HasNone, Propagates, Always, AreHeads, AreLatest, KeepsDecision, decision_at, decision_for}

-- ---- one step after another

pub narrows_none : (P : (ℕ → ℕ) → Type 0) (q : Question) (s : Branch) → IsBranch q s → Narrows P q s s
narrows_none P q s state = record { branch = state; keeps = λ w answers holds within. within }

pub narrows_on : (P : (ℕ → ℕ) → Type 0) (q : Question) (s t u : Branch) → Narrows P q s t → Narrows Always q t u → Narrows P q s u
narrows_on P q s t u one other = record { branch = other.branch; keeps = λ w answers holds within. other.keeps w answers tt (one.keeps w answers holds within) }

pub none_after : (P : (ℕ → ℕ) → Type 0) (q : Question) (s t : Branch) → Narrows P q s t → HasNone Always q t → HasNone P q s
none_after P q s t one none = λ w answers holds within. none w answers tt (one.keeps w answers holds within)

-- a step by what all answers of the state keep
pub narrows_by : (P : (ℕ → ℕ) → Type 0) (q : Question) (s t : Branch) → ((w : ℕ → ℕ) → Answers q w → IsWithin q s w → P w) → Narrows P q s t → Narrows Always q s t
narrows_by P q s t holds one = record { branch = one.branch; keeps = λ w answers always within. one.keeps w answers (holds w answers within) within }

-- a step by what was known before another
pub narrows_then : (P : (ℕ → ℕ) → Type 0) (q : Question) (s t u : Branch) → Narrows Always q s t → Narrows P q t u → Narrows P q s u
narrows_then P q s t u one other = record { branch = other.branch; keeps = λ w answers holds within. other.keeps w answers holds (one.keeps w answers tt within) }

-- the same of a call that comes last
pub propagates_on : {A : Type 0} (P : (ℕ → ℕ) → Type 0) (q : Question) (s t u : Branch) (r : Result A Clash) → Narrows P q s t → Propagates P q t u r → Propagates P q s u r
propagates_on P q s t u (Ok x) one other = record { branch = other.branch; keeps = λ w answers holds within. other.keeps w answers holds (one.keeps w answers holds within) }
propagates_on P q s t u (Err e) one none = λ w answers holds within. none w answers holds (one.keeps w answers holds within)

-- ---- heads and latest moments

pub raised : (heads : List ℕ) (i x : ℕ) (w : ℕ → ℕ) → x ≤ w i → AreHeads heads w → AreHeads (set heads i x) w
raised heads i x w le are v within = go (cases_eq v i)
  where
    inside : v < length heads
    inside = omega (arith, length-set heads i x)

    go : (v ≡ i) ⊎ (v ≢ i) → get_or (set heads i x) v 0 ≤ w v
    go (inl same) = omega (arith, ap w same, ap (λ (k : ℕ). get_or (set heads i x) k 0) same, get_or-set_same heads i x 0 (omega (arith, same, inside)))
    go (inr other) = omega (arith, get_or-set_other heads i v x 0 other, are v inside)

pub lowered : (latest : List ℕ) (i x : ℕ) (w : ℕ → ℕ) → w i ≤ x → AreLatest latest w → AreLatest (set latest i x) w
lowered latest i x w le are v within = go (cases_eq v i)
  where
    inside : v < length latest
    inside = omega (arith, length-set latest i x)

    go : (v ≡ i) ⊎ (v ≢ i) → w v ≤ get_or (set latest i x) v 0
    go (inl same) = omega (arith, ap w same, ap (λ (k : ℕ). get_or (set latest i x) k 0) same, get_or-set_same latest i x 0 (omega (arith, same, inside)))
    go (inr other) = omega (arith, get_or-set_other latest i v x 0 other, are v inside)

-- ---- an arc

module _ (q : Question) (arc : Arc) (is : IsArc (nodes q) arc) where
  -- no answer keeps an arc whose target would be too late
  pub too_late : (s : Branch) (head last : ℕ) → IsBranch q s → head ≤ get_or s.state.heads.items arc.from 0 + arc.length → get_or s.state.latest.items arc.to 0 ≡ last → last < head → HasNone (λ w. Keeps w arc) q s
  too_late s head last state fits at past = λ w answers keeps within.
      let early : get_or s.state.heads.items arc.from 0 ≤ w arc.from = within.heads arc.from (omega (arith, state.heads, is.from)) in
      let late : w arc.to ≤ get_or s.state.latest.items arc.to 0 = within.latest arc.to (omega (arith, state.latest, is.to)) in
      let kept : w arc.from + arc.length ≤ w arc.to = keeps in
      omega (arith, fits, at, past)

  -- nor one whose source comes after its target
  pub turned : (s : Branch) → IsBranch q s → HasBit s.reach arc.to arc.from → HasNone (λ w. Keeps w arc) q s
  turned s state has = λ w answers keeps within.
      let after : w arc.to ≤ w arc.from = within.reach arc.to arc.from (omega (arith, state.reach, is.to)) (omega (arith, state.reach, is.from)) has in
      let kept : w arc.from + arc.length ≤ w arc.to = keeps in
      omega (arith, is.long)

  -- the arc is kept: what is known of its ends
  pub kept : (s t : Branch) (head last latest : ℕ) → IsBranch q s
      → head ≤ get_or s.state.heads.items arc.from 0 + arc.length → get_or s.state.latest.items arc.to 0 ≡ last → last ≤ latest + arc.length
      → ((w : ℕ → ℕ) → head ≤ w arc.to → AreHeads s.state.heads.items w → AreHeads t.state.heads.items w) → length t.state.heads.items ≡ length s.state.heads.items
      → ((w : ℕ → ℕ) → w arc.from ≤ latest → AreLatest s.state.latest.items w → AreLatest t.state.latest.items w) → length t.state.latest.items ≡ length s.state.latest.items
      → t.reach ≡ s.reach → t.decisions.items ≡ s.decisions.items → Narrows (λ w. Keeps w arc) q s t
  kept s t head last latest state fits at early heads heads_size latests latest_size reach decisions = record {
    branch = record {
      sound = state.sound;
      heads = heads_size ∙ state.heads;
      latest = latest_size ∙ state.latest;
      reach = ap (λ o. o.nodes) reach ∙ state.reach;
      decisions = ap length decisions ∙ state.decisions;
    };
    keeps = λ w answers keeps within.
        let first : get_or s.state.heads.items arc.from 0 ≤ w arc.from = within.heads arc.from (omega (arith, state.heads, is.from)) in
        let past : w arc.to ≤ get_or s.state.latest.items arc.to 0 = within.latest arc.to (omega (arith, state.latest, is.to)) in
        let on : w arc.from + arc.length ≤ w arc.to = keeps in
        record {
          heads = heads w (omega (arith, fits)) within.heads;
          latest = latests w (omega (arith, at, early)) within.latest;
          reach = subst (λ o. Rises o w) (sym reach) within.reach;
          decisions = λ p inside. subst (λ (list : List Decision). KeepsDecision w (pair_at q p) (get_or list p Open)) (sym decisions) (within.decisions p inside);
        };
  }

-- ---- nothing is decided

module _ (q : Question) (b : Branch) (n : ℕ) (sound : IsSoundQuestion q) (heads : b.state.heads.items ≡ q.first.items) (latest : b.state.latest.items ≡ q.last.items) (count : n ≡ length q.pairs.items)
    (decisions : b.decisions.items ≡ replicate n Open) where
  pub started : b.reach.nodes ≡ nodes q → IsBranch q b
  started reach = record {
    sound = sound;
    heads = ap length heads;
    latest = ap length latest ∙ sound.lasts;
    reach = reach;
    decisions = ap length decisions ∙ length-replicate n Open ∙ count;
  }

  pub started_with : ((w : ℕ → ℕ) → Answers q w → Rises b.reach w) → HasAll q b
  started_with rises w answers = record {
    heads = subst (λ (list : List ℕ). AreHeads list w) (sym heads) (λ v inside. answers.first v inside);
    latest = subst (λ (list : List ℕ). AreLatest list w) (sym latest) (λ v inside. answers.last v (omega (arith, inside, sound.lasts)));
    reach = rises w answers;
    decisions = λ p inside. subst (KeepsDecision w (pair_at q p)) (sym (ap (λ (list : List Decision). get_or list p Open) decisions ∙ get_or-replicate n p Open Open (omega (arith, inside, count)))) tt;
  }

-- ---- a choice

decided : (w : ℕ → ℕ) (q : Question) (p : ℕ) (one : Bool) → Keeps w (side_of q p one) → KeepsDecision w (pair_at q p) (decision_for one)
decided w q p true keeps = keeps
decided w q p false keeps = keeps

-- a side of a pair is decided
pub deciding : (q : Question) (s t : Branch) (p : ℕ) (one : Bool) (arc : Arc) → arc ≡ side_of q p one → IsBranch q s → p < length q.pairs.items
    → t.state ≡ s.state → t.decisions.items ≡ set s.decisions.items p (decision_for one) → t.reach.nodes ≡ s.reach.nodes
    → ((w : ℕ → ℕ) → w arc.from ≤ w arc.to → Rises s.reach w → Rises t.reach w)
    → Narrows (λ w. Keeps w (side_of q p one)) q s t
deciding q s t p one arc is_side state inside same decisions reach_nodes reach = record {
  branch = record {
    sound = state.sound;
    heads = ap (λ (x : State). length x.heads.items) same ∙ state.heads;
    latest = ap (λ (x : State). length x.latest.items) same ∙ state.latest;
    reach = reach_nodes ∙ state.reach;
    decisions = ap length decisions ∙ length-set s.decisions.items p (decision_for one) ∙ state.decisions;
  };
  keeps = λ w answers keeps within. record {
    heads = subst (λ (x : State). AreHeads x.heads.items w) (sym same) within.heads;
    latest = subst (λ (x : State). AreLatest x.latest.items w) (sym same) within.latest;
    reach = reach w (let on : w arc.from + arc.length ≤ w arc.to = subst (Keeps w) (sym is_side) keeps in omega arith) within.reach;
    decisions = λ r in_r. subst (λ (list : List Decision). KeepsDecision w (pair_at q r) (get_or list r Open)) (sym decisions) (at w keeps within r in_r (cases_eq r p));
  };
}
  where
    at : (w : ℕ → ℕ) → Keeps w (side_of q p one) → IsWithin q s w → (r : ℕ) → r < length q.pairs.items → (r ≡ p) ⊎ (r ≢ p)
        → KeepsDecision w (pair_at q r) (get_or (set s.decisions.items p (decision_for one)) r Open)
    at w keeps within r in_r (inl same) =
        let is : get_or (set s.decisions.items p (decision_for one)) r Open ≡ decision_for one = ap (λ (k : ℕ). get_or (set s.decisions.items p (decision_for one)) k Open) same ∙ get_or-set_same s.decisions.items p (decision_for one) Open (omega (arith, state.decisions)) in
        subst (λ (k : ℕ). KeepsDecision w (pair_at q k) (get_or (set s.decisions.items p (decision_for one)) r Open)) (sym same)
        (subst (λ (x : Decision). KeepsDecision w (pair_at q p) x) (sym is) (decided w q p one keeps))
    at w keeps within r in_r (inr other) =
        subst (λ (x : Decision). KeepsDecision w (pair_at q r) x) (sym (get_or-set_other s.decisions.items p r (decision_for one) Open other)) (within.decisions r in_r)

-- of a pair whose one side can't be kept the other is
pub other_forced : (q : Question) (s : Branch) (p : ℕ) → p < length q.pairs.items → HasNone (λ w. Keeps w (side_of q p true)) q s → IsForced q s (record { pair = p; one = false })
other_forced q s p inside none = record { pair = inside; keeps = λ w answers within. go w answers within (answers.pairs p inside) }
  where
    go : (w : ℕ → ℕ) → Answers q w → IsWithin q s w → KeepsOne w (pair_at q p) → Keeps w (side_of q p false)
    go w answers within (inl one) = absurd (none w answers one within)
    go w answers within (inr other) = other

-- a side is an arc
pub side_arc : (q : Question) (p : ℕ) (one : Bool) → IsSoundQuestion q → p < length q.pairs.items → IsArc (nodes q) (side_of q p one)
side_arc q p true sound inside = sound.ones p inside
side_arc q p false sound inside = sound.others p inside

-- a copy is as good
pub copied : (q : Question) (s t : Branch) → IsBranch q s → IsCopy s t → Narrows Always q s t
copied q s t state copy = record {
  branch = record {
    sound = state.sound;
    heads = ap length copy.heads ∙ state.heads;
    latest = ap length copy.latest ∙ state.latest;
    reach = ap (λ o. o.nodes) copy.reach ∙ state.reach;
    decisions = ap length copy.decisions ∙ state.decisions;
  };
  keeps = λ w answers always within. record {
    heads = subst (λ (list : List ℕ). AreHeads list w) (sym copy.heads) within.heads;
    latest = subst (λ (list : List ℕ). AreLatest list w) (sym copy.latest) within.latest;
    reach = subst (λ o. Rises o w) (sym copy.reach) within.reach;
    decisions = λ p inside. subst (λ (list : List Decision). KeepsDecision w (pair_at q p) (get_or list p Open)) (sym copy.decisions) (within.decisions p inside);
  };
}

-- an arc of the question is one
pub arc_is : (q : Question) (arcs : List Arc) (a : ℕ) (d : Arc) → arcs ≡ q.arcs.items → a < length arcs → IsSoundQuestion q → IsArc (nodes q) (get_or arcs a d)
arc_is q arcs a d are inside sound =
    let same : get_or arcs a d ≡ arc_at q a = get_or_default arcs a d no_arc inside ∙ ap (λ (list : List Arc). get_or list a no_arc) are in
    subst (IsArc (nodes q)) (sym same) (sound.arcs a (omega (arith, ap length are)))

-- each arc of the question rises
pub arc_rises : (q : Question) (arcs : List Arc) (a : ℕ) (d : Arc) (w : ℕ → ℕ) → arcs ≡ q.arcs.items → a < length arcs → Answers q w → w (get_or arcs a d).from ≤ w (get_or arcs a d).to
arc_rises q arcs a d w are inside answers =
    let same : get_or arcs a d ≡ arc_at q a = get_or_default arcs a d no_arc inside ∙ ap (λ (list : List Arc). get_or list a no_arc) are in
    let kept : w (arc_at q a).from + (arc_at q a).length ≤ w (arc_at q a).to = answers.arcs a (omega (arith, ap length are)) in
    subst (λ (x : Arc). w x.from ≤ w x.to) (sym same) (omega arith)
