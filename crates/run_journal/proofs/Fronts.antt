-- What a crash leaves, seen from other bytes.
use Rattle.std.proofs.Common.{◌≡◌, ℕ, ◌≤◌, List, ◌++◌, length, take, Option, None, Some, IfSome, Result, Ok, Err, OnOk, OnErr, Bool, true, [], inl, inr, refl, sym, subst, ap, ◌∙◌, arith, append-nil}
use Rattle.std.proofs.lemmas.List.{take_at}
use Rattle.run_journal.specs.{LogFiles.{zeros, Leaves}, Logged.HoldsNothing}

-- a crash that leaves just a file leaves the front of more
pub durable_leaves : (crash_states : List ℕ → Type 0) (file more : List ℕ) → ((left : List ℕ) → crash_states left → left ≡ file) → Leaves crash_states (length file) (file ++ more)
durable_leaves crash_states file more durable left leaves = record {
  count = length file;
  at_least = omega arith;
  unwritten = 0;
  is = durable left leaves ∙ sym (take_at file more (length file) refl) ∙ sym (append-nil (take (length file) (file ++ more)));
}

-- the same bytes, with fewer of them for certain
pub fewer_left : (crash_states : List ℕ → Type 0) (least fewer : ℕ) (most same : List ℕ) → fewer ≤ least → same ≡ most → Leaves crash_states least most → Leaves crash_states fewer same
fewer_left crash_states least fewer most same le is leaves left leave =
    let front = leaves left leave in
    record { count = front.count; at_least = omega (arith, le, front.at_least); unwritten = front.unwritten; is = front.is ∙ ap (λ l. take front.count l ++ zeros front.unwritten) (sym is) }

-- what holds, holds on success
pub on_ok-any : {X E P : Type 0} (r : Result X E) → P → OnOk r P
on_ok-any (Ok x) p = p
on_ok-any (Err e) p = tt

pub on_ok-map : {X E P Q : Type 0} (r : Result X E) → (P → Q) → OnOk r P → OnOk r Q
on_ok-map (Ok x) f p = f p
on_ok-map (Err e) f p = tt

-- what is known of a value
pub if_some-at : {X : Type 0} (o : Option X) (x : X) (P : X → Type 0) → o ≡ Some x → IfSome o P → P x
if_some-at o x P is p = subst (λ o. IfSome o P) is p

-- and something else from that
pub if_some-map : {X : Type 0} {P Q : X → Type 0} (o : Option X) → ((x : X) → P x → Q x) → IfSome o P → IfSome o Q
if_some-map None f none = none
if_some-map (Some x) f p = f x p

pub if_some-both : {X : Type 0} {P Q R : X → Type 0} (o : Option X) → ((x : X) → P x → Q x → R x) → IfSome o P → IfSome o Q → IfSome o R
if_some-both None f p q = p
if_some-both (Some x) f p q = f x p q

-- once an output was to show all, nothing is held back, or that has failed
pub quiet : {X E : Type 0} (r : Result X E) (pending : List ℕ) (failed : Bool) → OnOk r (pending ≡ []) → OnErr r (failed ≡ true) → HoldsNothing pending failed
quiet (Ok x) pending failed shown unshown = inl shown
quiet (Err e) pending failed shown unshown = inr unshown
