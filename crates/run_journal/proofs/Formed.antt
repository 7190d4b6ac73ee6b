-- Texts of which a log gets lines of a form that it can have, and how they end after a crash.
use Rattle.std.proofs.{lemmas.List.{take_min, take-append-le}, Math.Seq.{take-nil, drop-append-add, take-append-add}}
use Rattle.std.proofs.Common.{◌≡◌, ℕ, zero, suc, ◌+◌, ◌-◌, true, List, [], ◌∷◌, ◌++◌, length, take, drop, min, inl, inr, refl, sym, ap, ◌∙◌, arith, append_assoc, length-append}
use Rattle.std.proofs.lemmas.Bool.{cases_Bool, cases_lt}
use Rattle.text_lines.specs.Cuts.{HasNone}
use Rattle.run_journal.specs.{LogFiles.{zeros, IsLeft}, WholeLines.{whole_lines, torn_end}}
use Rattle.run_journal.specs.{LoggedLines.{is_logged, logged}, TornEnds.{begins_line, is_torn}}
use Rattle.run_journal.proofs.{ByLines.{none_whole, logged_both, logged_first, got_all, got_none}, TornEnds.torn_of}
use Rattle.run_journal.proofs.{Whole.{whole-push_feed, whole-behind, whole-zeros}, Selected.logged-front}

-- lines without their line feeds, each of which a log can have
abbrev pub AreBodies : List (List ℕ) → Type 0
AreBodies [] = Unit {0}
AreBodies (body ∷ bodies) = (begins_line body ≡ true) × HasNone 10 body × AreBodies bodies

-- these lines, each with its line feed
abbrev pub with_feeds : List (List ℕ) → List ℕ
with_feeds [] = []
with_feeds (body ∷ bodies) = (body ++ 10 ∷ []) ++ with_feeds bodies

-- a text of whole lines, of which a log gets such lines
pub record IsFormed (text : List ℕ) : Type 0 where
  pub whole : whole_lines text ≡ text
  pub bodies : List (List ℕ)
  pub are : AreBodies bodies
  pub logs : logged text ≡ with_feeds bodies

-- ---- texts

pub formed-none : IsFormed []
formed-none = record { whole = refl; bodies = []; are = tt; logs = refl }

both_bodies : (one other : List (List ℕ)) → AreBodies one → AreBodies other → AreBodies (one ++ other)
both_bodies [] other first second = second
both_bodies (body ∷ one) other first second = (first.0, first.1, both_bodies one other first.2 second)

both_feeds : (one other : List (List ℕ)) → with_feeds one ++ with_feeds other ≡ with_feeds (one ++ other)
both_feeds [] other = refl
both_feeds (body ∷ one) other = append_assoc (body ++ 10 ∷ []) (with_feeds one) (with_feeds other) ∙ ap (λ l. (body ++ 10 ∷ []) ++ l) (both_feeds one other)

pub formed-both : (one other : List ℕ) → IsFormed one → IsFormed other → IsFormed (one ++ other)
formed-both one other first second = record {
  whole = whole-behind one other first.whole ∙ ap (λ l. one ++ l) second.whole;
  bodies = first.bodies ++ second.bodies;
  are = both_bodies first.bodies second.bodies first.are second.are;
  logs = logged_both one other first.whole ∙ ap (λ l. l ++ logged other) first.logs ∙ ap (λ l. with_feeds first.bodies ++ l) second.logs ∙ both_feeds first.bodies second.bodies;
}

-- ---- one line

-- which a log gets only where it can have it
pub formed-line : (body : List ℕ) → HasNone 10 body → (is_logged (body ++ 10 ∷ []) ≡ true → begins_line body ≡ true) → IsFormed (body ++ 10 ∷ [])
formed-line body none begins = elim (cases_Bool (is_logged (body ++ 10 ∷ []))) [
  | inl is ↦ record { whole = whole-push_feed body; bodies = body ∷ []; are = (begins is, none, tt); logs = logged_first body [] none ∙ got_all (body ++ 10 ∷ []) [] is }
  | inr not ↦ record { whole = whole-push_feed body; bodies = []; are = tt; logs = logged_first body [] none ∙ got_none (body ++ 10 ∷ []) [] not }
]

-- ---- what a crash leaves behind whole lines

pub none_written : (n : ℕ) (bytes : List ℕ) → HasNone 10 bytes → HasNone 10 (take n bytes)
none_written zero bytes none = tt
none_written (suc n) [] none = tt
none_written (suc n) (b ∷ bytes) none = (none.0, none_written n bytes none.1)

-- the end of whole lines and more is that of the more
pub torn-behind : (base more : List ℕ) → whole_lines base ≡ base → torn_end (base ++ more) ≡ torn_end more
torn-behind base more whole =
    ap (λ l. drop (length l) (base ++ more)) (whole-behind base more whole) ∙ ap (λ (n : ℕ). drop n (base ++ more)) (length-append base (whole_lines more)) ∙ drop-append-add base more (length (whole_lines more))

-- the end of a piece of a line is all of it
torn-piece : (body : List ℕ) (n unwritten : ℕ) → HasNone 10 body → torn_end (take n body ++ zeros unwritten) ≡ take n body ++ zeros unwritten
torn-piece body n unwritten none = ap (λ (l : List ℕ). drop (length l) (take n body ++ zeros unwritten)) (whole-zeros (take n body) unwritten ∙ none_whole (take n body) (none_written n body none))

pub torn_lines : (bodies : List (List ℕ)) (n unwritten : ℕ) → AreBodies bodies → is_torn (torn_end (take n (with_feeds bodies) ++ zeros unwritten)) ≡ true
torn_lines [] n unwritten are = ap is_torn (ap (λ l. torn_end (l ++ zeros unwritten)) (take-nil n) ∙ torn-piece [] 0 unwritten tt) ∙ torn_of [] 0 unwritten refl
torn_lines (body ∷ bodies) n unwritten are = elim (cases_lt (length body) n) [
  | inl past ↦
      let line = body ++ 10 ∷ [] in
      let more = n - length line in
      let count : n ≡ length line + more = omega (arith, past, length-append body (10 ∷ [])) in
      let cut : take n (line ++ with_feeds bodies) ++ zeros unwritten ≡ line ++ (take more (with_feeds bodies) ++ zeros unwritten) =
      ap (λ l. l ++ zeros unwritten) (ap (λ (k : ℕ). take k (line ++ with_feeds bodies)) count ∙ take-append-add line (with_feeds bodies) more) ∙ append_assoc line (take more (with_feeds bodies)) (zeros unwritten) in
      ap is_torn (ap torn_end cut ∙ torn-behind line (take more (with_feeds bodies) ++ zeros unwritten) (whole-push_feed body)) ∙ torn_lines bodies more unwritten are.2
  | inr within ↦
      let cut : take n (with_feeds (body ∷ bodies)) ≡ take n body = ap (take n) (append_assoc body (10 ∷ []) (with_feeds bodies)) ∙ take-append-le n body (10 ∷ with_feeds bodies) within in
      ap is_torn (ap (λ l. torn_end (l ++ zeros unwritten)) cut ∙ torn-piece body n unwritten are.1) ∙ torn_of body n unwritten are.0
]

-- whatever a crash leaves behind whole lines of such a text, of which some was shown, has an end that a crash can leave
pub left_torn : (base shown pending lost text left : List ℕ) → whole_lines base ≡ base → IsFormed text → text ≡ (shown ++ pending) ++ lost
    → IsLeft (length (base ++ logged shown)) (base ++ logged (shown ++ pending)) left → is_torn (torn_end left) ≡ true
left_torn base shown pending lost text left whole formed split is =
    let rest = logged-front (shown ++ pending) lost in
    let all : with_feeds formed.bodies ≡ logged (shown ++ pending) ++ rest.0 = sym formed.logs ∙ ap logged split ∙ rest.1 in
    let got = length (logged (shown ++ pending)) in
    let n = min (is.count - length base) got in
    let count : min is.count (length (base ++ logged (shown ++ pending))) ≡ length base + n =
    omega (arith, is.at_least, length-append base (logged shown), length-append base (logged (shown ++ pending))) in
    let cut : take is.count (base ++ logged (shown ++ pending)) ≡ base ++ take n (with_feeds formed.bodies) =
    sym (take_min is.count (base ++ logged (shown ++ pending))) ∙ ap (λ (k : ℕ). take k (base ++ logged (shown ++ pending))) count ∙ take-append-add base (logged (shown ++ pending)) n
    ∙ ap (λ l. base ++ l) (sym (ap (take n) all ∙ take-append-le n (logged (shown ++ pending)) rest.0 (omega (arith)))) in
    ap is_torn (ap torn_end (is.is ∙ ap (λ l. l ++ zeros is.unwritten) cut ∙ append_assoc base (take n (with_feeds formed.bodies)) (zeros is.unwritten))
    ∙ torn-behind base (take n (with_feeds formed.bodies) ++ zeros is.unwritten) whole)
    ∙ torn_lines formed.bodies n is.unwritten formed.are
