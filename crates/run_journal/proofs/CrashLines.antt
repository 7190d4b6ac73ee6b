-- The whole lines of what a crash leaves.
use Rattle.std.proofs.Common.{List, ◌≡◌, ℕ, ◌+◌, ◌-◌, ◌++◌, length, take, drop, sym, ap, ◌∙◌, arith, append_assoc, take-append-drop}
use Rattle.std.proofs.Math.Seq.{take-append-add}
use Rattle.run_journal.specs.{WholeLines.whole_lines, LoggedLines.logged, Laws.ACrashKeepsWhatWasShown, LogFiles.IsLeft}
use Rattle.run_journal.proofs.{Whole.{whole-front, whole-behind, whole-zeros}, Selected.logged-front}

-- of the bytes that a log held, and then got of what was shown and is pending, what is left has all but some that it got of what is pending
pub left_front : (base shown pending left : List ℕ) → (is : IsLeft (length (base ++ logged shown)) (base ++ logged (shown ++ pending)) left) → (got : List ℕ) × (lost : List ℕ)
    × (take is.count (base ++ logged (shown ++ pending)) ≡ base ++ (logged shown ++ got)) × ((logged shown ++ got) ++ lost ≡ logged (shown ++ pending))
left_front base shown pending left is =
    let (rest, more) = logged-front shown pending in
    let came = base ++ logged shown in
    let n = is.count - length came in
    let count : is.count ≡ length came + n = omega (arith, is.at_least) in
    let all : base ++ logged (shown ++ pending) ≡ came ++ rest = ap (λ l. base ++ l) more ∙ sym (append_assoc base (logged shown) rest) in
    let cut : take is.count (base ++ logged (shown ++ pending)) ≡ base ++ (logged shown ++ take n rest) =
    ap (λ l. take is.count l) all ∙ ap (λ (k : ℕ). take k (came ++ rest)) count ∙ take-append-add came rest n ∙ append_assoc base (logged shown) (take n rest) in
    (take n rest, drop n rest, cut, append_assoc (logged shown) (take n rest) (drop n rest) ∙ ap (λ l. logged shown ++ l) (take-append-drop n rest) ∙ sym more)

pub crash_lines : ACrashKeepsWhatWasShown
crash_lines base shown pending left whole front =
    let (got, lost, cut, end) = left_front base shown pending left front in
    let given = logged shown ++ got in
    let later = whole-front given lost in
    let more = whole-front (logged shown) got in (
      whole_lines given,
      ap whole_lines front.is ∙ whole-zeros (take front.count (base ++ logged (shown ++ pending))) front.unwritten ∙ ap whole_lines cut ∙ whole-behind base given whole,
      record { behind = later.0; first = sym (ap whole_lines end) ∙ later.1; more = more.0; has_shown = more.1 },
    )
