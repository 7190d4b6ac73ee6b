use Rattle.std.proofs.Common.{◌++◌, List, ℕ, sym, ap, ◌∙◌, append_assoc}
use Rattle.log_chapters.specs.Chapters.{line_behind, lines_behind}
use Rattle.log_chapters.proofs.Behind.{behind-first, behind-only}
use Rattle.log_chapters.proofs.writing.push_lines.Goals as goal

pub loop-line-preserved : goal.loop-line-preserved
loop-line-preserved c =
    let prefix = c.args.prefix.now in
    let before = c.loop-line.text.items in
    let line = c.in-Some.line.now in
    let after = c.in-Some.after.now in
    rw c.in_ok-push_line.ensures (
    append_assoc before (line_behind prefix line) (lines_behind prefix after)
    ∙ ap (λ (l : List ℕ). before ++ l) (sym (behind-first prefix c.loop-line.rest.now line after c.in-Some.ensures))
    ∙ c.loop-line.invariant
    )

pub returns : goal.returns
returns c =
    let only = behind-only c.args.prefix.now c.loop-line.rest.now c.in_default.ensures (sym c.is_empty.ensures ∙ c.if-is_empty.false) in
    rw c.in_ok-push_line-2.ensures (ap (λ (l : List ℕ). c.loop-line.text.items ++ l) (sym only) ∙ c.loop-line.invariant)
