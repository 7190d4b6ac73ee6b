use Rattle.std.proofs.Common.{◌≡◌, Bool, ◌∷◌, true, false, sym, ap, ◌∙◌}
use Rattle.orlib_read.specs.Kinds.{is_filler}
use Rattle.orlib_read.specs.Reading.{is_instance_line}
use Rattle.orlib_read.specs.Cursor.{numbered_line, left_of, raw_left, lines_left}
use Rattle.orlib_read.proofs.Parts.{all_filler}
use Rattle.orlib_read.proofs.Left.{left_none, left_filler, left_title, left_line}
use Rattle.orlib_read.proofs.lines.Lines.next_unfilled.Goals as goal
use Rattle.orlib_read.proofs.lines.Lines.next_unfilled.Goals.{else-self-via-then-self+else-is_instance_line, else-self-via-else-self}

pub returns-then-is_instance_line-clause-line : goal.returns-then-is_instance_line-clause-line
unfolding lines_left
returns-then-is_instance_line-clause-line c =
    let filler : is_filler c.in-Some.line.bytes.now ≡ false = sym (all_filler c.in-Some.line.bytes.now) ∙ sym c.is_filler.ensures ∙ c.if-not-is_filler.true in
    let title : is_instance_line (numbered_line c.in-Some.line) ≡ true = sym c.is_instance_line.ensures ∙ c.if-is_instance_line.true in
    sym c.loop-line.invariant.left
    ∙ ap (λ (s : Bool). left_of s (raw_left c.loop-line.lines)) (c.loop-line.invariant.same ∙ c.if-self.true)
    ∙ left_title (raw_left c.loop-line.lines) (numbered_line c.in-Some.line) (raw_left c.in-Some.rest) c.in-Some.ensures.line filler title

pub returns-then-not-is_filler-clause-line : goal.returns-then-not-is_filler-clause-line
unfolding lines_left
returns-then-not-is_filler-clause-line c =
    let filler : is_filler c.in-Some.line.bytes.now ≡ false = sym (all_filler c.in-Some.line.bytes.now) ∙ sym c.is_filler.ensures ∙ c.if-not-is_filler.true in
    let no_instance_line : c.loop-line.lines.in_section ≡ true → is_instance_line (numbered_line c.in-Some.line) ≡ false =
    λ h. elim c.else-self.branch [
      | else-self-via-then-self+else-is_instance_line w ↦ sym w.is_instance_line.ensures ∙ w.if-is_instance_line.false
      | else-self-via-else-self w ↦ let no = sym (c.loop-line.invariant.same ∙ w.if-self.false) ∙ h in absurd (cc)
    ]
    in
    sym c.loop-line.invariant.left
    ∙ left_line c.loop-line.lines.in_section (raw_left c.loop-line.lines) (numbered_line c.in-Some.line) (raw_left c.in-Some.rest) c.in-Some.ensures.line filler no_instance_line
    ∙ ap (λ (s : Bool). numbered_line c.in-Some.line ∷ left_of s (raw_left c.in-Some.rest)) (sym c.in-Some.ensures.same)

pub loop-line-preserved : goal.loop-line-preserved
unfolding lines_left
loop-line-preserved c =
    let filler : is_filler c.in-Some.line.bytes.now ≡ true = sym (all_filler c.in-Some.line.bytes.now) ∙ sym c.is_filler.ensures ∙ c.if-not-is_filler.false in
    record {
      left = ap (λ (s : Bool). left_of s (raw_left c.in-Some.rest)) c.in-Some.ensures.same
          ∙ sym (left_filler c.loop-line.lines.in_section (raw_left c.loop-line.lines) (numbered_line c.in-Some.line) (raw_left c.in-Some.rest) c.in-Some.ensures.line filler)
          ∙ c.loop-line.invariant.left;
      same = c.in-Some.ensures.same ∙ c.loop-line.invariant.same;
    }

pub returns-clause-line : goal.returns-clause-line
unfolding lines_left
returns-clause-line c =
    sym c.loop-line.invariant.left ∙ left_none c.loop-line.lines.in_section (raw_left c.loop-line.lines) c.in_default.ensures.line
