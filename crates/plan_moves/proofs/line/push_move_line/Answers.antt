use Rattle.std.proofs.Common.{◌≡◌, ℕ, List, ◌++◌, codes, ap, append_assoc}
use Rattle.people_names.specs.Words.{job_word, moment_word}
use Rattle.plan_moves.specs.MoveLines.{spot_words}
use Rattle.plan_moves.proofs.line.push_move_line.Goals as goal

-- eight texts, each written before what there is
eight_parts : (a b c d e f g h : List ℕ) → a ++ (b ++ (c ++ (d ++ (e ++ (f ++ (g ++ h)))))) ≡ a ++ b ++ c ++ d ++ e ++ f ++ g ++ h
eight_parts a b c d e f g h = simp append_assoc

pub returns : goal.returns
returns c =
    let names = c.args.names.now in
    let order = c.args.order in
    rw (
      c.in_ok-extend_from_slice.ensures.items,
      c.bytes.ensures,
      c.put_moment.ensures.written,
      c.put_text-3.ensures.written,
      c.put_job.ensures.written,
      c.put_text-2.ensures.written,
      c.put_spot-2.ensures.written,
      c.put_text.ensures.written,
      c.put_spot.ensures.written,
      c.ended-line.ensures,
    ) (ap (λ (l : List ℕ). c.args.text.now.items ++ l)
    (eight_parts (moment_word names order.at) (codes " job ") (job_word names order.job) (codes " from ") (spot_words names (codes "outside") order.source) (codes " to ") (spot_words names (codes "out") order.target) (codes "\n")))
