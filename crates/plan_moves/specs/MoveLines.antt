-- The lines of moves.
use Rattle.std.specs.Prelude.{ℕ, List, ◌++◌, codes}
use Rattle.std.specs.List.{flat_map}
use Rattle.shop_base.specs.declared.move_order.MoveOrder.{MoveOrder}
use Rattle.shop_base.specs.declared.move_order.Spot.{Spot}
use Rattle.shop_base.specs.declared.move_order.Spot.TheVariants.{Out, At}
use Rattle.people_names.specs.NameBooks.{NameBook}
use Rattle.people_names.specs.Words.{job_word, machine_word, moment_word}

module _ (names : NameBook) where
  -- a machine, or these words for what isn't in the cell
  abbrev pub spot_words : List ℕ → Spot → List ℕ
  spot_words out Out = out
  spot_words out (At m) = codes "machine " ++ machine_word names m

  -- `T job J from FROM to TO`: from a machine or from outside, to a machine or out
  abbrev pub move_line : MoveOrder → List ℕ
  move_line o =
      moment_word names o.at ++ codes " job " ++ job_word names o.job ++ codes " from " ++ spot_words (codes "outside") o.source ++ codes " to " ++ spot_words (codes "out") o.target ++ codes "\n"

  -- a line for each move
  abbrev pub move_lines : List MoveOrder → List ℕ
  move_lines moves = flat_map move_line moves
