-- What a job waits for, behind a word.
use Rattle.std.proofs.Common.{◌≡◌, ℕ, List, ◌∷◌, ◌++◌, refl}
use Rattle.shop_base.specs.declared.move_order.Spot.{Spot}
use Rattle.shop_base.specs.declared.move_order.Spot.TheVariants.{Out, At}
use Rattle.people_names.specs.NameBooks.{NameBook}
use Rattle.event_lines.specs.Words.{Word, written, words_before}
use Rattle.run_state.specs.StateLines.{target_words}

-- it is written behind a space
pub behind_word : (names : NameBook) (word : Word) (to : Spot) (end : List ℕ)
    → written word ++ 32 ∷ words_before (target_words names to) end ≡ words_before (word ∷ target_words names to) end
behind_word names word Out end = refl
behind_word names word (At m) end = refl
