-- Orders that grow at their ends.
use Rattle.std.specs.Prelude.{◌≡◌, ℕ, ◌<◌, List, [], ◌++◌, length, slice_index_or}

-- each machine's order has these jobs more, behind those that it had before
pub record IsGrown (before after : List (List ℕ)) (more : ℕ → List ℕ) : Type 0 where
  pub count : length after ≡ length before
  pub rows : (m : ℕ) → m < length before → slice_index_or after m [] ≡ slice_index_or before m [] ++ more m
