use Rattle.std.proofs.Common.{rules}
use Rattle.plan_seek.proofs.search.seek.Goals as goal

pub returns-in-Err-clause-refused : goal.returns-in-Err-clause-refused
returns-in-Err-clause-refused g c = search rules depth 2

pub returns-then-rounds-gt-MAX_ROUNDS-clause-refused : goal.returns-then-rounds-gt-MAX_ROUNDS-clause-refused
returns-then-rounds-gt-MAX_ROUNDS-clause-refused g c = search rules depth 2

pub search-requires : goal.search-requires
search-requires g c = search rules depth 2
