use Rattle.std.proofs.Common.{ℕ, List, codes, Bor}
use Rattle.log_chapters.proofs.Prefixes.{begins_where_found}
use Rattle.log_chapters.proofs.naming.is_of_names.Goals as goal

pub returns-then-starts_with : goal.returns-then-starts_with
returns-then-starts_with c = begins_where_found (λ (rest : Bor (List ℕ)). rest.now) (codes "unfinished names: ") c.args.line.now c.after_prefix.result c.is_some.result c.is_some.ensures c.after_prefix.ensures
