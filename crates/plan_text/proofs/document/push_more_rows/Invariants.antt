use Rattle.std.proofs.Common.{◌≡◌, ◌++◌, drop, string_bytes}
use Rattle.shop_base.specs.Vectors.{lists_of}
use Rattle.plan_text.specs.Lines.{after_first, numbers_text}
use Rattle.plan_text.proofs.document.push_more_rows.Given as goal

abbrev pub invariant-loop-row : goal.invariant-loop-row
invariant-loop-row l = string_bytes l.text ++ after_first numbers_text (lists_of (drop l.row-index l.rows)) ≡ string_bytes l.initial.text ++ after_first numbers_text (lists_of l.rows)
