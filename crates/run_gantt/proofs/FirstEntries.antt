-- The first of the entries that are left.
use Rattle.std.proofs.Common.{◌≡◌, ℕ, suc, ◌-◌, ◌<◌, ◌≤◌, List, ◌∷◌, length, get_or, drop, drop-cons, sym, ap, ◌∙◌, arith}
use Rattle.cell_tables.specs.declared.entry.Entry.{Entry}

-- the entry before a place, and those from the place on
pub entry_first : (entries : List Entry) (place : ℕ) (d : Entry) → 0 < place → place ≤ length entries → get_or entries (place - 1) d ∷ drop place entries ≡ drop (place - 1) entries
entry_first entries place d above within =
    let inside : place - 1 < length entries = omega (arith, above, within) in
    let next : suc (place - 1) ≡ place = omega (arith, above) in
    sym (drop-cons entries (place - 1) d inside ∙ ap (λ (n : ℕ). get_or entries (place - 1) d ∷ drop n entries) next)
