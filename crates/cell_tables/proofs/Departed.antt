-- How many jobs have left a machine.
use Rattle.std.proofs.Common.{◌≡◌, ℕ, ◌+◌, length, sym, ◌∙◌, arith}
use Rattle.shop_base.specs.{Plan.{PlannedShop, IsWellShaped}, Cell.{Cell, entries, IsOn, IsFree}, ReportsLeft.departures, Sound.IsSound}
use Rattle.shop_base.proofs.Departures.{departures_free, departures_on}

-- all entrants have left a machine on which no job is, and all but one another
pub departed_free : (p : PlannedShop) (c : Cell) (m n : ℕ) → IsFree p c m → n ≡ length (entries c m) → n ≡ departures p c m
departed_free p c m n free count = count ∙ sym (departures_free p c m free)

pub departed_on : (p : PlannedShop) (c : Cell) (j k m n : ℕ) → IsWellShaped p → IsSound p c → IsOn p c j k m → n ≡ length (entries c m) → departures p c m + 1 ≡ n
departed_on p c j k m n shaped sound on count = omega (arith, departures_on p c j k m shaped sound on, count)
