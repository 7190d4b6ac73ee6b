-- The events that a log records which a crash has left.
use Rattle.std.specs.Prelude.{◌≡◌, ℕ, List, ◌++◌, length}
use Rattle.shop_base.specs.Plan.{PlannedShop}
use Rattle.text_lines.specs.Lines.{ended_lines}
use Rattle.cell_tables.specs.declared.entry.Entry.{Entry}
use Rattle.event_lines.specs.LogLines.{LinesParse}
use Rattle.run_journal.specs.{LogFiles.IsLeft, WholeLines.whole_lines, LoggedLines.logged}

-- the ended lines of what was left record the events that were recorded before, and behind them the first of those that came, with all that were shown
pub record HasShownEvents (p : PlannedShop) (recorded came : List Entry) (shown left : List ℕ) : Type 0 where
  pub kept : List Entry
  pub lost : List Entry
  pub came_so : came ≡ kept ++ lost
  pub parses : LinesParse p (ended_lines left) (recorded ++ kept)
  pub has_shown : (entries : List Entry) → LinesParse p (ended_lines shown) entries → (more : List Entry) × (kept ≡ entries ++ more)

-- whole lines recorded some events; a text came that records others, some of it was shown, and the log got what it gets. Whatever a crash leaves is such a log
abbrev pub ACrashLeavesALog : Type 0
ACrashLeavesALog = (p : PlannedShop) (base shown pending left : List ℕ) (recorded came : List Entry) → whole_lines base ≡ base
    → IsLeft (length (base ++ logged shown)) (base ++ logged (shown ++ pending)) left
    → LinesParse p (ended_lines base) recorded → LinesParse p (ended_lines (shown ++ pending)) came → HasShownEvents p recorded came shown left
