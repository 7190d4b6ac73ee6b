-- The line by which a log knows its plan and its shop.
use Rattle.std.specs.Prelude.{◌≡◌, ℕ, nat_le, ◌&&◌, ◌||◌, Bool, IsTrue, List, ◌++◌, codes, length}
use Rattle.std.specs.List.{list_all}
use Rattle.event_lines.specs.declared.run_digits.RunDigits.{RunDigits}

-- a hexadecimal digit, no capital letter
abbrev pub is_small_hex : ℕ → Bool
is_small_hex b = (nat_le 48 b && nat_le b 57) || (nat_le 97 b && nat_le b 102)

-- 16 such digits
abbrev pub AreSixteen : List ℕ → Type 0
AreSixteen bytes = (length bytes ≡ 16) × IsTrue (list_all is_small_hex bytes)

-- 16 such digits of each
abbrev pub AreDigits : RunDigits → Type 0
AreDigits digits = AreSixteen digits.plan × AreSixteen digits.shop

-- `plan P shop S`
abbrev pub digits_words : RunDigits → List ℕ
digits_words digits = codes "plan " ++ (digits.plan ++ (codes " shop " ++ digits.shop))

-- `unfinished plan P shop S`
abbrev pub plan_words : RunDigits → List ℕ
plan_words digits = codes "unfinished " ++ digits_words digits

-- the line of a plan and its shop
abbrev pub plan_line : RunDigits → List ℕ
plan_line digits = plan_words digits ++ codes "\n"

-- a line of just this form
abbrev pub IsPlanLine : List ℕ → RunDigits → Type 0
IsPlanLine line digits = (line ≡ plan_words digits) × AreDigits digits
