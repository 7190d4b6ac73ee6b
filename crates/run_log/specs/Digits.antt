-- The digits of a plan and its shop.
use Rattle.std.specs.Prelude.{ℕ, List, [], take}
use Rattle.hex.specs.Hex.{encode_lower}
use Rattle.sha2.specs.Sha256.{sha256}
use Rattle.shop_base.specs.Shop.{JobShop}
use Rattle.shop_base.specs.Plan.{ShopPlan}
use Rattle.orlib_read.specs.Lines.{instance_lines}
use Rattle.plan_text.specs.Lines.{plan_lines}
use Rattle.event_lines.specs.declared.run_digits.RunDigits.{RunDigits}

-- the first 8 bytes of a text's SHA-256 (FIPS 180-4), in 16 hexadecimal digits with small letters
abbrev pub first_digits : List ℕ → List ℕ
first_digits text = encode_lower (take 8 (sha256 text))

-- those of the text that is written for the plan, and of the one that is written for the instance without a description
abbrev pub digits_of : JobShop → ShopPlan → RunDigits
digits_of shop plan = record { plan = first_digits (plan_lines plan); shop = first_digits (instance_lines [] shop) }
