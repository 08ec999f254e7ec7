-- Trader Updates: which widths they may give, and who may approve them.
use Rattle.std.specs.Prelude.{ℕ, Bool, true, cond, not, ◌&&◌, Some, None, Ok, Err, Option, Result, ◌==◌, nat_le}
use Rattle.values.specs.declared.refusal.Refusal.{Refusal}
use Rattle.values.specs.declared.refusal.Refusal.TheVariants.{Name, Price, Same}

-- none returns the series to the ladder
abbrev pub lawful_width : Option ℕ → Bool
lawful_width None = true
lawful_width (Some w) = nat_le 1 w && nat_le w 1000

abbrev pub official : ℕ → Bool
official k = nat_le k 15

abbrev pub different : ℕ → ℕ → Bool
different j k = not (j == k)

abbrev pub passed : Result Unit Refusal
passed = Ok tt

-- a width out of range
abbrev pub width_check : Option ℕ → Result Unit Refusal
width_check w = cond (lawful_width w) passed (Err Price)

-- an official that there is none of
abbrev pub official_check : ℕ → Result Unit Refusal
official_check k = cond (official k) passed (Err Name)

-- the second official: the same checks, and not the first once more
abbrev pub second_check : ℕ → ℕ → Result Unit Refusal
second_check first k = cond (official k) (cond (different first k) passed (Err Same)) (Err Name)
