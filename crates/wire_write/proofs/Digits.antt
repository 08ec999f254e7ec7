-- The digits of a count.
use Rattle.std.proofs.Common.{◌≡◌, ℕ, ◌+◌, ◌/◌, ◌%◌, ◌^◌, ◌<◌, ◌≤◌, List, [], ◌∷◌, ◌++◌, length, decimal, ap, ◌∙◌, append_assoc, arith}
use Rattle.std.proofs.lemmas.Fmt.{decimal_digit, decimal_nonempty, decimal_step, length-decimal-le}
use Rattle.std.proofs.lemmas.List.{length_push}

pub some_digits : (n : ℕ) → n < 10 ^ 9 → (0 < length (decimal n)) × (length (decimal n) ≤ 9)
some_digits n h = (decimal_nonempty n (omega arith), length-decimal-le 9 n (omega arith) h (omega arith))

-- the last digit stands before what was made, and the others before it
pub last_digit : (n : ℕ) (t : List ℕ) → 10 ≤ n → n < 10 ^ 9 → decimal n ++ t ≡ decimal (n / 10) ++ ((48 + n % 10) ∷ t)
last_digit n t two small =
    ap (λ ds. ds ++ t) (decimal_step n (omega arith) (omega arith)) ∙ append_assoc (decimal (n / 10)) ((48 + n % 10) ∷ []) t

pub one_shorter : (n : ℕ) → 10 ≤ n → n < 10 ^ 9 → length (decimal n) ≡ length (decimal (n / 10)) + 1
one_shorter n two small = ap length (decimal_step n (omega arith) (omega arith)) ∙ length_push (decimal (n / 10)) (48 + n % 10)

pub first_digit : (n : ℕ) (t : List ℕ) → n < 10 → decimal n ++ t ≡ (48 + n) ∷ t
first_digit n t one = ap (λ ds. ds ++ t) (decimal_digit n one)

pub ruleset digit_steps = (some_digits, last_digit, one_shorter, first_digit)
