-- What is printed after a line.
use Rattle.std.specs.Prelude.{◌≡◌, ℕ, List, [], ◌∷◌, ◌++◌, map, Some, None, Ok, Err, ⊤, codes, decimal, Option, Result, unwrap_or}
use Rattle.std.specs.List.{flat_map, join_with_byte}
use Rattle.book.specs.declared.row.Trade.{Trade}
use Rattle.book.specs.declared.row.Withdrawal.{Withdrawal}
use Rattle.values.specs.declared.refusal.Refusal.{Refusal}
use Rattle.values.specs.declared.refusal.Refusal.TheVariants.{Shape}
use Rattle.values.specs.Refusals.{number, word}
use Rattle.wire.specs.Splitting.{Item}
use Rattle.wire_format.specs.RoundTrips.{IsLine}

-- fields, parted by one tab (9) each
abbrev pub fields : List (List ℕ) → List ℕ
fields texts = join_with_byte 9 texts

abbrev pub trade_text : Trade → List ℕ
trade_text t = fields (codes "t" ∷ decimal t.series ∷ decimal t.price ∷ decimal t.size ∷ decimal t.taker ∷ decimal t.resting ∷ [])

abbrev pub withdrawal_text : Withdrawal → List ℕ
withdrawal_text w = fields (codes "w" ∷ decimal w.number ∷ decimal w.left ∷ [])

-- code 0 where a line is taken, with the number given, or 0 where none was
abbrev pub answer_text : Result (Option ℕ) Refusal → List ℕ
answer_text (Ok given) = fields (codes "a" ∷ codes "0" ∷ decimal (unwrap_or given 0) ∷ codes "taken" ∷ [])
answer_text (Err e) = fields (codes "a" ∷ decimal (number e) ∷ codes "0" ∷ word e ∷ [])

-- texts, a line each
abbrev pub printed_lines : List (List ℕ) → List ℕ
printed_lines texts = flat_map (λ text. text ++ codes "\n") texts

-- what is printed after a line: its trades, its withdrawals, then its answer
abbrev pub printed : List Trade → List Withdrawal → Result (Option ℕ) Refusal → List ℕ
printed trades withdrawals answer = printed_lines (map trade_text trades ++ map withdrawal_text withdrawals ++ answer_text answer ∷ [])

-- a line that is broken, whatever the session
abbrev pub IsBroken : Item → Type 0
IsBroken None = ⊤
IsBroken (Some bytes) = IsLine bytes → ⊥

-- what may be printed after a line: after a broken one the refusal of its shape alone
abbrev pub MayPrint : Item → List ℕ → Type 0
MayPrint item text =
    (trades : List Trade) × (withdrawals : List Withdrawal) × (answer : Result (Option ℕ) Refusal)
    × (text ≡ printed trades withdrawals answer)
    × (IsBroken item → (trades ≡ []) × (withdrawals ≡ []) × (answer ≡ Err Shape))
