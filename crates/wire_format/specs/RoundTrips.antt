-- Round trips: reading undoes writing, and writing undoes reading.
use Rattle.std.specs.Prelude.{◌≡◌, ℕ, ◌⊎◌, List, Some, None, Ok, Err, Result, MatchResult}
use Rattle.values.specs.declared.refusal.Refusal.{Refusal}
use Rattle.values.specs.declared.refusal.Refusal.TheVariants.{Shape}
use Rattle.wire_format.specs.declared.line.Line.{Line}
use Rattle.wire_format.specs.Format.{written}
use Rattle.wire_format.specs.Reading.{Reads}
use Rattle.wire_format.specs.Writing.{writing, over}

-- some line has these bytes
abbrev pub IsLine : List ℕ → Type 0
IsLine bs = (l : Line) × (written l ≡ Some bs)

-- no two lines have these bytes
abbrev pub Unambiguous : List ℕ → Type 0
Unambiguous bs = (k l : Line) → written k ≡ Some bs → written l ≡ Some bs → k ≡ l

-- whatever reading these bytes answers, it is the line l
abbrev pub ReadsBack : Line → List ℕ → Type 0
ReadsBack l bs = (a : Result Line Refusal) → Reads written bs a → a ≡ Ok l

-- the bytes of a line, read and written again, are the same bytes; other bytes are refused and nothing is written
abbrev pub Rewrites : List ℕ → List ℕ → Result ℕ Refusal → List ℕ → Type 0
Rewrites bs out r after =
    (IsLine bs × (r ≡ writing (Some bs) out) × (after ≡ over (Some bs) out))
    ⊎ ((IsLine bs → ⊥) × (r ≡ Err Shape) × (after ≡ out))

-- what a line says, written and read again, is the same; only a line that cannot be written is refused
abbrev pub Rereads : Line → Result Line Refusal → Type 0
Rereads l r = MatchResult r (λ k. k ≡ l) (λ e. (e ≡ Shape) × (written l ≡ None))
