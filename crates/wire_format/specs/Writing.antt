-- Writing: what is answered, and what the caller's bytes hold then.
use Rattle.std.specs.Prelude.{◌≡◌, ℕ, ◌<◌, ◌⊎◌, List, ◌++◌, length, drop, Some, None, Ok, Err, Result, nat_le, if◌then◌else◌}
use Rattle.values.specs.declared.refusal.Refusal.{Refusal}
use Rattle.values.specs.declared.refusal.Refusal.TheVariants.{Shape, Rows}
use Rattle.wire_format.specs.Format.{Text}

-- what writing a text at the front of `out` answers: how many bytes it has, where out has room for the longest line
abbrev pub writing : Text → List ℕ → Result ℕ Refusal
writing None out = Err Shape
writing (Some bs) out = if nat_le 80 (length out) then Ok (length bs) else Err Rows

-- and what out holds then: a refusal leaves it as it was
abbrev pub over : Text → List ℕ → List ℕ
over None out = out
over (Some bs) out = if nat_le 80 (length out) then bs ++ drop (length bs) out else out

-- why writing is refused
abbrev pub Refused : Text → List ℕ → Refusal → Type 0
Refused t out e = ((e ≡ Shape) × (t ≡ None)) ⊎ ((e ≡ Rows) × (length out < 80))
