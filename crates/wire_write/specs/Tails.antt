-- The end of a line that is being made, from its last byte to its first.
use Rattle.std.specs.Prelude.{◌≡◌, ℕ, ◌+◌, ◌≤◌, List, drop, Some, None, Result, MatchResult}
use Rattle.values.specs.declared.refusal.Refusal.{Refusal}
use Rattle.values.specs.declared.refusal.Refusal.TheVariants.{Shape}
use Rattle.wire_write.specs.declared.tail.Tail.{Tail}
use Rattle.wire_format.specs.Format.{Text}

-- the bytes that are made
abbrev pub made : Tail → List ℕ
made t = drop t.start t.bytes

-- a text now stands before what was made, in at most `room` bytes
pub record Grown (before : Tail) (says : Text) (room : ℕ) (after : Tail) : Type 0 where
  pub is : says ≡ Some (made after)
  pub near : before.start ≤ after.start + room

-- the same, or the text cannot be written
abbrev pub Grows : Tail → Text → ℕ → Result Unit Refusal → Tail → Type 0
Grows before says room r after = MatchResult r (λ _. Grown before says room after) (λ e. (e ≡ Shape) × (says ≡ None))
