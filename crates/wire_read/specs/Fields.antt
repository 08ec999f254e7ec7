-- The fields of a line, as they are read one after another.
use Rattle.std.specs.Prelude.{◌≡◌, ℕ, ◌<◌, ◌≤◌, List, ◌∷◌, ◌++◌, length, take, Some, codes, Result, MatchResult, ◌≢◌, slice_index, slice_index_or}
use Prim.Native.String.{String}
use Rattle.std.specs.Borrow.{Bor}
use Rattle.std.specs.Str.Parse.{digits_value, AllDigits}
use Rattle.std.specs.Int.{IsInRange}
use Rattle.values.specs.declared.refusal.Refusal.{Refusal}
use Rattle.values.specs.declared.refusal.Refusal.TheVariants.{Shape}
use Rattle.wire_format.specs.Format.{Text, glued}

-- s is the text of a, the byte `end` and rest, and is that of no other value and rest
pub record Front {A : Type 0} (says : A → Text) (end : ℕ) (s : List ℕ) (a : A) (rest : List ℕ) : Type 0 where
  pub splits : glued end (says a) (Some rest) ≡ Some s
  pub once : (b : A) (t : List ℕ) → glued end (says b) (Some t) ≡ Some s → (b ≡ a) × (t ≡ rest)

-- r is the field at the front of s, which the byte `end` ends, and what follows that byte
abbrev pub Takes : {A : Type 0} → (A → Text) → ℕ → List ℕ → Result (A × Bor (List ℕ)) Refusal → Type 0
Takes says end s r = MatchResult r (λ p. Front says end s p.0 p.1.now) (λ e. (e ≡ Shape) × ((b : _) (t : List ℕ) → glued end (says b) (Some t) ≢ Some s))

-- the first i bytes of s are digits, and write n
pub record Number (s : List ℕ) (n i : ℕ) : Type 0 where
  pub digits : AllDigits 10 (take i s)
  pub value : n ≡ digits_value 10 (take i s)

-- so they are, at most nine, and no digit follows unless nine came
pub record Run (s : List ℕ) (n i : ℕ) : Type 0 where
  pub within : i ≤ length s
  pub short : i ≤ 9
  pub number : Number s n i
  pub stops : i < 9 → i < length s → IsInRange 48 57 (slice_index s i) → ⊥

-- where the first i bytes of s are its digits, they are a count and `end` ends it: no leading zero but for 0 itself
pub record Count (s : List ℕ) (i end : ℕ) : Type 0 where
  pub some : 0 < i
  pub more : i < length s
  pub lead : slice_index_or s 0 0 ≡ 48 → i ≡ 1
  pub ends : slice_index_or s i 0 ≡ end

-- a letter, a tab and s
abbrev pub under : String → List ℕ → List ℕ
under letter s = codes letter ++ (9 ∷ s)
