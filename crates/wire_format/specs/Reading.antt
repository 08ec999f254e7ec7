-- Reading: which value the bytes are written of.
use Rattle.std.specs.Prelude.{◌≡◌, ℕ, List, Some, Result, MatchResult, ◌≢◌}
use Rattle.values.specs.declared.refusal.Refusal.{Refusal}
use Rattle.values.specs.declared.refusal.Refusal.TheVariants.{Shape}
use Rattle.wire_format.specs.Format.{Text}

-- r is the one value whose text is s; a refusal for its shape where there is none
abbrev pub Reads : {A : Type 0} → (A → Text) → List ℕ → Result A Refusal → Type 0
Reads says s r = MatchResult r (λ a. (says a ≡ Some s) × ((b : _) → says b ≡ Some s → b ≡ a)) (λ e. (e ≡ Shape) × ((b : _) → says b ≢ Some s))
