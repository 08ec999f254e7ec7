-- What naming a maker, a class or a series comes to.
use Rattle.std.specs.Prelude.{◌≡◌, ℕ, ◌<◌, ◌≤◌, Result, MatchResult}
use Rattle.values.specs.declared.refusal.Refusal.{Refusal}
use Rattle.values.specs.declared.refusal.Refusal.TheVariants.{Name}
use Rattle.market.specs.declared.number.Number.{Number}

-- of m that there are, the one with the number n; if there is none, a refusal
abbrev pub Names : {N : ℕ} → ℕ → ℕ → Result (Number N) Refusal → Type 0
Names m n r = MatchResult r (λ x. (x.value ≡ n) × (n < m)) (λ e. (m ≤ n) × (e ≡ Name))
