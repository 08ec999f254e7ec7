-- Whose quote a row is, by its face.
use Rattle.std.proofs.Common.{◌≡◌, ℕ, Bool, false, eqb, refl}
use Rattle.book.specs.declared.row.Standing.{Standing}
use Rattle.book.specs.declared.row.Standing.TheVariants.{Plain, Held, Quote}
use Rattle.trading.proofs.Faces.{Role, plain, held, quote, role_of}
use Rattle.market.specs.Tests.{is_mine}

-- the role of a quote of k
abbrev pub mine : ℕ → Role → Bool
mine k plain = false
mine k (held c) = false
mine k (quote i) = eqb i k

pub mine_role : (k : ℕ) (x : Standing) → is_mine k x ≡ mine k (role_of x)
mine_role k Plain = refl
mine_role k (Held c d) = refl
mine_role k (Quote i) = refl
