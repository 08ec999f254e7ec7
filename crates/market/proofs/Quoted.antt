-- What the answer of a quote screen says, and that a maker's older quote is gone once it is withdrawn.
use Rattle.std.proofs.Common.{◌≡◌, ℕ, ◌<◌, Bool, true, false, not, ◌&&◌, eqb, ltb, List, [], ◌∷◌, length, Some, Ok, Err, sym, refl, ap, ◌∙◌, inl, inr, arith}
use Rattle.std.proofs.lemmas.Bool.{ltb-true, eqb-true, eq-eqb, and_parts, and_from}
use Rattle.values.specs.declared.side.Side.{Side}
use Rattle.book.specs.declared.row.Row.{Row}
use Rattle.book.specs.declared.row.Standing.{Standing}
use Rattle.book.specs.declared.row.Standing.TheVariants as standing
use Rattle.book.specs.Lists.{every}
use Rattle.book.specs.Taking.{Has}
use Rattle.book.specs.Rows.{same_side, stands_at}
use Rattle.screens.specs.declared.view.QuoteRefusal.{QuoteRefusal}
use Rattle.screens.specs.declared.view.Extent.{Extent}
use Rattle.screens.specs.Views.{Verdict, ruling_by}
use Rattle.trading.specs.declared.floor.Floor.{Floor}
use Rattle.trading.specs.Desks.{pull}
use Rattle.trading.specs.Doing.{desk, count, is_quote_of}
use Rattle.trading.specs.Rests.{below}
use Rattle.trading.specs.Floors.{rows_on}
use Rattle.trading.proofs.Sides.{decide, clash}
use Rattle.trading.proofs.Faces.{Role, plain, held, quote, role_of, Face, face, face_number, In, has_in}
use Rattle.trading.proofs.Each.{every_from, sound_distinct}
use Rattle.trading.proofs.Gone.{pull_in, pull_gone, pull_count}
use Rattle.market.specs.Tests.{is_mine, on_side}
use Rattle.market.proofs.Quotas.{count_zero, count_both}

-- where a quote screen refuses, its verdict says for which cause, and the refusal how far it reaches
pub refusing : (v : Verdict) (y : Extent) (r : QuoteRefusal) → Err r ≡ ruling_by v y → (Err r.cause ≡ v) × (y ≡ r.extent)
refusing (Ok pass) y r e = cc
refusing (Err why) y r e = (cc, cc)

-- where it passes, its verdict does
pub passing : (v : Verdict) (y : Extent) (done : Unit) → Ok done ≡ ruling_by v y → Ok done ≡ v
passing (Ok pass) y done e = refl
passing (Err why) y done e = cc

-- ---- the older quote is gone once it is withdrawn

-- the role of a quote of k
abbrev mine : ℕ → Role → Bool
mine k plain = false
mine k (held c) = false
mine k (quote i) = eqb i k

mine_role : (k : ℕ) (x : Standing) → is_mine k x ≡ mine k (role_of x)
mine_role k standing.Plain = refl
mine_role k (standing.Held c d) = refl
mine_role k (standing.Quote i) = refl

numbered_in : (next : ℕ) (rs : List Row) → every (below next) rs ≡ true → (f : Face) → In f rs → 0 < f.number
numbered_in next [] e f i = absurd i
numbered_in next (r ∷ rs) e f (inl s) =
    let a = ltb-true 0 r.number (and_parts (ltb 0 r.number) (ltb r.number next) (and_parts (below next r) (every (below next) rs) e).0).0 in
    omega (arith, a, face_number s)
numbered_in next (r ∷ rs) e f (inr i) = numbered_in next rs (and_parts (below next r) (every (below next) rs) e).1 f i

module _ (k s : ℕ) (side : Side) (floor : Floor) where
  abbrev p : Row → Bool
  p r = on_side k s side r

  abbrev left : List Row
  left = (pull p (desk (rows_on floor))).rows

  side_gone : (r : Row) → Has r left → p r ≡ false
  side_gone r h =
      let same : (r : Row) → p r ≡ mine k (role_of r.standing) && (eqb r.series s && same_side r.side side) = λ r. ap (λ (b : Bool). b && (eqb r.series s && same_side r.side side)) (mine_role k r.standing) in
      let i = has_in r left h in
      same r
      ∙ pull_gone p (λ y. mine k y.role && (eqb y.series s && same_side y.side side)) same (desk (rows_on floor)) (sound_distinct (rows_on floor) floor.book.resting.sound) (face r) i
      (numbered_in floor.next (rows_on floor) floor.rest.0 (face r) (pull_in p (desk (rows_on floor)) (face r) i))

  pub side_place : count (λ r. not (on_side k s side r)) (rows_on floor) < 256 → length left < 256
  side_place h = omega (arith, h, count_both p left, count_zero p left side_gone, pull_count p (λ r. not (on_side k s side r)) (desk (rows_on floor)))

  quote_mine : (x : Standing) → is_quote_of (Some k) x ≡ true → is_mine k x ≡ true
  quote_mine standing.Plain e = e
  quote_mine (standing.Held c d) e = e
  quote_mine (standing.Quote i) e = eq-eqb i k (sym (eqb-true k i e))

  pub side_rivals : every (λ r. not (stands_at s side r && is_quote_of (Some k) r.standing)) left ≡ true
  side_rivals = every_from (λ r. not (stands_at s side r && is_quote_of (Some k) r.standing)) left (λ r h. decide (stands_at s side r && is_quote_of (Some k) r.standing)
      (λ y.
      let q = and_parts (stands_at s side r) (is_quote_of (Some k) r.standing) y in
      absurd (clash (p r) (and_from (is_mine k r.standing) (stands_at s side r) (quote_mine r.standing q.1) q.0) (side_gone r h)))
      (λ y. rw y))
