-- What the rows keep, through each change of them; where the best row stands.
use Rattle.std.proofs.Common.{◌≡◌, ℕ, zero, suc, ◌≤◌, Bool, true, not, List, [], ◌∷◌, length, Option, Some, None, sym, refl, ap, ◌∙◌, arith, length-take}
use Rattle.std.specs.List.{remove, slice_get, insert as list_insert}
use Rattle.std.specs.List.Sorted.{IsPartitionedBy}
use Rattle.std.proofs.lemmas.Bool.{and_parts, not-true, not-false, lt-ltb}
use Rattle.std.proofs.lemmas.Bool.Decides.{nat_tests}
use Rattle.values.specs.declared.side.Side.{Side}
use Rattle.book.specs.declared.row.Row.{Row}
use Rattle.book.specs.declared.resting.Rows.{Rows}
use Rattle.book.specs.Listings.{ranked}
use Rattle.book.specs.Lists.{found, or_else, every, pairwise}
use Rattle.book.specs.Rows.{Sound, precedes, agrees, stands_at, sized, not_before, numbered, insert, best_of, settle, resized}
use Rattle.book.proofs.Keeps.{decide, single, every_weaker, pairwise_weaker, every_placed, every_remove, pairwise_remove, pairwise_joined, pairwise_placed, found_none}
use Rattle.book.proofs.Searches.{PartedAt, partitioned, parted_next, placed_at}
use Rattle.book.proofs.Orders.{precedes_trans, precedes_total, precedes_strict, before_down, before_not, after_not, agrees_back, agrees_single}
use Rattle.book.proofs.Settles.{every_settle, pairwise_settle}

pub sound_insert : (row : Row) (rs : List Row) → every (agrees row) rs ≡ true → sized row ≡ true → Sound rs → Sound (insert row rs)
sound_insert row rs fits some s = (
  pairwise_placed (precedes row) precedes (agrees row) row (λ x g h. precedes_total row x g h) (λ x h. h) (λ x z h k. precedes_trans row x z h k) rs fits s.0,
  pairwise_joined (precedes row) agrees row (λ x h. agrees_back row x h) rs fits s.1,
  every_placed (precedes row) sized row some rs s.2,
)

pub sound_remove : (i : ℕ) (rs : List Row) → Sound rs → Sound (remove rs i)
sound_remove i rs s = (pairwise_remove precedes rs i s.0, pairwise_remove agrees rs i s.1, every_remove sized rs i s.2)

agrees_right : (due : ℕ) (x y : Row) (k : ℕ) → agrees x y ≡ true → agrees x (resized due (suc k) y) ≡ true
agrees_right due x y k h = grind (arith, nat_tests)

agrees_left : (due : ℕ) (x y : Row) (k : ℕ) → agrees x y ≡ true → agrees (resized due (suc k) x) y ≡ true
agrees_left due x y k h = grind (arith, nat_tests)

pub sound_settle : (due q n : ℕ) (rs : List Row) → Sound rs → Sound (settle due q n rs)
sound_settle due q n rs s = (
  pairwise_settle precedes due q n (λ x y k h. h) (λ x y k h. h) rs s.0,
  pairwise_settle agrees due q n (agrees_right due) (agrees_left due) rs s.1,
  every_settle sized due q n (λ r k h. lt-ltb 0 (suc k) (omega arith)) rs s.2,
)

-- a book has no more rows than places
pub few_rows : (b : Rows) → length (ranked b) ≤ 256
few_rows b = omega (arith, b.few, length-take b.count b.slots)

pub single_number : (n : ℕ) (rs : List Row) → Sound rs → single (numbered n) rs ≡ true
single_number n rs s = pairwise_weaker (λ a b h. agrees_single n a b h) rs s.1

-- the rows that come before a row stand before the others
pub partitioned_rank : (row : Row) (rs : List Row) → Sound rs → IsPartitionedBy (λ r. precedes r row) rs
partitioned_rank row rs s = partitioned precedes (λ r. precedes r row) (λ a b h k. precedes_trans a b row h k) rs s.0

pub placed_rank : (row : Row) (rs : List Row) (i : ℕ) → every (agrees row) rs ≡ true → PartedAt (λ r. precedes r row) rs i → list_insert rs i row ≡ insert row rs
placed_rank row rs i fits h = placed_at precedes (agrees row) row (λ x k. precedes_strict x row k) (λ x g k. precedes_total x row (agrees_back row x g) k) rs i fits h

-- ---- the best row is the first that is not before its side of the series, or there is none

abbrev pub is_before : ℕ → Side → Row → Bool
is_before x side r = not (not_before x side r)

pub partitioned_side : (x : ℕ) (side : Side) (rs : List Row) → Sound rs → IsPartitionedBy (is_before x side) rs
partitioned_side x side rs s = partitioned precedes (is_before x side) (λ a b h k. before_down x side a b h k) rs s.0

-- the row, if it stands there
abbrev pub if_there : ℕ → Side → Option Row → Option Row
if_there x side None = None
if_there x side (Some r) = or_else (stands_at x side r) r None

pub best_at : (x : ℕ) (side : Side) (rs : List Row) (i : ℕ) → pairwise precedes rs ≡ true → PartedAt (is_before x side) rs i → best_of x side rs ≡ if_there x side (slice_get rs i)
unfolding found
best_at x side [] i all h = refl
best_at x side (r ∷ rs) zero all h =
    let a = and_parts (every (precedes r) rs) _ all in
    let st = stands_at x side in
    let is = not-false _ (h.back 0 r (omega arith) (omega arith)) in
    decide (st r)
    (λ e. ap (λ t. or_else t r (found st rs)) e ∙ sym (ap (λ t. or_else t r None) e))
    (λ e. ap (or_else (st r) r) (found_none st rs (every_weaker (λ y k. ap not (after_not x side r y k is e)) rs a.0)))
best_at x side (r ∷ rs) (suc i) all h =
    let n = parted_next (is_before x side) r rs i h in
    ap (λ t. or_else t r (found (stands_at x side) rs)) (before_not x side r (not-true _ n.0)) ∙ best_at x side rs i (and_parts (every (precedes r) rs) _ all).1 n.1
