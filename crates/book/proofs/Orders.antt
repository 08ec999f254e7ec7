-- The order of rows and the turn of due entries are strict; which rows agree does not depend on which comes first.
use Rattle.std.proofs.Common.{◌≡◌, ℕ, Bool, true, false, not, ◌&&◌, ◌||◌, eqb, ltb, arith}
use Rattle.std.proofs.lemmas.Bool.Decides.{nat_tests}
use Rattle.values.specs.declared.side.Side.{Side}
use Rattle.values.specs.declared.side.Side.TheVariants.{Buy, Sell}
use Rattle.values.specs.Sides.{no_more_aggressive}
use Rattle.book.specs.declared.row.Row.{Row}
use Rattle.book.specs.declared.row.Due.{Due}
use Rattle.book.specs.Rows.{same_side, bid_first, precedes, numbered, stands_at, not_before, agrees}
use Rattle.book.specs.Dues.{sooner, distinct, owed}

-- `precedes` over the fields that it reads
abbrev goes : ℕ → Side → ℕ → ℕ → ℕ → Side → ℕ → ℕ → Bool
goes e s p n e' s' p' n' = ltb e e' || (eqb e e' && (bid_first s s' || (same_side s s' && (not (no_more_aggressive s p p') || (eqb p p' && ltb n n')))))

goes_trans : (s s' s'' : Side) (e e' e'' p p' p'' n n' n'' : ℕ) → goes e s p n e' s' p' n' ≡ true → goes e' s' p' n' e'' s'' p'' n'' ≡ true → goes e s p n e'' s'' p'' n'' ≡ true
goes_trans Buy Buy Buy e e' e'' p p' p'' n n' n'' h k = grind (arith, nat_tests)
goes_trans Buy Buy Sell e e' e'' p p' p'' n n' n'' h k = grind (arith, nat_tests)
goes_trans Buy Sell Buy e e' e'' p p' p'' n n' n'' h k = grind (arith, nat_tests)
goes_trans Buy Sell Sell e e' e'' p p' p'' n n' n'' h k = grind (arith, nat_tests)
goes_trans Sell Buy Buy e e' e'' p p' p'' n n' n'' h k = grind (arith, nat_tests)
goes_trans Sell Buy Sell e e' e'' p p' p'' n n' n'' h k = grind (arith, nat_tests)
goes_trans Sell Sell Buy e e' e'' p p' p'' n n' n'' h k = grind (arith, nat_tests)
goes_trans Sell Sell Sell e e' e'' p p' p'' n n' n'' h k = grind (arith, nat_tests)

pub precedes_trans : (a b c : Row) → precedes a b ≡ true → precedes b c ≡ true → precedes a c ≡ true
precedes_trans a b c h k = goes_trans a.side b.side c.side a.series b.series c.series a.display b.display c.display a.number b.number c.number h k

pub agrees_number : (a b : Row) → agrees a b ≡ true → eqb a.number b.number ≡ false
agrees_number a b h = grind (arith, nat_tests)

pub precedes_total : (a b : Row) → agrees a b ≡ true → precedes a b ≡ false → precedes b a ≡ true
precedes_total a b g h = grind (arith, nat_tests)

pub precedes_strict : (a b : Row) → precedes a b ≡ true → precedes b a ≡ false
precedes_strict a b h = grind (arith, nat_tests)

-- what comes before a row that is before a side of a series is before it too
pub before_down : (x : ℕ) (side : Side) (a b : Row) → precedes a b ≡ true → not (not_before x side b) ≡ true → not (not_before x side a) ≡ true
before_down x side a b h k = grind (arith, nat_tests)

-- a row before a side of a series does not stand there
pub before_not : (x : ℕ) (side : Side) (a : Row) → not_before x side a ≡ false → stands_at x side a ≡ false
before_not x side a h = grind (arith, nat_tests)

-- nor does one after a row that comes later than that side
pub after_not : (x : ℕ) (side : Side) (a b : Row) → precedes a b ≡ true → not_before x side a ≡ true → stands_at x side a ≡ false → stands_at x side b ≡ false
after_not x side a b h k l = grind (arith, nat_tests)

-- ---- rows that agree

pub agrees_back : (a b : Row) → agrees a b ≡ true → agrees b a ≡ true
agrees_back a b h = grind (arith, nat_tests)

-- at most one row has a number
pub agrees_single : (n : ℕ) (a b : Row) → agrees a b ≡ true → not (numbered n a && numbered n b) ≡ true
agrees_single n a b h = grind (arith, nat_tests)

-- ---- due entries

pub sooner_trans : (a b c : Due) → sooner a b ≡ true → sooner b c ≡ true → sooner a c ≡ true
sooner_trans a b c h k = grind (arith, nat_tests)

pub sooner_total : (a b : Due) → distinct a b ≡ true → sooner a b ≡ false → sooner b a ≡ true
sooner_total a b d h = grind (arith, nat_tests)

pub sooner_strict : (a b : Due) → sooner a b ≡ true → sooner b a ≡ false
sooner_strict a b h = grind (arith, nat_tests)

pub distinct_back : (a b : Due) → distinct a b ≡ true → distinct b a ≡ true
distinct_back a b h = grind (arith, nat_tests)

pub distinct_single : (n : ℕ) (a b : Due) → distinct a b ≡ true → not (owed n a && owed n b) ≡ true
distinct_single n a b h = grind (arith, nat_tests)
