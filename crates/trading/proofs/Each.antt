-- Going through the numbers: those that nobody wanted has are passed over.
use Rattle.std.proofs.Common.{◌≡◌, ℕ, zero, suc, ◌+◌, ◌-◌, ◌<◌, ◌≤◌, Bool, true, false, cond, not, eqb, ltb, leb, List, [], ◌∷◌, Some, None, Option, sym, refl, ap, ◌∙◌, subst, inl, inr, ⊎_elim, arith}
use Rattle.std.proofs.lemmas.Bool.{leb-true, ltb-true, ltb-false, le-leb, eqb-false, and_parts, and_from, not-true, cond_both, cases_eq}
use Rattle.book.specs.declared.row.Row.{Row}
use Rattle.book.specs.Lists.{every, pairwise}
use Rattle.book.specs.Taking.{Has}
use Rattle.book.specs.Rows.{agrees, sized, Sound, row_of, lower, lowest, wanted_from}
use Rattle.trading.specs.Desks.{Desk, highest, each_number}
use Rattle.trading.proofs.Sides.{clash, decide}
use Rattle.trading.proofs.Faces.{Face, face, In, Within, has_in, row_of_has, row_of_some, Positive, Distinct}
use Rattle.trading.proofs.Resting.{highest_in}

-- ---- what the book's type says of its rows

pub every_has : (p : Row → Bool) (xs : List Row) → every p xs ≡ true → (r : Row) → Has r xs → p r ≡ true
every_has p [] e r h = absurd h
every_has p (x ∷ xs) e r (inl s) = subst (λ (y : Row). p y ≡ true) (sym s) (and_parts (p x) (every p xs) e).0
every_has p (x ∷ xs) e r (inr h) = every_has p xs (and_parts (p x) (every p xs) e).1 r h

pub every_from : (p : Row → Bool) (xs : List Row) → ((r : Row) → Has r xs → p r ≡ true) → every p xs ≡ true
every_from p [] h = refl
every_from p (x ∷ xs) h = and_from (p x) (every p xs) (h x (inl refl)) (every_from p xs (λ r i. h r (inr i)))

-- a face of the rows is that of a row
pub in_has : (f : Face) (xs : List Row) → In f xs → (r : Row) × Has r xs × (f ≡ face r)
in_has f [] i = absurd i
in_has f (x ∷ xs) (inl e) = (x, inl refl, e)
in_has f (x ∷ xs) (inr i) = let h = in_has f xs i in (h.0, inr h.1, h.2)

pub sound_positive : (xs : List Row) → Sound xs → Positive xs
sound_positive xs s = go xs s.2
  where
    go : (ys : List Row) → every sized ys ≡ true → Positive ys
    go [] e = tt
    go (y ∷ ys) e = let a = and_parts (sized y) (every sized ys) e in (leb-true 1 y.size a.0, go ys a.1)

pub sound_distinct : (xs : List Row) → Sound xs → Distinct xs
sound_distinct xs s = go xs s.1
  where
    go : (ys : List Row) → pairwise agrees ys ≡ true → Distinct ys
    go [] e = tt
    go (y ∷ ys) e =
        let a = and_parts (every (agrees y) ys) (pairwise agrees ys) e in (
          λ f i n.
              let h = in_has f ys i in
              let d : eqb y.number h.0.number ≡ false = not-true _ (and_parts (not (eqb y.number h.0.number)) _ (every_has (agrees y) ys a.0 h.0 h.1)).0 in
              eqb-false y.number h.0.number d (sym n ∙ ap (λ (z : Face). z.number) h.2),
          go ys a.1,
        )

-- ---- the lowest number of the rows that are wanted

pub record Lowest (p : Row → Bool) (r : Row) (xs : List Row) : Type 0 where
  pub there : Has r xs
  pub passes : p r ≡ true
  pub least : (q : Row) → Has q xs → p q ≡ true → r.number ≤ q.number

lower_none : (b : Bool) (x : Row) (o : Option Row) → lower b x o ≡ None → (b ≡ false) × (o ≡ None)
lower_none false x o e = (refl, e)
lower_none true x None e = cc
lower_none true x (Some q) e = cc

pub lowest_none : (p : Row → Bool) (xs : List Row) → lowest p xs ≡ None → (q : Row) → Has q xs → p q ≡ false
unfolding lowest
lowest_none p [] e q h = absurd h
lowest_none p (x ∷ xs) e q (inl s) = subst (λ (y : Row). p y ≡ false) (sym s) (lower_none (p x) x (lowest p xs) e).0
lowest_none p (x ∷ xs) e q (inr h) = lowest_none p xs (lower_none (p x) x (lowest p xs) e).1 q h

lower_some : (p : Row → Bool) (xs : List Row) (x r : Row) (b : Bool) → p x ≡ b → (o : Option Row) → (o ≡ None → (q : Row) → Has q xs → p q ≡ false) → ((q : Row) → o ≡ Some q → Lowest p q xs) → lower b x o ≡ Some r → Lowest p r (x ∷ xs)
lower_some p xs x r false px o none some e =
    let l = some r e in
    record { there = inr l.there; passes = l.passes; least = λ q. least q l }
  where
    least : (q : Row) → Lowest p r xs → Has q (x ∷ xs) → p q ≡ true → r.number ≤ q.number
    least q l (inl s) w = absurd (clash (p x) (subst (λ (y : Row). p y ≡ true) s w) px)
    least q l (inr h) w = l.least q h w
lower_some p xs x r true px None none some e =
    let s : x ≡ r = cc in
    subst (λ (y : Row). Lowest p y (x ∷ xs)) s (record { there = inl refl; passes = px; least = least })
  where
    least : (q : Row) → Has q (x ∷ xs) → p q ≡ true → x.number ≤ q.number
    least q (inl s) w = let z = ap (λ (y : Row). y.number) s in omega arith
    least q (inr h) w = absurd (clash (p q) w (none refl q h))
lower_some p xs x r true px (Some y) none some e =
    let l = some y refl in
    let s : cond (ltb x.number y.number) x y ≡ r = cc in
    subst (λ (z : Row). Lowest p z (x ∷ xs)) s
    (cond_both (ltb x.number y.number) x y (λ z. Lowest p z (x ∷ xs))
    (λ t. record { there = inl refl; passes = px; least = λ q. first q l (ltb-true x.number y.number t) })
    (λ t. record { there = inr l.there; passes = l.passes; least = λ q. second q l (ltb-false x.number y.number t) }))
  where
    first : (q : Row) → Lowest p y xs → x.number < y.number → Has q (x ∷ xs) → p q ≡ true → x.number ≤ q.number
    first q l t (inl s) w = let z = ap (λ (u : Row). u.number) s in omega arith
    first q l t (inr h) w = let z = l.least q h w in omega arith

    second : (q : Row) → Lowest p y xs → y.number ≤ x.number → Has q (x ∷ xs) → p q ≡ true → y.number ≤ q.number
    second q l t (inl s) w = let z = ap (λ (u : Row). u.number) s in omega arith
    second q l t (inr h) w = l.least q h w

pub lowest_some : (p : Row → Bool) (xs : List Row) (r : Row) → lowest p xs ≡ Some r → Lowest p r xs
unfolding lowest
lowest_some p [] r e = cc
lowest_some p (x ∷ xs) r e = lower_some p xs x r (p x) refl (lowest p xs) (λ g. lowest_none p xs g) (λ q g. lowest_some p xs q g) e

-- ---- numbers that are passed over

-- f does nothing where no row that is wanted has the number
abbrev pub Idle : (ℕ → Desk → Desk) → (Row → Bool) → Type 0
Idle f w = (n : ℕ) (d : Desk) → ((r : Row) → row_of n d.rows ≡ Some r → w r ≡ false) → f n d ≡ d

module _ (f : ℕ → Desk → Desk) (w : Row → Bool) (idle : Idle f w) (d : Desk) where
  pub each_skip : (p q : ℕ) → p ≤ q → ((r : Row) → Has r (each_number p f d).rows → p < r.number → r.number ≤ q → w r ≡ false) → each_number q f d ≡ each_number p f d
  unfolding each_number
  each_skip p zero le none = let z : ◌≡◌ {A = ℕ} 0 p = omega arith in ap (λ (n : ℕ). each_number n f d) z
  each_skip p (suc q) le none =
      ⊎_elim
      (λ e. ap (λ (n : ℕ). each_number n f d) (sym e))
      (λ e.
      let same = each_skip p q (omega arith) (λ r h a b. none r h a (omega arith)) in
      ap (f (suc q)) same
      ∙ idle (suc q) (each_number p f d) (λ r at. let n = (row_of_some (suc q) (each_number p f d).rows r at).1 in none r (row_of_has (suc q) (each_number p f d).rows r at) (omega arith) (omega arith)))
      (cases_eq p (suc q))

  -- up to the lowest number that is wanted nothing happens
  pub each_next : (p : ℕ) (r : Row) → lowest (wanted_from w (p + 1)) (each_number p f d).rows ≡ Some r → each_number r.number f d ≡ f r.number (each_number p f d)
  unfolding each_number
  each_next p r e = at r.number refl
    where
      low : Lowest (wanted_from w (p + 1)) r (each_number p f d).rows
      low = lowest_some (wanted_from w (p + 1)) (each_number p f d).rows r e

      from : p + 1 ≤ r.number
      from = leb-true (p + 1) r.number (and_parts (leb (p + 1) r.number) (w r) low.passes).0

      at : (n : ℕ) → r.number ≡ n → each_number n f d ≡ f n (each_number p f d)
      at zero s = absurd (let z = from in omega arith)
      at (suc n) s =
          ap (f (suc n))
          (each_skip p n (let z = from in omega arith) (λ q h a b.
          decide (w q)
          (λ y. absurd (let z = low.least q h (and_from (leb (p + 1) q.number) (w q) (le-leb (p + 1) q.number (omega arith)) y) in omega arith))
          (λ y. y)))

  -- where none is wanted any more, all numbers are done
  pub each_end : (p q : ℕ) → p ≤ q → lowest (wanted_from w (p + 1)) (each_number p f d).rows ≡ None → each_number q f d ≡ each_number p f d
  each_end p q le e = each_skip p q le (λ r h a b.
      decide (w r)
      (λ y. absurd (clash _ (and_from (leb (p + 1) r.number) (w r) (le-leb (p + 1) r.number (omega arith)) y) (lowest_none (wanted_from w (p + 1)) (each_number p f d).rows e r h)))
      (λ y. y))

-- ---- a loop over the rows that are wanted, the lowest number first

-- what holds while it goes on: f is done at the numbers below `from`, and the rows are those that this leaves
pub record Walk (f : ℕ → Desk → Desk) (d : Desk) (from : ℕ) (rs : List Row) : Type 0 where
  pub begun : 1 ≤ from
  pub within : from ≤ highest d.rows + 1
  pub rests : rs ≡ (each_number (from - 1) f d).rows

pub walk_starts : (f : ℕ → Desk → Desk) (d : Desk) → Walk f d 1 d.rows
unfolding each_number
walk_starts f d = record { begun = omega arith; within = omega arith; rests = refl }

module _ {f : ℕ → Desk → Desk} {w : Row → Bool} (idle : Idle f w) (brings_none : (n : ℕ) (d : Desk) → Within (each_number n f d).rows d.rows) where
  module _ {d : Desk} {from : ℕ} {rs : List Row} (u : Walk f d from rs) where
    at_done : (o : Option Row) → lowest (wanted_from w from) rs ≡ o → lowest (wanted_from w ((from - 1) + 1)) (each_number (from - 1) f d).rows ≡ o
    at_done o e =
        let b = u.begun in
        let n : from ≡ (from - 1) + 1 = omega arith in
        subst (λ (k : ℕ). lowest (wanted_from w k) (each_number (from - 1) f d).rows ≡ o) n (subst (λ (xs : List Row). lowest (wanted_from w from) xs ≡ o) u.rests e)

    pub walk_ends : lowest (wanted_from w from) rs ≡ None → each_number (highest d.rows) f d ≡ each_number (from - 1) f d
    walk_ends e = each_end f w idle d (from - 1) (highest d.rows) (let l = u.within in omega arith) (at_done None e)

    module _ (r : Row) (e : lowest (wanted_from w from) rs ≡ Some r) where
      low : Lowest (wanted_from w from) r rs
      low = lowest_some (wanted_from w from) rs r e

      pub walk_wanted : (Has r rs) × (w r ≡ true)
      walk_wanted = (low.there, (and_parts (leb from r.number) (w r) low.passes).1)

      pub walk_number : (from ≤ r.number) × (r.number ≤ highest d.rows)
      walk_number = (
        leb-true from r.number (and_parts (leb from r.number) (w r) low.passes).0,
        highest_in d.rows _ (brings_none (from - 1) d _ (has_in r _ (subst (Has r) u.rests low.there))),
      )

      pub walk_step : each_number ((r.number + 1) - 1) f d ≡ f r.number (each_number (from - 1) f d)
      walk_step =
          let back : (r.number + 1) - 1 ≡ r.number = omega arith in
          ap (λ (n : ℕ). each_number n f d) back ∙ each_next f w idle d (from - 1) r (at_done (Some r) e)

      pub walk_next : {after : List Row} → after ≡ (f r.number (each_number (from - 1) f d)).rows → Walk f d (r.number + 1) after
      walk_next a = let n = walk_number in record { begun = omega arith; within = omega arith; rests = a ∙ ap (λ (x : Desk). x.rows) (sym walk_step) }
