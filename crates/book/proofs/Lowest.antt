-- The row with the lowest number, of those that are wanted.
use Rattle.std.proofs.Common.{◌≡◌, ℕ, zero, suc, ◌<◌, ◌≤◌, Bool, true, false, cond, eqb, ltb, List, [], ◌∷◌, length, get_or, Option, Some, None, sym, refl, ap, ◌∙◌, subst, arith}
use Rattle.std.specs.List.{filter, All, Any}
use Rattle.std.specs.Option.{MatchOption}
use Rattle.std.proofs.lemmas.List.{get_or_read}
use Rattle.std.proofs.lemmas.Bool.{and_parts, and_from, cond-true, cond-false, le-ltb}
use Rattle.std.proofs.lemmas.Bool.Decides.{nat_tests}
use Rattle.book.specs.declared.row.Row.{Row}
use Rattle.book.specs.Lists.{every, pairwise}
use Rattle.book.specs.Rows.{agrees, lower, lowest}
use Rattle.book.proofs.Orders.{agrees_number}

abbrev any : Row → Bool
any r = true

-- of the rows that pass, as of all rows of the list of those
lowest_filter : (p : Row → Bool) (rs : List Row) → lowest p rs ≡ lowest any (filter p rs)
unfolding lowest
lowest_filter p [] = refl
lowest_filter p (r ∷ rs) =
    elim (p r) as (λ b. lower b r (lowest p rs) ≡ lowest any (cond b (r ∷ filter p rs) (filter p rs)))
    [ true ↦ ap (lower true r) (lowest_filter p rs) | false ↦ lowest_filter p rs ]

every_filter : (p q : Row → Bool) (rs : List Row) → every q rs ≡ true → every q (filter p rs) ≡ true
every_filter p q [] all = refl
every_filter p q (r ∷ rs) all =
    let a = and_parts (q r) _ all in
    elim (p r) as (λ b. every q (cond b (r ∷ filter p rs) (filter p rs)) ≡ true)
    [ true ↦ and_from _ _ a.0 (every_filter p q rs a.1) | false ↦ every_filter p q rs a.1 ]

pairwise_filter : (p : Row → Bool) (r : Row → Row → Bool) (rs : List Row) → pairwise r rs ≡ true → pairwise r (filter p rs) ≡ true
pairwise_filter p r [] all = refl
pairwise_filter p r (x ∷ rs) all =
    let a = and_parts (every (r x) rs) _ all in
    elim (p x) as (λ b. pairwise r (cond b (x ∷ filter p rs) (filter p rs)) ≡ true)
    [ true ↦ and_from _ _ (every_filter p (r x) rs a.0) (pairwise_filter p r rs a.1) | false ↦ pairwise_filter p r rs a.1 ]

-- a number that is no higher than any of rows that agree with its row is lower
lower_all : (x : Row) (rs : List Row) → every (agrees x) rs ≡ true → All (λ y. x.number ≤ y.number) rs → every (λ y. ltb x.number y.number) rs ≡ true
lower_all x [] fits least = refl
lower_all x (y ∷ rs) fits least =
    let a = and_parts (agrees x y) _ fits in
    and_from _ _ (apart x.number y.number (agrees_number x y a.0) (least 0 y (omega arith))) (lower_all x rs a.1 (λ k d l. least (suc k) d (omega arith)))
  where
    apart : (m n : ℕ) → eqb m n ≡ false → m ≤ n → ltb m n ≡ true
    apart m n e l = grind (arith, nat_tests)

lowest_head : (x : Row) (rs : List Row) → every (λ y. ltb x.number y.number) rs ≡ true → lower true x (lowest any rs) ≡ Some x
unfolding lowest
lowest_head x [] all = refl
lowest_head x (y ∷ rs) all =
    let a = and_parts (ltb x.number y.number) _ all in
    by (lowest any rs) a.0 (lowest_head x rs a.1)
  where
    by : (o : Option Row) → ltb x.number y.number ≡ true → lower true x o ≡ Some x → lower true x (lower true y o) ≡ Some x
    by None l h = ap Some (cond-true _ _ _ l)
    by (Some q) l h = elim (ltb y.number q.number) as (λ b. lower true x (Some (cond b y q)) ≡ Some x) [ true ↦ ap Some (cond-true _ _ _ l) | false ↦ h ]

-- a row than which no other has a lower number is the lowest
least_at : (rs : List Row) → pairwise agrees rs ≡ true → (k : ℕ) (m : Row) → k < length rs → get_or rs k m ≡ m → All (λ x. m.number ≤ x.number) rs → lowest any rs ≡ Some m
unfolding lowest
least_at [] all k m l is least = absurd (omega arith)
least_at (x ∷ rs) all zero m l is least =
    let a = and_parts (every (agrees x) rs) _ all in
    lowest_head x rs (lower_all x rs a.0 (λ k d h. subst (λ (y : Row). y.number ≤ (get_or rs k d).number) (sym is) (least (suc k) d (omega arith)))) ∙ ap Some is
least_at (x ∷ rs) all (suc k) m l is least =
    let a = and_parts (every (agrees x) rs) _ all in
    ap (lower true x) (least_at rs a.1 k m (omega arith) is (λ j d h. least (suc j) d (omega arith)))
    ∙ ap Some (cond-false _ _ _ (le-ltb x.number m.number (least 0 x (omega arith))))

empty : (rs : List Row) → length rs ≡ 0 → lowest any rs ≡ None
unfolding lowest
empty [] h = refl
empty (x ∷ rs) h = absurd (omega arith)

-- what `min_by_key` picks
pub lowest_is : (p : Row → Bool) (rs : List Row) → pairwise agrees rs ≡ true → (r : Option Row) → MatchOption r (length (filter p rs) ≡ 0) (λ m. Any (λ x. x ≡ m) (filter p rs) × All (λ x. m.number ≤ x.number) (filter p rs)) → r ≡ lowest p rs
lowest_is p rs all None h = sym (lowest_filter p rs ∙ empty (filter p rs) h)
lowest_is p rs all (Some m) h =
    let xs = filter p rs in
    let k = h.0.0 in
    let here : get_or xs k m ≡ m = sym (get_or_read xs k h.0.1 h.0.2 (sym h.0.3) m) ∙ h.0.4 in
    sym (lowest_filter p rs ∙ least_at xs (pairwise_filter p agrees rs all) k m h.0.2 here h.1)
