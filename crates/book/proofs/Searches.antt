-- What the library's searches answer, and what is done to a list at the place that they found.
use Rattle.std.proofs.Common.{◌≡◌, ℕ, zero, suc, ◌+◌, ◌<◌, ◌≤◌, Bool, true, false, cond, not, ◌&&◌, ltb, List, [], ◌∷◌, length, get_or, Option, Some, None, Bor, sym, refl, ap, ◌∙◌, arith}
use Rattle.std.specs.List.{insert, remove, find, slice_get, position, position_or_len}
use Rattle.std.specs.Option.{option_copied}
use Rattle.std.specs.Slice.{IsItemAt}
use Rattle.std.specs.List.Sorted.{IsPartitionPoint, IsPartitionedBy}
use Rattle.std.proofs.lemmas.Bool.{and_parts, and_from, cond-true, cond-false, ltb-false}
use Rattle.std.proofs.lemmas.Option.{slice_get_past, slice_get_read}
use Rattle.std.proofs.lemmas.List.Quantifiers.{position-Some}
use Rattle.std.proofs.lemmas.List.Recursion.{and_at, found_at as looked_up}
use Rattle.book.specs.Lists.{found, or_else, placed, lacking, every, pairwise}
use Rattle.book.proofs.Keeps.{decide, single, fails, single_rest, lacking_none}

-- ---- `find`

pub find_found : {X : Type 0} (p : X → Bool) (xs : List X) → find p xs ≡ found p xs
unfolding found
find_found p [] = refl
find_found p (x ∷ xs) =
    elim (p x) as (λ b. cond b (Some x) (find p xs) ≡ or_else b x (found p xs)) [ true ↦ refl | false ↦ find_found p xs ]

pub every_at : {X : Type 0} (p : X → Bool) (xs : List X) (i : ℕ) (d : X) → i < length xs → every p xs ≡ true → p (get_or xs i d) ≡ true
every_at p xs i d l all = and_at (every p) p refl (λ y ys. refl) xs i d l all

-- ---- `get`

pub copied_item : {X : Type 0} (xs : List X) (i : ℕ) (r : Option (Bor X)) → IsItemAt xs i r → option_copied r ≡ slice_get xs i
copied_item xs i None h = sym (slice_get_past xs i h.3)
copied_item xs i (Some x) h = sym (slice_get_read xs (length xs) i x.now refl h.3.0 h.1)

-- ---- `position`

-- the element at the place i passes, and none before it does
pub record FirstAt {X : Type 0} (p : X → Bool) (xs : List X) (i : ℕ) : Type 0 where
  pub within : i < length xs
  pub before : (k : ℕ) (d : X) → k < i → p (get_or xs k d) ≡ false
  pub here : (d : X) → p (get_or xs i d) ≡ true

pub first_at : {X : Type 0} (p : X → Bool) (xs : List X) (i : ℕ) → position p xs ≡ Some i → FirstAt p xs i
first_at p [] i e = cc
first_at p (x ∷ xs) i e =
    let at = λ (d : _). position-Some p (x ∷ xs) i d e in
    record { within = (at x).0; before = λ k d l. (at d).2 k l; here = λ d. (at d).1 }

-- where it answers nothing, no element passes
pub none_at : {X : Type 0} (p : X → Bool) (xs : List X) → position p xs ≡ None → every (fails p) xs ≡ true
none_at {X} p xs e =
    decide (ltb (position_or_len p xs) (length xs))
    (λ t. let h : Some (position_or_len p xs) ≡ None = sym (cond-true _ _ _ t) ∙ e in cc)
    (λ f. past_end xs (ltb-false _ _ f))
  where
    past_end : (ys : List X) → length ys ≤ position_or_len p ys → every (fails p) ys ≡ true
    past_end [] l = refl
    past_end (y ∷ ys) l =
        decide (p y)
        (λ t. let h : position_or_len p (y ∷ ys) ≡ 0 = ap (λ b. cond (not b) (1 + position_or_len p ys) 0) t in absurd (omega arith))
        (λ f. let h : position_or_len p (y ∷ ys) ≡ 1 + position_or_len p ys = ap (λ b. cond (not b) (1 + position_or_len p ys) 0) f in and_from _ _ (ap not f) (past_end ys (omega arith)))

module _ {X : Type 0} (p : X → Bool) where
  pub first_next : (x : X) (xs : List X) (i : ℕ) → FirstAt p (x ∷ xs) (suc i) → (p x ≡ false) × FirstAt p xs i
  first_next x xs i f = (f.before 0 x (omega arith), record { within = omega (arith, f.within); before = λ k d l. f.before (suc k) d (omega arith); here = f.here })

  pub found_at : (xs : List X) (i : ℕ) (d : X) → FirstAt p xs i → found p xs ≡ Some (get_or xs i d)
  found_at xs i d f = sym (find_found p xs) ∙ looked_up (find p) p Some None refl (λ y ys. refl) xs i d f.within (λ k l. f.before k d l) (f.here d)

  pub lacking_at : (xs : List X) (i : ℕ) → single p xs ≡ true → FirstAt p xs i → remove xs i ≡ lacking p xs
  unfolding lacking
  lacking_at [] i s f = absurd (omega (arith, f.within))
  lacking_at (x ∷ xs) zero s f =
      let is = f.here x in sym (cond-true _ _ _ is ∙ lacking_none p xs (single_rest p x xs s is))
  lacking_at (x ∷ xs) (suc i) s f =
      let n = first_next x xs i f in
      ap (λ zs. x ∷ zs) (lacking_at xs i (and_parts (every (λ b. not (p x && p b)) xs) _ s).1 n.1) ∙ sym (cond-false _ _ _ n.0)

-- ---- `partition_point`

-- where r holds between each element and each later one, and q comes down along r, q holds first and then no more
pub partitioned : {X : Type 0} (r : X → X → Bool) (q : X → Bool) → ((x y : X) → r x y ≡ true → q y ≡ true → q x ≡ true) → (xs : List X) → pairwise r xs ≡ true → IsPartitionedBy q xs
partitioned r q down [] all i j d le l h = absurd (omega arith)
partitioned r q down (x ∷ xs) all zero zero d le l h = h
partitioned r q down (x ∷ xs) all zero (suc j) d le l h =
    down x (get_or xs j d) (every_at (r x) xs j d (omega arith) (and_parts (every (r x) xs) _ all).0) h
partitioned r q down (x ∷ xs) all (suc i) zero d le l h = absurd (omega arith)
partitioned r q down (x ∷ xs) all (suc i) (suc j) d le l h =
    partitioned r q down xs (and_parts (every (r x) xs) _ all).1 i j d (omega arith) (omega arith) h

-- before the place i every element passes, and from it on none does
pub record PartedAt {X : Type 0} (q : X → Bool) (xs : List X) (i : ℕ) : Type 0 where
  pub within : i ≤ length xs
  pub front : (k : ℕ) (d : X) → k < i → q (get_or xs k d) ≡ true
  pub back : (k : ℕ) (d : X) → i ≤ k → k < length xs → q (get_or xs k d) ≡ false

pub parted_at : {X : Type 0} (q : X → Bool) (xs : List X) (i : ℕ) → i ≤ length xs → IsPartitionPoint (λ x. q x ≡ true) (λ x. q x ≡ false) xs i → PartedAt q xs i
parted_at q xs i le h = record { within = le; front = λ k d l. h.0 k d (omega arith) l; back = h.1 }

pub parted_next : {X : Type 0} (q : X → Bool) (x : X) (xs : List X) (i : ℕ) → PartedAt q (x ∷ xs) (suc i) → (q x ≡ true) × PartedAt q xs i
parted_next q x xs i h = (
  h.front 0 x (omega arith),
  record { within = omega (arith, h.within); front = λ k d l. h.front (suc k) d (omega arith); back = λ k d a b. h.back (suc k) d (omega arith) (omega arith) },
)

-- y goes in behind the elements that r puts before it, and so before the first that it is put before
pub placed_at : {X : Type 0} (r : X → X → Bool) (fits : X → Bool) (y : X) → ((x : X) → r x y ≡ true → r y x ≡ false) → ((x : X) → fits x ≡ true → r x y ≡ false → r y x ≡ true) → (xs : List X) (i : ℕ) → every fits xs ≡ true → PartedAt (λ x. r x y) xs i → insert xs i y ≡ placed (r y) y xs
unfolding placed
placed_at r fits y strict total [] zero all h = refl
placed_at r fits y strict total [] (suc i) all h = absurd (omega (arith, h.within))
placed_at r fits y strict total (x ∷ xs) zero all h =
    sym (cond-true _ _ _ (total x (and_parts (fits x) _ all).0 (h.back 0 x (omega arith) (omega arith))))
placed_at r fits y strict total (x ∷ xs) (suc i) all h =
    let n = parted_next (λ z. r z y) x xs i h in
    ap (λ zs. x ∷ zs) (placed_at r fits y strict total xs i (and_parts (fits x) _ all).1 n.1)
    ∙ sym (cond-false _ _ _ (strict x n.0))
