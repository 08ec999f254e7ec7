-- What an element put in and elements left out leave of a list.
use Rattle.std.proofs.Common.{◌≡◌, ℕ, zero, suc, ◌≤◌, Bool, true, false, cond, not, ◌&&◌, ◌||◌, List, [], ◌∷◌, length, None, sym, refl, ap, ◌∙◌, arith}
use Rattle.std.specs.List.{remove}
use Rattle.std.proofs.lemmas.Bool.{and_parts, and_from, cond-true, cond-false, both_ways}
use Rattle.book.specs.Lists.{found, or_else, placed, lacking, every, pairwise}

-- cases on a test
pub decide : {Z : Type 0} (b : Bool) → (b ≡ true → Z) → (b ≡ false → Z) → Z
decide true f g = f refl
decide false f g = g refl

pub every_weaker : {X : Type 0} {q s : X → Bool} → ((x : X) → q x ≡ true → s x ≡ true) → (xs : List X) → every q xs ≡ true → every s xs ≡ true
every_weaker h [] all = refl
every_weaker {X} {q} h (x ∷ xs) all =
    let a = and_parts (q x) _ all in and_from _ _ (h x a.0) (every_weaker h xs a.1)

pub pairwise_weaker : {X : Type 0} {q s : X → X → Bool} → ((x y : X) → q x y ≡ true → s x y ≡ true) → (xs : List X) → pairwise q xs ≡ true → pairwise s xs ≡ true
pairwise_weaker h [] all = refl
pairwise_weaker {X} {q} h (x ∷ xs) all =
    let a = and_parts (every (q x) xs) _ all in and_from _ _ (every_weaker (h x) xs a.0) (pairwise_weaker h xs a.1)

-- at most one element passes
abbrev pub single : {X : Type 0} → (X → Bool) → List X → Bool
single p xs = pairwise (λ a b. not (p a && p b)) xs

abbrev pub fails : {X : Type 0} → (X → Bool) → X → Bool
fails p x = not (p x)

module _ {X : Type 0} (p : X → Bool) where
  pub lacking_none : (xs : List X) → every (fails p) xs ≡ true → lacking p xs ≡ xs
  unfolding lacking
  lacking_none [] h = refl
  lacking_none (x ∷ xs) h =
      let a = and_parts (fails p x) _ h in
      decide (p x) (λ e. absurd (both_ways (not (p x)) (ap not e) a.0)) (λ e. cond-false _ _ _ e ∙ ap (λ zs. x ∷ zs) (lacking_none xs a.1))

  pub found_none : (xs : List X) → every (fails p) xs ≡ true → found p xs ≡ None
  unfolding found
  found_none [] h = refl
  found_none (x ∷ xs) h =
      let a = and_parts (fails p x) _ h in
      decide (p x) (λ e. absurd (both_ways (not (p x)) (ap not e) a.0)) (λ e. ap (λ b. or_else b x (found p xs)) e ∙ found_none xs a.1)

  -- after an element that passes, where at most one does
  pub single_rest : (x : X) (xs : List X) → single p (x ∷ xs) ≡ true → p x ≡ true → every (fails p) xs ≡ true
  single_rest x xs h e =
      let a = and_parts (every (λ b. not (p x && p b)) xs) _ h in
      every_weaker (λ b g. sym (ap (λ t. not (t && p b)) e) ∙ g) xs a.0

  pub every_placed : (q : X → Bool) (y : X) → q y ≡ true → (xs : List X) → every q xs ≡ true → every q (placed p y xs) ≡ true
  unfolding placed
  every_placed q y h [] all = and_from _ _ h refl
  every_placed q y h (x ∷ xs) all =
      let a = and_parts (q x) _ all in
      elim (p x) as (λ b. every q (cond b (y ∷ (x ∷ xs)) (x ∷ placed p y xs)) ≡ true)
      [ true ↦ and_from _ _ h all | false ↦ and_from _ _ a.0 (every_placed q y h xs a.1) ]

  pub every_lacking : (q : X → Bool) (xs : List X) → every q xs ≡ true → every q (lacking p xs) ≡ true
  unfolding lacking
  every_lacking q [] all = refl
  every_lacking q (x ∷ xs) all =
      let a = and_parts (q x) _ all in
      elim (p x) as (λ b. every q (cond b (lacking p xs) (x ∷ lacking p xs)) ≡ true)
      [ true ↦ every_lacking q xs a.1 | false ↦ and_from _ _ a.0 (every_lacking q xs a.1) ]

  -- nothing that passes is left
  pub lacking_fails : (xs : List X) → every (fails p) (lacking p xs) ≡ true
  unfolding lacking
  lacking_fails [] = refl
  lacking_fails (x ∷ xs) =
      decide (p x)
      (λ e. ap (every (fails p)) (cond-true _ _ _ e) ∙ lacking_fails xs)
      (λ e. ap (every (fails p)) (cond-false _ _ _ e) ∙ and_from _ _ (ap not e) (lacking_fails xs))

  pub length_lacking : (xs : List X) → length (lacking p xs) ≤ length xs
  unfolding lacking
  length_lacking [] = omega arith
  length_lacking (x ∷ xs) =
      elim (p x) as (λ b. length (cond b (lacking p xs) (x ∷ lacking p xs)) ≤ suc (length xs))
      [ true ↦ omega (arith, length_lacking xs) | false ↦ omega (arith, length_lacking xs) ]

  -- y stands to every element as r asks
  pub pairwise_joined : (r : X → X → Bool) (y : X) → ((x : X) → r y x ≡ true → r x y ≡ true) → (xs : List X) → every (r y) xs ≡ true → pairwise r xs ≡ true → pairwise r (placed p y xs) ≡ true
  unfolding placed
  pairwise_joined r y back [] h all = refl
  pairwise_joined r y back (x ∷ xs) h all =
      let a = and_parts (every (r x) xs) _ all in
      let e = and_parts (r y x) _ h in
      elim (p x) as (λ b. pairwise r (cond b (y ∷ (x ∷ xs)) (x ∷ placed p y xs)) ≡ true) [
        | true ↦ and_from _ _ h all
        | false ↦ and_from _ _ (every_placed (r x) y (back x e.0) xs a.0) (pairwise_joined r y back xs e.1 a.1)
      ]

  -- y is put where r allows it, among elements that q lets pass
  pub pairwise_placed : (r : X → X → Bool) (q : X → Bool) (y : X) → ((x : X) → q x ≡ true → p x ≡ false → r x y ≡ true) → ((x : X) → p x ≡ true → r y x ≡ true) → ((x z : X) → p x ≡ true → r x z ≡ true → r y z ≡ true) → (xs : List X) → every q xs ≡ true → pairwise r xs ≡ true → pairwise r (placed p y xs) ≡ true
  unfolding placed
  pairwise_placed r q y before here after [] fit all = refl
  pairwise_placed r q y before here after (x ∷ xs) fit all =
      let a = and_parts (every (r x) xs) _ all in
      let f = and_parts (q x) _ fit in
      let step : (b : Bool) → p x ≡ b → pairwise r (cond b (y ∷ (x ∷ xs)) (x ∷ placed p y xs)) ≡ true =
      λ b. elim b as (λ b. p x ≡ b → pairwise r (cond b (y ∷ (x ∷ xs)) (x ∷ placed p y xs)) ≡ true) [
        | true ↦ λ is. and_from _ _ (and_from _ _ (here x is) (every_weaker (λ z. after x z is) xs a.0)) all
        | false ↦ λ is. and_from _ _ (every_placed (r x) y (before x f.0 is) xs a.0) (pairwise_placed r q y before here after xs f.1 a.1)
      ] in
      step (p x) refl

  pub length_placed : (y : X) (xs : List X) → length (placed p y xs) ≡ suc (length xs)
  unfolding placed
  length_placed y [] = refl
  length_placed y (x ∷ xs) =
      elim (p x) as (λ b. length (cond b (y ∷ (x ∷ xs)) (x ∷ placed p y xs)) ≡ suc (suc (length xs)))
      [ true ↦ refl | false ↦ ap suc (length_placed y xs) ]

-- without the element at a place

pub every_remove : {X : Type 0} (q : X → Bool) (xs : List X) (i : ℕ) → every q xs ≡ true → every q (remove xs i) ≡ true
every_remove q [] zero all = refl
every_remove q [] (suc i) all = refl
every_remove q (x ∷ xs) zero all = (and_parts (q x) _ all).1
every_remove q (x ∷ xs) (suc i) all = let a = and_parts (q x) _ all in and_from _ _ a.0 (every_remove q xs i a.1)

pub pairwise_remove : {X : Type 0} (r : X → X → Bool) (xs : List X) (i : ℕ) → pairwise r xs ≡ true → pairwise r (remove xs i) ≡ true
pairwise_remove r [] zero all = refl
pairwise_remove r [] (suc i) all = refl
pairwise_remove r (x ∷ xs) zero all = (and_parts (every (r x) xs) _ all).1
pairwise_remove r (x ∷ xs) (suc i) all =
    let a = and_parts (every (r x) xs) _ all in and_from _ _ (every_remove (r x) xs i a.0) (pairwise_remove r xs i a.1)

-- every element that does not pass p passes q, so every one that is left does
pub every_left : {X : Type 0} (p q : X → Bool) (xs : List X) → every (λ x. p x || q x) xs ≡ true → every q (lacking p xs) ≡ true
unfolding lacking
every_left p q [] h = refl
every_left p q (x ∷ xs) h =
    let a = and_parts (p x || q x) _ h in
    decide (p x)
    (λ e. ap (every q) (cond-true _ _ _ e) ∙ every_left p q xs a.1)
    (λ e. ap (every q) (cond-false _ _ _ e) ∙ and_from _ _ (sym (ap (λ t. t || q x) e) ∙ a.0) (every_left p q xs a.1))
