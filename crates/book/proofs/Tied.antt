-- The tie between the rows and their due list, kept by each change of a book.
use Rattle.std.proofs.Common.{◌≡◌, ℕ, ◌<◌, ◌≤◌, Bool, true, not, eqb, List, [], ◌∷◌, length, Some, None, sym, refl, ap, ◌∙◌, subst, arith}
use Rattle.std.proofs.lemmas.Bool.{and_parts, and_from, cond-true, cond-false, eqb-true}
use Rattle.std.proofs.lemmas.Bool.Decides.{nat_tests}
use Rattle.book.specs.declared.row.Row.{Row}
use Rattle.book.specs.declared.row.Due.{Due}
use Rattle.book.specs.declared.row.Standing.{Standing}
use Rattle.book.specs.Lists.{found, or_else, lacking, every, pairwise}
use Rattle.book.specs.Rows.{agrees, precedes, numbered, renewed, insert, without, row_of, settle}
use Rattle.book.specs.Dues.{due_at, owed, distinct, listed, unlisted, due_list, same_dues}
use Rattle.book.proofs.Keeps.{decide, fails, every_weaker, lacking_fails, length_placed, length_lacking, lacking_none}
use Rattle.book.proofs.Settles.{settle_none, length_settle}
use Rattle.book.proofs.Ties.{same_from, same_by, due_insert, due_unused, due_length, due_gone, due_part, due_every, settle_all}

module _ (ds : List Due) (rs : List Row) (tied : same_dues ds (due_list rs) ≡ true) where
  is : ds ≡ due_list rs
  is = same_from ds (due_list rs) tied

  module _ (row : Row) (fits : every (agrees row) rs ≡ true) where
    pub insert_room : length rs < 256 → length (listed row.standing row.number ds) ≤ 256
    insert_room l =
        subst (λ (xs : List Due). length xs ≤ 256) (due_insert row rs fits ∙ ap (listed row.standing row.number) (sym is))
        (omega (arith, due_length (insert row rs), length_placed (precedes row) row rs))

    pub insert_unused : every (distinct (due_at 0 row.number)) ds ≡ true
    insert_unused = ap (every (distinct (due_at 0 row.number))) is ∙ due_unused row 0 rs fits

    pub insert_tied : (ds' : List Due) (rs' : List Row) → ds' ≡ listed row.standing row.number ds → rs' ≡ insert row rs → same_dues ds' (due_list rs') ≡ true
    insert_tied ds' rs' e f =
        same_by ds' (due_list rs') (e ∙ ap (listed row.standing row.number) is ∙ sym (due_insert row rs fits) ∙ ap due_list (sym f))

  pub gone_tied : (n : ℕ) (r : Row) (ds' : List Due) (rs' : List Row) → pairwise agrees rs ≡ true → row_of n rs ≡ Some r → ds' ≡ unlisted r.standing n ds → rs' ≡ without n rs → same_dues ds' (due_list rs') ≡ true
  gone_tied n r ds' rs' h f e g =
      same_by ds' (due_list rs') (e ∙ ap (unlisted r.standing n) is ∙ sym (due_gone n r rs h f) ∙ ap due_list (sym g))

  pub settled_tied : (due q n : ℕ) (r : Row) (ds' : List Due) (rs' : List Row) → pairwise agrees rs ≡ true → row_of n rs ≡ Some r → 0 < q → r.size ≤ q → ds' ≡ unlisted r.standing n ds → rs' ≡ settle due q n rs → same_dues ds' (due_list rs') ≡ true
  settled_tied due q n r ds' rs' h f p l e g = gone_tied n r ds' rs' h f e (g ∙ settle_all due q n r rs h f p l)

  module _ (due q n : ℕ) (r : Row) (h : pairwise agrees rs ≡ true) (f : row_of n rs ≡ Some r) (p : 0 < q) (l : q < r.size) (es : List Due) (e : es ≡ unlisted r.standing n ds) where
    part : due_list (settle due q n rs) ≡ listed (renewed due r.standing) n es
    part = due_part due q n r rs h f p l ∙ ap (λ (xs : List Due). listed (renewed due r.standing) n (unlisted r.standing n xs)) (sym is) ∙ ap (listed (renewed due r.standing) n) (sym e)

    pub part_room : length rs ≤ 256 → (s : Standing) → s ≡ renewed due r.standing → length (listed s n es) ≤ 256
    part_room k s is-s =
        subst (λ (t : Standing). length (listed t n es) ≤ 256) (sym is-s)
        (subst (λ (xs : List Due). length xs ≤ 256) part (omega (arith, due_length (settle due q n rs), length_settle due q n rs)))

    pub part_tied : (s : Standing) → s ≡ renewed due r.standing → (ds' : List Due) (rs' : List Row) → ds' ≡ listed s n es → rs' ≡ settle due q n rs → same_dues ds' (due_list rs') ≡ true
    part_tied s is-s ds' rs' a b = same_by ds' (due_list rs') (a ∙ ap (λ (t : Standing). listed t n es) is-s ∙ sym part ∙ ap due_list (sym b))

  pub kept_tied : (rs' : List Row) → rs' ≡ rs → same_dues ds (due_list rs') ≡ true
  kept_tied rs' e = same_by ds (due_list rs') (is ∙ ap due_list (sym e))

-- the entry of a held order is gone, so its number is unused; one that is not held has none
not_owed : (n : ℕ) (ds : List Due) → every (fails (owed n)) ds ≡ true → every (distinct (due_at 0 n)) ds ≡ true
not_owed n ds h = every_weaker (λ d g. swap d.number g) ds h
  where
    swap : (m : ℕ) → not (eqb m n) ≡ true → not (eqb n m) ≡ true
    swap m g = grind (arith, nat_tests)

none_there : (n : ℕ) (rs : List Row) → None ≡ found (numbered n) rs → every (fails (numbered n)) rs ≡ true
unfolding found
none_there n [] e = refl
none_there n (x ∷ xs) e =
    decide (numbered n x)
    (λ t. let h : None ≡ Some x = e ∙ ap (λ b. or_else b x (found (numbered n) xs)) t in cc)
    (λ t. and_from _ _ (ap not t) (none_there n xs (e ∙ ap (λ b. or_else b x (found (numbered n) xs)) t)))

pub absent_without : (n : ℕ) (rs : List Row) → None ≡ row_of n rs → without n rs ≡ rs
absent_without n rs e = lacking_none (numbered n) rs (none_there n rs e)

pub absent_settle : (due q n : ℕ) (rs : List Row) → None ≡ row_of n rs → settle due q n rs ≡ rs
absent_settle due q n rs e = settle_none due q n rs (none_there n rs e)

-- a number that was taken out of the due list
pub part_unused : (n : ℕ) (r : Row) (rs : List Row) → pairwise agrees rs ≡ true → row_of n rs ≡ Some r → (es : List Due) → same_dues es (due_list (without n rs)) ≡ true → every (distinct (due_at 0 n)) es ≡ true
part_unused n r rs h f es t =
    ap (every (distinct (due_at 0 n))) (same_from es (due_list (without n rs)) t)
    ∙ not_owed n (due_list (without n rs)) (due_every (λ m. not (eqb m n)) (without n rs) (lacking_fails (numbered n) rs))

-- ---- the row that was found

pub found_passes : {X : Type 0} (p : X → Bool) (xs : List X) (x : X) → found p xs ≡ Some x → p x ≡ true
unfolding found
found_passes p [] x e = cc
found_passes p (y ∷ ys) x e =
    decide (p y)
    (λ t. let h : or_else true y (found p ys) ≡ Some x = sym (ap (λ b. or_else b y (found p ys)) t) ∙ e in let s : y ≡ x = cc in subst (λ z. p z ≡ true) s t)
    (λ t. found_passes p ys x (sym (ap (λ b. or_else b y (found p ys)) t) ∙ e))

pub found_every : {X : Type 0} (q p : X → Bool) (xs : List X) (x : X) → every q xs ≡ true → found p xs ≡ Some x → q x ≡ true
unfolding found
found_every q p [] x all e = cc
found_every q p (y ∷ ys) x all e =
    let a = and_parts (q y) _ all in
    decide (p y)
    (λ t. let h : or_else true y (found p ys) ≡ Some x = sym (ap (λ b. or_else b y (found p ys)) t) ∙ e in let s : y ≡ x = cc in subst (λ z. q z ≡ true) s a.0)
    (λ t. found_every q p ys x a.1 (sym (ap (λ b. or_else b y (found p ys)) t) ∙ e))

pub found_less : {X : Type 0} (p : X → Bool) (xs : List X) (x : X) → found p xs ≡ Some x → length (lacking p xs) < length xs
unfolding found lacking
found_less p [] x e = cc
found_less p (y ∷ ys) x e =
    decide (p y)
    (λ t. omega (arith, ap length (cond-true (p y) (lacking p ys) (y ∷ lacking p ys) t), length_lacking p ys))
    (λ t. omega (arith, ap length (cond-false (p y) (lacking p ys) (y ∷ lacking p ys) t), found_less p ys x (sym (ap (λ b. or_else b y (found p ys)) t) ∙ e)))

pub found_number : (n : ℕ) (rs : List Row) (r : Row) → row_of n rs ≡ Some r → r.number ≡ n
found_number n rs r e = eqb-true r.number n (found_passes (numbered n) rs r e)
