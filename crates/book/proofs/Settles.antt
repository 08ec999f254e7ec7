-- Contracts taken off one row.
use Rattle.std.proofs.Common.{◌≡◌, ℕ, zero, suc, ◌-◌, ◌<◌, ◌≤◌, Bool, true, false, cond, not, leb, List, [], ◌∷◌, length, get_or, set, Some, None, sym, refl, ap, ◌∙◌, arith}
use Rattle.std.specs.List.{remove}
use Rattle.std.proofs.lemmas.Bool.{and_parts, and_from, cond-true, cond-false, both_ways, leb-true, leb-false}
use Rattle.book.specs.declared.row.Row.{Row}
use Rattle.book.specs.Lists.{every, pairwise}
use Rattle.book.specs.Rows.{numbered, resized, left_of, put, cut, settle}
use Rattle.book.proofs.Keeps.{decide, fails, every_weaker}
use Rattle.book.proofs.Searches.{FirstAt, first_next}

pub put_none : (due n : ℕ) (r : Row) (rs : List Row) → n ≡ 0 → put due n r rs ≡ rs
put_none due zero r rs e = refl
put_none due (suc n) r rs e = absurd (omega arith)

pub put_some : (due n : ℕ) (r : Row) (rs : List Row) → 0 < n → put due n r rs ≡ resized due n r ∷ rs
put_some due zero r rs l = absurd (omega arith)
put_some due (suc n) r rs l = refl

pub cut_all : (due q : ℕ) (r : Row) (rs : List Row) → 0 < q → r.size ≤ q → cut due q r rs ≡ rs
cut_all due zero r rs l h = absurd (omega arith)
cut_all due (suc q) r rs l h = put_none due (r.size - suc q) r rs (omega arith)

pub cut_part : (due q : ℕ) (r : Row) (rs : List Row) → 0 < q → q < r.size → cut due q r rs ≡ resized due (r.size - q) r ∷ rs
cut_part due zero r rs l h = absurd (omega arith)
cut_part due (suc q) r rs l h = put_some due (r.size - suc q) r rs (omega arith)

pub settle_here : (due q n : ℕ) (r : Row) (rs : List Row) → numbered n r ≡ true → settle due q n (r ∷ rs) ≡ cut due q r rs
unfolding settle
settle_here due q n r rs e = cond-true _ _ _ e

pub settle_past : (due q n : ℕ) (r : Row) (rs : List Row) → numbered n r ≡ false → settle due q n (r ∷ rs) ≡ r ∷ settle due q n rs
unfolding settle
settle_past due q n r rs e = cond-false _ _ _ e

pub settle_none : (due q n : ℕ) (rs : List Row) → every (fails (numbered n)) rs ≡ true → settle due q n rs ≡ rs
unfolding settle
settle_none due q n [] h = refl
settle_none due q n (r ∷ rs) h =
    let a = and_parts (fails (numbered n) r) _ h in
    decide (numbered n r) (λ e. absurd (both_ways (not (numbered n r)) (ap not e) a.0)) (λ e. cond-false _ _ _ e ∙ ap (λ xs. r ∷ xs) (settle_none due q n rs a.1))

pub settle_nothing : (due n : ℕ) (rs : List Row) → settle due 0 n rs ≡ rs
unfolding settle
settle_nothing due n [] = refl
settle_nothing due n (r ∷ rs) =
    decide (numbered n r) (λ e. cond-true _ _ _ e) (λ e. cond-false _ _ _ e ∙ ap (λ xs. r ∷ xs) (settle_nothing due n rs))

-- at the place of the row: it goes if nothing is left of it, and else what is left takes its place

gone_is : (due q : ℕ) (r : Row) → None ≡ left_of due q r → r.size ≤ q
gone_is due q r e =
    decide (leb r.size q) (λ t. leb-true r.size q t)
    (λ t. let h : None ≡ Some (resized due (r.size - q) r) = e ∙ cond-false _ _ _ t in cc)

left_is : (due q : ℕ) (r x : Row) → Some x ≡ left_of due q r → (q < r.size) × (x ≡ resized due (r.size - q) r)
left_is due q r x e =
    decide (leb r.size q)
    (λ t. let h : Some x ≡ None = e ∙ cond-true _ _ _ t in cc)
    (λ t. let h : Some x ≡ Some (resized due (r.size - q) r) = e ∙ cond-false _ _ _ t in (leb-false r.size q t, cc))

pub settle_gone : (due q n : ℕ) (rs : List Row) (i : ℕ) (d : Row) → 0 < q → FirstAt (numbered n) rs i → None ≡ left_of due q (get_or rs i d) → remove rs i ≡ settle due q n rs
settle_gone due q n [] i d p f h = absurd (omega (arith, f.within))
settle_gone due q n (r ∷ rs) zero d p f h =
    sym (settle_here due q n r rs (f.here d) ∙ cut_all due q r rs p (gone_is due q r h))
settle_gone due q n (r ∷ rs) (suc i) d p f h =
    let k = first_next (numbered n) r rs i f in
    ap (λ xs. r ∷ xs) (settle_gone due q n rs i d p k.1 h) ∙ sym (settle_past due q n r rs k.0)

pub settle_left : (due q n : ℕ) (rs : List Row) (i : ℕ) (d x : Row) → 0 < q → FirstAt (numbered n) rs i → Some x ≡ left_of due q (get_or rs i d) → set rs i x ≡ settle due q n rs
settle_left due q n [] i d x p f h = absurd (omega (arith, f.within))
settle_left due q n (r ∷ rs) zero d x p f h =
    let l = left_is due q r x h in
    ap (λ (y : Row). y ∷ rs) l.1 ∙ sym (settle_here due q n r rs (f.here d) ∙ cut_part due q r rs p l.0)
settle_left due q n (r ∷ rs) (suc i) d x p f h =
    let k = first_next (numbered n) r rs i f in
    ap (λ xs. r ∷ xs) (settle_left due q n rs i d x p k.1 h) ∙ sym (settle_past due q n r rs k.0)

-- ---- what it keeps

every_cut : (f : Row → Bool) (due q : ℕ) (r : Row) → ((n : ℕ) → f r ≡ true → f (resized due (suc n) r) ≡ true) → (rs : List Row) → f r ≡ true → every f rs ≡ true → every f (cut due q r rs) ≡ true
every_cut f due zero r keeps rs h all = and_from _ _ h all
every_cut f due (suc q) r keeps rs h all = puts (r.size - suc q)
  where
    puts : (n : ℕ) → every f (put due n r rs) ≡ true
    puts zero = all
    puts (suc n) = and_from _ _ (keeps n h) all

pub every_settle : (f : Row → Bool) (due q n : ℕ) → ((r : Row) (k : ℕ) → f r ≡ true → f (resized due (suc k) r) ≡ true) → (rs : List Row) → every f rs ≡ true → every f (settle due q n rs) ≡ true
unfolding settle
every_settle f due q n keeps [] all = refl
every_settle f due q n keeps (r ∷ rs) all =
    let a = and_parts (f r) _ all in
    elim (numbered n r) as (λ b. every f (cond b (cut due q r rs) (r ∷ settle due q n rs)) ≡ true)
    [ true ↦ every_cut f due q r (keeps r) rs a.0 a.1 | false ↦ and_from _ _ a.0 (every_settle f due q n keeps rs a.1) ]

pairwise_cut : (f : Row → Row → Bool) (due q : ℕ) (r : Row) → ((k : ℕ) (x : Row) → f r x ≡ true → f (resized due (suc k) r) x ≡ true) → (rs : List Row) → every (f r) rs ≡ true → pairwise f rs ≡ true → pairwise f (cut due q r rs) ≡ true
pairwise_cut f due zero r keeps rs h all = and_from _ _ h all
pairwise_cut f due (suc q) r keeps rs h all = puts (r.size - suc q)
  where
    puts : (n : ℕ) → pairwise f (put due n r rs) ≡ true
    puts zero = all
    puts (suc n) = and_from _ _ (every_weaker (keeps n) rs h) all

-- f does not look at the size or at the moment that is due
pub pairwise_settle : (f : Row → Row → Bool) (due q n : ℕ) → ((x y : Row) (k : ℕ) → f x y ≡ true → f x (resized due (suc k) y) ≡ true) → ((x y : Row) (k : ℕ) → f x y ≡ true → f (resized due (suc k) x) y ≡ true) → (rs : List Row) → pairwise f rs ≡ true → pairwise f (settle due q n rs) ≡ true
unfolding settle
pairwise_settle f due q n right left [] all = refl
pairwise_settle f due q n right left (r ∷ rs) all =
    let a = and_parts (every (f r) rs) _ all in
    elim (numbered n r) as (λ b. pairwise f (cond b (cut due q r rs) (r ∷ settle due q n rs)) ≡ true) [
      | true ↦ pairwise_cut f due q r (λ k x h. left r x k h) rs a.0 a.1
      | false ↦ and_from _ _ (every_settle (f r) due q n (λ y k h. right r y k h) rs a.0) (pairwise_settle f due q n right left rs a.1)
    ]

pub length_settle : (due q n : ℕ) (rs : List Row) → length (settle due q n rs) ≤ length rs
unfolding settle
length_settle due q n [] = omega arith
length_settle due q n (r ∷ rs) =
    elim (numbered n r) as (λ b. length (cond b (cut due q r rs) (r ∷ settle due q n rs)) ≤ suc (length rs))
    [ true ↦ cuts q | false ↦ omega (arith, length_settle due q n rs) ]
  where
    puts : (k : ℕ) → length (put due k r rs) ≤ suc (length rs)
    puts zero = omega arith
    puts (suc k) = omega arith

    cuts : (k : ℕ) → length (cut due k r rs) ≤ suc (length rs)
    cuts zero = omega arith
    cuts (suc k) = puts (r.size - suc k)
