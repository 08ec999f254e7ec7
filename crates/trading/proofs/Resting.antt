-- The rows of a desk throughout a call, and at rest: each held order has no contra row in its reach.
use Rattle.std.proofs.Common.{◌≡◌, ℕ, zero, suc, ◌-◌, ◌<◌, ◌≤◌, Bool, eqb, ltb, List, [], ◌∷◌, Some, None, Option, sym, refl, ap, ◌∙◌, subst, inl, inr, ⊎_elim, arith}
use Rattle.std.proofs.lemmas.Bool.{leb-true, leb-false, eqb-false, cond_both, cases_eq}
use Rattle.values.specs.Sides.{opposite, onward}
use Rattle.book.specs.declared.row.Row.{Row}
use Rattle.book.specs.declared.row.Standing.{Standing}
use Rattle.book.specs.declared.row.Standing.TheVariants.{Plain, Held, Quote}
use Rattle.book.specs.declared.row.Taker.{Taker}
use Rattle.book.specs.Rows.{insert, without, row_of, moved_to}
use Rattle.book.specs.Taking.{take, Has}
use Rattle.trading.specs.Desks.{Desk, highest, each_number, taker_of, serve_row, serve_standing, serve_found, serve_one, serve, pull, second_after, move_on, turn, turns}
use Rattle.trading.proofs.Sides.{Beyond, decide, not_opposite, opposite_back, beyond_back}
use Rattle.trading.proofs.Faces.{Role, plain, held, quote, role_of, Face, face, face_number, face_series, In, Within, take_in, settle_in, insert_in, without_in, row_of_some, row_of_none, has_in, row_of_has, Positive, has_positive, take_positive, settle_positive, insert_positive, without_positive, Lacks, Distinct, take_distinct, settle_distinct, insert_distinct, without_distinct, unique, settle_gone, take_clear, take_has}
use Rattle.trading.proofs.Steps.{each_served_keeps, pull_keeps, turn_keeps, turns_keep}

-- two rows of one series and of opposite sides do not meet
abbrev pub Apart : Face → Face → Type 0
Apart f g = f.series ≡ g.series → g.side ≡ opposite f.side → Beyond f.side g.display f.display

pub apart_sym : (f g : Face) → Apart f g → Apart g f
apart_sym f g a s o = let b = opposite_back f.side g.side o in beyond_back f.side g.side g.display f.display b (a (sym s) b)

-- throughout a call
pub record Sane (top : ℕ) (xs : List Row) : Type 0 where
  pub positive : Positive xs
  pub distinct : Distinct xs
  pub numbered : (f : Face) → In f xs → (0 < f.number) × (f.number ≤ top)
  pub apart : (f g : Face) → In f xs → In g xs → Apart f g

-- a held order has no contra row in its reach
abbrev pub HoldAs : Role → Face → Face → Type 0
HoldAs plain f g = Unit {0}
HoldAs (held c) f g = g.series ≡ f.series → g.side ≡ opposite f.side → Beyond f.side g.display (onward f.side f.display c f.limit)
HoldAs (quote m) f g = Unit {0}

abbrev pub Hold : Face → Face → Type 0
Hold f g = HoldAs f.role f g

abbrev pub Holding : List Row → Type 0
Holding xs = (f g : Face) → In f xs → In g xs → Hold f g

-- the rows of other series hold
abbrev pub Others : ℕ → List Row → Type 0
Others s xs = (f g : Face) → In f xs → In g xs → (f.series ≡ s → ⊥) → Hold f g

-- the rows of other series, and those up to the number n, hold
abbrev pub ServedTo : ℕ → ℕ → List Row → Type 0
ServedTo s n xs = (f g : Face) → In f xs → In g xs → (f.series ≡ s → f.number ≤ n) → Hold f g

-- between calls
abbrev pub Rested : ℕ → List Row → Type 0
Rested top xs = Sane top xs × Holding xs

hold_other : (x : Role) (f g : Face) → (g.series ≡ f.series → ⊥) → HoldAs x f g
hold_other plain f g n = tt
hold_other (held c) f g n = λ e o. absurd (n e)
hold_other (quote m) f g n = tt

pub insert_others : (x : Row) (xs : List Row) → Holding xs → Others x.series (insert x xs)
insert_others x xs h f g i j n =
    ⊎_elim
    (λ a. absurd (n (face_series a)))
    (λ a. ⊎_elim (λ b. hold_other f.role f g (λ e. n (sym e ∙ face_series b))) (λ b. h f g a b) (insert_in x xs g j))
    (insert_in x xs f i)

-- fewer rows are as sane
pub fewer : {top : ℕ} {xs ys : List Row} → Sane top xs → Within ys xs → Positive ys → Distinct ys → Sane top ys
fewer ok within positive distinct = record {
  positive = positive;
  distinct = distinct;
  numbered = λ f i. ok.numbered f (within f i);
  apart = λ f g i j. ok.apart f g (within f i) (within g j);
}

pub weaken : {top : ℕ} {xs : List Row} (more : ℕ) → top ≤ more → Sane top xs → Sane more xs
weaken more le ok = record {
  positive = ok.positive;
  distinct = ok.distinct;
  numbered = λ f i. ((ok.numbered f i).0, let b = ok.numbered f i in omega arith);
  apart = ok.apart;
}

pub take_sane : {top : ℕ} {xs : List Row} → Sane top xs → (due : ℕ) (t : Taker) (n : ℕ) → Sane top (take due t n xs []).rows
take_sane {top} {xs} ok due t n = fewer ok (take_in due t xs n []) (take_positive due t xs n [] ok.positive) (take_distinct due t xs n [] ok.distinct)

-- ---- a held order is served

module _ {top : ℕ} (d : Desk) (ok : Sane top d.rows) (due : ℕ) (r : Row) (c m : ℕ) (has : Has r d.rows) (how : r.standing ≡ Held c m) where
  pub served_in : Within (serve_row due r c d).rows d.rows
  unfolding serve_row
  served_in f h = take_in due (taker_of r c) d.rows r.size [] f (settle_in due _ r.number _ f h)

  pub serve_row_sane : Sane top (serve_row due r c d).rows
  unfolding serve_row
  serve_row_sane = fewer ok served_in
      (settle_positive due _ r.number _ (take_positive due (taker_of r c) d.rows r.size [] ok.positive))
      (settle_distinct due _ r.number _ (take_distinct due (taker_of r c) d.rows r.size [] ok.distinct))

  -- afterwards it has no contra row in its reach
  pub serve_row_holds : (f g : Face) → In f (serve_row due r c d).rows → In g (serve_row due r c d).rows → f.number ≡ r.number → Hold f g
  unfolding serve_row
  serve_row_holds f g h l e =
      let i = has_in r d.rows has in
      let same : f ≡ face r = unique d.rows ok.distinct f (face r) (served_in f h) i e in
      let out = take due (taker_of r c) r.size d.rows [] in
      let holds : HoldAs (held c) (face r) g = λ s o.
      decide (ltb 0 out.left)
      (λ t. take_clear due (taker_of r c) d.rows r.size [] ok.positive (leb-true 1 out.left t) g (settle_in due _ r.number _ g l) s o)
      (λ t. absurd (settle_gone due (r.size - out.left) r out.rows (take_has due (taker_of r c) d.rows r.size [] r (not_opposite r.side) has) (take_positive due (taker_of r c) d.rows r.size [] ok.positive) (let n = leb-false 1 out.left t in omega arith) (take_distinct due (taker_of r c) d.rows r.size [] ok.distinct) f h e)) in
      subst (λ (y : Face). Hold y g) (sym same) (subst (λ (y : Role). HoldAs y (face r) g) (sym (ap role_of how)) holds)

stays : (s m : ℕ) (xs : List Row) → ServedTo s m xs → ((f g : Face) → In f xs → In g xs → f.series ≡ s → f.number ≡ suc m → Hold f g) → ServedTo s (suc m) xs
stays s m xs old new f g i j u =
    ⊎_elim
    (λ e. ⊎_elim (λ z. new f g i j z e) (λ z. old f g i j (λ y. absurd (z y))) (cases_eq f.series s))
    (λ e. old f g i j (λ y. let a = u y in omega arith))
    (cases_eq f.number (suc m))

-- the order suc m of the series s has been served
Next : ℕ → ℕ → ℕ → Desk → Type 0
Next top s m d = Sane top d.rows × ServedTo s (suc m) d.rows

module _ {top : ℕ} (d : Desk) (ok : Sane top d.rows) (due s m : ℕ) (old : ServedTo s m d.rows) where
  same_face : (r : Row) → row_of (suc m) d.rows ≡ Some r → (f : Face) → In f d.rows → f.number ≡ suc m → f ≡ face r
  same_face r e f i n = let h = row_of_some (suc m) d.rows r e in unique d.rows ok.distinct f (face r) i h.0 (n ∙ sym h.1)

  idle : (r : Row) → row_of (suc m) d.rows ≡ Some r → ((g : Face) → Hold (face r) g) → Next top s m d
  unfolding Next
  idle r e h = (ok, stays s m d.rows old (λ f g i j a n. subst (λ (y : Face). Hold y g) (sym (same_face r e f i n)) (h g)))

  serve_standing_lem : (r : Row) → row_of (suc m) d.rows ≡ Some r → (x : Standing) → r.standing ≡ x → Next top s m (serve_standing due x r d)
  unfolding Next
  serve_standing_lem r e Plain z = idle r e (λ g. subst (λ (y : Role). HoldAs y (face r) g) (sym (ap role_of z)) tt)
  serve_standing_lem r e (Held c q) z =
      let has = row_of_has (suc m) d.rows r e in
      let n = (row_of_some (suc m) d.rows r e).1 in (
        serve_row_sane d ok due r c q has z,
        stays s m (serve_row due r c d).rows
            (λ f g i j u. old f g (served_in d ok due r c q has z f i) (served_in d ok due r c q has z g j) u)
            (λ f g i j a w. serve_row_holds d ok due r c q has z f g i j (w ∙ sym n)),
      )
  serve_standing_lem r e (Quote q) z = idle r e (λ g. subst (λ (y : Role). HoldAs y (face r) g) (sym (ap role_of z)) tt)

  serve_found_lem : (o : Option Row) → row_of (suc m) d.rows ≡ o → Next top s m (serve_found due s o d)
  unfolding Next
  serve_found_lem None e = (ok, stays s m d.rows old (λ f g i j a n. absurd (row_of_none (suc m) d.rows e f i n)))
  serve_found_lem (Some r) e =
      cond_both (eqb r.series s) (serve_standing due r.standing r d) d (Next top s m)
      (λ t. serve_standing_lem r e r.standing refl)
      (λ t. (ok, stays s m d.rows old (λ f g i j a n. absurd (eqb-false r.series s t (sym (face_series (same_face r e f i n)) ∙ a)))))

  serve_one_next : Next top s m (serve_one due s (suc m) d)
  unfolding serve_one
  serve_one_next = serve_found_lem (row_of (suc m) d.rows) refl

pub served_to : {top : ℕ} (d : Desk) (due s n : ℕ) → Sane top d.rows → Others s d.rows → Sane top (each_number n (serve_one due s) d).rows × ServedTo s n (each_number n (serve_one due s) d).rows
unfolding each_number Next
served_to d due s zero ok others = (ok, λ f g i j u. ⊎_elim (λ e. absurd (let a = u e in let b = ok.numbered f i in omega arith)) (λ e. others f g i j e) (cases_eq f.series s))
served_to d due s (suc n) ok others = let h = served_to d due s n ok others in serve_one_next (each_number n (serve_one due s) d) h.0 due s n h.1

-- every row is numbered at most as the highest
pub highest_in : (xs : List Row) (f : Face) → In f xs → f.number ≤ highest xs
highest_in [] f i = absurd i
highest_in (x ∷ xs) f (inl e) = let n = face_number e in omega arith
highest_in (x ∷ xs) f (inr i) = omega (arith, highest_in xs f i)

pub highest_within : (xs ys : List Row) → Within xs ys → highest xs ≤ highest ys
highest_within [] ys h = omega arith
highest_within (x ∷ xs) ys h = omega (arith, highest_in ys (face x) (h (face x) (inl refl)), highest_within xs ys (λ f i. h f (inr i)))

-- serving brings no row
module _ (due s : ℕ) where
  pub each_within : (n : ℕ) (d : Desk) → Within (each_number n (serve_one due s) d).rows d.rows
  unfolding serve_row
  each_within n d = each_served_keeps (λ x. Within x.rows d.rows) due s (λ r c x h f i. h f (take_in due (taker_of r c) x.rows r.size [] f (settle_in due _ r.number _ f i))) n d (λ f i. i)

  pub serve_within : (d : Desk) → Within (serve due s d).rows d.rows
  unfolding serve
  serve_within d = each_within (highest d.rows) d

pub serve_rested : {top : ℕ} (d : Desk) (due s : ℕ) → Sane top d.rows → Others s d.rows → Rested top (serve due s d).rows
unfolding serve
serve_rested d due s ok others =
    let h = served_to d due s (highest d.rows) ok others in
    (h.0, λ f g i j. h.1 f g i j (λ e. highest_in d.rows f (each_within due s (highest d.rows) d f i)))

-- ---- a row comes into the book

pub record Newcomer (top : ℕ) (x : Row) (xs : List Row) : Type 0 where
  pub absent : Lacks x.number xs
  pub sized : 0 < x.size
  pub numbered : (0 < x.number) × (x.number ≤ top)
  pub apart : (g : Face) → In g xs → Apart (face x) g

pub insert_sane : {top : ℕ} {xs : List Row} → Sane top xs → (x : Row) → Newcomer top x xs → Sane top (insert x xs)
insert_sane {top} {xs} ok x new = record {
  positive = insert_positive x xs new.sized ok.positive;
  distinct = insert_distinct x xs new.absent ok.distinct;
  numbered = λ f i. ⊎_elim (λ e. subst (λ (y : Face). (0 < y.number) × (y.number ≤ top)) (sym e) new.numbered) (λ e. ok.numbered f e) (insert_in x xs f i);
  apart = λ f g i l. ⊎_elim
      (λ a. ⊎_elim
      (λ b. subst (λ (y : Face). Apart y g) (sym a) (subst (λ (y : Face). Apart (face x) y) (sym b) (λ s o. absurd (not_opposite x.side o))))
      (λ b. subst (λ (y : Face). Apart y g) (sym a) (new.apart g b))
      (insert_in x xs g l))
      (λ a. ⊎_elim
      (λ b. subst (λ (y : Face). Apart f y) (sym b) (apart_sym (face x) f (new.apart f a)))
      (λ b. ok.apart f g a b)
      (insert_in x xs g l))
      (insert_in x xs f i);
}

pub without_sane : {top : ℕ} {xs : List Row} (n : ℕ) → Sane top xs → Sane top (without n xs)
without_sane {top} {xs} n ok = fewer ok (λ f i. (without_in n xs f i).0) (without_positive n xs ok.positive) (without_distinct n xs ok.distinct)

pub without_holding : (xs : List Row) (n : ℕ) → Holding xs → Holding (without n xs)
without_holding xs n h f g i j = h f g (without_in n xs f i).0 (without_in n xs g j).0

-- ---- a held order moves

-- the row as it moves
abbrev pub onwards : Row → ℕ → ℕ
onwards r c = onward r.side r.display c r.limit

module _ {top : ℕ} (d : Desk) (ok : Rested top d.rows) (r : Row) (c m moment : ℕ) (at : row_of r.number d.rows ≡ Some r) (how : r.standing ≡ Held c m) where
  pub moved_rows : (move_on r c moment d).rows ≡ insert (moved_to (onwards r c) (second_after moment) r) (without r.number d.rows)
  unfolding move_on
  moved_rows = rw at

  -- the moved row meets no contra row
  pub moved_newcomer : Newcomer top (moved_to (onwards r c) (second_after moment) r) (without r.number d.rows)
  moved_newcomer =
      let has = row_of_has r.number d.rows r at in
      let i = has_in r d.rows has in
      record {
        absent = λ f h. (without_in r.number d.rows f h).1;
        sized = has_positive r d.rows has ok.0.positive;
        numbered = ok.0.numbered (face r) i;
        apart = λ g h s o. subst (λ (y : Role). HoldAs y (face r) g) (ap role_of how) (ok.1 (face r) g i (without_in r.number d.rows g h).0) (sym s) o;
      }

  pub move_on_sane : Sane top (move_on r c moment d).rows
  move_on_sane = rw moved_rows (insert_sane (without_sane r.number ok.0) (moved_to (onwards r c) (second_after moment) r) moved_newcomer)

  pub move_on_others : Others r.series (move_on r c moment d).rows
  move_on_others = rw moved_rows (insert_others (moved_to (onwards r c) (second_after moment) r) (without r.number d.rows) (without_holding d.rows r.number ok.1))

pub row_of_itself : (n : ℕ) (xs : List Row) (r : Row) → row_of n xs ≡ Some r → row_of r.number xs ≡ Some r
row_of_itself n xs r e = subst (λ (y : ℕ). row_of y xs ≡ Some r) (sym (row_of_some n xs r e).1) e

pub turn_rested : {top : ℕ} (d : Desk) (k : ℕ) → Rested top d.rows → Rested top (turn k d).rows
turn_rested {top} d k ok =
    turn_keeps (λ x. Rested top x.rows) k d
    (λ moment n r c m e how. let at = row_of_itself n d.rows r e in serve_rested (move_on r c moment d) (second_after k) r.series (move_on_sane d ok r c m moment at how) (move_on_others d ok r c m moment at how))
    ok

pub turns_rested : {top : ℕ} (n k : ℕ) (d : Desk) → Rested top d.rows → Rested top (turns n k d).rows
turns_rested {top} n k = turns_keep (λ x. Rested top x.rows) k (λ d ok. turn_rested d k ok) n

-- ---- rows are withdrawn

pub pull_rested : {top : ℕ} (d : Desk) (p : Row → Bool) → Rested top d.rows → Rested top (pull p d).rows
pull_rested {top} d p = pull_keeps (λ x. Rested top x.rows) p (λ r x ok. (without_sane r.number ok.0, without_holding x.rows r.number ok.1)) d
