-- The due list of the rows, through each change of them.
use Rattle.std.proofs.Common.{◌≡◌, ℕ, suc, ◌<◌, ◌≤◌, Bool, true, false, cond, not, ◌&&◌, eqb, List, [], ◌∷◌, length, Some, sym, refl, ap, ◌∙◌, subst, arith}
use Rattle.std.proofs.lemmas.Bool.{and_parts, and_from, cond-true, cond-false, eqb-true, eq-eqb, both_ways}
use Rattle.std.proofs.lemmas.Bool.Decides.{nat_tests}
use Rattle.book.specs.declared.row.Row.{Row}
use Rattle.book.specs.declared.row.Due.{Due}
use Rattle.book.specs.declared.row.Standing.{Standing}
use Rattle.book.specs.declared.row.Standing.TheVariants.{Plain, Held, Quote}
use Rattle.book.specs.Lists.{found, or_else, placed, lacking, every, pairwise, head}
use Rattle.book.specs.Rows.{agrees, precedes, numbered, renewed, settle, insert, without}
use Rattle.book.specs.Dues.{due_at, sooner, owed, distinct, InTurn, entered, listed, unlisted, due_list, soonest, earliest, same_dues}
use Rattle.book.proofs.Keeps.{decide, fails, every_weaker, every_placed, lacking_none, length_placed}
use Rattle.book.proofs.Orders.{agrees_number, sooner_trans, sooner_total, sooner_strict}
use Rattle.book.proofs.Settles.{cut_all, cut_part}
use Rattle.book.proofs.Turns.{turns_entered}

-- ---- the test of sameness

pub same_from : (ds es : List Due) → same_dues ds es ≡ true → ds ≡ es
same_from [] [] h = refl
same_from [] (e ∷ es) h = absurd (both_ways false refl h)
same_from (d ∷ ds) [] h = absurd (both_ways false refl h)
same_from (d ∷ ds) (e ∷ es) h =
    let a = and_parts (eqb d.moment e.moment && eqb d.number e.number) _ h in
    let b = and_parts (eqb d.moment e.moment) _ a.0 in
    let m = eqb-true d.moment e.moment b.0 in
    let n = eqb-true d.number e.number b.1 in
    ap (λ (x : ℕ). due_at x d.number ∷ ds) m ∙ ap (λ (x : ℕ). due_at e.moment x ∷ ds) n ∙ ap (λ (xs : List Due). e ∷ xs) (same_from ds es a.1)

pub same_self : (ds : List Due) → same_dues ds ds ≡ true
same_self [] = refl
same_self (d ∷ ds) = and_from _ _ (and_from _ _ (eq-eqb d.moment d.moment refl) (eq-eqb d.number d.number refl)) (same_self ds)

pub same_by : (ds es : List Due) → ds ≡ es → same_dues ds es ≡ true
same_by ds es e = subst (λ (xs : List Due). same_dues ds xs ≡ true) e (same_self ds)

-- ---- an entry's turn

unfolded : (d e : Due) (ds : List Due) → entered d (e ∷ ds) ≡ cond (sooner d e) (d ∷ (e ∷ ds)) (e ∷ entered d ds)
unfolding placed
unfolded d e ds = refl

enter_first : (d e : Due) (ds : List Due) → sooner d e ≡ true → entered d (e ∷ ds) ≡ d ∷ (e ∷ ds)
enter_first d e ds h = unfolded d e ds ∙ cond-true _ _ _ h

enter_later : (d e : Due) (ds : List Due) → sooner d e ≡ false → entered d (e ∷ ds) ≡ e ∷ entered d ds
enter_later d e ds h = unfolded d e ds ∙ cond-false _ _ _ h

-- a sooner, then b: it does not matter which is entered first
enter_sorted : (a b : Due) → sooner a b ≡ true → (ds : List Due) → entered a (entered b ds) ≡ entered b (entered a ds)
unfolding placed
enter_sorted a b h [] = enter_first a b [] h ∙ sym (enter_later b a [] (sooner_strict a b h))
enter_sorted a b h (e ∷ ds) =
    decide (sooner b e)
    (λ be.
    let ae = sooner_trans a b e h be in
    ap (entered a) (enter_first b e ds be) ∙ enter_first a b (e ∷ ds) h
    ∙ sym (ap (entered b) (enter_first a e ds ae) ∙ enter_later b a (e ∷ ds) (sooner_strict a b h) ∙ ap (λ (xs : List Due). a ∷ xs) (enter_first b e ds be)))
    (λ be. decide (sooner a e)
    (λ ae.
    ap (entered a) (enter_later b e ds be) ∙ enter_first a e (entered b ds) ae
    ∙ sym (ap (entered b) (enter_first a e ds ae) ∙ enter_later b a (e ∷ ds) (sooner_strict a b h) ∙ ap (λ (xs : List Due). a ∷ xs) (enter_later b e ds be)))
    (λ ae.
    ap (entered a) (enter_later b e ds be) ∙ enter_later a e (entered b ds) ae ∙ ap (λ (xs : List Due). e ∷ xs) (enter_sorted a b h ds)
    ∙ sym (ap (entered b) (enter_later a e ds ae) ∙ enter_later b e (entered a ds) be)))

enter_swap : (a b : Due) → distinct a b ≡ true → (ds : List Due) → entered a (entered b ds) ≡ entered b (entered a ds)
enter_swap a b d ds = decide (sooner a b) (λ h. enter_sorted a b h ds) (λ h. sym (enter_sorted b a (sooner_total a b d h) ds))

apart : (m n k l : ℕ) → eqb m n ≡ false → distinct (due_at k m) (due_at l n) ≡ true
apart m n k l h = ap not h

listed_enter : (s : Standing) (m n k : ℕ) → eqb n m ≡ false → (ds : List Due) → listed s m (entered (due_at k n) ds) ≡ entered (due_at k n) (listed s m ds)
listed_enter Plain m n k h ds = refl
listed_enter (Held c d) m n k h ds = sym (enter_swap (due_at k n) (due_at d m) (apart n m k d h) ds)
listed_enter (Quote x) m n k h ds = refl

listed_swap : (s t : Standing) (m n : ℕ) → eqb m n ≡ false → (ds : List Due) → listed s m (listed t n ds) ≡ listed t n (listed s m ds)
listed_swap Plain t m n h ds = refl
listed_swap (Held c d) Plain m n h ds = refl
listed_swap (Held c d) (Held c' d') m n h ds = enter_swap (due_at d m) (due_at d' n) (apart m n d d' h) ds
listed_swap (Held c d) (Quote x) m n h ds = refl
listed_swap (Quote x) t m n h ds = refl

-- ---- a row more

pub due_insert : (row : Row) (rs : List Row) → every (agrees row) rs ≡ true → due_list (insert row rs) ≡ listed row.standing row.number (due_list rs)
unfolding placed due_list
due_insert row [] h = refl
due_insert row (r ∷ rs) h =
    let a = and_parts (agrees row r) _ h in
    decide (precedes row r)
    (λ e. ap due_list (cond-true _ _ _ e))
    (λ e. ap due_list (cond-false _ _ _ e) ∙ ap (listed r.standing r.number) (due_insert row rs a.1) ∙ sym (listed_swap row.standing r.standing row.number r.number (agrees_number row r a.0) (due_list rs)))

-- ---- what the due list of sound rows keeps

listed_every : (q : Due → Bool) (s : Standing) (n : ℕ) → ((k : ℕ) → q (due_at k n) ≡ true) → (ds : List Due) → every q ds ≡ true → every q (listed s n ds) ≡ true
listed_every q Plain n h ds all = all
listed_every q (Held c d) n h ds all = every_placed (sooner (due_at d n)) q (due_at d n) (h d) ds all
listed_every q (Quote m) n h ds all = all

-- a test of numbers that each row passes, each entry passes
pub due_every : (q : ℕ → Bool) (rs : List Row) → every (λ r. q r.number) rs ≡ true → every (λ (d : Due). q d.number) (due_list rs) ≡ true
unfolding due_list
due_every q [] h = refl
due_every q (r ∷ rs) h =
    let a = and_parts (q r.number) _ h in
    listed_every (λ d. q d.number) r.standing r.number (λ k. a.0) (due_list rs) (due_every q rs a.1)

pub due_unused : (row : Row) (k : ℕ) (rs : List Row) → every (agrees row) rs ≡ true → every (distinct (due_at k row.number)) (due_list rs) ≡ true
due_unused row k rs h = due_every (λ n. not (eqb row.number n)) rs (every_weaker (λ r g. ap not (agrees_number row r g)) rs h)

due_turns : (rs : List Row) → pairwise agrees rs ≡ true → InTurn (due_list rs)
unfolding due_list
due_turns [] h = (refl, refl)
due_turns (r ∷ rs) h =
    let a = and_parts (every (agrees r) rs) _ h in
    turn r.standing (due_list rs) (due_turns rs a.1) (λ k. due_unused r k rs a.0)
  where
    turn : (s : Standing) (ds : List Due) → InTurn ds → ((k : ℕ) → every (distinct (due_at k r.number)) ds ≡ true) → InTurn (listed s r.number ds)
    turn Plain ds t f = t
    turn (Held c d) ds t f = turns_entered (due_at d r.number) ds (f d) t
    turn (Quote m) ds t f = t

listed_length : (s : Standing) (n : ℕ) (ds : List Due) → length (listed s n ds) ≤ suc (length ds)
listed_length Plain n ds = omega arith
listed_length (Held c d) n ds = omega (arith, length_placed (sooner (due_at d n)) (due_at d n) ds)
listed_length (Quote m) n ds = omega arith

pub due_length : (rs : List Row) → length (due_list rs) ≤ length rs
unfolding due_list
due_length [] = omega arith
due_length (r ∷ rs) = omega (arith, listed_length r.standing r.number (due_list rs), due_length rs)

-- ---- a row less

enter_lacking : (n : ℕ) (d : Due) → owed n d ≡ false → (ds : List Due) → pairwise sooner ds ≡ true → lacking (owed n) (entered d ds) ≡ entered d (lacking (owed n) ds)
unfolding placed lacking
enter_lacking n d out [] turn = cond-false _ _ _ out
enter_lacking n d out (e ∷ ds) turn =
    let a = and_parts (every (sooner e) ds) _ turn in
    decide (sooner d e)
    (λ s. ap (lacking (owed n)) (cond-true _ _ _ s) ∙ cond-false _ _ _ out ∙ front s (owed n e) a.0)
    (λ s. ap (lacking (owed n)) (cond-false _ _ _ s)
    ∙ decide (owed n e)
    (λ g. cond-true _ _ _ g ∙ enter_lacking n d out ds a.1 ∙ sym (ap (entered d) (cond-true _ _ _ g)))
    (λ g. cond-false _ _ _ g ∙ ap (λ (xs : List Due). e ∷ xs) (enter_lacking n d out ds a.1) ∙ sym (ap (entered d) (cond-false _ _ _ g) ∙ enter_later d e (lacking (owed n) ds) s)))
  where
    -- d is sooner than all that is left
    ahead : (xs : List Due) → every (sooner d) xs ≡ true → d ∷ xs ≡ entered d xs
    ahead [] h = refl
    ahead (x ∷ xs) h = sym (enter_first d x xs (and_parts (sooner d x) _ h).0)

    kept : (xs : List Due) → every (sooner d) xs ≡ true → every (sooner d) (lacking (owed n) xs) ≡ true
    kept [] h = refl
    kept (x ∷ xs) h =
        let b = and_parts (sooner d x) _ h in
        elim (owed n x) as (λ t. every (sooner d) (cond t (lacking (owed n) xs) (x ∷ lacking (owed n) xs)) ≡ true)
        [ true ↦ kept xs b.1 | false ↦ and_from _ _ b.0 (kept xs b.1) ]

    front : sooner d e ≡ true → (t : Bool) → every (sooner e) ds ≡ true → d ∷ cond t (lacking (owed n) ds) (e ∷ lacking (owed n) ds) ≡ entered d (cond t (lacking (owed n) ds) (e ∷ lacking (owed n) ds))
    front s true h = ahead (lacking (owed n) ds) (kept ds (every_weaker (λ x k. sooner_trans d e x s k) ds h))
    front s false h = sym (enter_first d e (lacking (owed n) ds) s)

listed_lacking : (s : Standing) (m n : ℕ) → eqb m n ≡ false → (ds : List Due) → pairwise sooner ds ≡ true → lacking (owed n) (listed s m ds) ≡ listed s m (lacking (owed n) ds)
listed_lacking Plain m n h ds t = refl
listed_lacking (Held c d) m n h ds t = enter_lacking n (due_at d m) h ds t
listed_lacking (Quote x) m n h ds t = refl

enter_gone : (n : ℕ) (d : Due) → owed n d ≡ true → (ds : List Due) → lacking (owed n) (entered d ds) ≡ lacking (owed n) ds
unfolding placed lacking
enter_gone n d is [] = cond-true _ _ _ is
enter_gone n d is (e ∷ ds) =
    decide (sooner d e)
    (λ s. ap (lacking (owed n)) (cond-true _ _ _ s) ∙ cond-true _ _ _ is)
    (λ s. ap (lacking (owed n)) (cond-false _ _ _ s) ∙ ap (λ (xs : List Due). cond (owed n e) xs (e ∷ xs)) (enter_gone n d is ds))

listed_gone : (s : Standing) (m n : ℕ) → eqb m n ≡ true → (ds : List Due) → lacking (owed n) (listed s m ds) ≡ lacking (owed n) ds
listed_gone Plain m n h ds = refl
listed_gone (Held c d) m n h ds = enter_gone n (due_at d m) h ds
listed_gone (Quote x) m n h ds = refl

pub due_without : (n : ℕ) (rs : List Row) → pairwise agrees rs ≡ true → due_list (without n rs) ≡ lacking (owed n) (due_list rs)
unfolding lacking due_list
due_without n [] h = refl
due_without n (r ∷ rs) h =
    let a = and_parts (every (agrees r) rs) _ h in
    let rest = due_without n rs a.1 in
    decide (numbered n r)
    (λ e. ap due_list (cond-true _ _ _ e) ∙ rest ∙ sym (listed_gone r.standing r.number n e (due_list rs)))
    (λ e. ap due_list (cond-false _ _ _ e) ∙ ap (listed r.standing r.number) rest ∙ sym (listed_lacking r.standing r.number n e (due_list rs) (due_turns rs a.1).0))

-- no entry has a number that no row has
pub due_none : (n : ℕ) (rs : List Row) → every (fails (numbered n)) rs ≡ true → lacking (owed n) (due_list rs) ≡ due_list rs
due_none n rs h = lacking_none (owed n) (due_list rs) (due_every (λ k. not (eqb k n)) rs h)

unlisted_is : (s : Standing) (m n : ℕ) → eqb m n ≡ true → (ds : List Due) → lacking (owed n) ds ≡ ds → unlisted s n (listed s m ds) ≡ ds
unlisted_is Plain m n h ds e = refl
unlisted_is (Held c d) m n h ds e = listed_gone (Held c d) m n h ds ∙ e
unlisted_is (Quote x) m n h ds e = refl

unlisted_past : (s t : Standing) (m n : ℕ) → eqb m n ≡ false → (ds : List Due) → pairwise sooner ds ≡ true → unlisted s n (listed t m ds) ≡ listed t m (unlisted s n ds)
unlisted_past Plain t m n h ds k = refl
unlisted_past (Held c d) t m n h ds k = listed_lacking t m n h ds k
unlisted_past (Quote x) t m n h ds k = refl

found_head : (n : ℕ) (x r : Row) (rs : List Row) → numbered n x ≡ true → found (numbered n) (x ∷ rs) ≡ Some r → x ≡ r
unfolding found
found_head n x r rs e h = let z : or_else true x (found (numbered n) rs) ≡ Some r = sym (ap (λ t. or_else t x (found (numbered n) rs)) e) ∙ h in cc

found_tail : (n : ℕ) (x r : Row) (rs : List Row) → numbered n x ≡ false → found (numbered n) (x ∷ rs) ≡ Some r → found (numbered n) rs ≡ Some r
unfolding found
found_tail n x r rs e h = sym (ap (λ t. or_else t x (found (numbered n) rs)) e) ∙ h

-- after a row that has the number, no row has it
no_other : (n : ℕ) (x : Row) (rs : List Row) → numbered n x ≡ true → every (agrees x) rs ≡ true → every (fails (numbered n)) rs ≡ true
no_other n x rs e h = every_weaker (λ y g. ap not (other x.number y.number e (agrees_number x y g))) rs h
  where
    other : (a b : ℕ) → eqb a n ≡ true → eqb a b ≡ false → eqb b n ≡ false
    other a b p q = grind (arith, nat_tests)

-- the entry of a row that goes
pub due_gone : (n : ℕ) (r : Row) (rs : List Row) → pairwise agrees rs ≡ true → found (numbered n) rs ≡ Some r → due_list (without n rs) ≡ unlisted r.standing n (due_list rs)
unfolding found lacking due_list
due_gone n r [] h f = cc
due_gone n r (x ∷ rs) h f =
    let a = and_parts (every (agrees x) rs) _ h in
    decide (numbered n x)
    (λ e.
    let none = no_other n x rs e a.0 in
    ap due_list (cond-true _ _ _ e) ∙ ap due_list (lacking_none (numbered n) rs none)
    ∙ subst (λ (y : Row). due_list rs ≡ unlisted y.standing n (listed x.standing x.number (due_list rs))) (found_head n x r rs e f)
    (sym (unlisted_is x.standing x.number n e (due_list rs) (due_none n rs none))))
    (λ e. ap due_list (cond-false _ _ _ e) ∙ ap (listed x.standing x.number) (due_gone n r rs a.1 (found_tail n x r rs e f))
    ∙ sym (unlisted_past r.standing x.standing x.number n e (due_list rs) (due_turns rs a.1).0))

-- a row all of which is traded is withdrawn
pub settle_all : (due q n : ℕ) (r : Row) (rs : List Row) → pairwise agrees rs ≡ true → found (numbered n) rs ≡ Some r → 0 < q → r.size ≤ q → settle due q n rs ≡ without n rs
unfolding lacking settle
settle_all due q n r [] h f p l = refl
settle_all due q n r (x ∷ rs) h f p l =
    let a = and_parts (every (agrees x) rs) _ h in
    decide (numbered n x)
    (λ e. cond-true _ _ _ e ∙ cut_all due q x rs p (subst (λ (y : Row). y.size ≤ q) (sym (found_head n x r rs e f)) l) ∙ sym (lacking_none (numbered n) rs (no_other n x rs e a.0)) ∙ sym (cond-true _ _ _ e))
    (λ e. cond-false _ _ _ e ∙ ap (λ (xs : List Row). x ∷ xs) (settle_all due q n r rs a.1 (found_tail n x r rs e f) p l) ∙ sym (cond-false _ _ _ e))

-- the entry of a row part of which is traded
pub due_part : (due q n : ℕ) (r : Row) (rs : List Row) → pairwise agrees rs ≡ true → found (numbered n) rs ≡ Some r → 0 < q → q < r.size → due_list (settle due q n rs) ≡ listed (renewed due r.standing) n (unlisted r.standing n (due_list rs))
unfolding found settle due_list
due_part due q n r [] h f p l = cc
due_part due q n r (x ∷ rs) h f p l =
    let a = and_parts (every (agrees x) rs) _ h in
    decide (numbered n x)
    (λ e.
    let none = no_other n x rs e a.0 in
    let is = found_head n x r rs e f in
    let gone = unlisted_is x.standing x.number n e (due_list rs) (due_none n rs none) in
    ap due_list (cond-true _ _ _ e) ∙ ap due_list (cut_part due q x rs p (subst (λ (y : Row). q < y.size) (sym is) l))
    ∙ ap (λ (m : ℕ). listed (renewed due x.standing) m (due_list rs)) (eqb-true x.number n e)
    ∙ subst (λ (y : Row). listed (renewed due x.standing) n (due_list rs) ≡ listed (renewed due y.standing) n (unlisted y.standing n (listed x.standing x.number (due_list rs)))) is
    (ap (listed (renewed due x.standing) n) (sym gone)))
    (λ e. ap due_list (cond-false _ _ _ e) ∙ ap (listed x.standing x.number) (due_part due q n r rs a.1 (found_tail n x r rs e f) p l)
    ∙ listed_swap x.standing (renewed due r.standing) x.number n e (unlisted r.standing n (due_list rs))
    ∙ ap (listed (renewed due r.standing) n) (sym (unlisted_past r.standing x.standing x.number n e (due_list rs) (due_turns rs a.1).0)))

-- ---- the first entry

head_listed : (s : Standing) (n : ℕ) (ds : List Due) → head (listed s n ds) ≡ soonest s n (head ds)
unfolding placed
head_listed Plain n ds = refl
head_listed (Held c d) n [] = refl
head_listed (Held c d) n (e ∷ ds) =
    elim (sooner (due_at d n) e) as (λ b. head (cond b (due_at d n ∷ (e ∷ ds)) (e ∷ entered (due_at d n) ds)) ≡ Some (cond b (due_at d n) e))
    [ true ↦ refl | false ↦ refl ]
head_listed (Quote m) n ds = refl

pub head_earliest : (rs : List Row) → head (due_list rs) ≡ earliest rs
unfolding due_list earliest
head_earliest [] = refl
head_earliest (r ∷ rs) = head_listed r.standing r.number (due_list rs) ∙ ap (soonest r.standing r.number) (head_earliest rs)
