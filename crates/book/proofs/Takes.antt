-- How a taker goes down the rows: one trade, the end, what adds up, and the rule.
use Rattle.std.proofs.Common.{◌≡◌, ℕ, zero, suc, ◌+◌, ◌-◌, ◌<◌, ◌≤◌, min, Bool, true, false, not, ◌&&◌, eqb, leb, ◌⊎◌, List, [], ◌∷◌, ◌++◌, reverse, length, Some, None, Option, sym, refl, ap, ◌∙◌, subst, inl, inr, ⊎_elim, arith}
use Rattle.std.specs.List.{AllByRecursion}
use Rattle.std.proofs.lemmas.List.{reverse-append, reverse-reverse, append_assoc}
use Rattle.std.proofs.lemmas.Bool.{and_parts, and_left, cond-true, cond-false, cond_both, both_ways, ltb-true, eq-eqb, leb-true, leb-false}
use Rattle.std.proofs.lemmas.Bool.Decides.{nat_tests}
use Rattle.values.specs.Sides.{opposite, no_more_aggressive}
use Rattle.rolls.specs.Rolls.{room, Gains}
use Rattle.rolls.specs.declared.roll.Roll.{Roll}
use Rattle.rolls.proofs.Gaining.{gains_then}
use Rattle.book.specs.declared.row.Row.{Row}
use Rattle.book.specs.declared.row.Taker.{Taker}
use Rattle.book.specs.declared.row.Trade.{Trade}
use Rattle.book.specs.Lists.{found, or_else, every, pairwise}
use Rattle.book.specs.Rows.{Sound, better, precedes, agrees, sized, numbered, stands_at, best_of, put, cut, settle}
use Rattle.book.specs.Trades.{trade_with}
use Rattle.book.specs.Taking.{in_reach, amount, note, Fill, take, Has, BestOf, NoneInReach, Takes, done, trade, traded, Fair, Took}
use Rattle.book.proofs.Keeps.{decide, every_weaker, found_none}
use Rattle.book.proofs.Orders.{agrees_number}
use Rattle.book.proofs.Settles.{cut_all, settle_here, settle_past}
use Rattle.book.proofs.Sound.{sound_settle}
use Rattle.book.proofs.Tied.{found_every}

abbrev pub fill : ℕ → List Row → List Trade → Fill
fill n rs j = record { left = n; rows = rs; trades = j }

-- ---- rows in reach

-- after the best row of the contra side, where that is out of reach, every row is
reach_after : (t : Taker) (a b : Row) → precedes a b ≡ true → stands_at t.series (opposite t.side) a ≡ true → in_reach t a ≡ false → in_reach t b ≡ false
reach_after t a b h k l = grind (arith, nat_tests)

reach_better : (t : Taker) (a b : Row) → precedes a b ≡ true → in_reach t a ≡ true → in_reach t b ≡ true → better a b ≡ true
reach_better t a b h k l = grind (arith, nat_tests)

-- in reach is on the contra side, at a price within the reach
pub reach_is : (t : Taker) (r : Row) → in_reach t r ≡ (stands_at t.series (opposite t.side) r && no_more_aggressive t.side r.display t.reach)
reach_is t r = grind (arith, nat_tests)

reach_not : (t : Taker) (r : Row) → stands_at t.series (opposite t.side) r ≡ false → in_reach t r ≡ false
reach_not t r h = reach_is t r ∙ and_left _ _ h

abbrev pub if_reached : Taker → Option Row → Option Row
if_reached t None = None
if_reached t (Some r) = or_else (no_more_aggressive t.side r.display t.reach) r None

-- the first row in reach is the best row of the contra side, if that is within the reach
pub reach_best : (t : Taker) (rs : List Row) (o : Option Row) → pairwise precedes rs ≡ true → best_of t.series (opposite t.side) rs ≡ o → found (in_reach t) rs ≡ if_reached t o
unfolding found
reach_best t [] o all e = ap (if_reached t) e
reach_best t (x ∷ xs) o all e =
    let st = stands_at t.series (opposite t.side) in
    let a = and_parts (every (precedes x) xs) _ all in
    decide (st x)
    (λ s.
    let is : Some x ≡ o = sym (ap (λ c. or_else c x (found st xs)) s) ∙ e in
    let near : in_reach t x ≡ no_more_aggressive t.side x.display t.reach = reach_is t x ∙ ap (λ c. c && no_more_aggressive t.side x.display t.reach) s in
    let here : or_else (in_reach t x) x (found (in_reach t) xs) ≡ or_else (in_reach t x) x None =
    decide (in_reach t x)
    (λ r. ap (λ c. or_else c x (found (in_reach t) xs)) r ∙ sym (ap (λ c. or_else c x None) r))
    (λ r. ap (or_else (in_reach t x) x) (found_none (in_reach t) xs (every_weaker (λ y k. ap not (reach_after t x y k s r)) xs a.0))) in
    here ∙ ap (λ c. or_else c x None) near ∙ ap (if_reached t) is)
    (λ s. ap (λ c. or_else c x (found (in_reach t) xs)) (reach_not t x s) ∙ reach_best t xs o a.1 (sym (ap (λ c. or_else c x (found st xs)) s) ∙ e))

-- ---- the definition, step by step

-- what comes of a row of which q contracts trade, and of the rest
abbrev after : ℕ → Taker → ℕ → Row → List Row → List Trade → ℕ → Fill
after due t n r rs j q =
    let f = take due t (n - q) rs (note q (trade_with t q r) j) in
    record { left = f.left; rows = cut due q r f.rows; trades = f.trades }

take_cons : (due : ℕ) (t : Taker) (n : ℕ) (r : Row) (rs : List Row) (j : List Trade) → take due t n (r ∷ rs) j ≡ after due t n r rs j (amount t n r)
unfolding take
take_cons due t n r rs j = refl

abbrev before : Row → Fill → Fill
before x f = record { left = f.left; rows = x ∷ f.rows; trades = f.trades }

-- a row that trades nothing
pub take_past : (due : ℕ) (t : Taker) (n : ℕ) (r : Row) (rs : List Row) (j : List Trade) → amount t n r ≡ 0 → take due t n (r ∷ rs) j ≡ before r (take due t n rs j)
take_past due t n r rs j z =
    let same : n - 0 ≡ n = omega arith in
    take_cons due t n r rs j ∙ ap (after due t n r rs j) z ∙ ap (λ (k : ℕ). before r (take due t k rs j)) same

amount_out : (t : Taker) (n : ℕ) (r : Row) → in_reach t r ≡ false → amount t n r ≡ 0
amount_out t n r e = cond-false _ _ _ e

amount_none : (t : Taker) (r : Row) → amount t 0 r ≡ 0
amount_none t r = cond_both (in_reach t r) (min 0 r.size) 0 (λ x. x ≡ 0) (λ e. omega arith) (λ e. refl)

-- with nothing left
pub take_nothing : (due : ℕ) (t : Taker) (rs : List Row) (j : List Trade) → take due t 0 rs j ≡ fill 0 rs j
unfolding take
take_nothing due t [] j = refl
take_nothing due t (r ∷ rs) j = take_past due t 0 r rs j (amount_none t r) ∙ ap (before r) (take_nothing due t rs j)

-- with no row in reach
pub take_none : (due : ℕ) (t : Taker) (n : ℕ) (rs : List Row) (j : List Trade) → found (in_reach t) rs ≡ None → take due t n rs j ≡ fill n rs j
unfolding take found
take_none due t n [] j e = refl
take_none due t n (r ∷ rs) j e =
    decide (in_reach t r)
    (λ s. let h : or_else true r (found (in_reach t) rs) ≡ None = sym (ap (λ c. or_else c r (found (in_reach t) rs)) s) ∙ e in cc)
    (λ s. take_past due t n r rs j (amount_out t n r s) ∙ ap (before r) (take_none due t n rs j (sym (ap (λ c. or_else c r (found (in_reach t) rs)) s) ∙ e)))

note_some : (q : ℕ) (e : Trade) (j : List Trade) → 0 < q → note q e j ≡ e ∷ j
note_some zero e j p = absurd (omega arith)
note_some (suc q) e j p = refl

self : (n : ℕ) → eqb n n ≡ true
self n = eq-eqb n n refl

-- one trade with the first row in reach, and on from what it leaves
pub take_step : (due : ℕ) (t : Taker) (n : ℕ) (rs : List Row) (j : List Trade) (b : Row) → 0 < n → pairwise agrees rs ≡ true → every sized rs ≡ true → found (in_reach t) rs ≡ Some b
    → take due t n rs j ≡ take due t (n - min n b.size) (settle due (min n b.size) b.number rs) (trade_with t (min n b.size) b ∷ j)
unfolding found
take_step due t n [] j b p all sizes e = cc
take_step due t n (x ∷ xs) j b p all sizes e =
    let a = and_parts (every (agrees x) xs) _ all in
    let z = and_parts (sized x) _ sizes in
    decide (in_reach t x)
    (λ s.
    let h : or_else true x (found (in_reach t) xs) ≡ Some b = sym (ap (λ c. or_else c x (found (in_reach t) xs)) s) ∙ e in
    let is : x ≡ b = cc in
    let some : 0 < x.size = ltb-true 0 x.size z.0 in
    subst (λ (y : Row). take due t n (x ∷ xs) j ≡ take due t (n - min n y.size) (settle due (min n y.size) y.number (x ∷ xs)) (trade_with t (min n y.size) y ∷ j)) is
    (here s some))
    (λ s.
    let tail = sym (ap (λ c. or_else c x (found (in_reach t) xs)) s) ∙ e in
    let q = min n b.size in
    let apart : numbered b.number x ≡ false = agrees_number x b (found_every (agrees x) (in_reach t) xs b a.0 tail) in
    take_past due t n x xs j (amount_out t n x s) ∙ ap (before x) (take_step due t n xs j b p a.1 z.1 tail)
    ∙ sym (ap (λ (l : List Row). take due t (n - q) l (trade_with t q b ∷ j)) (settle_past due q b.number x xs apart)
    ∙ take_past due t (n - q) x (settle due q b.number xs) (trade_with t q b ∷ j) (amount_out t (n - q) x s)))
  where
    here : in_reach t x ≡ true → 0 < x.size → take due t n (x ∷ xs) j ≡ take due t (n - min n x.size) (settle due (min n x.size) x.number (x ∷ xs)) (trade_with t (min n x.size) x ∷ j)
    here s some =
        let q = min n x.size in
        let is_q : amount t n x ≡ q = cond-true _ _ _ s in
        let pos : 0 < q = omega arith in
        let j' = trade_with t q x ∷ j in
        let f = take due t (n - q) xs j' in
        let step : take due t n (x ∷ xs) j ≡ fill f.left (cut due q x f.rows) f.trades =
        take_cons due t n x xs j ∙ ap (after due t n x xs j) is_q ∙ ap (λ (l : List Trade). fill (take due t (n - q) xs l).left (cut due q x (take due t (n - q) xs l).rows) (take due t (n - q) xs l).trades) (note_some q (trade_with t q x) j pos) in
        let settled : settle due q x.number (x ∷ xs) ≡ cut due q x xs = settle_here due q x.number x xs (self x.number) in
        decide (leb x.size n)
        (λ l.
        let le : x.size ≤ q = (let y = leb-true x.size n l in omega arith) in
        step ∙ ap (λ (l : List Row). fill f.left l f.trades) (cut_all due q x f.rows pos le)
        ∙ sym (ap (λ (l : List Row). take due t (n - q) l j') (settled ∙ cut_all due q x xs pos le)))
        (λ l.
        let lt : q < x.size = (let y = leb-false x.size n l in omega arith) in
        let none : n - q ≡ 0 = (let y = leb-false x.size n l in omega arith) in
        let kept : take due t (n - q) xs j' ≡ fill 0 xs j' = ap (λ (k : ℕ). take due t k xs j') none ∙ take_nothing due t xs j' in
        step ∙ ap (λ (g : Fill). fill g.left (cut due q x g.rows) g.trades) kept
        ∙ sym (ap (λ (l : List Row). take due t (n - q) l j') settled ∙ ap (λ (k : ℕ). take due t k (cut due q x xs) j') none ∙ take_nothing due t (cut due q x xs) j'))

-- ---- the trades so far stand behind

pub note_apart : (q : ℕ) (e : Trade) (j : List Trade) → note q e j ≡ note q e [] ++ j
note_apart zero e j = refl
note_apart (suc q) e j = refl

pub trades_apart : (due : ℕ) (t : Taker) (n : ℕ) (rs : List Row) (j : List Trade) → (take due t n rs j).trades ≡ (take due t n rs []).trades ++ j
unfolding take
trades_apart due t n [] j = refl
trades_apart due t n (r ∷ rs) j =
    let q = amount t n r in
    let e = trade_with t q r in
    trades_apart due t (n - q) rs (note q e j)
    ∙ ap (λ (l : List Trade). (take due t (n - q) rs []).trades ++ l) (note_apart q e j)
    ∙ sym (append_assoc (take due t (n - q) rs []).trades (note q e []) j)
    ∙ ap (λ (l : List Trade). l ++ j) (sym (trades_apart due t (n - q) rs (note q e [])))

-- what is left and the rows do not depend on the trades so far
pub rest_apart : (due : ℕ) (t : Taker) (n : ℕ) (rs : List Row) (j : List Trade) → ((take due t n rs j).left ≡ (take due t n rs []).left) × ((take due t n rs j).rows ≡ (take due t n rs []).rows)
unfolding take
rest_apart due t n [] j = (refl, refl)
rest_apart due t n (r ∷ rs) j =
    let q = amount t n r in
    let a = rest_apart due t (n - q) rs (note q (trade_with t q r) j) in
    let b = rest_apart due t (n - q) rs (note q (trade_with t q r) []) in
    (a.0 ∙ sym b.0, ap (cut due q r) (a.1 ∙ sym b.1))

-- ---- what adds up

amount_le : (t : Taker) (n : ℕ) (r : Row) → amount t n r ≤ n
amount_le t n r = cond_both (in_reach t r) (min n r.size) 0 (λ x. x ≤ n) (λ e. omega arith) (λ e. omega arith)

amount_size : (t : Taker) (n : ℕ) (r : Row) → amount t n r ≤ r.size
amount_size t n r = cond_both (in_reach t r) (min n r.size) 0 (λ x. x ≤ r.size) (λ e. omega arith) (λ e. omega arith)

-- the taker's contracts are used up, or the row's, or nothing trades
amount_ends : (t : Taker) (n : ℕ) (r : Row) → 0 < amount t n r → amount t n r < r.size → amount t n r ≡ n
amount_ends t n r =
    cond_both (in_reach t r) (min n r.size) 0 (λ x. 0 < x → x < r.size → x ≡ n) (λ e p l. omega arith) (λ e p l. absurd (omega arith))

note_traded : (q : ℕ) (t : Taker) (r : Row) (j : List Trade) → traded (note q (trade_with t q r) j) ≡ q + traded j
note_traded zero t r j = omega arith
note_traded (suc q) t r j = refl

pub take_adds : (due : ℕ) (t : Taker) (n : ℕ) (rs : List Row) (j : List Trade) → traded (take due t n rs j).trades + (take due t n rs j).left ≡ n + traded j
unfolding take
take_adds due t n [] j = omega arith
take_adds due t n (r ∷ rs) j =
    let q = amount t n r in
    omega (arith, take_adds due t (n - q) rs (note q (trade_with t q r) j), note_traded q t r j, amount_le t n r)

note_length : (q : ℕ) (e : Trade) (j : List Trade) → length (note q e j) ≡ min q 1 + length j
note_length zero e j = omega arith
note_length (suc q) e j = omega arith

-- a row keeps its place, or goes where all of it trades
cut_length : (due q : ℕ) (r : Row) (rs : List Row) → q ≤ r.size → ((length (cut due q r rs) ≡ suc (length rs)) × ((q ≡ 0) ⊎ (q < r.size))) ⊎ ((length (cut due q r rs) ≡ length rs) × (0 < q))
cut_length due zero r rs l = inl (refl, inl refl)
cut_length due (suc q) r rs l = puts (r.size - suc q) refl
  where
    puts : (k : ℕ) → r.size - suc q ≡ k → ((length (put due k r rs) ≡ suc (length rs)) × ((suc q ≡ 0) ⊎ (suc q < r.size))) ⊎ ((length (put due k r rs) ≡ length rs) × (0 < suc q))
    puts zero e = inr (refl, omega arith)
    puts (suc k) e = inl (refl, inr (omega arith))

few : (due : ℕ) (t : Taker) (n : ℕ) (rs : List Row) (j : List Trade) → length (take due t n rs j).trades + length (take due t n rs j).rows ≤ length rs + length j + min n 1
unfolding take
few due t n [] j = omega arith
few due t n (r ∷ rs) j =
    let q = amount t n r in
    let j' = note q (trade_with t q r) j in
    let f = take due t (n - q) rs j' in
    let rest = few due t (n - q) rs j' in
    let noted = note_length q (trade_with t q r) j in
    let le = amount_le t n r in
    let one : min q 1 ≤ 1 = omega arith in
    ⊎_elim
    (λ k. ⊎_elim
    (λ (z : q ≡ 0). omega (arith, k.0, rest, noted))
    (λ (s : q < r.size). ⊎_elim
    (λ (z : q ≡ 0). omega (arith, k.0, rest, noted))
    (λ (w : 0 < q). let whole : q ≡ n = amount_ends t n r w s in omega (arith, k.0, rest, noted))
    (zero_or q))
    k.1)
    (λ k. omega (arith, k.0, k.1, rest, noted))
    (cut_length due q r f.rows (amount_size t n r))
  where
    zero_or : (k : ℕ) → (k ≡ 0) ⊎ (0 < k)
    zero_or zero = inl refl
    zero_or (suc k) = inr (omega arith)

-- each trade but the last takes a row away
pub take_few : (due : ℕ) (t : Taker) (n : ℕ) (rs : List Row) → length (take due t n rs []).trades + length (take due t n rs []).rows ≤ length rs + 1
take_few due t n rs = omega (arith, few due t n rs [])

-- ---- what holds of each trade

note_all : (P : Trade → Type 0) (q : ℕ) (e : Trade) (j : List Trade) → (0 < q → P e) → AllByRecursion P j → AllByRecursion P (note q e j)
note_all P zero e j h all = all
note_all P (suc q) e j h all = (h (omega arith), all)

amount_reached : (t : Taker) (n : ℕ) (r : Row) → 0 < amount t n r → in_reach t r ≡ true
amount_reached t n r p = decide (in_reach t r) (λ e. e) (λ e. let z = amount_out t n r e in absurd (omega arith))

take_all : (P : Trade → Type 0) (due : ℕ) (t : Taker) (n : ℕ) (rs : List Row) (j : List Trade) → ((r : Row) → Has r rs → in_reach t r ≡ true → (q : ℕ) → 0 < q → q ≤ r.size → P (trade_with t q r)) → AllByRecursion P j → AllByRecursion P (take due t n rs j).trades
unfolding take
take_all P due t n [] j h all = all
take_all P due t n (r ∷ rs) j h all =
    let q = amount t n r in
    take_all P due t (n - q) rs (note q (trade_with t q r) j) (λ x i. h x (inr i)) (note_all P q (trade_with t q r) j (λ p. h r (inl refl) (amount_reached t n r p) q p (amount_size t n r)) all)

pub take_fair : (due : ℕ) (t : Taker) (n : ℕ) (rs : List Row) → AllByRecursion (Fair t rs) (take due t n rs []).trades
take_fair due t n rs = take_all (Fair t rs) due t n rs [] (λ r i e q p l. (r, i, e, p, l, refl)) tt

-- ---- the rule

has_every : (q : Row → Bool) (rs : List Row) (r : Row) → every q rs ≡ true → Has r rs → q r ≡ true
has_every q [] r all h = absurd h
has_every q (x ∷ xs) r all (inl e) = subst (λ (y : Row). q y ≡ true) (sym e) (and_parts (q x) _ all).0
has_every q (x ∷ xs) r all (inr h) = has_every q xs r (and_parts (q x) _ all).1 h

none_in_reach : (t : Taker) (rs : List Row) → found (in_reach t) rs ≡ None → NoneInReach t rs
unfolding found
none_in_reach t [] e q h = absurd h
none_in_reach t (x ∷ xs) e q h =
    decide (in_reach t x)
    (λ s. let k : or_else true x (found (in_reach t) xs) ≡ None = sym (ap (λ c. or_else c x (found (in_reach t) xs)) s) ∙ e in cc)
    (λ s. ⊎_elim (λ (i : q ≡ x). subst (λ (y : Row). in_reach t y ≡ false) (sym i) s) (λ (i : Has q xs). none_in_reach t xs (sym (ap (λ c. or_else c x (found (in_reach t) xs)) s) ∙ e) q i) h)

best_of_lem : (t : Taker) (rs : List Row) (b : Row) → pairwise precedes rs ≡ true → found (in_reach t) rs ≡ Some b → BestOf t b rs
unfolding found
best_of_lem t [] b all e = cc
best_of_lem t (x ∷ xs) b all e =
    let a = and_parts (every (precedes x) xs) _ all in
    decide (in_reach t x)
    (λ s.
    let k : or_else true x (found (in_reach t) xs) ≡ Some b = sym (ap (λ c. or_else c x (found (in_reach t) xs)) s) ∙ e in
    let is : x ≡ b = cc in
    subst (λ (y : Row). BestOf t y (x ∷ xs)) is (record {
      there = inl refl;
      reached = s;
      first = λ q h r. ⊎_elim (λ (i : q ≡ x). inl i) (λ (i : Has q xs). inr (reach_better t x q (has_every (precedes x) xs q a.0 i) s r)) h;
    }))
    (λ s.
    let rest = best_of_lem t xs b a.1 (sym (ap (λ c. or_else c x (found (in_reach t) xs)) s) ∙ e) in
    record {
      there = inr rest.there;
      reached = rest.reached;
      first = λ q h r. ⊎_elim (λ (i : q ≡ x). absurd (both_ways (in_reach t x) s (subst (λ (y : Row). in_reach t y ≡ true) i r))) (λ (i : Has q xs). rest.first q i r) h;
    })

follows : (m due : ℕ) (t : Taker) (n : ℕ) (rs : List Row) (j : List Trade) → n ≤ m → Sound rs → Takes due t (take due t n rs j) n rs j
follows m due t zero rs j l s =
    let e = take_nothing due t rs j in
    done (λ p. absurd (omega arith)) (ap (λ (f : Fill). f.left) e) (ap (λ (f : Fill). f.rows) e) (ap (λ (f : Fill). f.trades) e)
follows zero due t (suc n) rs j l s = absurd (omega arith)
follows (suc m) due t (suc n) rs j l s = by (found (in_reach t) rs) refl (λ q rs' j' h z. follows m due t (suc n - q) rs' j' (omega arith) z)
  where
    by : (o : Option Row) → found (in_reach t) rs ≡ o → ((q : ℕ) (rs' : List Row) (j' : List Trade) → 0 < q → Sound rs' → Takes due t (take due t (suc n - q) rs' j') (suc n - q) rs' j') → Takes due t (take due t (suc n) rs j) (suc n) rs j
    by None e on =
        let k = take_none due t (suc n) rs j e in
        done (λ p. none_in_reach t rs e) (ap (λ (f : Fill). f.left) k) (ap (λ (f : Fill). f.rows) k) (ap (λ (f : Fill). f.trades) k)
    by (Some b) e on =
        let some : 0 < b.size = ltb-true 0 b.size (found_every sized (in_reach t) rs b s.2 e) in
        let q = min (suc n) b.size in
        trade b (omega arith) (best_of_lem t rs b s.0 e)
        (subst (λ (f : Fill). Takes due t f (suc n - q) (settle due q b.number rs) (trade_with t q b ∷ j)) (sym (take_step due t (suc n) rs j b (omega arith) s.1 s.2 e))
        (on q (settle due q b.number rs) (trade_with t q b ∷ j) (omega arith) (sound_settle due q b.number rs s)))

pub take_follows : (due : ℕ) (t : Taker) (n : ℕ) (rs : List Row) → Sound rs → Takes due t (take due t n rs []) n rs []
take_follows due t n rs s = follows n due t n rs [] (omega arith) s

-- a row all of which trades leaves one row less
gone_less : (due q : ℕ) (b : Row) (rs : List Row) (t : Taker) → 0 < q → b.size ≤ q → pairwise agrees rs ≡ true → found (in_reach t) rs ≡ Some b → suc (length (settle due q b.number rs)) ≡ length rs
unfolding found
gone_less due q b [] t p l all e = cc
gone_less due q b (x ∷ xs) t p l all e =
    let a = and_parts (every (agrees x) xs) _ all in
    decide (in_reach t x)
    (λ s.
    let k : or_else true x (found (in_reach t) xs) ≡ Some b = sym (ap (λ c. or_else c x (found (in_reach t) xs)) s) ∙ e in
    let is : x ≡ b = cc in
    let le : x.size ≤ q = subst (λ (y : Row). y.size ≤ q) (sym is) l in
    subst (λ (y : Row). suc (length (settle due q y.number (x ∷ xs))) ≡ suc (length xs)) is
    (ap (λ (l : List Row). suc (length l)) (settle_here due q x.number x xs (self x.number) ∙ cut_all due q x xs p le)))
    (λ s.
    let tail = sym (ap (λ c. or_else c x (found (in_reach t) xs)) s) ∙ e in
    let apart : numbered b.number x ≡ false = agrees_number x b (found_every (agrees x) (in_reach t) xs b a.0 tail) in
    ap (λ (l : List Row). suc (length l)) (settle_past due q b.number x xs apart) ∙ ap suc (gone_less due q b xs t p l a.1 tail))

-- ---- the loop: what was to be taken at the start is the trades so far and what is still to be taken

pub record Underway (due : ℕ) (t : Taker) (n₀ : ℕ) (rs₀ : List Row) (roll₀ : Roll Trade) (n : ℕ) (rs : List Row) (roll : Roll Trade) : Type 0 where
  pub added : List Trade
  pub gains : Gains roll₀ roll added
  pub same : take due t n₀ rs₀ [] ≡ take due t n rs (reverse added)
  pub places : 0 < n → length rs ≤ room roll

module _ (due : ℕ) (t : Taker) (n₀ : ℕ) (rs₀ : List Row) (roll₀ : Roll Trade) (n : ℕ) (rs : List Row) (roll : Roll Trade) (u : Underway due t n₀ rs₀ roll₀ n rs roll) where
  pub underway_end : Sound rs₀ → take due t n rs (reverse u.added) ≡ fill n rs (reverse u.added) → Took due t n₀ n rs₀ rs roll₀ roll
  underway_end s e =
      let all : take due t n₀ rs₀ [] ≡ fill n rs (reverse u.added) = u.same ∙ e in
      let left : n ≡ (take due t n₀ rs₀ []).left = sym (ap (λ (f : Fill). f.left) all) in
      let rests : rs ≡ (take due t n₀ rs₀ []).rows = sym (ap (λ (f : Fill). f.rows) all) in
      record {
        leaves = left;
        rests = rests;
        gains = subst (Gains roll₀ roll) (sym (ap reverse (ap (λ (f : Fill). f.trades) all) ∙ reverse-reverse u.added)) u.gains;
        rule = take_follows due t n₀ rs₀ s;
        fair = take_fair due t n₀ rs₀;
        adds = (let a = take_adds due t n₀ rs₀ [] in omega (arith, a, left));
        few = (let a = take_few due t n₀ rs₀ in omega (arith, a, ap length rests));
      }

  -- one trade with the first row in reach
  pub underway_more : (b : Row) (rs' : List Row) (roll' : Roll Trade) → 0 < n → Sound rs → found (in_reach t) rs ≡ Some b → Gains roll roll' (trade_with t (min n b.size) b ∷ []) → rs' ≡ settle due (min n b.size) b.number rs
      → Underway due t n₀ rs₀ roll₀ (n - min n b.size) rs' roll'
  underway_more b rs' roll' p s f g e =
      let q = min n b.size in
      let some : 0 < b.size = ltb-true 0 b.size (found_every sized (in_reach t) rs b s.2 f) in
      let e' = trade_with t q b in
      record {
        added = u.added ++ (e' ∷ []);
        gains = gains_then roll₀ roll roll' u.added (e' ∷ []) u.gains g;
        same = u.same ∙ take_step due t n rs (reverse u.added) b p s.1 s.2 f
            ∙ ap (λ (l : List Row). take due t (n - q) l (e' ∷ reverse u.added)) (sym e)
            ∙ ap (take due t (n - q) rs') (sym (reverse-append u.added (e' ∷ [])));
        places = λ l. omega (arith, u.places p, g.count, g.size, ap length e, gone_less due q b rs t (omega arith) (omega arith) s.1 f);
      }
