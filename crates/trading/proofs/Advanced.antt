-- Moving the clock on in the code is moving it on by the definitions.
use Rattle.std.proofs.Common.{◌≡◌, ℕ, zero, suc, ◌+◌, ◌-◌, ◌<◌, ◌≤◌, Bool, true, false, not, eqb, ltb, leb, List, [], ◌∷◌, ◌++◌, length, Some, None, Option, sym, refl, ap, ◌∙◌, subst, inl, inr, append-nil, arith}
use Rattle.std.proofs.Math.Bool.{and-false}
use Rattle.std.proofs.lemmas.Bool.{leb-true, le-leb, ltb-true, lt-ltb, eq-eqb, ne_eqb, and_parts, and_from, not-true, cond_both}
use Rattle.values.specs.declared.side.Side.{Side}
use Rattle.values.specs.Sides.{opposite}
use Rattle.std.specs.Borrow.{MutBor}
use Rattle.rolls.specs.declared.roll.Roll.{Roll}
use Rattle.rolls.proofs.Gaining.{gains_nothing}
use Rattle.book.specs.declared.book.Book.{Book}
use Rattle.book.specs.declared.row.Row.{Row}
use Rattle.book.specs.declared.row.Standing.{Standing}
use Rattle.book.specs.declared.row.Standing.TheVariants.{Plain, Held, Quote}
use Rattle.book.specs.declared.row.Due.{Due}
use Rattle.book.specs.declared.row.Trade.{Trade}
use Rattle.book.specs.Lists.{every, pairwise, lacking}
use Rattle.book.specs.Rows.{meets, crosses, same_maker, numbered, precedes, agrees, agrees_instead, Sound, without, row_of, once_moved, moved_to, moved_in, move_row}
use Rattle.book.specs.Taking.{Has}
use Rattle.book.specs.Dues.{earliest}
use Rattle.book.proofs.Keeps.{length_placed, length_lacking}
use Rattle.book.specs.Books.{rows}
use Rattle.trading.specs.Journals.{trades_of}
use Rattle.trading.specs.Desks.{Desk, highest, serve, second_after, move_on, move_standing, move_found, turn_found, turn, turns, advance}
use Rattle.trading.specs.Doing.{desk, Trading}
use Rattle.trading.specs.Pits.{Dealing}
use Rattle.trading.specs.Rests.{below, clear_by, served, timely_by, timely, AtRest, due_by, MayMove}
use Rattle.trading.proofs.Sides.{Beyond, clash, decide, not_opposite, not_no_more}
use Rattle.trading.proofs.Faces.{Role, held, role_of, Face, face, face_number, has_in, row_of_has, without_in, met_true, met_false}
use Rattle.trading.proofs.Resting.{Apart, apart_sym, Sane, Hold, HoldAs, Rested, onwards, highest_in, highest_within, turn_rested, turns_rested}
use Rattle.trading.proofs.Timings.{due_count, due_length, DueIn, Timed, Clocked, turn_clocked, turns_clocked, none_due, earliest_some, row_of_of}
use Rattle.trading.proofs.Each.{every_has, every_from, in_has, sound_positive, sound_distinct}
use Rattle.trading.proofs.Adds.{Adds, adds_nothing, adds_if, adds_then, trading_then, deals_nothing, deals_then}
use Rattle.trading.proofs.Served.{serve_adds}
use Rattle.trading.proofs.Entered.{highest_insert}

-- ---- between calls, by tests and by statements

-- of two rows that may rest together neither meets the other
pub sound_apart : (xs : List Row) → Sound xs → (r q : Row) → Has r xs → Has q xs → Apart (face r) (face q)
sound_apart xs s r q a b = go xs s.1 a b
  where
    agree_apart : (x y : Row) → agrees x y ≡ true → Apart (face x) (face y)
    agree_apart x y e se si =
        let n : crosses x y ≡ false = not-true (crosses x y) (and_parts (not (crosses x y)) _ (and_parts (not (eqb x.number y.number)) _ e).1).0 in
        met_false x.series x.side x.display y n (sym se) si

    go : (ys : List Row) → pairwise agrees ys ≡ true → Has r ys → Has q ys → Apart (face r) (face q)
    go [] e a b = absurd a
    go (y ∷ ys) e (inl a) (inl b) = λ se si. absurd (not_opposite r.side (ap (λ (z : Row). z.side) (a ∙ sym b) ∙ si))
    go (y ∷ ys) e (inl a) (inr b) = subst (λ (z : Row). Apart (face z) (face q)) (sym a) (agree_apart y q (every_has (agrees y) ys (and_parts (every (agrees y) ys) _ e).0 q b))
    go (y ∷ ys) e (inr a) (inl b) = subst (λ (z : Row). Apart (face r) (face z)) (sym b) (apart_sym (face y) (face r) (agree_apart y r (every_has (agrees y) ys (and_parts (every (agrees y) ys) _ e).0 r a)))
    go (y ∷ ys) e (inr a) (inr b) = go ys (and_parts (every (agrees y) ys) _ e).1 a b

met_not : (s : ℕ) (side : Side) (p : ℕ) (q : Row) → (q.series ≡ s → q.side ≡ opposite side → Beyond side q.display p) → meets s side p q ≡ false
met_not s side p q h = decide (meets s side p q) (λ e. let m = met_true s side p q e in absurd (not_no_more side q.display p (h m.0 m.1) m.2)) (λ e. e)

hold_from : (x : Standing) (r q : Row) → clear_by x r q ≡ true → HoldAs (role_of x) (face r) (face q)
hold_from Plain r q e = tt
hold_from (Held c m) r q e = λ se si. met_false r.series r.side (onwards r c) q (not-true _ e) se si
hold_from (Quote k) r q e = tt

hold_back : (x : Standing) (r q : Row) → HoldAs (role_of x) (face r) (face q) → clear_by x r q ≡ true
hold_back Plain r q h = refl
hold_back (Held c m) r q h = rw (met_not r.series r.side (onwards r c) q h)
hold_back (Quote k) r q h = refl

due_from : (clock : ℕ) (x : Standing) → timely_by clock x ≡ true → DueIn clock (clock + 1000) x
due_from clock Plain e = tt
due_from clock (Held c m) e = let a = and_parts (ltb clock m) (leb m (clock + 1000)) e in (ltb-true clock m a.0, leb-true m (clock + 1000) a.1)
due_from clock (Quote k) e = tt

due_back : (clock : ℕ) (x : Standing) → DueIn clock (clock + 1000) x → timely_by clock x ≡ true
due_back clock Plain d = refl
due_back clock (Held c m) d = and_from (ltb clock m) (leb m (clock + 1000)) (lt-ltb clock m d.0) (le-leb m (clock + 1000) d.1)
due_back clock (Quote k) d = refl

timed_from : (clock : ℕ) (xs : List Row) → every (timely clock) xs ≡ true → Timed clock (clock + 1000) xs
timed_from clock [] e = tt
timed_from clock (x ∷ xs) e = let a = and_parts (timely clock x) (every (timely clock) xs) e in (due_from clock x.standing a.0, timed_from clock xs a.1)

timed_back : (clock : ℕ) (xs : List Row) → Timed clock (clock + 1000) xs → every (timely clock) xs ≡ true
timed_back clock [] t = refl
timed_back clock (x ∷ xs) t = and_from (timely clock x) (every (timely clock) xs) (due_back clock x.standing t.0) (timed_back clock xs t.1)

pub rest_from : (clock next : ℕ) (xs : List Row) → AtRest clock next xs → Sound xs → Rested (next - 1) xs × Timed clock (clock + 1000) xs
rest_from clock next xs rest sound = (
  (
    record {
      positive = sound_positive xs sound;
      distinct = sound_distinct xs sound;
      numbered = λ f i.
          let h = in_has f xs i in
          let b = and_parts (ltb 0 h.0.number) (ltb h.0.number next) (every_has (below next) xs rest.0 h.0 h.1) in
          let n = face_number h.2 in
          let lo = ltb-true 0 h.0.number b.0 in
          let hi = ltb-true h.0.number next b.1 in
          (omega arith, omega arith);
      apart = λ f g i j.
          let h = in_has f xs i in
          let k = in_has g xs j in
          subst (λ (x : Face). Apart x g) (sym h.2) (subst (λ (x : Face). Apart (face h.0) x) (sym k.2) (sound_apart xs sound h.0 k.0 h.1 k.1));
    },
    λ f g i j.
        let h = in_has f xs i in
        let k = in_has g xs j in
        subst (λ (x : Face). Hold x g) (sym h.2) (subst (λ (x : Face). Hold (face h.0) x) (sym k.2) (hold_from h.0.standing h.0 k.0 (every_has (clear_by h.0.standing h.0) xs (every_has (served xs) xs rest.1 h.0 h.1) k.0 k.1))),
  ),
  timed_from clock xs rest.2,
)

pub rest_back : (clock next : ℕ) (xs : List Row) → 1 ≤ next → Rested (next - 1) xs → Timed clock (clock + 1000) xs → AtRest clock next xs
rest_back clock next xs pos ok timed = (
  every_from (below next) xs (λ r h. let b = ok.0.numbered (face r) (has_in r xs h) in and_from (ltb 0 r.number) (ltb r.number next) (lt-ltb 0 r.number b.0) (lt-ltb r.number next (omega arith))),
  every_from (served xs) xs (λ r h. every_from (clear_by r.standing r) xs (λ q k. hold_back r.standing r q (ok.1 (face r) (face q) (has_in r xs h) (has_in q xs k)))),
  timed_back clock xs timed,
)

widen : (low high more : ℕ) (xs : List Row) → high ≤ more → Timed low high xs → Timed low more xs
widen low high more [] le t = tt
widen low high more (x ∷ xs) le t = (at x.standing t.0, widen low high more xs le t.1)
  where
    at : (s : Standing) → DueIn low high s → DueIn low more s
    at Plain d = tt
    at (Held c m) d = omega arith
    at (Quote m) d = tt

turns_more : (n k : ℕ) (d : Desk) → turns (suc n) k d ≡ turns n k (turn k d)
unfolding turns
turns_more n k d = refl

pub highest_top : {top : ℕ} (xs : List Row) → Sane top xs → highest xs < suc top
highest_top [] ok = omega arith
highest_top {top} (x ∷ xs) ok =
    let b = ok.numbered (face x) (inl refl) in
    let h = highest_top xs (record { positive = ok.positive.1; distinct = ok.distinct.1; numbered = λ f i. ok.numbered f (inr i); apart = λ f g i j. ok.apart f g (inr i) (inr j) }) in
    omega arith

-- ---- an order that is due may move

no_maker : (b : Bool) (c m d : ℕ) (x : Standing) → same_maker (once_moved b d (Held c m)) x ≡ false
no_maker true c m d x = refl
no_maker false c m d x = refl

pub may_move_lem : {top : ℕ} (xs : List Row) → Rested top xs → (e : Due) → MayMove e xs
may_move_lem xs ok e r c m at how =
    let mine : row_of r.number xs ≡ Some r = row_of_of r xs ok.0.distinct (row_of_has e.number xs r at) in
    rw mine (every_from (agrees_instead (moved_to (onwards r c) (second_after e.moment) r)) xs (λ q h. one q h mine))
  where
    one : (q : Row) → Has q xs → row_of r.number xs ≡ Some r → agrees_instead (moved_to (onwards r c) (second_after e.moment) r) q ≡ true
    one q h mine =
        decide (numbered r.number q)
        (λ z. rw z)
        (λ z.
        let has = row_of_has r.number xs r mine in
        let differs : eqb r.number q.number ≡ false = ne_eqb r.number q.number (λ y. clash _ (eq-eqb q.number r.number (sym y)) z) in
        let held_by : HoldAs (held c) (face r) (face q) = subst (λ (y : Role). HoldAs y (face r) (face q)) (ap role_of how) (ok.1 (face r) (face q) (has_in r xs has) (has_in q xs h)) in
        let crossed : crosses (moved_to (onwards r c) (second_after e.moment) r) q ≡ false = met_not r.series r.side (onwards r c) q held_by in
        let quoted : same_maker (once_moved (eqb (onwards r c) r.limit) (second_after e.moment) r.standing) q.standing ≡ false = rw how (no_maker (eqb (onwards r c) r.limit) c m (second_after e.moment) q.standing) in
        rw (z, differs, crossed, quoted, and-false))

-- ---- the rows after a move

without_length : (r : Row) (xs : List Row) → Has r xs → suc (length (without r.number xs)) ≤ length xs
unfolding lacking
without_length r [] h = absurd h
without_length r (x ∷ xs) (inl e) =
    let n : numbered r.number x ≡ true = eq-eqb x.number r.number (ap (λ (y : Row). y.number) (sym e)) in
    rw n (omega (arith, length_lacking (numbered r.number) xs))
without_length r (x ∷ xs) (inr h) =
    cond_both (numbered r.number x) (without r.number xs) (x ∷ without r.number xs) (λ l. suc (length l) ≤ length (x ∷ xs))
    (λ e. omega (arith, length_lacking (numbered r.number) xs)) (λ e. omega (arith, without_length r xs h))

pub moved_length : (n p due : ℕ) (xs : List Row) → length (move_row n p due xs) ≤ length xs
moved_length n p due xs = by (row_of n xs) refl
  where
    by : (o : Option Row) → row_of n xs ≡ o → length (moved_in o p due xs) ≤ length xs
    by None e = omega arith
    by (Some r) e = omega (arith, length_placed (precedes (moved_to p due r)) (moved_to p due r) (without r.number xs), without_length r xs (row_of_has n xs r e))

pub moved_highest : (n p due : ℕ) (xs : List Row) → highest (move_row n p due xs) ≤ highest xs
moved_highest n p due xs = by (row_of n xs) refl
  where
    by : (o : Option Row) → row_of n xs ≡ o → highest (moved_in o p due xs) ≤ highest xs
    by None e = omega arith
    by (Some r) e =
        let a = highest_in xs (face r) (has_in r xs (row_of_has n xs r e)) in
        omega (arith, highest_insert (moved_to p due r) (without r.number xs), highest_within (without r.number xs) xs (λ f i. (without_in r.number xs f i).0))

-- ---- one turn of the loop

-- moving and serving go by the rows alone, and note their trades after the journal so far
module _ (k moment : ℕ) where
  moved_adds : (r : Row) (c : ℕ) → Adds (move_on r c moment)
  unfolding move_on
  moved_adds r c d = (refl, sym (append-nil (trades_of d.journal)))

  standing_adds : (x : Standing) (r : Row) → Adds (move_standing k moment x r)
  standing_adds Plain r d = adds_nothing d
  standing_adds (Held c m) r d = adds_then (move_on r c moment) (serve (second_after k) r.series) (moved_adds r c) (serve_adds (second_after k) r.series) d
  standing_adds (Quote q) r d = adds_nothing d

  found_adds : (o : Option Row) → Adds (move_found k moment o)
  found_adds None d = adds_nothing d
  found_adds (Some r) d = standing_adds r.standing r d

pub turn_adds : (k : ℕ) → Adds (turn k)
unfolding turn
turn_adds k d = by (earliest d.rows)
  where
    by : (o : Option Due) → ((turn_found k o d).rows ≡ (turn_found k o (desk d.rows)).rows) × (trades_of (turn_found k o d).journal ≡ trades_of d.journal ++ trades_of (turn_found k o (desk d.rows)).journal)
    by None = adds_nothing d
    by (Some e) = adds_if (leb e.moment k) (move_found k e.moment (row_of e.number d.rows)) (found_adds k e.moment (row_of e.number d.rows)) d

-- the turn of an entry that is due
turn_of : (k : ℕ) (d : Desk) (e : Due) → due_by k (earliest d.rows) ≡ Some e → (earliest d.rows ≡ Some e) × (e.moment ≤ k) × (turn k d ≡ move_found k e.moment (row_of e.number d.rows) d)
unfolding turn
turn_of k d e w = by (earliest d.rows) refl w
  where
    by : (o : Option Due) → earliest d.rows ≡ o → due_by k o ≡ Some e → (earliest d.rows ≡ Some e) × (e.moment ≤ k) × (turn_found k o d ≡ move_found k e.moment (row_of e.number d.rows) d)
    by None g w = cc
    by (Some q) g w =
        decide (leb q.moment k)
        (λ t. let s : q ≡ e = cc in (g ∙ ap Some s, subst (λ (y : Due). y.moment ≤ k) s (leb-true q.moment k t), rw t (ap (λ (y : Due). move_found k y.moment (row_of y.number d.rows) d) s)))
        (λ t. cc)

-- where nobody is due a turn changes nothing
turn_idle : (k : ℕ) (d : Desk) → due_by k (earliest d.rows) ≡ None → turn k d ≡ d
unfolding turn
turn_idle k d w = by (earliest d.rows) w
  where
    by : (o : Option Due) → due_by k o ≡ None → turn_found k o d ≡ d
    by None w = refl
    by (Some q) w = decide (leb q.moment k) (λ t. cc) (λ t. rw t)

turns_idle : (n k : ℕ) (d : Desk) → turn k d ≡ d → turns n k d ≡ d
unfolding turns
turns_idle zero k d e = refl
turns_idle (suc n) k d e = ap (turns n k) e ∙ turns_idle n k d e

-- somebody is due
due_some : (k : ℕ) (xs : List Row) (e : Due) → earliest xs ≡ Some e → e.moment ≤ k → 0 < due_count k xs
due_some k xs e w le = let f = earliest_some xs e w in go xs f.there f.how
  where
    go : (ys : List Row) → Has (earliest_some xs e w).row ys → (earliest_some xs e w).row.standing ≡ Held (earliest_some xs e w).collar e.moment → 0 < due_count k ys
    go [] h s = absurd h
    go (y ∷ ys) (inl a) s =
        let z : y.standing ≡ Held (earliest_some xs e w).collar e.moment = subst (λ (x : Row). x.standing ≡ Held (earliest_some xs e w).collar e.moment) a s in
        let t : leb e.moment k ≡ true = le-leb e.moment k le in
        rw (z, t) (omega arith)
    go (y ∷ ys) (inr h) s = let g = go ys h s in omega arith

-- what holds while the clock's loop goes on: the turns so far were made, and enough are left
pub record Advancing (low k : ℕ) (book₀ book : MutBor Book) (roll₀ roll : MutBor (Roll Trade)) : Type 0 where
  pub left : ℕ
  pub now : Desk
  pub same : advance k (desk (rows book₀.now)) ≡ turns left k now
  pub did : Dealing book₀ book roll₀ roll now
  pub rested : Rested 999999 (rows book.now)
  pub clocked : Clocked low (k + 1000) k left (rows book.now)

pub advancing_starts : (low k : ℕ) (book : MutBor Book) (roll : MutBor (Roll Trade)) → AtRest low 1000000 (rows book.now) → low ≤ k → k ≤ low + 1000 → Advancing low k book book roll roll
unfolding advance
advancing_starts low k book roll rest le soon =
    let rs = rows book.now in
    let h = rest_from low 1000000 rs rest book.now.resting.sound in
    record {
      left = length rs;
      now = desk rs;
      same = refl;
      did = deals_nothing book roll;
      rested = h.0;
      clocked = (widen low (low + 1000) (k + 1000) rs (omega arith) h.1, due_length k rs);
    }

module _ {low k : ℕ} {book₀ book : MutBor Book} {roll₀ roll : MutBor (Roll Trade)} (u : Advancing low k book₀ book roll₀ roll) where
  pub advancing_ends : due_by k (earliest (rows book.now)) ≡ None → Dealing book₀ book roll₀ roll (advance k (desk (rows book₀.now)))
  advancing_ends e =
      let idle : turn k u.now ≡ u.now = turn_idle k u.now (subst (λ (x : List Row). due_by k (earliest x) ≡ None) u.did.did.rests e) in
      subst (Dealing book₀ book roll₀ roll) (sym (u.same ∙ turns_idle u.left k u.now idle)) u.did

  module _ (e : Due) (first : due_by k (earliest (rows book.now)) ≡ Some e) where
    pub advancing_due : (e.moment ≤ k) × MayMove e (rows book.now)
    advancing_due = ((turn_of k (desk (rows book.now)) e first).1, may_move_lem (rows book.now) u.rested e)

    module _ (le : low ≤ k) (soon : k ≤ low + 1000) {book' : MutBor Book} {roll' : MutBor (Roll Trade)} (did : Dealing book book' roll roll' (move_found k e.moment (row_of e.number (rows book.now)) (desk (rows book.now)))) where
      turned_so : Dealing book book' roll roll' (turn k (desk (rows book.now)))
      turned_so = subst (Dealing book book' roll roll') (sym (turn_of k (desk (rows book.now)) e first).2) did

      due_left : (b : ℕ) → Clocked low (k + 1000) k (suc b) (rows book.now) → Clocked low (k + 1000) k b (rows book'.now)
      due_left b h = subst (Clocked low (k + 1000) k b) (sym turned_so.did.rests) (turn_clocked low (k + 1000) k soon le (omega arith) (desk (rows book.now)) b u.rested h)

      is_due : 0 < due_count k (rows book.now)
      is_due = let t = turn_of k (desk (rows book.now)) e first in due_some k (rows book.now) e t.0 t.1

      pub advancing_next : Advancing low k book₀ book' roll₀ roll'
      advancing_next = by u.left refl
        where
          by : (n : ℕ) → u.left ≡ n → Advancing low k book₀ book' roll₀ roll'
          by zero z = absurd (let p = is_due in let c = u.clocked.1 in omega arith)
          by (suc n) z = record {
            left = n;
            now = turn k u.now;
            same = u.same ∙ ap (λ (x : ℕ). turns x k u.now) z ∙ turns_more n k u.now;
            did = deals_then (turn k) (turn_adds k) u.now u.did turned_so;
            rested = subst (Rested 999999) (sym turned_so.did.rests) (turn_rested (desk (rows book.now)) k u.rested);
            clocked = due_left n (subst (λ (x : ℕ). Clocked low (k + 1000) k x (rows book.now)) z u.clocked);
          }

      pub advancing_less : due_count k (rows book'.now) < due_count k (rows book.now)
      advancing_less = by (due_count k (rows book.now)) refl
        where
          by : (n : ℕ) → due_count k (rows book.now) ≡ n → due_count k (rows book'.now) < due_count k (rows book.now)
          by zero z = absurd (let p = is_due in omega arith)
          by (suc b) z = let c = (due_left b (u.clocked.0, omega arith)).1 in omega arith

-- ---- what the clock leaves

pub advance_rests : (low k next : ℕ) (rs : List Row) → AtRest low next rs → Sound rs → 1 ≤ next → low ≤ k → k ≤ low + 1000 → AtRest k next (advance k (desk rs)).rows
unfolding advance
advance_rests low k next rs rest sound pos le soon =
    let h = rest_from low next rs rest sound in
    let ok = turns_rested (length rs) k (desk rs) h.0 in
    let done = turns_clocked low (k + 1000) k soon le (omega arith) (length rs) (desk rs) h.0 (widen low (low + 1000) (k + 1000) rs (omega arith) h.1, due_length k rs) in
    rest_back k next _ pos ok (none_due low (k + 1000) k _ done.0 done.1)

-- ---- as the code has it

pub turned : (k moment n : ℕ) (rs moved after : List Row) (roll₀ roll : Roll Trade) (r : Row) (c m p : ℕ) → row_of n rs ≡ Some r → r.standing ≡ Held c m → p ≡ onwards r c → moved ≡ move_row r.number p (second_after moment) rs → Trading after roll₀ roll (serve (second_after k) r.series (desk moved)) → Trading after roll₀ roll (move_found k moment (row_of n rs) (desk rs))
unfolding move_on
turned k moment n rs moved after roll₀ roll r c m p at how to is did =
    let start : Trading moved roll₀ roll₀ (move_on r c moment (desk rs)) = record { rests = is ∙ ap (λ (q : ℕ). move_row r.number q (second_after moment) rs) to; gains = gains_nothing roll₀ } in
    rw at (by r.standing how (trading_then (serve (second_after k) r.series) (serve_adds (second_after k) r.series) (move_on r c moment (desk rs)) moved after roll₀ roll₀ roll start did))
  where
    by : (x : Standing) → x ≡ Held c m → Trading after roll₀ roll (serve (second_after k) r.series (move_on r c moment (desk rs))) → Trading after roll₀ roll (move_standing k moment x r (desk rs))
    by x e t = rw e t
