-- Serving in the code is serving by the definitions.
use Rattle.std.proofs.Common.{◌≡◌, ℕ, zero, suc, ◌+◌, ◌-◌, ◌<◌, ◌≤◌, true, false, eqb, List, [], ◌++◌, length, Some, None, Option, sym, refl, ap, ◌∙◌, subst, arith}
use Rattle.std.proofs.lemmas.Bool.{and_parts, eqb-true, eq-eqb, cond_both}
use Rattle.std.specs.Borrow.{MutBor}
use Rattle.rolls.specs.declared.roll.Roll.{Roll}
use Rattle.rolls.specs.Rolls.{Gains, room}
use Rattle.rolls.proofs.Gaining.{room_after}
use Rattle.book.specs.declared.book.Book.{Book}
use Rattle.book.specs.declared.row.Row.{Row}
use Rattle.book.specs.declared.row.Standing.{Standing}
use Rattle.book.specs.declared.row.Standing.TheVariants.{Plain, Held, Quote}
use Rattle.book.specs.declared.row.Trade.{Trade}
use Rattle.book.specs.Rows.{Sound, row_of, settle, lowest, wanted_from}
use Rattle.book.specs.Taking.{take, Took, Has}
use Rattle.book.specs.Books.{rows}
use Rattle.trading.specs.Journals.{trades_of, noting}
use Rattle.trading.specs.Desks.{Desk, highest, each_number, taker_of, serve_row, serve_standing, serve_found, serve_one, serve}
use Rattle.trading.specs.Doing.{desk, Trading, is_held, held_in}
use Rattle.trading.specs.Pits.{Dealing}
use Rattle.trading.proofs.Sides.{clash}
use Rattle.trading.proofs.Faces.{take_in, settle_in}
use Rattle.trading.proofs.Resting.{highest_within, each_within}
use Rattle.trading.proofs.Timings.{row_of_of}
use Rattle.trading.proofs.Volumes.{serve_fewer, trades_noted, reversed_length}
use Rattle.trading.proofs.Adds.{Adds, adds_nothing, adds_if, adds_then, deals_nothing, deals_then}
use Rattle.trading.proofs.Each.{Walk, walk_starts, walk_ends, walk_wanted, walk_number, walk_step, walk_next, sound_positive, sound_distinct}

-- ---- serving goes by the rows alone, and notes its trades after the journal so far

module _ (due s : ℕ) where
  pub standing_adds : (x : Standing) (r : Row) → Adds (serve_standing due x r)
  unfolding serve_row
  standing_adds Plain r d = adds_nothing d
  standing_adds (Held c m) r d =
      let ts = (take due (taker_of r c) r.size d.rows []).trades in
      (refl, trades_noted ts d.journal ∙ ap (λ (ys : List Trade). trades_of d.journal ++ ys) (sym (trades_noted ts [])))
  standing_adds (Quote k) r d = adds_nothing d

  found_adds : (o : Option Row) → Adds (serve_found due s o)
  found_adds None = adds_nothing
  found_adds (Some r) = adds_if (eqb r.series s) (serve_standing due r.standing r) (standing_adds r.standing r)

  one_adds : (n : ℕ) → Adds (serve_one due s n)
  unfolding serve_one
  one_adds n d = found_adds (row_of n d.rows) d

  each_adds : (n : ℕ) → Adds (each_number n (serve_one due s))
  unfolding each_number
  each_adds zero = adds_nothing
  each_adds (suc n) = adds_then (each_number n (serve_one due s)) (serve_one due s (suc n)) (each_adds n) (one_adds (suc n))

  pub serve_adds : Adds (serve due s)
  unfolding serve
  serve_adds d = each_adds (highest d.rows) d

-- ---- one held order

module _ (due : ℕ) (r : Row) (c reach : ℕ) (at : reach ≡ (taker_of r c).reach) {rs mid after : List Row} {roll₀ roll : Roll Trade} {left : ℕ} (took : Took due (record { number = r.number; series = r.series; side = r.side; reach = reach }) r.size left rs mid roll₀ roll) (is : after ≡ settle due (r.size - left) r.number mid) where
  pub row_served : Trading after roll₀ roll (serve_row due r c (desk rs))
  unfolding serve_row
  row_served =
      let by : Took due (taker_of r c) r.size left rs mid roll₀ roll = subst (λ (x : ℕ). Took due (record { number = r.number; series = r.series; side = r.side; reach = x }) r.size left rs mid roll₀ roll) at took in
      let f = take due (taker_of r c) r.size rs [] in
      record {
        rests = is ∙ (λ i. settle due (r.size - by.leaves i) r.number (by.rests i));
        gains = subst (Gains roll₀ roll) (sym (trades_noted f.trades [])) by.gains;
      }

  pub standing_served : (m : ℕ) → r.standing ≡ Held c m → Trading after roll₀ roll (serve_standing due r.standing r (desk rs))
  standing_served m how = by r.standing how
    where
      by : (x : Standing) → x ≡ Held c m → Trading after roll₀ roll (serve_standing due x r (desk rs))
      by x e = rw e row_served

  module _ (sound : Sound rs) (has : Has r rs) where
    pub row_room : length rs ≤ room roll₀ → length after ≤ room roll
    unfolding serve_row
    row_room h =
        let f = take due (taker_of r c) r.size rs [] in
        let few = serve_fewer rs (sound_positive rs sound) (sound_distinct rs sound) due r c has in
        let a : length after ≡ length (settle due (r.size - f.left) r.number f.rows) = ap length row_served.rests in
        let g = room_after roll₀ roll _ row_served.gains in
        let n : length (trades_of (noting f.trades [])) ≡ length f.trades = ap length (trades_noted f.trades []) ∙ reversed_length f.trades in
        omega arith

  pub row_numbers : {top : ℕ} → highest rs < top → highest after < top
  unfolding serve_row
  row_numbers h =
      let f = take due (taker_of r c) r.size rs [] in
      let a : highest after ≡ highest (settle due (r.size - f.left) r.number f.rows) = ap highest row_served.rests in
      let b = highest_within (settle due (r.size - f.left) r.number f.rows) rs (λ x i. take_in due (taker_of r c) rs r.size [] x (settle_in due (r.size - f.left) r.number f.rows x i)) in
      omega arith

-- ---- the loop over the held orders of a series

module _ (due s : ℕ) where
  held_idle : (n : ℕ) (d : Desk) → ((r : Row) → row_of n d.rows ≡ Some r → held_in s r ≡ false) → serve_one due s n d ≡ d
  unfolding serve_one
  held_idle n d h = by (row_of n d.rows) refl
    where
      standing : (r : Row) (x : Standing) → r.standing ≡ x → eqb r.series s ≡ true → held_in s r ≡ false → serve_standing due x r d ≡ d
      standing r Plain e z n = refl
      standing r (Held c m) e z n = absurd (clash (held_in s r) (rw (z, e)) n)
      standing r (Quote k) e z n = refl

      by : (o : Option Row) → row_of n d.rows ≡ o → serve_found due s o d ≡ d
      by None e = refl
      by (Some r) e = cond_both (eqb r.series s) (serve_standing due r.standing r d) d (λ x. x ≡ d) (λ z. standing r r.standing refl z (h r e)) (λ z. refl)

  -- a row of the series in its turn
  one_served : (r : Row) (d : Desk) → row_of r.number d.rows ≡ Some r → r.series ≡ s → serve_one due s r.number d ≡ serve_standing due r.standing r d
  unfolding serve_one
  one_served r d at z = let q : eqb r.series s ≡ true = eq-eqb r.series s z in rw (at, q)

  -- what holds while the loop goes on: the held orders numbered below `from` have been served
  pub record Serving (book₀ book : MutBor Book) (roll₀ roll : MutBor (Roll Trade)) (from : ℕ) : Type 0 where
    pub walk : Walk (serve_one due s) (desk (rows book₀.now)) from (rows book.now)
    pub did : Dealing book₀ book roll₀ roll (each_number (from - 1) (serve_one due s) (desk (rows book₀.now)))

  pub serving_starts : (book : MutBor Book) (roll : MutBor (Roll Trade)) → Serving book book roll roll 1
  unfolding each_number
  serving_starts book roll = record { walk = walk_starts (serve_one due s) (desk (rows book.now)); did = deals_nothing book roll }

  module _ {book₀ book : MutBor Book} {roll₀ roll : MutBor (Roll Trade)} {from : ℕ} (u : Serving book₀ book roll₀ roll from) where
    pub serving_ends : lowest (wanted_from (held_in s) from) (rows book.now) ≡ None → Dealing book₀ book roll₀ roll (serve due s (desk (rows book₀.now)))
    unfolding serve
    serving_ends e = subst (Dealing book₀ book roll₀ roll) (sym (walk_ends held_idle (each_within due s) u.walk e)) u.did

    module _ (r : Row) (e : lowest (wanted_from (held_in s) from) (rows book.now) ≡ Some r) where
      pub serving_number : (from ≤ r.number) × (r.number ≤ highest (rows book₀.now))
      serving_number = walk_number held_idle (each_within due s) u.walk r e

      pub serving_at : row_of r.number (rows book.now) ≡ Some r
      serving_at = row_of_of r (rows book.now) (sound_distinct (rows book.now) book.now.resting.sound) (walk_wanted held_idle (each_within due s) u.walk r e).0

      pub serving_next : {book' : MutBor Book} {roll' : MutBor (Roll Trade)} → Dealing book book' roll roll' (serve_standing due r.standing r (desk (rows book.now))) → Serving book₀ book' roll₀ roll' (r.number + 1)
      serving_next {book'} {roll'} did =
          let done = each_number (from - 1) (serve_one due s) (desk (rows book₀.now)) in
          let series : r.series ≡ s = eqb-true r.series s (and_parts (eqb r.series s) (is_held r.standing) (walk_wanted held_idle (each_within due s) u.walk r e).1).0 in
          let at : row_of r.number done.rows ≡ Some r = subst (λ (x : List Row). row_of r.number x ≡ Some r) u.walk.rests serving_at in
          let now : Dealing book₀ book' roll₀ roll' (serve_one due s r.number done) = subst (Dealing book₀ book' roll₀ roll') (sym (one_served r done at series)) (deals_then (serve_standing due r.standing r) (standing_adds due s r.standing r) done u.did did) in
          record {
            walk = walk_next held_idle (each_within due s) u.walk r e now.did.rests;
            did = subst (Dealing book₀ book' roll₀ roll') (sym (walk_step held_idle (each_within due s) u.walk r e)) now;
          }
