-- Withdrawing in the code is withdrawing by the definitions.
use Rattle.std.proofs.Common.{◌≡◌, ℕ, suc, ◌+◌, ◌-◌, ◌<◌, ◌≤◌, Bool, true, false, cond, List, [], ◌∷◌, Some, None, Option, sym, refl, ap, ◌∙◌, subst, inl, inr, arith}
use Rattle.std.proofs.lemmas.Bool.{eq-eqb, cond_both}
use Rattle.rolls.specs.declared.roll.Roll.{Roll}
use Rattle.rolls.specs.Rolls.{Gains, room}
use Rattle.rolls.proofs.Gaining.{gains_nothing, gains_then, room_after}
use Rattle.book.specs.declared.row.Row.{Row}
use Rattle.book.specs.declared.row.Withdrawal.{Withdrawal}
use Rattle.book.specs.Lists.{lacking}
use Rattle.book.specs.Taking.{Has}
use Rattle.book.specs.Rows.{Sound, numbered, without, row_of, withdrawal_of, lowest, wanted_from}
use Rattle.trading.specs.Journals.{withdrawals_of}
use Rattle.trading.specs.Desks.{Desk, highest, each_number, withdrawn, pull_found, pull_one, pull}
use Rattle.trading.specs.Doing.{desk, Withdrawing, count}
use Rattle.trading.proofs.Faces.{Within, Distinct, without_in}
use Rattle.trading.proofs.Timings.{row_of_of}
use Rattle.trading.proofs.Steps.{each_pulled_keeps}
use Rattle.trading.proofs.Each.{Walk, walk_starts, walk_ends, walk_wanted, walk_number, walk_step, walk_next, sound_distinct}

-- ---- how many rows pass

pub count_without : (p : Row → Bool) (n : ℕ) (xs : List Row) → count p (without n xs) ≤ count p xs
unfolding count lacking
count_without p n [] = omega arith
count_without p n (x ∷ xs) = cond_both (numbered n x) (without n xs) (x ∷ without n xs) (λ l. count p l ≤ count p (x ∷ xs)) (λ e. omega (arith, count_without p n xs)) (λ e. omega (arith, count_without p n xs))

pub count_less : (p : Row → Bool) (r : Row) (xs : List Row) → Has r xs → p r ≡ true → suc (count p (without r.number xs)) ≤ count p xs
unfolding count lacking
count_less p r [] h e = absurd h
count_less p r (x ∷ xs) (inl s) e =
    let n : numbered r.number x ≡ true = eq-eqb x.number r.number (ap (λ (y : Row). y.number) (sym s)) in
    let one : cond {A = ℕ} (p x) 1 0 ≡ 1 = rw (subst (λ (y : Row). p y ≡ true) s e) in
    rw n (omega (arith, count_without p r.number xs))
count_less p r (x ∷ xs) (inr h) e = cond_both (numbered r.number x) (without r.number xs) (x ∷ without r.number xs) (λ l. suc (count p l) ≤ count p (x ∷ xs)) (λ z. omega (arith, count_less p r xs h e)) (λ z. omega (arith, count_less p r xs h e))

-- ---- the loop over the rows that are wanted

module _ (p : Row → Bool) where
  pull_idle : (n : ℕ) (d : Desk) → ((r : Row) → row_of n d.rows ≡ Some r → p r ≡ false) → pull_one p n d ≡ d
  unfolding pull_one
  pull_idle n d h = by (row_of n d.rows) refl
    where
      by : (o : Option Row) → row_of n d.rows ≡ o → pull_found p o d ≡ d
      by None e = refl
      by (Some r) e = rw (h r e)

  pub pulled_within : (n : ℕ) (d : Desk) → Within (each_number n (pull_one p) d).rows d.rows
  pulled_within n d = each_pulled_keeps (λ x. Within x.rows d.rows) p (λ r x h f i. h f (without_in r.number x.rows f i).0) n d (λ f i. i)

  one_pulled : (r : Row) (d : Desk) → Distinct d.rows → Has r d.rows → p r ≡ true → pull_one p r.number d ≡ record { rows = without r.number d.rows; journal = withdrawn r ∷ d.journal }
  unfolding pull_one
  one_pulled r d u h e = rw (row_of_of r d.rows u h, e)

  -- what holds while the loop goes on: the wanted rows numbered below `from` have been withdrawn
  pub record Pulling (rs₀ : List Row) (roll₀ : Roll Withdrawal) (from : ℕ) (rs : List Row) (roll : Roll Withdrawal) : Type 0 where
    pub walk : Walk (pull_one p) (desk rs₀) from rs
    pub gains : Gains roll₀ roll (withdrawals_of (each_number (from - 1) (pull_one p) (desk rs₀)).journal)
    pub places : count p rs ≤ room roll

  pub pulling_starts : (rs : List Row) (roll : Roll Withdrawal) → count p rs ≤ room roll → Pulling rs roll 1 rs roll
  unfolding each_number
  pulling_starts rs roll h = record { walk = walk_starts (pull_one p) (desk rs); gains = gains_nothing roll; places = h }

  module _ {rs₀ : List Row} {roll₀ : Roll Withdrawal} {from : ℕ} {rs : List Row} {roll : Roll Withdrawal} (u : Pulling rs₀ roll₀ from rs roll) where
    pub pulling_ends : lowest (wanted_from p from) rs ≡ None → Withdrawing rs roll₀ roll (pull p (desk rs₀))
    unfolding pull
    pulling_ends e =
        let same = walk_ends pull_idle pulled_within u.walk e in
        record {
          rests = u.walk.rests ∙ ap (λ (d : Desk). d.rows) (sym same);
          gains = subst (λ (d : Desk). Gains roll₀ roll (withdrawals_of d.journal)) (sym same) u.gains;
        }

    module _ (r : Row) (e : lowest (wanted_from p from) rs ≡ Some r) where
      fewer : suc (count p (without r.number rs)) ≤ count p rs
      fewer = let w = walk_wanted pull_idle pulled_within u.walk r e in count_less p r rs w.0 w.1

      pub pulling_number : (from ≤ r.number) × (r.number ≤ highest rs₀) × (0 < room roll)
      pulling_number =
          let n = walk_number pull_idle pulled_within u.walk r e in
          let f = fewer in
          let h = u.places in
          (n.0, n.1, omega arith)

      pub pulling_next : {rs' : List Row} {roll' : Roll Withdrawal} {said : Withdrawal} → Sound rs → rs' ≡ without r.number rs → said ≡ withdrawal_of r → Gains roll roll' (said ∷ []) → Pulling rs₀ roll₀ (r.number + 1) rs' roll'
      pulling_next {rs'} {roll'} {said} sound did says gained =
          let done = each_number (from - 1) (pull_one p) (desk rs₀) in
          let wanted = walk_wanted pull_idle pulled_within u.walk r e in
          let now : pull_one p r.number done ≡ record { rows = without r.number done.rows; journal = withdrawn r ∷ done.journal } = one_pulled r done (subst Distinct u.walk.rests (sound_distinct rs sound)) (subst (Has r) u.walk.rests wanted.0) wanted.1 in
          let step = walk_step pull_idle pulled_within u.walk r e ∙ now in
          let g = room_after roll roll' _ gained in
          let f = fewer in
          let h = u.places in
          let same : count p rs' ≡ count p (without r.number rs) = ap (count p) did in
          record {
            walk = walk_next pull_idle pulled_within u.walk r e (did ∙ ap (without r.number) u.walk.rests ∙ ap (λ (d : Desk). d.rows) (sym now));
            gains = subst (λ (d : Desk). Gains roll₀ roll' (withdrawals_of d.journal)) (sym step)
                (gains_then roll₀ roll roll' _ _ u.gains (subst (λ (w : Withdrawal). Gains roll roll' (w ∷ [])) says gained));
            places = omega arith;
          }
