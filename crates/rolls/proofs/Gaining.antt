-- What a roll gains by nothing, and by one thing after another; the room that is left.
use Rattle.std.proofs.Common.{◌≡◌, ℕ, ◌+◌, ◌-◌, ◌≤◌, List, [], ◌++◌, length, drop, sym, refl, ap, ◌∙◌, arith, length-append, length-take}
use Rattle.std.proofs.lemmas.List.{append-nil, append_assoc, drop_at, drop-drop}
use Rattle.rolls.specs.Rolls.{filled, room, Gains}
use Rattle.rolls.specs.declared.roll.Roll.{Roll}

module _ {T : Type 0} where
  pub gains_nothing : (a : Roll T) → Gains a a []
  gains_nothing a = record { rows = sym (append-nil (filled a)); count = omega arith; rest = refl; size = refl; place = refl }

  -- what a drop leaves alike, a longer one leaves alike
  drop_longer : (m n : ℕ) (xs ys : List T) → m ≤ n → drop m xs ≡ drop m ys → drop n xs ≡ drop n ys
  drop_longer m n xs ys h e =
      let s : m + (n - m) ≡ n = omega arith in
      ap (λ k. drop k xs) (sym s) ∙ sym (drop-drop (n - m) m xs) ∙ ap (drop (n - m)) e ∙ drop-drop (n - m) m ys ∙ ap (λ k. drop k ys) s

  pub gains_then : (a b d : Roll T) (xs ys : List T) → Gains a b xs → Gains b d ys → Gains a d (xs ++ ys)
  gains_then a b d xs ys p q = record {
    rows = q.rows ∙ ap (λ t. t ++ ys) p.rows ∙ append_assoc (filled a) xs ys;
    count = simp length-append (omega arith);
    rest = q.rest ∙ drop_longer b.slots.count d.slots.count b.slots.lent.now a.slots.lent.now (omega arith) p.rest;
    size = q.size ∙ p.size;
    place = q.place ∙ p.place;
  }

  pub room_after : (a b : Roll T) (xs : List T) → Gains a b xs → room b ≡ room a - length xs
  room_after a b xs w = omega (arith, w.count, w.size)

  -- what was gained is what stands behind the rows that the roll had
  pub gained_is : (a b : Roll T) (xs : List T) → Gains a b xs → drop a.slots.count (filled b) ≡ xs
  gained_is a b xs w =
      let long : length (filled a) ≡ a.slots.count = length-take a.slots.count a.slots.lent.now ∙ omega (arith, a.within) in
      ap (drop a.slots.count) w.rows ∙ drop_at (filled a) xs a.slots.count long
