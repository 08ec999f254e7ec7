-- Counts: what the digits at the front of a text write.
use Rattle.std.proofs.Common.{◌≡◌, ℕ, suc, ◌+◌, ◌-◌, ◌*◌, ◌^◌, ◌<◌, ◌≤◌, ltb, List, ◌∷◌, ◌++◌, length, get_or, take, drop, Some, None, decimal, sym, refl, ap, ◌∙◌, subst, ⊎_elim, add-one, arith, length-append, drop-cons}
use Rattle.std.specs.Str.Parse.{digits_value, AllDigits}
use Rattle.std.specs.Int.{IsInRange}
use Rattle.std.specs.Char.{digit_value}
use Rattle.std.proofs.lemmas.Int.Digits.{digits_value_more, digits_more}
use Rattle.std.proofs.lemmas.Str.Parse.{IsNumeralModel, numerals_by_value, tells_digits, digits_value_short, digit_at}
use Rattle.std.proofs.lemmas.Fmt.{decimal-digits_value, decimal_is_IsNumeral, length-decimal-le, decimal_nonempty, first_decimal, decimal_digit, decimal_injective}
use Rattle.std.proofs.lemmas.Str.{digit_value_digit}
use Rattle.std.proofs.lemmas.List.{length-take-le, get_or_at, get_or_append_left, get_or-take, take_at, drop_at, take-append-drop}
use Rattle.std.proofs.lemmas.Slice.{between_to_end}
use Rattle.std.proofs.lemmas.Bool.{cases_lt, cases_order, cases_Bool, ltb-true, lt-ltb, cond-true, cond-false}
use Rattle.wire_format.specs.Format.{Text, glued, count}
use Rattle.wire_read.specs.Fields.{Front, Number, Run, Count}

own : IsNumeralModel (AllDigits 10) (digits_value 10)
own = numerals_by_value (AllDigits 10) tells_digits

digit_small : (c : ℕ) → IsInRange 48 57 c → digit_value c < 10
digit_small c h = omega (arith, digit_value_digit c h)

-- fewer than nine digits leave room for one more
pub room : (s : List ℕ) (i n : ℕ) → i ≤ length s → Number s n i → i < 9 → n < 10 ^ 8
room s i n h d lt = rw d.value (digits_value_short own (take i s) 8 d.digits (omega (arith, length-take-le i s h)))

pub one_more : (s : List ℕ) (i n d : ℕ) → i < length s → Number s n i → IsInRange 48 57 (get_or s i 0) → d ≡ get_or s i 0 - 48 → Number s (n * 10 + d) (i + 1)
one_more s i n d lt h is e = record {
  digits = digits_more 10 s i lt h.digits (digit_small _ is);
  value = omega (arith, digits_value_more 10 s i lt, digit_value_digit _ is, h.value);
}

-- the bytes of what is cut off are those of the text
pub ruleset cut = (room, length-take-le, get_or-take)

-- what is written of a count that is written
pub count_some : (b : ℕ) → b < 10 ^ 9 → count b ≡ Some (decimal b)
count_some b h = cond-true _ _ _ (lt-ltb b (10 ^ 9) h)

pub glued_count : (end b : ℕ) (t s : List ℕ) → glued end (count b) (Some t) ≡ Some s → (b < 10 ^ 9) × (decimal b ++ (end ∷ t) ≡ s)
glued_count end b t s e =
    ⊎_elim
    (λ yes'. (ltb-true b _ yes', let p : Some (decimal b ++ (end ∷ t)) ≡ Some s = sym (ap (λ x. glued end x (Some t)) (count_some b (ltb-true b _ yes'))) ∙ e in cc))
    (λ no'. let p : ◌≡◌ {A = Text} None (Some s) = sym (ap (λ x. glued end x (Some t)) (cond-false (ltb b (10 ^ 9)) (Some (decimal b)) None no')) ∙ e in cc)
    (cases_Bool (ltb b (10 ^ 9)))

module _ (s : List ℕ) (end n i : ℕ) (low : end < 48) (run : Run s n i) where
  -- where s begins with a count and `end`, the digits are those of the count
  place : (b : ℕ) (t : List ℕ) → b < 10 ^ 9 → decimal b ++ (end ∷ t) ≡ s → i ≡ length (decimal b)
  place b t small e =
      let big : b < 2 ^ 64 = omega arith in
      let ds = (decimal_is_IsNumeral b big).0.1 in
      let short = length-decimal-le 9 b (omega arith) small big in
      let long : length s ≡ length (decimal b) + length (end ∷ t) = sym (ap length e) ∙ length-append (decimal b) (end ∷ t) in
      let seam : get_or s (length (decimal b)) 0 ≡ end = sym (ap (λ l. get_or l (length (decimal b)) 0) e) ∙ get_or_at (decimal b) end t 0 _ refl in
      ⊎_elim (λ same. same)
      (⊎_elim
      (λ less.
      let at : get_or s i 0 ≡ get_or (decimal b) i 0 = sym (ap (λ l. get_or l i 0) e) ∙ get_or_append_left (decimal b) (end ∷ t) 0 i less in
      let dig = digit_at (decimal b) i ds less in
      absurd (run.stops (omega arith) (omega (arith, long)) (omega (arith, at, dig.0), omega (arith, at, dig.1))))
      (λ more.
      let dig = digit_at (take i s) (length (decimal b)) run.number.digits (omega (arith, length-take-le i s run.within)) in
      absurd (omega (arith, dig.0, get_or-take i s (length (decimal b)) 0 more, seam))))
      (cases_order i (length (decimal b)))

  pub passes : (b : ℕ) (t : List ℕ) → glued end (count b) (Some t) ≡ Some s → Count s i end
  passes b t g =
      let small = (glued_count end b t s g).0 in
      let e = (glued_count end b t s g).1 in
      let big : b < 2 ^ 64 = omega arith in
      let is = place b t small e in
      let some = decimal_nonempty b big in
      let long : length s ≡ length (decimal b) + length (end ∷ t) = sym (ap length e) ∙ length-append (decimal b) (end ∷ t) in
      let first : get_or s 0 0 ≡ get_or (decimal b) 0 0 = sym (ap (λ l. get_or l 0 0) e) ∙ get_or_append_left (decimal b) (end ∷ t) 0 0 some in
      record {
        some = omega arith;
        more = omega arith;
        ends = ap (λ k. get_or s k 0) is ∙ sym (ap (λ l. get_or l (length (decimal b)) 0) e) ∙ get_or_at (decimal b) end t 0 _ refl;
        lead = λ zero'. ⊎_elim
            (λ pos. absurd (omega (arith, first_decimal b pos big)))
            (λ none. is ∙ ap length (decimal_digit b (omega arith)))
            (cases_lt 0 b);
      }

  onward : Count s i end → Front count end s n (drop (i + 1) s)
  onward p =
      let ds = take i s in
      let len = length-take-le i s run.within in
      let small : n < 10 ^ 9 = rw run.number.value (digits_value_short own ds 9 run.number.digits (omega arith)) in
      let big : digits_value 10 ds < 2 ^ 64 = omega (arith, run.number.value) in
      let lead : get_or ds 0 0 ≡ 48 → length ds ≡ 1 = λ z. len ∙ p.lead (sym (get_or-take i s 0 0 p.some) ∙ z) in
      let spelled : decimal n ≡ ds = ap decimal run.number.value ∙ decimal-digits_value own ds run.number.digits (omega (arith, p.some)) lead big in
      let rest : drop i s ≡ end ∷ drop (i + 1) s = rw add-one (drop-cons s i 0 p.more ∙ ap (λ x. x ∷ drop (suc i) s) p.ends) in
      let whole : decimal n ++ (end ∷ drop (i + 1) s) ≡ s = ap (λ l. l ++ (end ∷ drop (i + 1) s)) spelled ∙ ap (λ l. ds ++ l) (sym rest) ∙ take-append-drop i s in
      record {
        splits = ap (λ x. glued end x (Some (drop (i + 1) s))) (count_some n small) ∙ ap Some whole;
        once = λ b t g.
            let e = (glued_count end b t s g).1 in
            let is = place b t (glued_count end b t s g).0 e in
            let same : decimal b ++ (end ∷ t) ≡ decimal n ++ (end ∷ drop (i + 1) s) = e ∙ sym whole in
            let dec : decimal b ≡ decimal n = sym (take_at (decimal b) (end ∷ t) i (sym is)) ∙ ap (take i) same ∙ take_at (decimal n) _ i (ap length spelled ∙ len) in
            let tail : end ∷ t ≡ end ∷ drop (i + 1) s = sym (drop_at (decimal b) (end ∷ t) i (sym is)) ∙ ap (drop i) same ∙ drop_at (decimal n) _ i (ap length spelled ∙ len) in
            (decimal_injective b n (omega (arith, (glued_count end b t s g).0)) (omega arith) dec, cc);
      }

  pub front : Count s i end → Front count end s n (take (length s - (i + 1)) (drop (i + 1) s))
  front p = subst (Front count end s n) (sym (between_to_end s (i + 1) (length s) (omega arith))) (onward p)

-- a count begins with a digit
pub not_count : (end n x : ℕ) (t s : List ℕ) → (IsInRange 48 57 x → ⊥) → glued end (count n) (Some t) ≡ Some (x ∷ s) → ⊥
not_count end n x t s out g =
    let e = glued_count end n t (x ∷ s) g in
    let big : n < 2 ^ 64 = omega (arith, e.0) in
    let some = decimal_nonempty n big in
    let dig = digit_at (decimal n) 0 (decimal_is_IsNumeral n big).0.1 some in
    let first : get_or (decimal n) 0 0 ≡ x = sym (get_or_append_left (decimal n) (end ∷ t) 0 0 some) ∙ ap (λ l. get_or l 0 0) e.1 in
    out (omega (arith, first, dig.0), omega (arith, first, dig.1))
