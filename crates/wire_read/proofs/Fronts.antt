-- The front of a text, by the bytes that a slice pattern tests.
use Rattle.std.proofs.Common.{◌≡◌, ℕ, ◌-◌, ◌≤◌, List, [], ◌∷◌, length, get_or, take, drop, Some, None, Option, sym, refl, ap, ◌∙◌, subst, arith}
use Rattle.std.proofs.lemmas.Slice.{between_to_end}
use Rattle.values.specs.declared.order.OrderPrice.{OrderPrice}
use Rattle.values.specs.declared.order.OrderPrice.TheVariants.{Market, Limit}
use Rattle.wire_format.specs.Format.{Text, IsLetter, glued, optional, price_text}
use Rattle.wire_read.specs.Fields.{Front}
use Rattle.wire_read.proofs.Counts.{not_count}

-- a pattern of two bytes and the rest
pub opens : (bs : List ℕ) (x y : ℕ) → 2 ≤ length bs → get_or bs 0 0 ≡ x → get_or bs 1 0 ≡ y → bs ≡ x ∷ (y ∷ take (length bs - 2) (drop 2 bs))
opens [] x y h p q = absurd (omega arith)
opens (a ∷ []) x y h p q = absurd (omega arith)
opens (a ∷ (b ∷ bs)) x y h p q = let e = between_to_end (a ∷ (b ∷ bs)) 2 (length (a ∷ (b ∷ bs))) (omega arith) in cc

-- a pattern of two bytes and nothing else
pub two : (bs : List ℕ) (x y : ℕ) → length bs ≡ 2 → get_or bs 0 0 ≡ x → get_or bs 1 0 ≡ y → bs ≡ x ∷ (y ∷ [])
two [] x y h p q = absurd (omega arith)
two (a ∷ []) x y h p q = absurd (omega arith)
two (a ∷ (b ∷ [])) x y h p q = cc
two (a ∷ (b ∷ (d ∷ bs))) x y h p q = absurd (omega arith)

pub ruleset patterns = (opens, two)

absent_once : (end : ℕ) (rest : List ℕ) (b : Option ℕ) (t : List ℕ) → glued end (optional b) (Some t) ≡ Some (45 ∷ (end ∷ rest)) → (b ≡ None) × (t ≡ rest)
absent_once end rest None t g = (refl, cc)
absent_once end rest (Some n) t g = absurd (not_count end n 45 t _ (λ h. omega arith) g)

pub absent_front : (end : ℕ) (s : List ℕ) → 2 ≤ length s → get_or s 0 0 ≡ 45 → get_or s 1 0 ≡ end → Front optional end s None (take (length s - 2) (drop 2 s))
absent_front end s h p q = let rest = take (length s - 2) (drop 2 s) in subst (λ l. Front optional end l None rest) (sym (opens s 45 end h p q)) (record { splits = refl; once = absent_once end rest })

market_once : (end : ℕ) (rest : List ℕ) (b : OrderPrice) (t : List ℕ) → glued end (price_text b) (Some t) ≡ Some (77 ∷ (end ∷ rest)) → (b ≡ Market) × (t ≡ rest)
market_once end rest Market t g = (refl, cc)
market_once end rest (Limit n) t g = absurd (not_count end n 77 t _ (λ h. omega arith) g)

pub market_front : (end : ℕ) (s : List ℕ) → 2 ≤ length s → get_or s 0 0 ≡ 77 → get_or s 1 0 ≡ end → Front price_text end s Market (take (length s - 2) (drop 2 s))
market_front end s h p q = let rest = take (length s - 2) (drop 2 s) in subst (λ l. Front price_text end l Market rest) (sym (opens s 77 end h p q)) (record { splits = refl; once = market_once end rest })

-- what a field of one letter begins is that letter, the byte that ends it and the rest
pub letter_first : (end : ℕ) (w : Text) (t s : List ℕ) → IsLetter w → glued end w (Some t) ≡ Some s → (x : ℕ) × (w ≡ Some (x ∷ [])) × (s ≡ x ∷ (end ∷ t))
letter_first end w t s (x, e) g =
    let h : ◌≡◌ {A = Text} (Some (x ∷ (end ∷ t))) (Some s) = subst (λ v. glued end v (Some t) ≡ Some s) e g in
    (x, e, cc)

-- the field whose letter stands there
pub letter_front : {A : Type 0} (says : A → Text) → ((b : A) → IsLetter (says b)) → (end x : ℕ) (s rest : List ℕ) (a : A) → s ≡ x ∷ (end ∷ rest) → (says a ≡ Some (x ∷ [])) × ((b : A) → says b ≡ Some (x ∷ []) → b ≡ a) → Front says end s a rest
letter_front says one end x s rest a is (read, only) = record {
  splits = ap (λ w. glued end w (Some rest)) read ∙ ap Some (sym is);
  once = λ b t g.
      let f = letter_first end (says b) t s (one b) g in
      let same : f.0 ∷ (end ∷ t) ≡ x ∷ (end ∷ rest) = sym f.2 ∙ is in
      let letter : f.0 ≡ x = cc in
      (only b (rw letter at f.1), cc);
}

pub ruleset letters = (opens, letter_first, letter_front)
