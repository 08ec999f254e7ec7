-- Every run of a splitter answers the lines of its input.
use Rattle.std.proofs.Common.{◌≡◌, ℕ, suc, ◌+◌, ◌<◌, ◌≤◌, Bool, true, false, cond, not, eqb, ltb, leb, List, [], ◌∷◌, ◌++◌, length, replicate, take, drop, Some, None, Option, sym, refl, ap, ◌∙◌, subst, ⊎_elim, append_assoc, append-nil, add-one, arith, length-append}
use Rattle.std.proofs.lemmas.Bool.{cases_Bool, cond-true, cond-false, le-leb, lt-leb, leb-true}
use Rattle.std.proofs.lemmas.List.{length-replicate}
use Rattle.std.specs.List.{position_or_len}
use Rattle.std.specs.Option.{option_map}
use Rattle.wire.specs.Splitting.{ended, unended, lines_from, lines, pending, newline_at, items, left, goes_on, at_end, Move, feed, step, input, answered, Spent, AnswersTheLines}

-- where the first newline stands, by the first byte
at_first : (t : Bool) (n l : ℕ) → cond (ltb (cond (not t) (1 + n) 0) (suc l)) (Some (cond (not t) (1 + n) 0)) None ≡ cond t (Some 0) (option_map (λ k. k + 1) (cond (ltb n l) (Some n) None))
at_first true n l = grind arith
at_first false n l = grind arith

newline_at-cons : (b : ℕ) (s : List ℕ) → newline_at (b ∷ s) ≡ cond (eqb b 10) (Some 0) (option_map (λ k. k + 1) (newline_at s))
newline_at-cons b s = at_first (eqb b 10) (position_or_len (λ b. eqb b 10) s) (length s)

later_none : (o : Option ℕ) → option_map (λ k. k + 1) o ≡ None → o ≡ None
later_none None e = refl
later_none (Some k) e = cc

later_some : (o : Option ℕ) (at : ℕ) → option_map (λ k. k + 1) o ≡ Some at → (k : ℕ) × (o ≡ Some k) × (at ≡ k + 1)
later_some None at e = cc
later_some (Some k) at e = (k, refl, cc)

-- a byte that is no newline joins the line that has begun, and a newline ends it
goes : (begun : List ℕ) (b : ℕ) (s : List ℕ) → eqb b 10 ≡ false → lines_from begun (b ∷ s) ≡ lines_from (begun ++ (b ∷ [])) s
goes begun b s e = cond-false _ _ _ e

ends : (begun : List ℕ) (b : ℕ) (s : List ℕ) → eqb b 10 ≡ true → lines_from begun (b ∷ s) ≡ ended (begun ++ (b ∷ [])) ∷ lines_from [] s
ends begun b s e = cond-true _ _ _ e

-- with no newline in s, the line that has begun goes on through it
pub through : (s begun later : List ℕ) → newline_at s ≡ None → lines_from begun (s ++ later) ≡ lines_from (begun ++ s) later
through [] begun later e = ap (λ l. lines_from l later) (sym (append-nil begun))
through (b ∷ s) begun later e =
    ⊎_elim
    (λ yes'. let is : ◌≡◌ {A = Option ℕ} (Some 0) None = sym (newline_at-cons b s ∙ cond-true (eqb b 10) _ _ yes') ∙ e in cc)
    (λ no'.
    let rest = later_none (newline_at s) (sym (newline_at-cons b s ∙ cond-false (eqb b 10) _ _ no') ∙ e) in
    goes begun b (s ++ later) no' ∙ through s (begun ++ (b ∷ [])) later rest ∙ ap (λ l. lines_from l later) (append_assoc begun (b ∷ []) s))
    (cases_Bool (eqb b 10))

-- the first newline in s ends it
pub to_newline : (s begun later : List ℕ) (at : ℕ) → newline_at s ≡ Some at → lines_from begun (s ++ later) ≡ ended (begun ++ take (at + 1) s) ∷ lines_from [] (drop (at + 1) s ++ later)
to_newline [] begun later at e = cc
to_newline (b ∷ s) begun later at e =
    ⊎_elim
    (λ yes'.
    let is : ◌≡◌ {A = Option ℕ} (Some 0) (Some at) = sym (newline_at-cons b s ∙ cond-true (eqb b 10) _ _ yes') ∙ e in
    let zero' : 0 ≡ at = cc in
    subst (λ n. lines_from begun (b ∷ (s ++ later)) ≡ ended (begun ++ take (n + 1) (b ∷ s)) ∷ lines_from [] (drop (n + 1) (b ∷ s) ++ later)) zero' (ends begun b (s ++ later) yes'))
    (λ no'.
    let k = later_some (newline_at s) at (sym (newline_at-cons b s ∙ cond-false (eqb b 10) _ _ no') ∙ e) in
    let here = to_newline s (begun ++ (b ∷ [])) later k.0 k.1 in
    let far : at + 1 ≡ suc (k.0 + 1) = omega (arith, k.2) in
    goes begun b (s ++ later) no'
    ∙ here
    ∙ ap (λ l. ended l ∷ lines_from [] (drop (k.0 + 1) s ++ later)) (append_assoc begun (b ∷ []) (take (k.0 + 1) s))
    ∙ ap (λ n. ended (begun ++ take n (b ∷ s)) ∷ lines_from [] (drop n (b ∷ s) ++ later)) (sym far))
    (cases_Bool (eqb b 10))

broken : (l : List ℕ) → 80 < length l → ended l ≡ None
broken l h = cond-false _ _ _ (lt-leb (length l) 80 h)

some_taken : (s : List ℕ) (at : ℕ) → newline_at s ≡ Some at → 0 < length (take (at + 1) s)
some_taken [] at e = cc
some_taken (b ∷ s) at e = rw add-one (omega arith)

-- a line of 80 bytes that goes on is too long
too_long : (s begun : List ℕ) → 80 ≤ length begun → lines_from begun s ≡ pending true s
too_long [] [] h = absurd (omega arith)
too_long [] (b ∷ l) h = refl
too_long (b ∷ s) begun h =
    let long : 80 < length (begun ++ (b ∷ [])) = omega (arith, length-append begun (b ∷ [])) in
    ⊎_elim
    (λ yes'. ends begun b s yes' ∙ ap (λ item. item ∷ lines s) (broken _ long) ∙ sym (cond-true (eqb b 10) _ _ yes'))
    (λ no'. goes begun b s no' ∙ too_long s (begun ++ (b ∷ [])) (omega arith) ∙ sym (cond-false (eqb b 10) _ _ no'))
    (cases_Bool (eqb b 10))

-- so passing over one is as if these bytes had begun it
eighty : List ℕ
eighty = replicate 80 0

eighty_long : length eighty ≡ 80
unfolding eighty
eighty_long = length-replicate {A = ℕ} 80 0

passing_over : (s : List ℕ) → pending true s ≡ lines_from eighty s
passing_over s = sym (too_long s eighty (omega (arith, eighty_long)))

-- a line that goes on is passed over once it is too long
goes_further : (s later : List ℕ) (g : Bool) → newline_at s ≡ None → leb 80 (length s) ≡ g → lines (s ++ later) ≡ pending g (cond g [] s ++ later)
goes_further s later true e long = through s [] later e ∙ too_long later s (leb-true 80 (length s) long)
goes_further s later false e short = refl

-- a step answers what it takes
pub stepped : (passing : Bool) (s later : List ℕ) (o : Option ℕ) → newline_at s ≡ o → pending passing (s ++ later) ≡ items passing s o ++ pending (goes_on passing s o) (left passing s o ++ later)
stepped true s later (Some at) e =
    passing_over (s ++ later)
    ∙ to_newline s eighty later at e
    ∙ ap (λ item. item ∷ lines (drop (at + 1) s ++ later)) (broken _ (omega (arith, length-append eighty (take (at + 1) s), eighty_long, some_taken s at e)))
stepped true s later None e =
    passing_over (s ++ later) ∙ through s eighty later e ∙ too_long later (eighty ++ s) (omega (arith, length-append eighty s, eighty_long))
stepped false s later (Some at) e = to_newline s [] later at e
stepped false s later None e = goes_further s later _ e refl

-- and the end answers what is left
some_left : (s : List ℕ) → unended s ≡ at_end false s
some_left [] = refl
some_left (b ∷ s) = sym (cond-true (ltb 0 (length (b ∷ s))) _ _ (le-leb 1 (length (b ∷ s)) (omega arith)))

pub at_the_end : (passing : Bool) (s : List ℕ) → newline_at s ≡ None → pending passing s ≡ at_end passing s
at_the_end true s e =
    passing_over s
    ∙ ap (lines_from eighty) (sym (append-nil s))
    ∙ through s eighty [] e
    ∙ too_long [] (eighty ++ s) (omega (arith, length-append eighty s, eighty_long))
at_the_end false s e = ap lines (sym (append-nil s)) ∙ through s [] [] e ∙ some_left s

run : (moves : List Move) (passing : Bool) (s : List ℕ) → Spent moves passing s → answered moves passing s ≡ pending passing (s ++ input moves)
run [] passing s spent = sym (at_the_end passing s spent) ∙ ap (pending passing) (sym (append-nil s))
run (feed block ∷ moves) passing s spent = run moves passing (s ++ block) spent ∙ ap (pending passing) (append_assoc s block (input moves))
run (step ∷ moves) passing s spent =
    ap (λ rest. items passing s (newline_at s) ++ rest) (run moves _ _ spent) ∙ sym (stepped passing s (input moves) (newline_at s) refl)

pub answers_the_lines : AnswersTheLines false
answers_the_lines moves spent = run moves false [] spent
