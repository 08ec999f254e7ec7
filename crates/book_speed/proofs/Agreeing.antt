-- Tame rows agree.
use Rattle.std.proofs.Common.{◌≡◌, ℕ, ◌+◌, true, ◌&&◌, ltb, List, arith}
use Rattle.std.proofs.lemmas.Bool.{and_from, lt-ltb}
use Rattle.std.proofs.lemmas.Bool.Decides.{nat_tests}
use Rattle.book.specs.declared.row.Row.{Row}
use Rattle.book.specs.Lists.{every}
use Rattle.book.specs.Rows.{precedes, agrees, insert, without, numbered}
use Rattle.book.proofs.Keeps.{every_weaker, every_placed, every_lacking}
use Rattle.book_speed.specs.Tame.{tame, Tame, Drawn}

agree : (n : ℕ) (row r : Row) → Drawn n row → (ltb r.number n && tame r) ≡ true → agrees row r ≡ true
agree n row r d h = grind (arith, nat_tests)

pub agree_all : (n : ℕ) (row : Row) (rs : List Row) → Drawn n row → Tame n rs → every (agrees row) rs ≡ true
agree_all n row rs d t = every_weaker (λ r h. agree n row r d h) rs t

more : (n : ℕ) (r : Row) → (ltb r.number n && tame r) ≡ true → (ltb r.number (n + 1) && tame r) ≡ true
more n r h = grind (arith, nat_tests)

pub tame_insert : (n : ℕ) (row : Row) (rs : List Row) → Drawn n row → Tame n rs → Tame (n + 1) (insert row rs)
tame_insert n row rs d t =
    every_placed (precedes row) (λ r. ltb r.number (n + 1) && tame r) row (and_from _ _ (lt-ltb row.number (n + 1) (omega (arith, d.0))) d.1) rs (every_weaker (more n) rs t)

pub tame_without : (n k : ℕ) (rs : List Row) → Tame n rs → Tame n (without k rs)
tame_without n k rs t = every_lacking (numbered k) (λ r. ltb r.number n && tame r) rs t
