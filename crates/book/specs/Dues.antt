-- When held orders are due.
use Rattle.std.specs.Prelude.{◌≡◌, ℕ, Bool, true, false, cond, not, ◌&&◌, ◌||◌, List, [], ◌∷◌, Some, None, Option, ◌==◌, nat_lt}
use Rattle.book.specs.declared.row.Row.{Row}
use Rattle.book.specs.declared.row.Due.{Due}
use Rattle.book.specs.declared.row.Standing.{Standing}
use Rattle.book.specs.declared.row.Standing.TheVariants.{Plain, Held, Quote}
use Rattle.book.specs.Lists.{placed, lacking, pairwise}

abbrev pub due_at : ℕ → ℕ → Due
due_at moment n = record { moment = moment; number = n }

-- the earlier moment, then the lower number
abbrev pub sooner : Due → Due → Bool
sooner a b = nat_lt a.moment b.moment || (a.moment == b.moment && nat_lt a.number b.number)

abbrev pub owed : ℕ → Due → Bool
owed n d = d.number == n

-- what a due list always keeps: the sooner entry first, and no number twice
abbrev pub distinct : Due → Due → Bool
distinct a b = not (a.number == b.number)

abbrev pub InTurn : List Due → Type 0
InTurn ds = (pairwise sooner ds ≡ true) × (pairwise distinct ds ≡ true)

-- d at its turn
abbrev pub entered : Due → List Due → List Due
entered d ds = placed (sooner d) d ds

-- a held order has an entry, at its moment
abbrev pub listed : Standing → ℕ → List Due → List Due
listed Plain n ds = ds
listed (Held c d) n ds = entered (due_at d n) ds
listed (Quote m) n ds = ds

-- and no longer has it
abbrev pub unlisted : Standing → ℕ → List Due → List Due
unlisted Plain n ds = ds
unlisted (Held c d) n ds = lacking (owed n) ds
unlisted (Quote m) n ds = ds

-- the due list of the rows: exactly the held orders have one entry each
unfoldable pub due_list : List Row → List Due
due_list [] = []
due_list (r ∷ rs) = listed r.standing r.number (due_list rs)

-- the entry of the held order that is due first, the lowest number of several at one moment
abbrev pub soonest : Standing → ℕ → Option Due → Option Due
soonest Plain n o = o
soonest (Held c d) n None = Some (due_at d n)
soonest (Held c d) n (Some e) = Some (cond (sooner (due_at d n) e) (due_at d n) e)
soonest (Quote m) n o = o

unfoldable pub earliest : List Row → Option Due
earliest [] = None
earliest (r ∷ rs) = soonest r.standing r.number (earliest rs)

-- two lists have the same entries, as a test
abbrev pub same_dues : List Due → List Due → Bool
same_dues [] [] = true
same_dues [] (e ∷ es) = false
same_dues (d ∷ ds) [] = false
same_dues (d ∷ ds) (e ∷ es) = (d.moment == e.moment && d.number == e.number) && same_dues ds es
