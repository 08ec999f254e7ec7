-- What a listing holds, and how series are added to it.
use Rattle.std.specs.Prelude.{ℕ, Bool, ◌&&◌, List, [], ◌∷◌, ◌++◌, length, take, Some, None, Option, Result, ◌==◌, nat_le, slice_index_or}
use Rattle.values.specs.declared.call.Terms.{Terms}
use Rattle.values.specs.declared.order.Kind.{Kind}
use Rattle.values.specs.declared.order.Kind.TheVariants.{Call}
use Rattle.book.specs.declared.row.Row.{Row}
use Rattle.values.specs.declared.refusal.Refusal.{Refusal}
use Rattle.values.specs.declared.refusal.Refusal.TheVariants.{Name, Price, Late}
use Rattle.market.specs.declared.series.Series.{Series}
use Rattle.market.specs.declared.listing.Listing.{Listing}
use Rattle.market.specs.Checks.{checked}
use Rattle.market.specs.Tests.{first, bad_price, unknown, is_mine}

-- the series in the order in which they were added
abbrev pub listed : Listing → List Series
listed l = take l.count l.series

-- a class above 15, a strike out of range, a 65th series
abbrev pub tests_series : List Series → Terms → List (Bool × Refusal)
tests_series ss t = (unknown t.class, Name) ∷ (bad_price t.strike, Price) ∷ (nat_le 64 (length ss), Late) ∷ []

abbrev pub adding : List Series → Terms → Result Unit Refusal
adding ss t = checked (tests_series ss t)

abbrev pub growing : Option Refusal → List Series → Series → List Series
growing None ss s = ss ++ (s ∷ [])
growing (Some e) ss s = ss

abbrev pub added : List Series → Terms → List Series
added ss t = growing (first (tests_series ss t)) ss (record { class = t.class; kind = t.kind; strike = t.strike })

-- the series with a number; one that there is none of has no kind or strike, and nothing is asked of it
abbrev pub series_in : List Series → ℕ → Series
series_in ss s = slice_index_or ss s (record { class = 0; kind = Call; strike = 0 })

abbrev pub class_in : List Series → ℕ → ℕ
class_in ss s = (series_in ss s).class

abbrev pub terms_in : List Series → ℕ → Kind × ℕ
terms_in ss s = let x = series_in ss s in (x.kind, x.strike)

-- the maker k's quotes in the class c
abbrev pub mine_in : List Series → ℕ → ℕ → Row → Bool
mine_in ss k c r = is_mine k r.standing && class_in ss r.series == c
