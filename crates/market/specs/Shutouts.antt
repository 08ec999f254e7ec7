-- Who is shut out of which class.
use Rattle.std.specs.Prelude.{ℕ, Bool, false, [], slice_index_or}
use Rattle.market.specs.declared.shutouts.Shutouts.{Shutouts}

-- the maker k is shut out of the class c
abbrev pub shut_in : Shutouts → ℕ → ℕ → Bool
shut_in x k c = slice_index_or (slice_index_or x.table k []) c false
