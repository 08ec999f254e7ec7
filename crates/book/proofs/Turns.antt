-- What the due list keeps, through each change of it.
use Rattle.std.proofs.Common.{◌≡◌, ℕ, true, List}
use Rattle.std.specs.List.{insert, remove}
use Rattle.std.specs.List.Sorted.{IsPartitionedBy}
use Rattle.book.specs.Lists.{every}
use Rattle.book.specs.Dues.{sooner, distinct, owed, InTurn, entered}
use Rattle.book.specs.declared.row.Due.{Due}
use Rattle.book.proofs.Keeps.{single, pairwise_weaker, pairwise_remove, pairwise_joined, pairwise_placed}
use Rattle.book.proofs.Searches.{PartedAt, partitioned, placed_at}
use Rattle.book.proofs.Orders.{sooner_trans, sooner_total, sooner_strict, distinct_back, distinct_single}

pub turns_entered : (due : Due) (ds : List Due) → every (distinct due) ds ≡ true → InTurn ds → InTurn (entered due ds)
turns_entered due ds unused s = (
  pairwise_placed (sooner due) sooner (distinct due) due (λ x d h. sooner_total due x d h) (λ x h. h) (λ x z h k. sooner_trans due x z h k) ds unused s.0,
  pairwise_joined (sooner due) distinct due (λ x h. distinct_back due x h) ds unused s.1,
)

pub turns_remove : (i : ℕ) (ds : List Due) → InTurn ds → InTurn (remove ds i)
turns_remove i ds s = (pairwise_remove sooner ds i s.0, pairwise_remove distinct ds i s.1)

-- the entries that are sooner than an entry stand before the others
pub partitioned_turn : (due : Due) (ds : List Due) → InTurn ds → IsPartitionedBy (λ d. sooner d due) ds
partitioned_turn due ds s = partitioned sooner (λ d. sooner d due) (λ a b h k. sooner_trans a b due h k) ds s.0

pub placed_turn : (due : Due) (ds : List Due) (i : ℕ) → every (distinct due) ds ≡ true → PartedAt (λ d. sooner d due) ds i → insert ds i due ≡ entered due ds
placed_turn due ds i unused h =
    placed_at sooner (distinct due) due (λ d k. sooner_strict d due k) (λ d g k. sooner_total d due (distinct_back due d g) k) ds i unused h

pub single_owed : (n : ℕ) (ds : List Due) → InTurn ds → single (owed n) ds ≡ true
single_owed n ds s = pairwise_weaker (λ a b h. distinct_single n a b h) ds s.1
