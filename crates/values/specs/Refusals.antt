-- The number and the word of each refusal.
use Rattle.std.specs.Prelude.{ℕ, List, codes}
use Rattle.values.specs.declared.refusal.Cause.{Cause}
use Rattle.values.specs.declared.refusal.Cause.TheVariants.{Through, Benchmark, Intrinsic}
use Rattle.values.specs.declared.refusal.Refusal.{Refusal}
use Rattle.values.specs.declared.refusal.Refusal.TheVariants.{Shape, Rows, Name, Price, Size, Crossed, Clock, Unknown, Dead, Same, Spent, Full, NoMarket, Shut, Late, Screen}

abbrev pub cause_number : Cause → ℕ
cause_number Through = 21
cause_number Benchmark = 22
cause_number Intrinsic = 23

abbrev pub cause_word : Cause → List ℕ
cause_word Through = codes "through"
cause_word Benchmark = codes "benchmark"
cause_word Intrinsic = codes "intrinsic"

abbrev pub number : Refusal → ℕ
number Shape = 1
number Rows = 2
number Name = 3
number Price = 4
number Size = 5
number Crossed = 6
number Clock = 7
number Unknown = 8
number Dead = 9
number Same = 10
number Spent = 11
number Full = 12
number NoMarket = 13
number Shut = 14
number Late = 15
number (Screen c) = cause_number c

-- as the bytes of its letters
abbrev pub word : Refusal → List ℕ
word Shape = codes "shape"
word Rows = codes "rows"
word Name = codes "name"
word Price = codes "price"
word Size = codes "size"
word Crossed = codes "crossed"
word Clock = codes "clock"
word Unknown = codes "unknown"
word Dead = codes "dead"
word Same = codes "same"
word Spent = codes "spent"
word Full = codes "full"
word NoMarket = codes "nomarket"
word Shut = codes "shut"
word Late = codes "late"
word (Screen c) = cause_word c
