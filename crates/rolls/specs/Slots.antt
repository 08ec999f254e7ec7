-- What lent rows hold, and what it is to add to them.
use Rattle.std.specs.Prelude.{◌≡◌, ℕ, ◌+◌, ◌-◌, ◌≤◌, List, ◌++◌, length, take, drop}
use Rattle.rolls.specs.declared.slots.Slots.{Slots}

-- the rows filled so far
abbrev pub held : {T : Type 0} → Slots T → List T
held s = take s.count s.lent.now

-- how many rows are left to fill
abbrev pub spare : {T : Type 0} → Slots T → ℕ
spare s = length s.lent.now - s.count

-- no more rows are filled than there are
abbrev pub Within : {T : Type 0} → Slots T → Type 0
Within s = s.count ≤ length s.lent.now

-- `added` stands behind what was filled before, no other row was written, and the rows are the same memory
pub record Extends {T : Type 0} (before after : Slots T) (added : List T) : Type 0 where
  pub rows : held after ≡ held before ++ added
  pub count : after.count ≡ before.count + length added
  pub rest : drop after.count after.lent.now ≡ drop after.count before.lent.now
  pub size : length after.lent.now ≡ length before.lent.now
  pub place : after.lent.ghost_name ≡ before.lent.ghost_name
