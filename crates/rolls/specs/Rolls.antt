-- What a roll holds, how much room it has, and what it gains.
use Rattle.std.specs.Prelude.{ℕ, List}
use Rattle.rolls.specs.Slots.{held, spare, Extends}
use Rattle.rolls.specs.declared.roll.Roll.{Roll}

-- the rows added so far, the first one first
abbrev pub filled : {T : Type 0} → Roll T → List T
filled r = held r.slots

-- how many rows may still be added
abbrev pub room : {T : Type 0} → Roll T → ℕ
room r = spare r.slots

-- all that a roll gains: the rows added stand behind those that it had, its room shrinks by as many, no row past them is written, and
-- it is still over the same rows
abbrev pub Gains : {T : Type 0} → Roll T → Roll T → List T → Type 0
Gains before after added = Extends before.slots after.slots added
