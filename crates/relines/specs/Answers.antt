-- What relines answers to a line.
use Rattle.std.specs.Prelude.{◌≡◌, ℕ, ◌⊎◌, List, ◌++◌, Some, None, codes}
use Rattle.wire.specs.Splitting.{Item}
use Rattle.wire_format.specs.RoundTrips.{IsLine}

-- the word for a broken line
abbrev pub word : List ℕ
word = codes "shape\n"

-- to a good line its own bytes, to any other the word
abbrev pub Answers : List ℕ → List ℕ → List ℕ → Type 0
Answers line out after = (IsLine line × (after ≡ out ++ line)) ⊎ ((IsLine line → ⊥) × (after ≡ out ++ word))

-- the text alone; to a line that is broken whatever its bytes, the word
abbrev pub Says : Item → List ℕ → Type 0
Says (Some line) text = (IsLine line × (text ≡ line)) ⊎ ((IsLine line → ⊥) × (text ≡ word))
Says None text = text ≡ word
