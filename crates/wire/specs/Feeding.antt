-- Feeding an input to what answers its lines.
use Rattle.std.specs.Prelude.{◌≡◌, ℕ, ◌-◌, ◌^◌, ◌<◌, Bool, List, [], ◌++◌, length, None, Option, IfSome}
use Rattle.std.specs.Io.KnownBytes.{Appends, Consumes, IsAtEnd}
use Rattle.std.specs.List.{FoldsTo}
use Rattle.wire.specs.Splitting.{Item, newline_at, lines, pending}

-- an item is answered, and the text of its answer is added; `answers` says what may be answered, and what the answerer becomes
abbrev pub Adds : {S : Type 0} → (S → Item → S → List ℕ → Type 0) → S × List ℕ → Item → S × List ℕ → Type 0
Adds answers p item q = (text : List ℕ) × answers p.0 item q.0 text × (q.1 ≡ p.1 ++ text)

-- the items are answered, each once and in order, by `text` in all
abbrev pub Prints : {S : Type 0} → (S → Item → S → List ℕ → Type 0) → S → List Item → S → List ℕ → Type 0
Prints answers s items s' text = FoldsTo (Adds answers) (s, []) items (s', text)

-- what a splitter takes off a block: items, and then what is left, in which no line ends
pub record Cuts (passing : Bool) (block : List ℕ) (items : List Item) (passing' : Bool) (rest : List ℕ) : Type 0 where
  pub took : (later : List ℕ) → pending passing (block ++ later) ≡ items ++ pending passing' (rest ++ later)
  pub none : newline_at rest ≡ None

-- the items are answered, and the text added to what `out` holds
abbrev pub AnswersAll : {S : Type 0} → (S → Item → S → List ℕ → Type 0) → S → List Item → S → List ℕ → List ℕ → Type 0
AnswersAll answers s items s' out out' = (text : List ℕ) × Prints answers s items s' text × (out' ≡ out ++ text)

-- a block's items are cut off and answered
abbrev pub AnswersBlock : {S : Type 0} → (S → Item → S → List ℕ → Type 0) → S → S → Bool → Bool → List ℕ → List ℕ → List ℕ → List ℕ → Type 0
AnswersBlock answers s s' passing passing' block rest out out' =
    (items : List Item) × Cuts passing block items passing' rest × AnswersAll answers s items s' out out'

-- more input stands after what was held; nothing more only at its end
abbrev pub ReadsMore : Option (List ℕ) → Option (List ℕ) → List ℕ → List ℕ → Type 0
ReadsMore unread unread' held block =
    (bytes : List ℕ) × (block ≡ held ++ bytes) × Consumes unread unread' bytes × (bytes ≡ [] → IsAtEnd unread')

-- of an input whose bytes are known, fewer than a 64-bit number counts, all lines are answered, and the answers are written
abbrev pub AnswersInput : {S : Type 0} → (S → Item → S → List ℕ → Type 0) → S → S → Option (List ℕ) → Option (List ℕ) → Option (List ℕ) → Type 0
AnswersInput answers s s' unread before after =
    IfSome unread (λ input. length input < 2 ^ 64 - 1 → (text : List ℕ) × Prints answers s (lines input) s' text × Appends before after text)
