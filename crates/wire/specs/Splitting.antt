-- Cutting input into lines: a line ends with its newline (10), and one of more than 80 bytes is too long.
use Rattle.std.specs.Prelude.{◌≡◌, ℕ, ◌+◌, ◌<◌, ◌≤◌, Bool, true, false, ◌||◌, List, [], ◌∷◌, ◌++◌, length, position, take, drop, Some, None, Option, ◌==◌, nat_le, nat_lt, if◌then◌else◌}
use Rattle.wire.specs.declared.split.Piece.{Piece}
use Rattle.wire.specs.declared.split.Piece.TheVariants.{Whole, Long, Unended}

-- a line as it is answered: its bytes, to be read; or nothing, where it is broken
abbrev pub Item : Type 0
Item = Option (List ℕ)

-- the lines of an input
-- of a line that its newline ends
abbrev pub ended : List ℕ → Item
ended l = if nat_le (length l) 80 then Some l else None

-- at the end of the input: a line without a newline is broken, and nothing after a newline is no line
abbrev pub unended : List ℕ → List Item
unended [] = []
unended (b ∷ l) = None ∷ []

-- the lines of an input, where `begun` has come of the first already
abbrev pub lines_from : List ℕ → List ℕ → List Item
lines_from begun [] = unended begun
lines_from begun (b ∷ s) = if b == 10 then ended (begun ++ (b ∷ [])) ∷ lines_from [] s else lines_from (begun ++ (b ∷ [])) s

abbrev pub lines : List ℕ → List Item
lines input = lines_from [] input

-- the lines still to come, where s follows; of one that is too long already, its newline and what comes after
abbrev pub pending : Bool → List ℕ → List Item
pending false s = lines s
pending true [] = None ∷ []
pending true (b ∷ s) = if b == 10 then None ∷ lines s else pending true s

-- one step over a block of input; `passing` says that a line has begun that is too long already
-- where the first newline stands
abbrev pub newline_at : List ℕ → Option ℕ
newline_at s = position (λ b. b == 10) s

-- the items that the step answers
abbrev pub items : Bool → List ℕ → Option ℕ → List Item
items passing s (Some at) = (if passing then None else ended (take (at + 1) s)) ∷ []
items passing s None = []

-- the bytes that are left, to stand before the input that comes next: a line that is too long is not kept
abbrev pub left : Bool → List ℕ → Option ℕ → List ℕ
left passing s (Some at) = drop (at + 1) s
left passing s None = if passing || nat_le 80 (length s) then [] else s

-- whether a line that is too long goes on
abbrev pub goes_on : Bool → List ℕ → Option ℕ → Bool
goes_on passing s (Some at) = false
goes_on passing s None = passing || nat_le 80 (length s)

-- what a piece answers
abbrev pub answers : Piece → List Item
answers (Whole l) = Some l.now ∷ []
answers Long = None ∷ []
answers Unended = []

-- what is left is shorter where a line has ended, and short enough for a line where none has
abbrev pub Onward : Piece → List ℕ → List ℕ → Type 0
Onward (Whole l) rest s = length rest < length s
Onward Long rest s = length rest < length s
Onward Unended rest s = (length rest ≤ length s) × (length rest < 80)

-- the end of the input, where s is left
abbrev pub at_end : Bool → List ℕ → List Item
at_end passing s = if passing || nat_lt 0 (length s) then None ∷ [] else []

-- a run of a splitter: input comes a block at a time, and steps are made in between
pub data Move : Type 0 where
  feed : List ℕ → Move
  step : Move

-- the input of a run
abbrev pub input : List Move → List ℕ
input [] = []
input (feed block ∷ moves) = block ++ input moves
input (step ∷ moves) = input moves

-- all that a run answers, from a splitter before which s stands, to the end of the input
abbrev pub answered : List Move → Bool → List ℕ → List Item
answered [] passing s = at_end passing s
answered (feed block ∷ moves) passing s = answered moves passing (s ++ block)
answered (step ∷ moves) passing s = items passing s (newline_at s) ++ answered moves (goes_on passing s (newline_at s)) (left passing s (newline_at s))

-- the run goes on until no newline is left
abbrev pub Spent : List Move → Bool → List ℕ → Type 0
Spent [] passing s = newline_at s ≡ None
Spent (feed block ∷ moves) passing s = Spent moves passing (s ++ block)
Spent (step ∷ moves) passing s = Spent moves (goes_on passing s (newline_at s)) (left passing s (newline_at s))

-- however the input comes, its lines are answered, each once and in order
abbrev pub AnswersTheLines : Bool → Type 0
AnswersTheLines passing = (moves : List Move) → Spent moves passing [] → answered moves passing [] ≡ lines (input moves)

-- how many bytes are kept of the last `count` before `end`
abbrev pub kept : List ℕ → ℕ → ℕ → ℕ
kept buffer end count = if nat_le end (length buffer) then (if nat_le count end then count else 0) else 0
