-- Lists of anything: searches, insertions and pairs, each by a test.
use Rattle.std.specs.Prelude.{Bool, true, false, cond, ◌&&◌, List, [], ◌∷◌, Some, None, Option}

abbrev pub or_else : {X : Type 0} → Bool → X → Option X → Option X
or_else true x o = Some x
or_else false x o = o

-- the first element that passes
unfoldable pub found : {X : Type 0} → (X → Bool) → List X → Option X
found p [] = None
found p (x ∷ xs) = or_else (p x) x (found p xs)

-- y put before the first element that passes, or at the end
unfoldable pub placed : {X : Type 0} → (X → Bool) → X → List X → List X
placed p y [] = y ∷ []
placed p y (x ∷ xs) = cond (p x) (y ∷ (x ∷ xs)) (x ∷ placed p y xs)

-- the elements that do not pass
unfoldable pub lacking : {X : Type 0} → (X → Bool) → List X → List X
lacking p [] = []
lacking p (x ∷ xs) = cond (p x) (lacking p xs) (x ∷ lacking p xs)

abbrev pub every : {X : Type 0} → (X → Bool) → List X → Bool
every p [] = true
every p (x ∷ xs) = p x && every p xs

-- r holds between each element and each later one
abbrev pub pairwise : {X : Type 0} → (X → X → Bool) → List X → Bool
pairwise r [] = true
pairwise r (x ∷ xs) = every (r x) xs && pairwise r xs

-- the first element
abbrev pub head : {X : Type 0} → List X → Option X
head [] = None
head (x ∷ xs) = Some x
