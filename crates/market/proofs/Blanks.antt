-- Lists and tables with one value everywhere.
use Rattle.std.proofs.Common.{◌≡◌, ℕ, zero, suc, [], get_or, replicate, refl}

-- what f reads of an element it reads of the default, so it reads that everywhere
pub blank : {A B : Type 0} (f : A → B) (n : ℕ) (x d : A) → f x ≡ f d → (k : ℕ) → f (get_or (replicate n x) k d) ≡ f d
blank f zero x d e k = refl
blank f (suc n) x d e zero = e
blank f (suc n) x d e (suc k) = blank f n x d e k

pub blanks : {A : Type 0} (n m : ℕ) (d : A) (i k : ℕ) → get_or (get_or (replicate n (replicate m d)) i []) k d ≡ d
blanks zero m d i k = refl
blanks (suc n) m d zero k = blank (λ x. x) m d d refl k
blanks (suc n) m d (suc i) k = blanks n m d i k
