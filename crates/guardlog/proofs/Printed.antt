-- Lines that are printed one after another.
use Rattle.std.proofs.Common.{◌≡◌, ℕ, List, [], ◌∷◌, ◌++◌, codes, ap, ◌∙◌, append_assoc, append-nil}
use Rattle.std.proofs.lemmas.Grind.{flat_map-append}
use Rattle.guardlog.specs.Printing.{printed_lines}

pub all_printed : (ts ws : List (List ℕ)) (a out out1 out2 out3 : List ℕ) → out1 ≡ out ++ printed_lines ts → out2 ≡ out1 ++ printed_lines ws → out3 ≡ out2 ++ (a ++ codes "\n") → out3 ≡ out ++ printed_lines (ts ++ ws ++ a ∷ [])
all_printed ts ws a out out1 out2 out3 p q r =
    r
    ∙ ap (λ l. l ++ (a ++ codes "\n")) (q ∙ ap (λ l. l ++ printed_lines ws) p)
    ∙ simp (append_assoc, append-nil, flat_map-append)
