use Rattle.std.proofs.Common.{◌≡◌, ℕ, List, ◌++◌, Some, sym, refl, ap, subst, inl, inr}
use Rattle.std.specs.Option.{option_copied}
use Rattle.wire.specs.Splitting.{Item}
use Rattle.relines.specs.Answers.{Answers, Says, word}
use Rattle.relines.proofs.RewriterAnswerer.answer.Goals as goal

-- the text that a line added
said : (item : Item) (line out after : List ℕ) → item ≡ Some line → Answers line out after → (text : List ℕ) × Says item text × (after ≡ out ++ text)
said item line out after is (inl (good, e)) = (line, subst (λ i. Says i line) (sym is) (inl (good, refl)), e)
said item line out after is (inr (bad, e)) = (word, subst (λ i. Says i word) (sym is) (inr (bad, refl)), e)

pub returns-in_ok-answer-in-Some : goal.returns-in_ok-answer-in-Some
returns-in_ok-answer-in-Some c = said _ c.in-Some.line.now _ _ (ap option_copied c.in-Some.is) c.in_ok-answer-in-Some.ensures
