use Rattle.std.proofs.Common.{◌≡◌, [], ◌∷◌, None, sym, refl, ◌∙◌, subst}
use Rattle.std.proofs.lemmas.Bool.{cond-true}
use Rattle.wire.specs.Splitting.{at_end}
use Rattle.wire.specs.Feeding.{Prints}
use Rattle.wire.proofs.feed.answer_end.Goals as goal

pub returns-in_ok-answer : goal.returns-in_ok-answer
returns-in_ok-answer g c =
    let a = c.in_ok-answer.ensures in
    let ended : None ∷ [] ≡ at_end c.args.splitter.now.passing c.args.rest.now = sym (cond-true _ _ _ (sym c.unended.ensures ∙ c.if-unended.true)) in
    (a.0, subst (λ items. Prints g.A.Answerer.answers c.args.answerer.now items c.answer.new.self a.0) ended ((c.answer.new.self, a.0), (a.0, a.1, refl), refl), a.2)
