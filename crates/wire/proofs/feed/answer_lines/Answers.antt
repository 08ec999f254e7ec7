use Rattle.std.proofs.Common.{◌≡◌, List, [], ◌∷◌, sym, refl, ap, ◌∙◌, subst}
use Rattle.std.specs.Option.{option_copied}
use Rattle.wire.specs.Splitting.{Item, newline_at, items, answers}
use Rattle.wire.specs.Feeding.{AnswersBlock}
use Rattle.wire.proofs.Fed.{nothing_yet, one_more, done, left_ends, ends_at}
use Rattle.wire.proofs.feed.answer_lines.Goals as goal
use Rattle.wire.proofs.feed.answer_lines.Goals.{in-Whole, in-Long}

pub loop-line-init : goal.loop-line-init
loop-line-init g c = record { last = (0, refl); far = nothing_yet _ _ _ _ _ }

pub loop-line-preserved : goal.loop-line-preserved
loop-line-preserved g c =
    let rest = c.loop-line.rest.now in
    let taken : ◌≡◌ {A = List Item} (option_copied c.match-piece.line ∷ []) (items c.loop-line.splitter.passing rest (newline_at rest)) =
    elim c.match-piece.branch [
      | in-Whole w ↦ ap (λ line. option_copied line ∷ []) w.line-is ∙ sym (ap answers w.in-Whole.is) ∙ c.next.ensures.answers
      | in-Long w ↦ ap (λ line. option_copied line ∷ []) w.line-is ∙ sym (ap answers w.in-Long.is) ∙ c.next.ensures.answers
    ] in
    record {
      last = left_ends c.loop-line.splitter.passing c.loop-line.rest.now _ _ c.next.ensures.left c.loop-line.invariant.last;
      far = one_more _ _ _ _ _ _ _ _ _ c.loop-line.invariant.far _ _ _ _ _ taken c.next.ensures.passing c.next.ensures.left c.in_ok-answer.ensures;
    }

pub returns-in-Unended-clause-answers : goal.returns-in-Unended-clause-answers
returns-in-Unended-clause-answers g c =
    let taken : ◌≡◌ {A = List Item} [] _ = sym (ap answers c.in-Unended.is) ∙ c.next.ensures.answers in
    let last = left_ends c.loop-line.splitter.passing c.loop-line.rest.now _ _ c.next.ensures.left c.loop-line.invariant.last in
    subst (λ l. AnswersBlock g.A.Answerer.answers c.args.answerer.now c.loop-line.answerer c.args.splitter.now.passing c.next.new.self.passing c.args.block.now l c.args.out.now.items c.loop-line.out.items) (ends_at _ _ last) (done _ _ _ _ _ _ _ _ _ c.loop-line.invariant.far _ _ taken c.next.ensures.passing c.next.ensures.left)
