use Rattle.std.proofs.Common.{◌≡◌, [], length, take, sym, refl, ap, ◌∙◌, subst, arith}
use Rattle.std.proofs.lemmas.List.{length-take-le}
use Rattle.std.proofs.lemmas.Result.{on_ok_weaker}
use Rattle.std.specs.Io.KnownBytes.{Appends}
use Rattle.wire.specs.Splitting.{at_end}
use Rattle.wire.specs.Feeding.{AnswersAll}
use Rattle.wire.proofs.Fed.{nothing_fed, block_fed, end_fed, too_long}
use Rattle.wire.proofs.feed.answer_blocks.Goals as goal
use Rattle.wire.proofs.feed.answer_blocks.Goals.{else-loop-test, then-loop-test+in_ok-end+then-end-held}

pub loop-init : goal.loop-init
loop-init g c = record { held = omega arith; buffer = c.requires.buffer; out = c.requires.out; none = refl; fed = nothing_fed _ _ _ _ _ c.new-splitter.ensures.fresh }

pub loop-preserved : goal.loop-preserved
loop-preserved g c = record {
  held = c.in_ok-held.ensures.short;
  buffer = omega arith;
  out = c.in_ok-write_out.ensures.1;
  none = c.in_ok-held.ensures.answers.1.none;
  fed = block_fed _ _ _ _ _ _ _ _ _ _ _ _ _ _ _ _ _ _ c.loop.invariant.fed c.in_ok-end.ensures.bytes (λ z. c.if-end-held.false (omega (arith, z, length-take-le c.in_ok-end.end c.read_more.new.buffer c.in_ok-end.ensures.within.1, length-take-le c.loop.held c.loop.buffer (omega arith)))) c.in_ok-held.ensures.answers c.loop.invariant.out c.in_ok-write_out.ensures.0;
}

pub slice_bounds-answer_end-end : goal.slice_bounds-answer_end-end
slice_bounds-answer_end-end g c = omega arith

pub slice_bounds-answer_end-end-2 : goal.slice_bounds-answer_end-end-2
slice_bounds-answer_end-end-2 g c = omega (arith, length-take-le c.loop.held c.loop-test.buffer (omega arith))

pub returns : goal.returns
returns g c =
    let Written : Type 0 = Appends (g.W.Write.contents c.loop.to) (g.W.Write.contents c.write_out-2.new.to) c.answer_end.new.out.items × (c.write_out-2.new.out.items ≡ []) in
    elim c.loop-test.branch [
      | else-loop-test w ↦ on_ok_weaker {P = Written} _ (λ h. too_long _ _ _ _ _ _ _ _ _ _ _ _ c.loop.invariant.fed w.loop-test.false) c.write_out-2.ensures
      | then-loop-test+in_ok-end+then-end-held w ↦
          let same : length (take w.in_ok-end.end w.read_more.new.buffer) ≡ length (take c.loop.held c.loop.buffer) =
          omega (arith, w.if-end-held.true, length-take-le w.in_ok-end.end w.read_more.new.buffer (omega arith), length-take-le c.loop.held c.loop.buffer (omega arith)) in
          let block : take c.loop.held c.loop-test.buffer ≡ take w.in_ok-end.end w.read_more.new.buffer =
          ap (take c.loop.held) w.buffer-is ∙ ap (λ n. take n w.read_more.new.buffer) (sym w.if-end-held.true) in
          let ended : AnswersAll g.A.Answerer.answers c.loop.answerer (at_end c.loop.splitter.passing (take w.in_ok-end.end w.read_more.new.buffer)) c.answer_end.new.answerer c.loop.out.items c.answer_end.new.out.items =
          subst (λ b. AnswersAll g.A.Answerer.answers c.loop.answerer (at_end c.loop.splitter.passing b) c.answer_end.new.answerer c.loop.out.items c.answer_end.new.out.items) block c.in_ok-answer_end.ensures in
          on_ok_weaker {P = Written} _ (λ h. end_fed _ _ _ _ _ _ _ _ _ _ _ _ _ _ _ _ c.loop.invariant.fed w.in_ok-end.ensures.bytes same c.loop.invariant.none ended c.loop.invariant.out h.0) c.write_out-2.ensures
    ]
