use Rattle.std.proofs.Common.{◌≡◌, ℕ, ◌-◌, min, [], ◌∷◌, None, reverse, sym, ap, ◌∙◌, subst, arith}
use Rattle.std.proofs.lemmas.Bool.{ltb-true}
use Rattle.rolls.specs.Rolls.{Gains}
use Rattle.book.specs.declared.row.Trade.{Trade}
use Rattle.book.specs.Books.{rows}
use Rattle.book.specs.Rows.{sized, settle}
use Rattle.book.specs.Trades.{trade_with}
use Rattle.book.specs.Taking.{in_reach, take}
use Rattle.book.proofs.Takes.{Underway, fill, take_nothing, take_none, underway_more, underway_end}
use Rattle.book.proofs.Tied.{found_every, found_less}
use Rattle.book.proofs.book.Book.take.Goals as goal

pub push-requires : goal.push-requires
push-requires c =
    let rs = rows c.loop-left.self in
    let some = found_less (in_reach c.args.taker) rs c.in-Some.best (sym c.in-Some.ensures) in
    omega (arith, some, c.loop-left.invariant.places (omega arith))

pub loop-left-smaller : goal.loop-left-smaller
loop-left-smaller c =
    let b = c.in-Some.best in
    let some = ltb-true 0 b.size (found_every sized (in_reach c.args.taker) (rows c.loop-left.self) b c.loop-left.self.resting.sound.2 (sym c.in-Some.ensures)) in
    omega (arith, some, c.min-traded.ensures)

pub loop-left-preserved : goal.loop-left-preserved
loop-left-preserved c =
    let t = c.args.taker in
    let n = c.loop-left.left in
    let b = c.in-Some.best in
    let rs = rows c.loop-left.self in
    let is : c.min-traded.result ≡ min n b.size = c.min-traded.ensures in
    let rs₀ = rows c.args.self.now in
    subst (λ (k : ℕ). Underway c.args.due t c.args.size rs₀ c.args.trades.now (n - k) (rows c.settle.new.self) c.push.new.self) (sym is)
    (underway_more c.args.due t c.args.size rs₀ c.args.trades.now n rs c.loop-left.trades c.loop-left.invariant b (rows c.settle.new.self) c.push.new.self (omega arith) c.loop-left.self.resting.sound (sym c.in-Some.ensures)
    (subst (λ (e : Trade). Gains c.loop-left.trades c.push.new.self (e ∷ [])) (c.trade_with.ensures ∙ ap (λ (k : ℕ). trade_with t k b) is) c.push.ensures)
    (c.settle.ensures ∙ ap (λ (k : ℕ). settle c.args.due k b.number rs) is))

pub returns-after-loop-left : goal.returns-after-loop-left
returns-after-loop-left c =
    let t = c.args.taker in
    let rs = rows c.loop-left.self in
    let u = c.loop-left.invariant in
    let none : c.loop-left.left ≡ 0 = omega arith in
    underway_end c.args.due t c.args.size (rows c.args.self.now) c.args.trades.now c.loop-left.left rs c.loop-left.trades u c.args.self.now.resting.sound
    (subst (λ (k : ℕ). take c.args.due t k rs (reverse u.added) ≡ fill k rs (reverse u.added)) (sym none) (take_nothing c.args.due t rs (reverse u.added)))

pub returns-in-loop-left : goal.returns-in-loop-left
returns-in-loop-left c =
    let t = c.args.taker in
    let rs = rows c.loop-left.self in
    let u = c.loop-left.invariant in
    let none : c.best_in_reach.result ≡ None = cc in
    underway_end c.args.due t c.args.size (rows c.args.self.now) c.args.trades.now c.loop-left.left rs c.loop-left.trades u c.args.self.now.resting.sound
    (take_none c.args.due t c.loop-left.left rs (reverse u.added) (sym c.best_in_reach.ensures ∙ none))
