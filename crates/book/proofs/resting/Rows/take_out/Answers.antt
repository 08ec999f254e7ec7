use Rattle.std.proofs.Common.{sym, subst, arith}
use Rattle.book.specs.Listings.{ranked}
use Rattle.book.specs.Rows.{Sound}
use Rattle.book.proofs.Sound.{sound_remove}
use Rattle.book.proofs.resting.Rows.take_out.Goals as goal

pub invariant_of-self : goal.invariant_of-self
invariant_of-self c =
    let b = c.args.self.now in
    record { few = omega arith; whole = omega arith; sound = subst Sound (sym c.close_place.ensures.front) (sound_remove c.args.at (ranked b) b.sound) }
