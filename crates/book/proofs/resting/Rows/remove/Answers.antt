use Rattle.std.proofs.Common.{sym, ◌∙◌}
use Rattle.book.specs.Listings.{ranked}
use Rattle.book.specs.Rows.{numbered}
use Rattle.book.proofs.Keeps.{found_none, lacking_none}
use Rattle.book.proofs.Searches.{first_at, none_at, found_at, lacking_at}
use Rattle.book.proofs.Sound.{single_number}
use Rattle.book.proofs.resting.Rows.remove.Goals as goal

pub returns-in_err-at : goal.returns-in_err-at
returns-in_err-at c =
    let n = c.args.number in
    let rs = ranked c.args.self.now in
    let none = none_at (numbered n) rs (sym c.in_err-at.ensures) in
    record { answer = c.from_residual.ensures ∙ sym (found_none (numbered n) rs none); after = sym (lacking_none (numbered n) rs none) }

pub returns : goal.returns
returns c =
    let n = c.args.number in
    let b = c.args.self.now in
    let rs = ranked b in
    let at = c.in_ok-at.at in
    let first = first_at (numbered n) rs at (sym c.in_ok-at.ensures) in
    record {
      answer = rw c.rows.ensures (sym (found_at (numbered n) rs at _ first));
      after = c.take_out.ensures ∙ lacking_at (numbered n) rs at (single_number n rs b.sound) first;
    }
