-- Operations that go by the rows alone, and note their trades after the journal so far: done one after another in the code, they do what
-- the definitions say.
use Rattle.std.proofs.Common.{◌≡◌, Bool, true, false, cond, List, ◌++◌, sym, refl, ap, ◌∙◌, subst, append_assoc, append-nil}
use Rattle.std.specs.Borrow.{MutBor}
use Rattle.rolls.specs.declared.roll.Roll.{Roll}
use Rattle.rolls.specs.Rolls.{Gains}
use Rattle.rolls.proofs.Gaining.{gains_nothing, gains_then}
use Rattle.book.specs.declared.book.Book.{Book}
use Rattle.book.specs.declared.row.Row.{Row}
use Rattle.book.specs.declared.row.Trade.{Trade}
use Rattle.book.specs.Books.{rows}
use Rattle.trading.specs.Journals.{trades_of}
use Rattle.trading.specs.Desks.{Desk}
use Rattle.trading.specs.Doing.{desk, Trading}
use Rattle.trading.specs.Pits.{Dealing}

abbrev pub Adds : (Desk → Desk) → Type 0
Adds f = (d : Desk) → ((f d).rows ≡ (f (desk d.rows)).rows) × (trades_of (f d).journal ≡ trades_of d.journal ++ trades_of (f (desk d.rows)).journal)

pub adds_nothing : Adds (λ d. d)
adds_nothing d = (refl, sym (append-nil (trades_of d.journal)))

pub adds_if : (b : Bool) (f : Desk → Desk) → Adds f → Adds (λ d. cond b (f d) d)
adds_if true f a = a
adds_if false f a = adds_nothing

pub adds_then : (f g : Desk → Desk) → Adds f → Adds g → Adds (λ d. g (f d))
adds_then f g a b d =
    let x = f d in
    let y = f (desk d.rows) in
    let same : g (desk x.rows) ≡ g (desk y.rows) = ap (λ (rs : List Row). g (desk rs)) (a d).0 in (
      (b x).0 ∙ ap (λ (z : Desk). z.rows) same ∙ sym (b y).0,
      (b x).1
          ∙ (λ i. (a d).1 i ++ trades_of (same i).journal)
          ∙ append_assoc (trades_of d.journal) (trades_of y.journal) (trades_of (g (desk y.rows)).journal)
          ∙ ap (λ (ts : List Trade). trades_of d.journal ++ ts) (sym (b y).1),
    )

pub trading_then : (f : Desk → Desk) → Adds f → (d : Desk) (mid after : List Row) (roll₀ roll₁ roll : Roll Trade) → Trading mid roll₀ roll₁ d → Trading after roll₁ roll (f (desk mid)) → Trading after roll₀ roll (f d)
trading_then f adds d mid after roll₀ roll₁ roll p q = record {
  rests = q.rests ∙ ap (λ (rs : List Row). (f (desk rs)).rows) p.rests ∙ sym (adds d).0;
  gains = subst (Gains roll₀ roll) (sym ((adds d).1 ∙ ap (λ (rs : List Row). trades_of d.journal ++ trades_of (f (desk rs)).journal) (sym p.rests))) (gains_then roll₀ roll₁ roll _ _ p.gains q.gains);
}

-- ---- in a pit

pub deals_nothing : (book : MutBor Book) (roll : MutBor (Roll Trade)) → Dealing book book roll roll (desk (rows book.now))
deals_nothing book roll = record { did = record { rests = refl; gains = gains_nothing roll.now }; same_book = refl; same_roll = refl }

pub deals_then : (f : Desk → Desk) → Adds f → (d : Desk) {book₀ book₁ book : MutBor Book} {roll₀ roll₁ roll : MutBor (Roll Trade)} → Dealing book₀ book₁ roll₀ roll₁ d → Dealing book₁ book roll₁ roll (f (desk (rows book₁.now))) → Dealing book₀ book roll₀ roll (f d)
deals_then f adds d p q = record {
  did = trading_then f adds d _ _ _ _ _ p.did q.did;
  same_book = q.same_book ∙ p.same_book;
  same_roll = q.same_roll ∙ p.same_roll;
}
