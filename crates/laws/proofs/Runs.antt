-- What holds of every run: the four laws of price protection.
use Rattle.std.proofs.Common.{◌≡◌, ℕ, ◌≤◌, false, leb, List, [], ◌∷◌, ◌++◌, Some, None, sym, refl, ap, ◌∙◌, subst, arith}
use Rattle.std.proofs.lemmas.Bool.{leb-true, leb-false}
use Rattle.values.specs.declared.reference.Reference.{Reference}
use Rattle.values.specs.declared.side.Side.{Side}
use Rattle.values.specs.declared.side.Side.TheVariants.{Buy, Sell}
use Rattle.values.specs.Sides.{opposite}
use Rattle.screens.specs.Screens.{Lawful}
use Rattle.trading.specs.Journals.{Event, Traded}
use Rattle.trading.proofs.Sides.{Beyond, decide}
use Rattle.trading.proofs.Faces.{Role, plain, held, quote, Face, In}
use Rattle.market.specs.States.{Making, State, fresh, class_of}
use Rattle.laws.specs.Histories.{History, journal_of}
use Rattle.laws.specs.Runs.{Asked, run}
use Rattle.laws.specs.Admissions.{Party, admitted_in, admission, party_in, party_of}
use Rattle.laws.specs.Views.{nbbo_of, width_of, reference_of, clock_of}
use Rattle.laws.specs.Displays.{display_of, traded_of, withdrawn_of, is_named, Rests}
use Rattle.laws.specs.Shutouts.{shut_out}
use Rattle.laws.specs.Protection.{BooksNeverCross, NoQuoteOfAMakerShutOut, Protected, EveryRunProtected}
use Rattle.laws.proofs.Words.{unnamed_withdrawn}
use Rattle.laws.proofs.Sizes.{size_in_lem}
use Rattle.laws.proofs.Ledgers.{maker_of, size_of, Ledger, Fair, AllFair, Welcome}
use Rattle.laws.proofs.Remaps.{ledger_of}
use Rattle.laws.proofs.Steps.{Kept, step_kept}

-- what is fair throughout is fair at each event
pub fair_at : (L : Ledger) (later : List Event) (e : Event) (earlier : List Event) → AllFair L (later ++ (e ∷ earlier)) → Fair L e earlier
unfolding AllFair
fair_at L [] e earlier a = a.0
fair_at L (x ∷ later) e earlier a = fair_at L later e earlier a.1

module _ (m : Making) (refs : ℕ → Reference) where
  fresh_kept : Kept m refs (fresh refs) []
  unfolding nbbo_of width_of reference_of shut_out clock_of admitted_in admission journal_of AllFair display_of is_named traded_of withdrawn_of
  fresh_kept = record {
    nbbo = λ s. refl;
    reference = λ c. refl;
    width = λ s. refl;
    shut = λ k c. refl;
    clock = refl;
    next = refl;
    orderly = λ s. record { bid = refl; offer = refl; order = refl };
    none = λ n h. refl;
    settled = (
      (record { positive = tt; distinct = tt; numbered = λ f i. absurd i; apart = λ f g i j. absurd i }, λ f g i j. absurd i),
      record {
        limits = λ f i. absurd i;
        facts = λ f i. absurd i;
        shown = λ f i. absurd i;
        kept = λ f i. absurd i;
        fair = tt;
        quiet = λ n h. record { hidden = refl; unnamed = refl; untraded = refl };
        weighs = λ n h. refl;
      },
    );
  }

  pub run_kept : Lawful m.orders → Lawful m.quotes → (asked : List Asked) → Kept m refs (run m refs asked).state (run m refs asked).history
  unfolding run
  run_kept lo lq [] = fresh_kept
  run_kept lo lq (a ∷ older) = step_kept m refs (run_kept lo lq older) lo lq a.0 a.1

  module _ {st : State} {h : History} (ok : Kept m refs st h) where
    -- what rests by the history stands in the book
    pub record Stands (n : ℕ) (x : Party) : Type 0 where
      pub at : Face
      pub there : In at st.rows
      pub numbered : at.number ≡ n
      pub shown : display_of n (journal_of h) ≡ Some at.display
      pub series : x.series ≡ at.series
      pub side : x.side ≡ at.side
      pub limit : x.limit ≡ at.limit
      pub maker : x.maker ≡ maker_of at.role

    -- nobody beyond the numbers given was admitted
    pub given : (n : ℕ) (x : Party) → party_of n h ≡ Some x → n ≤ admitted_in h
    given n x e =
        decide (leb n (admitted_in h))
        (λ l. leb-true n (admitted_in h) l)
        (λ l. absurd (let a : party_of n h ≡ None = ap party_in (ok.none n (leb-false n (admitted_in h) l)) in let z : ◌≡◌ {A = ℕ} 0 1 = cc in omega arith))

    pub stands : (n : ℕ) (x : Party) → Rests n x h → Stands n x
    stands n x r =
        let w = ok.settled.1.weighs n (given n x r.admitted) in
        let z = unnamed_withdrawn n (journal_of h) r.kept in
        let s : size_of (party_of n h) ≡ x.size = ap size_of r.admitted in
        let u = r.unfilled in
        let i = size_in_lem n st.rows (omega arith) in
        let f = i.0 in
        let b = (ok.settled.1.facts f i.1).brought in
        let p : Party = record { series = f.series; side = f.side; limit = f.limit; size = b.0; maker = maker_of f.role } in
        let q : party_of n h ≡ Some p = subst (λ (y : ℕ). party_of y h ≡ Some p) i.2 b.1 in
        let same : x ≡ p = one x p (sym r.admitted ∙ q) in
        record {
          at = f;
          there = i.1;
          numbered = i.2;
          shown = subst (λ (y : ℕ). display_of y (journal_of h) ≡ Some f.display) i.2 (ok.settled.1.shown f i.1);
          series = ap (λ (y : Party). y.series) same;
          side = ap (λ (y : Party). y.side) same;
          limit = ap (λ (y : Party). y.limit) same;
          maker = ap (λ (y : Party). y.maker) same;
        }
      where
        one : (x p : Party) → Some x ≡ Some p → x ≡ p
        one x p e = cc

    uncrossed : BooksNeverCross h
    uncrossed b o x y rb ro xb yo xy =
        let u = stands b x rb in
        let v = stands o y ro in
        let buy : u.at.side ≡ Buy = sym u.side ∙ xb in
        let sell : v.at.side ≡ Sell = sym v.side ∙ yo in
        let contra : v.at.side ≡ opposite u.at.side = sell ∙ sym (ap opposite buy) in
        let apart : Beyond u.at.side v.at.display u.at.display = ok.settled.0.0.apart u.at v.at u.there v.there (sym u.series ∙ xy ∙ v.series) contra in
        (u.at.display, v.at.display, u.shown, v.shown, subst (λ (s : Side). Beyond s v.at.display u.at.display) buy apart)

    none_shut : NoQuoteOfAMakerShutOut m refs h
    none_shut n k x r e =
        let u = stands n x r in
        let w = (ok.settled.1.facts u.at u.there).welcomes in
        subst (λ (y : ℕ). shut_out m refs k (class_of m y) h ≡ false) (sym u.series) (welcome u.at.role u.at (sym u.maker ∙ e) w)
      where
        welcome : (s : Role) (f : Face) → maker_of s ≡ Some k → Welcome (ledger_of m refs (journal_of h) h) s f → shut_out m refs k (class_of m f.series) h ≡ false
        welcome plain f e w = absurd (let q : ◌≡◌ {A = ℕ} 0 1 = cc in omega arith)
        welcome (held c) f e w = absurd (let q : ◌≡◌ {A = ℕ} 0 1 = cc in omega arith)
        welcome (quote i) f e w = let q : i ≡ k = cc in subst (λ (y : ℕ). shut_out m refs y (class_of m f.series) h ≡ false) q w

    pub fair_event : (e : Event) (later earlier : List Event) → journal_of h ≡ later ++ (e ∷ earlier) → Fair (ledger_of m refs (journal_of h) h) e earlier
    fair_event e later earlier is = fair_at (ledger_of m refs (journal_of h) h) later e earlier (subst (AllFair (ledger_of m refs (journal_of h) h)) is ok.settled.1.fair)

    pub protected : Protected m refs h
    protected = record {
      trades_pass_their_screens = λ t earlier b. (fair_event (Traded t) b.0 earlier b.1).0;
      trades_stay_within_the_collar = λ t earlier b. (fair_event (Traded t) b.0 earlier b.1).1;
      books_never_cross = uncrossed;
      no_quote_of_a_maker_shut_out = none_shut;
    }

pub every_run_protected : EveryRunProtected
every_run_protected m refs lo lq asked = protected m refs (run_kept m refs lo lq asked)
