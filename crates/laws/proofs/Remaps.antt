-- What is known by an admission stays known as the history grows.
use Rattle.std.proofs.Common.{◌≡◌, ℕ, ◌<◌, ◌≤◌, false, leb, List, [], ◌∷◌, ◌++◌, None, Option, sym, ap, ◌∙◌, subst, inl, inr}
use Rattle.std.proofs.lemmas.Bool.{leb-true, leb-false}
use Rattle.values.specs.declared.reference.Reference.{Reference}
use Rattle.book.specs.declared.row.Trade.{Trade}
use Rattle.trading.specs.Journals.{Event, Shown, Moved, Traded, Withdrawn}
use Rattle.trading.specs.Desks.{Desk}
use Rattle.trading.specs.Doing.{desk}
use Rattle.trading.proofs.Sides.{decide}
use Rattle.trading.proofs.Faces.{Role, plain, held, quote, Face, In}
use Rattle.market.specs.States.{Making, class_of}
use Rattle.laws.specs.Histories.{History}
use Rattle.laws.specs.Admissions.{Admission, admission, party_in}
use Rattle.laws.specs.Collars.{collar_in}
use Rattle.laws.specs.Shutouts.{shut_out}
use Rattle.laws.specs.Protection.{WithinCollar, PassesIn}
use Rattle.laws.specs.Deals.{Dealt}
use Rattle.laws.specs.Moves.{MovesOn, GivenTo}
use Rattle.laws.proofs.Ledgers.{size_of, Ledger, AllFair, Collared, Welcome, Settled}

module _ (m : Making) (refs : ℕ → Reference) where
  -- what is known by the admissions, and by who may quote where
  abbrev pub ledger_by : List Event → (ℕ → Option Admission) → (ℕ → ℕ → Type 0) → Ledger
  ledger_by past admitted welcome = record {
    past = past;
    cleared = λ n p. PassesIn m refs p (admitted n);
    collar = λ n. collar_in (admitted n);
    party = λ n. party_in (admitted n);
    welcome = welcome;
  }

  -- by a history
  abbrev pub ledger_of : List Event → History → Ledger
  ledger_of past h = ledger_by past (λ n. admission n h) (λ k s. shut_out m refs k (class_of m s) h ≡ false)

  module _ (past : List Event) (ad ad' : ℕ → Option Admission) (we we' : ℕ → ℕ → Type 0) (top : ℕ) (same : (n : ℕ) → n ≤ top → ad' n ≡ ad n) (none : (n : ℕ) → top < n → ad n ≡ None) where
    abbrev before : Ledger
    before = ledger_by past ad we

    abbrev after : Ledger
    after = ledger_by past ad' we'

    bound : (n p : ℕ) → PassesIn m refs p (ad n) → n ≤ top
    bound n p x = decide (leb n top) (λ e. leb-true n top e) (λ e. absurd (subst (PassesIn m refs p) (none n (leb-false n top e)) x))

    clears : (n p : ℕ) → n ≤ top → PassesIn m refs p (ad n) → PassesIn m refs p (ad' n)
    clears n p b x = subst (PassesIn m refs p) (sym (same n b)) x

    within_map : (n p : ℕ) (j : List Event) → n ≤ top → WithinCollar (collar_in (ad n)) n p j → WithinCollar (collar_in (ad' n)) n p j
    within_map n p j b w = subst (λ (y : Option Admission). WithinCollar (collar_in y) n p j) (sym (same n b)) w

    moved_map : (n p : ℕ) (j : List Event) → n ≤ top → MovesOn (collar_in (ad n)) n p j → MovesOn (collar_in (ad' n)) n p j
    moved_map n p j b w = subst (λ (y : Option Admission). MovesOn (collar_in y) n p j) (sym (same n b)) w

    dealt_map : (t : Trade) (j : List Event) → t.taker ≤ top → t.resting ≤ top → Dealt (party_in (ad t.taker)) (party_in (ad t.resting)) t j → Dealt (party_in (ad' t.taker)) (party_in (ad' t.resting)) t j
    dealt_map t j bt br d = subst (λ (y : Option Admission). Dealt (party_in y) (party_in (ad' t.resting)) t j) (sym (same t.taker bt)) (subst (λ (y : Option Admission). Dealt (party_in (ad t.taker)) (party_in y) t j) (sym (same t.resting br)) d)

    fair_map : (j : List Event) → AllFair before j → AllFair after j
    unfolding AllFair
    fair_map [] a = tt
    fair_map (Shown i p ∷ j) a = let b = bound i p a.0.0 in ((clears i p b a.0.0, a.0.1, subst (λ (y : Option Admission). GivenTo (collar_in y) (party_in y) i p j) (sym (same i b)) a.0.2), fair_map j a.1)
    fair_map (Moved i p ∷ j) a = let b = bound i p a.0.0 in ((clears i p b a.0.0, moved_map i p j b a.0.1), fair_map j a.1)
    fair_map (Traded t ∷ j) a =
        let c = a.0.0 in
        let w = a.0.1 in
        let bt = bound t.taker t.price c.0 in
        let br = bound t.resting t.price c.1 in
        (((clears t.taker t.price bt c.0, clears t.resting t.price br c.1), (within_map t.taker t.price j bt w.0, within_map t.resting t.price j br w.1), dealt_map t j bt br a.0.2), fair_map j a.1)
    fair_map (Withdrawn w ∷ j) a = (tt, fair_map j a.1)

    collared_map : (x : Role) (f : Face) → f.number ≤ top → Collared before x f → Collared after x f
    collared_map plain f b (inl e) = inl (ap collar_in (same f.number b) ∙ e)
    collared_map plain f b (inr h) = inr (h.0, (h.1.0, (h.1.1.0, ap collar_in (same f.number b) ∙ h.1.1.1)))
    collared_map (held c) f b h = (h.0, ap collar_in (same f.number b) ∙ h.1)
    collared_map (quote k) f b h = tt

    pub remap : (d : Desk) → Settled before top d → ((f : Face) → In f d.rows → Welcome before f.role f → Welcome after f.role f) → Settled after top d
    remap d ok welcomes =
        let t = ok.1 in (
          ok.0,
          record {
            limits = t.limits;
            facts = λ f i.
                let h = t.facts f i in
                let b = (ok.0.0.numbered f i).1 in
                record {
                  clears = λ p n. clears f.number p b (h.clears p n);
                  collared = collared_map f.role f b h.collared;
                  brought = (h.brought.0, ap party_in (same f.number b) ∙ h.brought.1);
                  welcomes = welcomes f i h.welcomes;
                };
            shown = t.shown;
            kept = t.kept;
            fair = fair_map (d.journal ++ past) t.fair;
            quiet = t.quiet;
            weighs = λ n h. t.weighs n h ∙ sym (ap (λ (y : Option Admission). size_of (party_in y)) (same n h));
          },
        )

  fair_past : (past past' : List Event) (ad : ℕ → Option Admission) (we : ℕ → ℕ → Type 0) (j : List Event) → AllFair (ledger_by past ad we) j → AllFair (ledger_by past' ad we) j
  unfolding AllFair
  fair_past past past' ad we [] a = tt
  fair_past past past' ad we (Shown i p ∷ j) a = (a.0, fair_past past past' ad we j a.1)
  fair_past past past' ad we (Moved i p ∷ j) a = (a.0, fair_past past past' ad we j a.1)
  fair_past past past' ad we (Traded t ∷ j) a = (a.0, fair_past past past' ad we j a.1)
  fair_past past past' ad we (Withdrawn w ∷ j) a = (tt, fair_past past past' ad we j a.1)

  -- what a call noted becomes the past
  rebase : (past : List Event) (ad : ℕ → Option Admission) (we : ℕ → ℕ → Type 0) (top : ℕ) (d : Desk) → Settled (ledger_by past ad we) top d → Settled (ledger_by (d.journal ++ past) ad we) top (desk d.rows)
  rebase past ad we top d ok =
      let t = ok.1 in (
        ok.0,
        record {
          limits = t.limits;
          facts = λ f i.
              let h = t.facts f i in
              record { clears = h.clears; collared = collared f.role f h.collared; brought = h.brought; welcomes = welcome f.role f h.welcomes };
          shown = t.shown;
          kept = t.kept;
          fair = fair (d.journal ++ past) t.fair;
          quiet = t.quiet;
          weighs = t.weighs;
        },
      )
    where
      collared : (x : Role) (f : Face) → Collared (ledger_by past ad we) x f → Collared (ledger_by (d.journal ++ past) ad we) x f
      collared plain f h = h
      collared (held c) f h = h
      collared (quote k) f h = tt

      welcome : (x : Role) (f : Face) → Welcome (ledger_by past ad we) x f → Welcome (ledger_by (d.journal ++ past) ad we) x f
      welcome plain f h = tt
      welcome (held c) f h = tt
      welcome (quote k) f h = h

      fair : (j : List Event) → AllFair (ledger_by past ad we) j → AllFair (ledger_by (d.journal ++ past) ad we) j
      fair j a = fair_past past (d.journal ++ past) ad we j a

  pub rebase_of : (past : List Event) (h : History) (top : ℕ) (d : Desk) → Settled (ledger_of past h) top d → Settled (ledger_of (d.journal ++ past) h) top (desk d.rows)
  rebase_of past h top d ok = rebase past (λ n. admission n h) (λ k s. shut_out m refs k (class_of m s) h ≡ false) top d ok
