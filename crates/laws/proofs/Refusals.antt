-- A refused call gives no trade, uses no number and leaves no trace.
use Rattle.std.proofs.Common.{◌≡◌, ℕ, suc, ◌<◌, Bool, true, false, not, ◌&&◌, eqb, ◌⊎◌, List, [], ◌∷◌, ◌++◌, length, is_some, Some, None, Ok, Err, sym, refl, ap, ◌∙◌, subst, inl, inr, ⊎_elim, arith}
use mathlib.Core.Path.{fun_ext}
use Rattle.std.proofs.lemmas.Bool.{eqb-true, eq-eqb, and_parts, not-true}
use Rattle.values.specs.declared.call.Call.{Call}
use Rattle.values.specs.declared.call.Call.TheVariants as call
use Rattle.values.specs.declared.call.Quote.{Quote}
use Rattle.values.specs.declared.reference.Reference.{Reference}
use Rattle.values.specs.declared.refusal.Cause.{Cause}
use Rattle.values.specs.declared.refusal.Refusal.{Refusal}
use Rattle.values.specs.declared.refusal.Refusal.TheVariants.{Screen}
use Rattle.book.specs.declared.row.Row.{Row}
use Rattle.trading.specs.Desks.{Desk, pull}
use Rattle.trading.specs.Doing.{desk}
use Rattle.trading.proofs.Sides.{clash}
use Rattle.market.specs.States.{Making, State, Room, Outcome, class_of, set_shut}
use Rattle.market.specs.Tests.{on_side, in_class}
use Rattle.market.specs.Calls.{refuse, step}
use Rattle.laws.specs.Histories.{Entry, History}
use Rattle.laws.specs.Runs.{Asked, entry_of, run}
use Rattle.laws.specs.Admissions.{is_taken, brought_by, admits, is_admission, admitted_in}
use Rattle.laws.specs.Shutouts.{is_screened, shut_after, shut_out}
use Rattle.laws.specs.Refusals.{is_quote, is_moot, Withdrawals, EveryRunRefusesIdly, latest, Traceless, EveryRefusalLeavesNoTrace}
use Rattle.laws.proofs.Keeping.{pull_keeps}
use Rattle.laws.proofs.Outcomes.{Came, refused, order_taken, quote_taken, side_pulled, class_pulled, came}
use Rattle.laws.proofs.Notes.{pulled_alone}
use Rattle.laws.proofs.Steps.{Kept, step_kept}
use Rattle.laws.proofs.Runs.{run_kept}
use Rattle.laws.proofs.Entries.{each_made}

-- ---- what a refused call leaves of the state: all but the rows that it withdrew and whom it shut out

pub record Reduced (st : State) (o : Outcome) : Type 0 where
  pub same : o.next ≡ record { nbbo = st.nbbo; reference = st.reference; width = st.width; shut = o.next.shut; rows = o.next.rows; clock = st.clock; next = st.next }
  pub rows : o.journal ≡ [] → o.next.rows ≡ st.rows

-- a withdrawal leaves the desk as it is, or notes something
pull_notes : (p : Row → Bool) (d : Desk) → (pull p d ≡ d) ⊎ (length d.journal < length (pull p d).journal)
pull_notes p d =
    pull_keeps (λ x. (x ≡ d) ⊎ (length d.journal < length x.journal)) p
    (λ x r has z h. ⊎_elim (λ e. let n : length x.journal ≡ length d.journal = ap (λ (y : Desk). length y.journal) e in inr (omega arith)) (λ l. inr (omega arith)) h)
    d (inl refl)

pull_still : (p : Row → Bool) (d : Desk) → d.journal ≡ [] → (pull p d).journal ≡ [] → (pull p d).rows ≡ d.rows
pull_still p d e g =
    ⊎_elim
    (λ z. ap (λ (y : Desk). y.rows) z)
    (λ l. absurd (let x : length (pull p d).journal ≡ 0 = ap length g in omega arith))
    (pull_notes p d)

-- what a call comes to, where it is refused
pub record Idly (st : State) (a : Asked) (o : Outcome) : Type 0 where
  pub moot : is_moot (entry_of a o) ≡ true → o.journal ≡ []
  pub reduced : is_taken o.answer ≡ false → Reduced st o
  pub alone : is_taken o.answer ≡ false → Withdrawals o.journal
  pub numbers : (n : ℕ) → admits n (entry_of a o) ≡ true → n ≡ st.next
  pub numbered : is_admission (entry_of a o) ≡ true → admits st.next (entry_of a o) ≡ true

refuse_idly : (st : State) (a : Asked) (r : Refusal) → Idly st a (refuse st r)
refuse_idly st a r = record { moot = λ z. refl; reduced = λ z. record { same = refl; rows = λ y. refl }; alone = λ z. tt; numbers = λ n z. absurd (clash false (and_parts (is_some (brought_by a.1)) false z).1 refl); numbered = λ z. absurd (clash false (and_parts (is_some (brought_by a.1)) false z).1 refl) }

-- no order or quote, and taken, with no number given
plainly : (st : State) (a : Asked) (o : Outcome) → o.answer ≡ Ok None → is_some (brought_by a.1) ≡ false → Idly st a o
plainly st a o e b = record {
  moot = λ z. absurd (clash (is_moot (entry_of a o)) z (rw e));
  reduced = λ z. absurd (clash (is_taken o.answer) (ap is_taken e) z);
  alone = λ z. absurd (clash (is_taken o.answer) (ap is_taken e) z);
  numbers = λ n z. absurd (clash (is_some (brought_by a.1)) (and_parts (is_some (brought_by a.1)) _ z).0 b);
  numbered = λ z. absurd (clash (is_some (brought_by a.1)) (and_parts (is_some (brought_by a.1)) _ z).0 b);
}

-- taken, with the next number given
next_given : (st : State) (a : Asked) (o : Outcome) → o.answer ≡ Ok (Some st.next) → is_some (brought_by a.1) ≡ true → Idly st a o
next_given st a o e b = record {
  moot = λ z. absurd (clash (is_moot (entry_of a o)) z (rw e));
  reduced = λ z. absurd (clash (is_taken o.answer) (ap is_taken e) z);
  alone = λ z. absurd (clash (is_taken o.answer) (ap is_taken e) z);
  numbers = λ n z. let y : eqb st.next n ≡ true = rw (b, e) at z in sym (eqb-true st.next n y);
  numbered = λ z. rw (b, e) (eq-eqb st.next st.next refl);
}

-- a quote that its screen refuses, where the rows that p names are withdrawn
pulled_idly : (st : State) (room : Room) (q : Quote) (why : Cause) (p : Row → Bool) (shut : ℕ → ℕ → Bool) → (let d = pull p (desk st.rows) in Idly st (room, call.Quote q) (record { answer = Err (Screen why); next = record { nbbo = st.nbbo; reference = st.reference; width = st.width; shut = shut; rows = d.rows; clock = st.clock; next = st.next }; journal = d.journal }))
pulled_idly st room q why p shut = record {
  moot = λ z. absurd (clash false z refl);
  reduced = λ z. record { same = refl; rows = λ y. pull_still p (desk st.rows) refl y };
  alone = λ z. pulled_alone p (desk st.rows) tt;
  numbers = λ n z. absurd (clash false z refl);
  numbered = λ z. absurd (clash false z refl);
}

module _ (m : Making) (st : State) where
  came_idly : {room : Room} {c : Call} {o : Outcome} → Came m st room c o → Idly st (room, c) o
  came_idly {room} (refused {c} r mild) = refuse_idly st (room, c) r
  came_idly (order_taken o met pass) = next_given st _ _ refl refl
  came_idly (quote_taken q met pass) = next_given st _ _ refl refl
  came_idly {room} (side_pulled q why extent) = pulled_idly st room q why (on_side q.maker q.series q.side) st.shut
  came_idly {room} (class_pulled q why extent) = pulled_idly st room q why (in_class m q.maker (class_of m q.series)) (set_shut q.maker (class_of m q.series) true st.shut)
  came_idly other = plainly st _ _ refl refl

  pub step_idly : (room : Room) (c : Call) → Idly st (room, c) (step m st room c)
  step_idly room c = came_idly (came m st room c)

-- a moot call shuts nobody out
moot_shut : (m : Making) (refs : ℕ → Reference) (e : Entry) (before : History) → is_moot e ≡ true → (k c : ℕ) → shut_out m refs k c (e ∷ before) ≡ shut_out m refs k c before
unfolding shut_out
moot_shut m refs e before z k c = by e.call (and_parts (not (is_taken e.answer)) (not (is_quote e.call && is_screened e.answer)) z).1
  where
    refused : is_taken e.answer ≡ false
    refused = not-true (is_taken e.answer) (and_parts (not (is_taken e.answer)) _ z).0

    by : (w : Call) → not (is_quote w && is_screened e.answer) ≡ true → shut_after m refs k c w e.answer before (shut_out m refs k c before) ≡ shut_out m refs k c before
    by (call.Quote q) unscreened = rw (not-true (is_screened e.answer) unscreened)
    by (call.Enable i d) unscreened = rw refused
    by other unscreened = refl

pub every_run_refuses_idly : EveryRunRefusesIdly
every_run_refuses_idly m refs lo lq asked = record {
  nothing = λ e before made z. each_made m refs (λ e before. is_moot e ≡ true → e.journal ≡ []) (λ older a z. (step_idly m (run m refs older).state a.0 a.1).moot z) asked e before made.0 made.1 z;
  nobody = λ e before made z k c. moot_shut m refs e before z k c;
  withdrawals = λ e before made z. each_made m refs (λ e before. is_taken e.answer ≡ false → Withdrawals e.journal) (λ older a z. (step_idly m (run m refs older).state a.0 a.1).alone z) asked e before made.0 made.1 z;
  numbers = λ e before made n z. each_made m refs (λ e before. (n : ℕ) → admits n e ≡ true → n ≡ suc (admitted_in before)) (λ older a n z. (step_idly m (run m refs older).state a.0 a.1).numbers n z ∙ (run_kept m refs lo lq older).next) asked e before made.0 made.1 n z;
  numbered = λ e before made z. each_made m refs (λ e before. is_admission e ≡ true → admits (suc (admitted_in before)) e ≡ true) (λ older a z. let o = step m (run m refs older).state a.0 a.1 in subst (λ (n : ℕ). admits n (entry_of a o) ≡ true) (run_kept m refs lo lq older).next ((step_idly m (run m refs older).state a.0 a.1).numbered z)) asked e before made.0 made.1 z;
}

-- ---- no trace

module _ (m : Making) (refs : ℕ → Reference) (a : Asked) (earlier : List Asked) (same : (run m refs (a ∷ earlier)).state ≡ (run m refs earlier).state) where
  same_state : (later : List Asked) → (run m refs (later ++ (a ∷ earlier))).state ≡ (run m refs (later ++ earlier)).state
  unfolding run
  same_state [] = same
  same_state (x ∷ later) = ap (λ (st : State). (step m st x.0 x.1).next) (same_state later)

  pub same_latest : (later : List Asked) → latest later (run m refs (later ++ (a ∷ earlier))).history ≡ latest later (run m refs (later ++ earlier)).history
  unfolding run
  same_latest [] = refl
  same_latest (x ∷ later) = λ i. entry_of x (step m (same_state later i) x.0 x.1) ∷ same_latest later i

same_entry : (x e : Entry) (h g : History) → x ∷ h ≡ e ∷ g → x ≡ e
same_entry x e h g is = cc

-- the state after a call that was refused, withdrew nothing and shut nobody out
unmoved : {m : Making} {refs : ℕ → Reference} {st : State} {h : History} (a : Asked) (o : Outcome) → Kept m refs st h → Kept m refs o.next (entry_of a o ∷ h) → Reduced st o → Traceless m refs (entry_of a o) h → o.next ≡ st
unmoved {m} {refs} {st} a o ok next less none =
    let shut : o.next.shut ≡ st.shut = fun_ext (λ k. fun_ext (λ c. next.shut k c ∙ none.nobody k c ∙ sym (ok.shut k c))) in
    let rows : o.next.rows ≡ st.rows = less.rows none.nothing in
    less.same ∙ (λ i. record { nbbo = st.nbbo; reference = st.reference; width = st.width; shut = shut i; rows = rows i; clock = st.clock; next = st.next })

pub every_refusal_leaves_no_trace : EveryRefusalLeavesNoTrace
unfolding run
every_refusal_leaves_no_trace m refs lo lq later a earlier e is z =
    let st = (run m refs earlier).state in
    let h = (run m refs earlier).history in
    let o = step m st a.0 a.1 in
    let ok = run_kept m refs lo lq earlier in
    let own : entry_of a o ≡ e = same_entry _ e _ _ is in
    let none : Traceless m refs (entry_of a o) h = subst (λ (y : Entry). Traceless m refs y h) (sym own) z in
    same_latest m refs a earlier (unmoved a o ok (step_kept m refs ok lo lq a.0 a.1) ((step_idly m st a.0 a.1).reduced none.refused) none) later
