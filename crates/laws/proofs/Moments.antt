-- The moments at which a held order falls due lie a second apart.
use Rattle.std.proofs.Common.{◌≡◌, ℕ, ◌+◌, ◌-◌, ◌*◌, ◌/◌, ◌<◌, ◌≤◌, Bool, true, false, cond, eqb, ◌⊎◌, List, [], ◌∷◌, ◌++◌, length, Some, None, Option, sym, refl, ap, ◌∙◌, subst, inl, inr, ⊎_elim, arith}
use Rattle.std.specs.List.{AllByRecursion}
use Rattle.std.proofs.lemmas.Bool.{eqb-true, cond_both}
use Rattle.values.specs.declared.call.Call.{Call}
use Rattle.values.specs.declared.call.Call.TheVariants as call
use Rattle.values.specs.declared.reference.Reference.{Reference}
use Rattle.screens.specs.Screens.{Lawful}
use Rattle.book.specs.declared.row.Row.{Row}
use Rattle.book.specs.declared.row.Standing.{Standing}
use Rattle.book.specs.declared.row.Standing.TheVariants.{Plain, Held, Quote}
use Rattle.book.specs.Lists.{or_else}
use Rattle.trading.specs.Journals.{Event, Shown, Moved, Traded, Withdrawn}
use Rattle.trading.proofs.Sides.{decide}
use Rattle.trading.proofs.Faces.{Role, plain, held, quote, role_of, Face, In}
use Rattle.book.specs.Taking.{Has}
use Rattle.trading.proofs.Timings.{DueIn, has_timed}
use Rattle.trading.proofs.Each.{in_has}
use Rattle.market.specs.States.{Making, State, Room, Outcome}
use Rattle.market.specs.Calls.{step}
use Rattle.laws.specs.Histories.{Entry, History, journal_of}
use Rattle.laws.specs.Runs.{Asked, entry_of, run}
use Rattle.laws.specs.Admissions.{Party, brought_by, Admission, admission, party_in}
use Rattle.laws.specs.Views.{clock_of}
use Rattle.laws.specs.Displays.{display_of, is_party, Rests}
use Rattle.laws.specs.Collars.{Collar, collar_at, collar_in, collar_of}
use Rattle.laws.specs.Moments.{second_later, due_in, due_of, times_moved, note_moment, moments_in, moments_of, SecondsApart, EveryRunTakesItsTime}
use Rattle.laws.proofs.Outcomes.{Came, clock_moved, came, within_second}
use Rattle.laws.proofs.Steps.{Kept, step_kept}
use Rattle.laws.proofs.Runs.{run_kept, stands}
use Rattle.laws.proofs.Ledgers.{maker_of, Collared}
use Rattle.laws.proofs.Remaps.{ledger_of}
use Rattle.laws.proofs.Dated.{DatedAs}
use Rattle.laws.proofs.Punctual.{AllDue, due_at_lem, Punctual, step_prompt, step_fallen, punctual_next}

-- ---- what an event makes of a moment, of a count of moves and of a list of moments

abbrev Below : Option ℕ → ℕ → Type 0
Below None b = Unit {0}
Below (Some d) b = d ≤ b

-- since the clock stood at a: no move, or the first at a moment d after it, and a second for each
abbrev Stretch : ℕ → Option ℕ → ℕ → Type 0
Stretch a o c = (c ≡ 0) ⊎ ((d : ℕ) × (D : ℕ) × (a < d) × (o ≡ Some D) × (d + 1000 * c ≤ D))

-- the moments so far lie a second before the next
abbrev Next : Option ℕ → List ℕ → Type 0
Next None ds = ds ≡ []
Next (Some d) ds = AllByRecursion (λ x. x + 1000 ≤ d) ds

all_more : (a b : ℕ) (ds : List ℕ) → a ≤ b → AllByRecursion (λ x. x + 1000 ≤ a) ds → AllByRecursion (λ x. x + 1000 ≤ b) ds
all_more a b [] le h = tt
all_more a b (d ∷ ds) le h = (let x = h.0 in omega arith, all_more a b ds le h.1)

next_later : (o : Option ℕ) (b : ℕ) (ds : List ℕ) → Below o b → Next o ds → Next (Some b) ds
next_later None b ds l h = subst (λ (y : List ℕ). AllByRecursion (λ x. x + 1000 ≤ b) y) (sym h) tt
next_later (Some d) b ds l h = all_more d b ds l h

stretch_later : (a : ℕ) (o : Option ℕ) (b c : ℕ) → Below o b → Stretch a o c → Stretch a (Some b) c
stretch_later a o b c l (inl e) = inl e
stretch_later a None b c l (inr s) = absurd (let z = s.3 in let y : ◌≡◌ {A = ℕ} 0 1 = cc in omega arith)
stretch_later a (Some x) b c l (inr s) = inr (s.0, b, s.2, refl, (let z = s.3 in let y : x ≡ s.1 = cc in let w = s.4 in omega arith))

or_else_both : (P : Option ℕ → Type 0) (b : Bool) (x : ℕ) (o : Option ℕ) → P (Some x) → P o → P (or_else b x o)
or_else_both P true x o h g = h
or_else_both P false x o h g = g

-- ---- in one call, which found the clock at low and leaves it at k

module _ (n k low : ℕ) (was : ℕ → Option ℕ) (late : low ≤ k) (soon : Below (was n) (low + 1000)) where
  abbrev D : List Event → Option ℕ
  D j = due_in n k j (was n)

  -- what i owes to fall due, where i is n
  own : (i : ℕ) (j : List Event) → eqb i n ≡ true → ((x : ℕ) × (due_in i k j (was i) ≡ Some x) × (low < x) × (x ≤ k)) → (x : ℕ) × (D j ≡ Some x) × (low < x) × (x ≤ k)
  own i j e d = (d.0, subst (λ (y : ℕ). due_in y k j (was y) ≡ Some d.0) (eqb-true i n e) d.1, d.2, d.3)

  was_below : (o : Option ℕ) → Below o (low + 1000) → Below o (k + 1000)
  was_below None h = tt
  was_below (Some d) h = omega arith

  pub below : (j : List Event) → AllDue k was low j → Below (D j) (k + 1000)
  unfolding due_in AllDue
  below [] a = was_below (was n) soon
  below (Shown i p ∷ j) a = or_else_both (λ o. Below o (k + 1000)) (eqb i n) (k + 1000) (D j) (omega arith) (below j a)
  below (Moved i p ∷ j) a =
      cond_both (eqb i n) (second_later (D j)) (D j) (λ o. Below o (k + 1000))
      (λ e. let d = own i j e a.0 in let z = d.3 in subst (λ (o : Option ℕ). Below (second_later o) (k + 1000)) (sym d.1) (omega arith))
      (λ e. below j a.1)
  below (Traded t ∷ j) a = or_else_both (λ o. Below o (k + 1000)) (is_party n t) (k + 1000) (D j) (omega arith) (below j a)
  below (Withdrawn w ∷ j) a = below j a

  -- over a stretch of the clock that began at a, with c moves before the call
  pub stretched : (a c : ℕ) → a ≤ low → Stretch a (was n) c → (j : List Event) → AllDue k was low j → Stretch a (D j) (times_moved n j + c)
  unfolding due_in AllDue times_moved
  stretched a c le s [] h = subst (Stretch a (was n)) (omega arith) s
  stretched a c le s (Shown i p ∷ j) h = let far = stretched a c le s j h in or_else_both (λ o. Stretch a o (times_moved n j + c)) (eqb i n) (k + 1000) (D j) (stretch_later a (D j) (k + 1000) (times_moved n j + c) (below j h) far) far
  stretched a c le s (Moved i p ∷ j) h =
      let far = stretched a c le s j h.1 in
      decide (eqb i n)
      (λ e.
      let d = own i j e h.0 in
      let one : cond {A = ℕ} (eqb i n) 1 0 ≡ 1 = rw e in
      let now : cond (eqb i n) (second_later (D j)) (D j) ≡ Some (d.0 + 1000) = rw e (ap second_later d.1) in
      let before = d.2 in
      ⊎_elim
      (λ z. inr (d.0, d.0 + 1000, omega arith, now, omega arith))
      (λ z. let same : z.1 ≡ d.0 = same_moment (D j) z.1 d.0 z.3 d.1 in let w = z.4 in inr (z.0, d.0 + 1000, z.2, now, omega arith))
      far)
      (λ e.
      let none : cond {A = ℕ} (eqb i n) 1 0 ≡ 0 = rw e in
      let now : cond (eqb i n) (second_later (D j)) (D j) ≡ D j = rw e in
      subst (λ (o : Option ℕ). Stretch a o (cond (eqb i n) 1 0 + times_moved n j + c)) (sym now) (subst (Stretch a (D j)) (omega arith) far))
    where
      same_moment : (o : Option ℕ) (x y : ℕ) → o ≡ Some x → o ≡ Some y → x ≡ y
      same_moment o x y e g = cc
  stretched a c le s (Traded t ∷ j) h = let far = stretched a c le s j h in or_else_both (λ o. Stretch a o (times_moved n j + c)) (is_party n t) (k + 1000) (D j) (stretch_later a (D j) (k + 1000) (times_moved n j + c) (below j h) far) far
  stretched a c le s (Withdrawn w ∷ j) h = stretched a c le s j h

  -- the moments at which n moved
  abbrev Apart : Option ℕ → ℕ → List ℕ → Type 0
  Apart o c ds = (length ds ≡ c) × SecondsApart ds × Next o ds

  apart_later : (o : Option ℕ) (c : ℕ) (ds : List ℕ) → Below o (k + 1000) → Apart o c ds → Apart (Some (k + 1000)) c ds
  apart_later o c ds l h = (h.0, h.1, next_later o (k + 1000) ds l h.2)

  pub spaced : (c : ℕ) (ds : List ℕ) → Apart (was n) c ds → (j : List Event) → AllDue k was low j → Apart (D j) (times_moved n j + c) (moments_in n k j (was n) ds)
  unfolding due_in AllDue times_moved moments_in
  spaced c ds s [] h = subst (λ (y : ℕ). Apart (was n) y ds) (omega arith) s
  spaced c ds s (Shown i p ∷ j) h = let far = spaced c ds s j h in or_else_both (λ o. Apart o (times_moved n j + c) (moments_in n k j (was n) ds)) (eqb i n) (k + 1000) (D j) (apart_later (D j) (times_moved n j + c) (moments_in n k j (was n) ds) (below j h) far) far
  spaced c ds s (Moved i p ∷ j) h =
      let far = spaced c ds s j h.1 in
      let old = moments_in n k j (was n) ds in
      decide (eqb i n)
      (λ e.
      let d = own i j e h.0 in
      let one : cond {A = ℕ} (eqb i n) 1 0 ≡ 1 = rw e in
      let now : cond (eqb i n) (second_later (D j)) (D j) ≡ Some (d.0 + 1000) = rw e (ap second_later d.1) in
      let list : note_moment (eqb i n) (D j) old ≡ d.0 ∷ old = rw (e, d.1) in
      let below_it : AllByRecursion (λ x. x + 1000 ≤ d.0) old = subst (λ (o : Option ℕ). Next o old) d.1 far.2 in
      let count = far.0 in
      subst (λ (o : Option ℕ). Apart o (cond (eqb i n) 1 0 + times_moved n j + c) (note_moment (eqb i n) (D j) old)) (sym now)
      (subst (λ (l : List ℕ). Apart (Some (d.0 + 1000)) (cond (eqb i n) 1 0 + times_moved n j + c) l) (sym list)
      (omega arith, (below_it, far.1), (omega arith, all_more d.0 (d.0 + 1000) old (omega arith) below_it))))
      (λ e.
      let none : cond {A = ℕ} (eqb i n) 1 0 ≡ 0 = rw e in
      let now : cond (eqb i n) (second_later (D j)) (D j) ≡ D j = rw e in
      let list : note_moment (eqb i n) (D j) old ≡ old = rw e in
      subst (λ (o : Option ℕ). Apart o (cond (eqb i n) 1 0 + times_moved n j + c) (note_moment (eqb i n) (D j) old)) (sym now)
      (subst (λ (l : List ℕ). Apart (D j) (cond (eqb i n) 1 0 + times_moved n j + c) l) (sym list)
      (subst (λ (y : ℕ). Apart (D j) y old) (omega arith) far)))
  spaced c ds s (Traded t ∷ j) h = let far = spaced c ds s j h in or_else_both (λ o. Apart o (times_moved n j + c) (moments_in n k j (was n) ds)) (is_party n t) (k + 1000) (D j) (apart_later (D j) (times_moved n j + c) (moments_in n k j (was n) ds) (below j h) far) far
  spaced c ds s (Withdrawn w ∷ j) h = spaced c ds s j h

-- ---- over a history

-- each move had fallen due, and each call moves the clock on by a second at most
pub record Tick (e : Entry) (h : History) : Type 0 where
  pub fallen : AllDue (clock_of (e ∷ h)) (λ n. due_of n h) (clock_of h) e.journal
  pub late : clock_of h ≤ clock_of (e ∷ h)
  pub soon : clock_of (e ∷ h) ≤ clock_of h + 1000

abbrev Steady : History → Type 0
Steady [] = Unit {0}
Steady (e ∷ h) = Tick e h × Steady h

steady_from : (since h : History) → Steady (since ++ h) → Steady h
steady_from [] h s = s
steady_from (e ∷ since) h s = steady_from since h s.1

moved_append : (n : ℕ) (j older : List Event) → times_moved n (j ++ older) ≡ times_moved n j + times_moved n older
unfolding times_moved
moved_append n [] older = omega arith
moved_append n (Shown i p ∷ j) older = moved_append n j older
moved_append n (Moved i p ∷ j) older = let z = moved_append n j older in omega arith
moved_append n (Traded t ∷ j) older = moved_append n j older
moved_append n (Withdrawn w ∷ j) older = moved_append n j older

module _ (n : ℕ) where
  due_below : (h : History) → Steady h → Below (due_of n h) (clock_of h + 1000)
  unfolding due_of
  due_below [] s = tt
  due_below (e ∷ h) s = below n (clock_of (e ∷ h)) (clock_of h) (λ i. due_of i h) s.0.late (due_below h s.1) e.journal s.0.fallen

  clock_on : (since before : History) → Steady (since ++ before) → clock_of before ≤ clock_of (since ++ before)
  clock_on [] before s = omega arith
  clock_on (e ∷ since) before s = let z = s.0.late in omega (arith, clock_on since before s.1)

  over : (since before : History) → Steady (since ++ before) → Stretch (clock_of before) (due_of n (since ++ before)) (times_moved n (journal_of since))
  unfolding due_of journal_of times_moved
  over [] before s = inl refl
  over (e ∷ since) before s =
      let h = since ++ before in
      subst (Stretch (clock_of before) (due_of n (e ∷ h))) (sym (moved_append n e.journal (journal_of since)))
      (stretched n (clock_of (e ∷ h)) (clock_of h) (λ i. due_of i h) s.0.late (due_below h s.1) (clock_of before) (times_moved n (journal_of since)) (clock_on since before s.1) (over since before s.1) e.journal s.0.fallen)

  -- fewer moves than seconds, and one
  few_moves : (since before : History) → Steady (since ++ before) → 1000 * times_moved n (journal_of since) < (clock_of (since ++ before) - clock_of before) + 1000
  few_moves since before s =
      let on = clock_on since before s in
      ⊎_elim
      (λ z. omega arith)
      (λ z.
      let b : z.1 ≤ clock_of (since ++ before) + 1000 = subst (λ (o : Option ℕ). Below o (clock_of (since ++ before) + 1000)) z.3 (due_below (since ++ before) s) in
      let x = z.2 in
      let y = z.4 in
      omega arith)
      (over since before s)

  all_spaced : (h : History) → Steady h → (length (moments_of n h) ≡ times_moved n (journal_of h)) × SecondsApart (moments_of n h) × Next (due_of n h) (moments_of n h)
  unfolding due_of moments_of journal_of times_moved
  all_spaced [] s = (refl, tt, refl)
  all_spaced (e ∷ h) s =
      let z = spaced n (clock_of (e ∷ h)) (clock_of h) (λ i. due_of i h) s.0.late (due_below h s.1) (times_moved n (journal_of h)) (moments_of n h) (all_spaced h s.1) e.journal s.0.fallen in
      (z.0 ∙ sym (moved_append n e.journal (journal_of h)), z.1, z.2)

-- ---- every run is steady

module _ (m : Making) (st : State) where
  abbrev On : Outcome → Type 0
  On o = (st.clock ≤ o.next.clock) × (o.next.clock ≤ st.clock + 1000)

  came_on : {room : Room} {c : Call} {o : Outcome} → Came m st room c o → On o
  came_on {room} (clock_moved ms met) = let l = within_second m st room ms met in (omega arith, omega arith)
  came_on other = (omega arith, omega arith)

module _ (m : Making) (refs : ℕ → Reference) (lo : Lawful m.orders) (lq : Lawful m.quotes) where
  pub run_punctual : (asked : List Asked) → Punctual (run m refs asked).state (run m refs asked).history
  unfolding run
  run_punctual [] = record { timed = tt; dated = λ r i. absurd i }
  run_punctual (a ∷ older) =
      let ok = run_kept m refs lo lq older in
      let on = run_punctual older in
      punctual_next m refs ok on a (step m (run m refs older).state a.0 a.1) (step_prompt m refs ok on lo lq a.0 a.1) (step_kept m refs ok lo lq a.0 a.1)

  tick : {st : State} {h : History} (a : Asked) → Kept m refs st h → Punctual st h → Kept m refs (step m st a.0 a.1).next (entry_of a (step m st a.0 a.1) ∷ h) → Tick (entry_of a (step m st a.0 a.1)) h
  tick {st} {h} a ok on next =
      let o = step m st a.0 a.1 in
      let t = came_on m st (came m st a.0 a.1) in
      let x = ok.clock in
      let y = next.clock in
      record {
        fallen = subst (λ (k : ℕ). AllDue k (λ n. due_of n h) (clock_of h) o.journal) y (subst (λ (low : ℕ). AllDue o.next.clock (λ n. due_of n h) low o.journal) x (step_fallen m refs ok on a.0 a.1));
        late = omega (arith, t.0);
        soon = omega (arith, t.1);
      }

  run_steady : (asked : List Asked) → Steady (run m refs asked).history
  unfolding run
  run_steady [] = tt
  run_steady (a ∷ older) =
      let ok = run_kept m refs lo lq older in
      (tick a ok (run_punctual older) (step_kept m refs ok lo lq a.0 a.1), run_steady older)

-- ---- nobody waits longer than a second

abbrev maker_in : Option Party → Option ℕ
maker_in None = None
maker_in (Some x) = x.maker

abbrev limit_in : Option Collar → ℕ
limit_in None = 0
limit_in (Some c) = c.limit

-- a quote has no collar
uncollared : (a : Option Admission) (c : Collar) (x : Party) (k : ℕ) → collar_in a ≡ Some c → party_in a ≡ Some x → x.maker ≡ Some k → ⊥
uncollared None c x k e p q = let z : ◌≡◌ {A = ℕ} 0 1 = cc in omega arith
uncollared (Some a) c x k e p q = by a.call e p
  where
    by : (w : Call) → collar_at w a.before ≡ Some c → brought_by w ≡ Some x → ⊥
    by (call.Order o) e p = let none : None ≡ x.maker = ap (λ (y : Option Party). maker_in y) p in let z : ◌≡◌ {A = ℕ} 0 1 = cc in omega arith
    by other e p = let z : ◌≡◌ {A = ℕ} 0 1 = cc in omega arith

abbrev Waiting : Collar → ℕ → ℕ → History → Type 0
Waiting c n p h = (p ≡ c.limit) ⊎ ((d : ℕ) × (due_of n h ≡ Some d) × (clock_of h < d) × (d ≤ clock_of h + 1000))

module _ (m : Making) (refs : ℕ → Reference) {st : State} {h : History} (ok : Kept m refs st h) (on : Punctual st h) where
  held_waits : (c : Collar) (p : ℕ) (r : Row) → Has r st.rows → (w : ℕ) (x : Standing) → r.standing ≡ x → role_of x ≡ held w → Waiting c r.number p h
  held_waits c p r has w Plain e z = absurd (let y : ◌≡◌ {A = ℕ} 0 1 = cc in omega arith)
  held_waits c p r has w (Held v d) e z =
      let dated : due_of r.number h ≡ Some d = subst (λ (y : Standing). DatedAs y (due_of r.number h)) e (on.dated r has) in
      let timed : DueIn st.clock (st.clock + 1000) (Held v d) = subst (DueIn st.clock (st.clock + 1000)) e (has_timed st.clock (st.clock + 1000) r st.rows has on.timed) in
      let k = ok.clock in
      let a = timed.0 in
      let b = timed.1 in
      inr (d, dated, omega arith, omega arith)
  held_waits c p r has w (Quote k) e z = absurd (let y : ◌≡◌ {A = ℕ} 0 1 = cc in omega arith)

  waits : (n : ℕ) (x : Party) (c : Collar) (p : ℕ) → Rests n x h → collar_of n h ≡ Some c → display_of n (journal_of h) ≡ Some p → Waiting c n p h
  waits n x c p rests col shown =
      let u = stands m refs ok n x rests in
      let f = u.at in
      let here : collar_of f.number h ≡ Some c = subst (λ (y : ℕ). collar_of y h ≡ Some c) (sym u.numbered) col in
      let price : f.display ≡ p = same_price f.display p (sym u.shown ∙ shown) in
      by f u.there f.role refl u.numbered price here u.maker (ok.settled.1.facts f u.there).collared
    where
      same_price : (a b : ℕ) → Some a ≡ Some b → a ≡ b
      same_price a b e = cc

      at_limit : (f : Face) (w : ℕ) (y : ℕ × ℕ) → collar_of f.number h ≡ Some c → collar_of f.number h ≡ Some (record { side = f.side; limit = f.limit; width = w; own = y.0; contra = y.1 }) → f.limit ≡ c.limit
      at_limit f w y e g = ap (λ (o : Option Collar). limit_in o) (sym g ∙ e)

      by : (f : Face) → In f st.rows → (role : Role) → f.role ≡ role → f.number ≡ n → f.display ≡ p → collar_of f.number h ≡ Some c → x.maker ≡ maker_of f.role → Collared (ledger_of m refs (journal_of h) h) f.role f → Waiting c n p h
      by f i plain e num price col maker q = ⊎_elim
          (λ z. absurd (let y : ◌≡◌ {A = ℕ} 0 1 = cc in omega arith))
          (λ z. inl (sym price ∙ z.0 ∙ at_limit f z.1.0 z.1.1.0 col z.1.1.1))
          (subst (λ (y : Role). Collared (ledger_of m refs (journal_of h) h) y f) e q)
      by f i (held w) e num price col maker q =
          let r = in_has f st.rows i in
          subst (λ (y : ℕ). Waiting c y p h) (sym (ap (λ (g : Face). g.number) r.2) ∙ num)
          (held_waits c p r.0 r.1 w r.0.standing refl (sym (ap (λ (g : Face). g.role) r.2) ∙ e))
      by f i (quote k) e num price col maker q = absurd (uncollared (admission n h) c x k (subst (λ (y : ℕ). collar_of y h ≡ Some c) num col) rests.admitted (maker ∙ ap maker_of e))

once : (n : ℕ) (e : Entry) (before : History) → Steady (e ∷ before) → times_moved n e.journal ≤ 1
unfolding journal_of times_moved
once n e before t = let z = few_moves n (e ∷ []) before t in let x = t.0.soon in let y : times_moved n (e.journal ++ []) ≡ times_moved n e.journal = moved_append n e.journal [] ∙ omega arith in omega arith

in_time : (c b : ℕ) → 1000 * c < b + 1000 → c ≤ b / 1000 + 1
in_time c b h = omega arith

pub every_run_takes_its_time : EveryRunTakesItsTime
every_run_takes_its_time m refs lo lq asked =
    let steady = run_steady m refs lo lq asked in
    record {
      fallen_due = λ e before made n p earlier b.
          let s : Steady (made.0 ++ (e ∷ before)) = subst Steady made.1 steady in
          let t = (steady_from made.0 (e ∷ before) s).0 in
          due_at_lem (clock_of (e ∷ before)) (λ i. due_of i before) (clock_of before) b.0 n p earlier (subst (AllDue (clock_of (e ∷ before)) (λ i. due_of i before) (clock_of before)) b.1 t.fallen);
      seconds_apart = λ n. let z = all_spaced n (run m refs asked).history steady in (z.0, z.1);
      once_in_a_call = λ e before made n.
          let s : Steady (made.0 ++ (e ∷ before)) = subst Steady made.1 steady in
          let t = steady_from made.0 (e ∷ before) s in
          once n e before t;
      once_a_second = λ since before is n.
          let s : Steady (since ++ before) = subst Steady is steady in
          let z = few_moves n since before s in
          subst (λ (h : History). times_moved n (journal_of since) ≤ (clock_of h - clock_of before) / 1000 + 1) (sym is) (in_time (times_moved n (journal_of since)) (clock_of (since ++ before) - clock_of before) z);
      none_overdue = waits m refs (run_kept m refs lo lq asked) (run_punctual m refs lo lq asked);
    }
