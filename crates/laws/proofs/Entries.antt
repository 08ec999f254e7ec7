-- What holds of each entry of a run, and of each event of a journal.
use Rattle.std.proofs.Common.{◌≡◌, ℕ, List, [], ◌∷◌, ◌++◌, subst, arith}
use Rattle.std.specs.List.{AllByRecursion}
use Rattle.values.specs.declared.reference.Reference.{Reference}
use Rattle.trading.specs.Journals.{Event}
use Rattle.market.specs.States.{Making}
use Rattle.market.specs.Calls.{step}
use Rattle.laws.specs.Histories.{Entry, History}
use Rattle.laws.specs.Runs.{Asked, entry_of, run}

pub all_at : (P : Event → Type 0) (later : List Event) (x : Event) (earlier : List Event) → AllByRecursion P (later ++ (x ∷ earlier)) → P x
all_at P [] x earlier a = a.0
all_at P (y ∷ later) x earlier a = all_at P later x earlier a.1

same_head : (x e : Entry) (h before : History) → x ∷ h ≡ e ∷ before → (x ≡ e) × (h ≡ before)
same_head x e h before is = (cc, cc)

same_tail : (x y e : Entry) (h since before : History) → x ∷ h ≡ y ∷ (since ++ (e ∷ before)) → h ≡ since ++ (e ∷ before)
same_tail x y e h since before is = cc

module _ (m : Making) (refs : ℕ → Reference) (P : Entry → History → Type 0) (each : (older : List Asked) (a : Asked) → P (entry_of a (step m (run m refs older).state a.0 a.1)) (run m refs older).history) where
  -- what holds of the entry that each call brings holds of every entry
  pub each_made : (asked : List Asked) (e : Entry) (before since : History) → (run m refs asked).history ≡ since ++ (e ∷ before) → P e before
  unfolding run
  each_made [] e before [] is = absurd (let z : ◌≡◌ {A = ℕ} 0 1 = cc in omega arith)
  each_made [] e before (x ∷ since) is = absurd (let z : ◌≡◌ {A = ℕ} 0 1 = cc in omega arith)
  each_made (a ∷ older) e before [] is =
      let s = same_head _ e _ before is in
      subst (λ (y : Entry). P y before) s.0 (subst (P _) s.1 (each older a))
  each_made (a ∷ older) e before (x ∷ since) is = each_made older e before since (same_tail _ x e _ since before is)
