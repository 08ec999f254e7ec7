-- What a market shows as a call comes: the NBBO and the width of each series, the reference of each class, the clock. Each goes by
-- the calls that were taken before.
use Rattle.std.specs.Prelude.{ℕ, ◌+◌, Bool, cond, ◌&&◌, [], ◌∷◌, None, Option, ◌==◌}
use Rattle.values.specs.declared.call.Call.{Call}
use Rattle.values.specs.declared.call.Call.TheVariants as call
use Rattle.values.specs.declared.nbbo.Nbbo.{Nbbo}
use Rattle.values.specs.declared.reference.Reference.{Reference}
use Rattle.values.specs.Nbbos.{absent}
use Rattle.values.specs.References.{after}
use Rattle.screens.specs.declared.view.View.{View}
use Rattle.market.specs.States.{Making, class_of, view_by}
use Rattle.laws.specs.Histories.{History}
use Rattle.laws.specs.Admissions.{is_taken}

-- ---- the NBBO of a series: by the last N taken for it, absent without one

abbrev pub nbbo_after : ℕ → Call → Bool → Nbbo → Nbbo
nbbo_after s (call.Nbbo i b) ok x = cond (ok && s == i) b x
nbbo_after s other ok x = x

unfoldable pub nbbo_of : ℕ → History → Nbbo
nbbo_of s [] = absent
nbbo_of s (e ∷ h) = nbbo_after s e.call (is_taken e.answer) (nbbo_of s h)

-- ---- the width that updates gave a series: by the last W taken for it; none where it goes by the ladder

abbrev pub width_after : ℕ → Call → Bool → Option ℕ → Option ℕ
width_after s (call.Width u) ok x = cond (ok && s == u.series) u.width x
width_after s other ok x = x

unfoldable pub width_of : ℕ → History → Option ℕ
width_of s [] = None
width_of s (e ∷ h) = width_after s e.call (is_taken e.answer) (width_of s h)

-- ---- the reference of a class: what the events taken for it made of the reference at the making

abbrev pub reference_after : ℕ → Call → Bool → Reference → Reference
reference_after c (call.Event i e) ok x = cond (ok && c == i) (after e x) x
reference_after c other ok x = x

-- refs: the references at the making
unfoldable pub reference_of : (ℕ → Reference) → ℕ → History → Reference
reference_of refs c [] = refs c
reference_of refs c (e ∷ h) = reference_after c e.call (is_taken e.answer) (reference_of refs c h)

-- what a screen is shown of a series
abbrev pub view_of : Making → (ℕ → Reference) → ℕ → History → View
view_of m refs s h = view_by m s (nbbo_of s h) (reference_of refs (class_of m s) h)

-- ---- the clock: moved on by each T that was taken

abbrev pub clock_after : Call → Bool → ℕ → ℕ
clock_after (call.Clock ms) ok k = cond ok (k + ms) k
clock_after other ok k = k

unfoldable pub clock_of : History → ℕ
clock_of [] = 0
clock_of (e ∷ h) = clock_after e.call (is_taken e.answer) (clock_of h)
