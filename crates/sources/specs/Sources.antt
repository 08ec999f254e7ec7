-- The reference prices of a source, one for each class.
use Rattle.std.specs.Prelude.{ℕ, Bool, true, false, List, Some, None, Option, slice_index_or, slice_set}
use Rattle.values.specs.declared.reference.Reference.{Reference}
use Rattle.values.specs.declared.reference.Reference.TheVariants.{Absent, Close}
use Rattle.values.specs.declared.reference.Event.{Event}
use Rattle.values.specs.References.{after}

-- the reference of a class; a class that there is none of has none
abbrev pub reference_of : List Reference → ℕ → Reference
reference_of refs class = slice_index_or refs class Absent

-- the references after an event of a class, by whether the source is live
abbrev pub told : Bool → List Reference → ℕ → Event → List Reference
told true refs class e = slice_set refs class (after e (reference_of refs class))
told false refs class e = refs

-- what a closing sheet says of a class
abbrev pub close_of : Option ℕ → Reference
close_of None = Absent
close_of (Some p) = Close p
