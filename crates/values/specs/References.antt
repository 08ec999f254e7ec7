-- Reference prices: what each event makes of each reference.
use Rattle.values.specs.declared.reference.Reference.{Reference}
use Rattle.values.specs.declared.reference.Reference.TheVariants.{Absent, Close, Sale, Halted}
use Rattle.values.specs.declared.reference.Event.{Event}
use Rattle.values.specs.declared.reference.Event.TheVariants as event

abbrev pub after : Event → Reference → Reference
-- a close p turns absent or close into close p
after (event.Close p) Absent = Close p
after (event.Close p) (Close r) = Close p
after (event.Close p) (Sale r) = Sale r
after (event.Close p) (Halted r) = Halted r
-- an opening sale p turns absent or close into sale p
after (event.Open p) Absent = Sale p
after (event.Open p) (Close r) = Sale p
after (event.Open p) (Sale r) = Sale r
after (event.Open p) (Halted r) = Halted r
-- a last sale p turns sale into sale p
after (event.Last p) Absent = Absent
after (event.Last p) (Close r) = Close r
after (event.Last p) (Sale r) = Sale p
after (event.Last p) (Halted r) = Halted r
-- a halt turns sale into halted, at the same price
after event.Halt Absent = Absent
after event.Halt (Close r) = Close r
after event.Halt (Sale r) = Halted r
after event.Halt (Halted r) = Halted r
-- a resumption turns halted into sale, at the same price
after event.Resume Absent = Absent
after event.Resume (Close r) = Close r
after event.Resume (Sale r) = Sale r
after event.Resume (Halted r) = Sale r
