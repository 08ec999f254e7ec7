-- The format: the bytes of each line.
use Rattle.std.specs.Prelude.{◌≡◌, ℕ, ◌^◌, List, [], ◌∷◌, ◌++◌, Some, None, codes, decimal, Option, nat_lt, if◌then◌else◌}
use Prim.Native.String.{String}
use Rattle.values.specs.declared.call.Call.{Call}
use Rattle.values.specs.declared.call.Call.TheVariants as call
use Rattle.values.specs.declared.order.Condition.{Condition}
use Rattle.values.specs.declared.order.Condition.TheVariants.{Day, Immediate}
use Rattle.values.specs.declared.order.Kind.{Kind}
use Rattle.values.specs.declared.order.Kind.TheVariants as kind
use Rattle.values.specs.declared.order.OrderPrice.{OrderPrice}
use Rattle.values.specs.declared.order.OrderPrice.TheVariants.{Market, Limit}
use Rattle.values.specs.declared.reference.Event.{Event}
use Rattle.values.specs.declared.reference.Event.TheVariants.{Close, Open, Last, Halt, Resume}
use Rattle.values.specs.declared.side.Side.{Side}
use Rattle.values.specs.declared.side.Side.TheVariants.{Buy, Sell}
use Rattle.wire_format.specs.declared.line.Line.{Line}
use Rattle.wire_format.specs.declared.line.Line.TheVariants as line

-- the bytes of a value, or of the rest of a line; nothing where a value cannot be written
abbrev pub Text : Type 0
Text = Option (List ℕ)

-- a field, the byte that ends it, and what follows
abbrev pub glued : ℕ → Text → Text → Text
glued end field None = None
glued end None (Some rest) = None
glued end (Some field) (Some rest) = Some (field ++ (end ∷ rest))

-- a tab (9) parts a field from what follows
abbrev pub tab : Text → Text → Text
tab field rest = glued 9 field rest

-- a newline (10) ends the last field, and nothing follows
abbrev pub newline : Text → Text
newline field = glued 10 field (Some [])

abbrev pub text : String → Text
text word = Some (codes word)

-- a text of one letter
abbrev pub IsLetter : Text → Type 0
IsLetter t = (letter : ℕ) × (t ≡ Some (letter ∷ []))

-- decimal, 1 to 9 digits, no leading zero but for 0 itself
abbrev pub count : ℕ → Text
count n = if nat_lt n (10 ^ 9) then Some (decimal n) else None

-- a price, or a dash where it is absent
abbrev pub optional : Option ℕ → Text
optional None = text "-"
optional (Some p) = count p

abbrev pub side_text : Side → Text
side_text Buy = text "B"
side_text Sell = text "S"

abbrev pub kind_text : Kind → Text
kind_text kind.Call = text "C"
kind_text kind.Put = text "P"

abbrev pub condition_text : Condition → Text
condition_text Day = text "D"
condition_text Immediate = text "I"

abbrev pub price_text : OrderPrice → Text
price_text Market = text "M"
price_text (Limit p) = count p

-- an event to the end of its line, with its price where it has one
abbrev pub event_text : Event → Text
event_text (Close p) = tab (text "C") (newline (count p))
event_text (Open p) = tab (text "O") (newline (count p))
event_text (Last p) = tab (text "L") (newline (count p))
event_text Halt = newline (text "H")
event_text Resume = newline (text "R")

-- the bytes of a call; nothing where one of its counts has more than nine digits
abbrev pub call_text : Call → Text
call_text (call.Nbbo series nbbo) = tab (text "N") (tab (count series) (tab (optional nbbo.bid) (newline (optional nbbo.offer))))
call_text (call.Event class event) = tab (text "U") (tab (count class) (event_text event))
call_text (call.Order o) = tab (text "O") (tab (count o.series) (tab (side_text o.side) (tab (price_text o.price) (tab (count o.size) (newline (condition_text o.condition))))))
call_text (call.Quote q) = tab (text "Q") (tab (count q.maker) (tab (count q.series) (tab (side_text q.side) (tab (count q.price) (newline (count q.size))))))
call_text (call.Enable maker class) = tab (text "E") (tab (count maker) (newline (count class)))
call_text (call.Withdraw number) = tab (text "X") (newline (count number))
call_text (call.Clock ms) = tab (text "T") (newline (count ms))
call_text (call.Width u) = tab (text "W") (tab (count u.series) (tab (optional u.width) (tab (count u.first) (newline (count u.second)))))

-- the bytes of a line
abbrev pub written : Line → Text
written (line.Series t) = tab (text "S") (tab (count t.class) (tab (kind_text t.kind) (newline (count t.strike))))
written (line.Call c) = call_text c
