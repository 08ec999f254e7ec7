use Rattle.std.proofs.Common.{◌≡◌, [], sym, refl, ap, ◌∙◌}
use Rattle.book.specs.Dues.{due_list}
use Rattle.book.proofs.Ties.{same_by}
use Rattle.book.proofs.book.Book.new.Goals as goal

none : [] ≡ due_list []
unfolding due_list
none = refl

pub invariant_of-result : goal.invariant_of-result
invariant_of-result c = record { tied = same_by _ _ (c.new-2.ensures ∙ none ∙ ap due_list (sym c.new.ensures)) }
