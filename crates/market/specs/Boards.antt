-- What is in force for each series.
use Rattle.std.specs.Prelude.{ℕ, None, Option, slice_index_or, refl}
use Rattle.values.specs.declared.nbbo.Nbbo.{Nbbo}
use Rattle.values.specs.Nbbos.{absent}
use Rattle.market.specs.declared.boards.Board.{Board}
use Rattle.market.specs.declared.boards.Boards.{Boards}

-- both sides absent, the width by the ladder
abbrev pub blank : Board
blank = record { nbbo = absent; settings = record { width = None }; orderly = refl }

abbrev pub board_at : Boards → ℕ → Board
board_at x s = slice_index_or x.of s blank

-- the national best bid and offer
abbrev pub nbbo_at : Boards → ℕ → Nbbo
nbbo_at x s = (board_at x s).nbbo

-- the width that an update gave; none where the series goes by the ladder
abbrev pub width_at : Boards → ℕ → Option ℕ
width_at x s = (board_at x s).settings.width
