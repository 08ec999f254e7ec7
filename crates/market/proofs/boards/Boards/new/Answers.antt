use Rattle.std.proofs.Math.Path.{fun_ext}
use Rattle.market.specs.declared.boards.Board.{Board}
use Rattle.market.specs.Boards.{blank}
use Rattle.market.proofs.Blanks as blanks
use Rattle.market.proofs.boards.Boards.new.Goals as goal

pub returns : goal.returns
returns c = record {
  nbbos = fun_ext (blanks.blank (λ (b : Board). b.nbbo) 64 c.new.result blank c.new.ensures.nbbo);
  widths = fun_ext (blanks.blank (λ (b : Board). b.settings.width) 64 c.new.result blank c.new.ensures.width);
}
