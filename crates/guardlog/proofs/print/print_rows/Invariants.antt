use Rattle.std.proofs.Common.{◌≡◌, ℕ, List, ◌++◌, take, map, Some}
use Rattle.guardlog.specs.Printing.{printed_lines}
use Rattle.guardlog.proofs.print.print_rows.Given as goal

abbrev pub invariant-loop-row : goal.invariant-loop-row
invariant-loop-row g l =
    (text : g.row.T.Denot → List ℕ) → ((row : g.row.T.Denot) → g.bound-2.output (record { 0 = row }) ≡ Some (text row)) → l.out.items ≡ l.initial.out.items ++ printed_lines (map text (take l.row-index l.rows))
