use Rattle.std.proofs.Common.{drop, map}
use Rattle.ll_parser.specs.Nodes.{shown_clause}
use Rattle.ll_parser.specs.Printed.{clauses_text}
use Rattle.ll_printer.specs.Parts.{IsWriting}
use Rattle.ll_printer.proofs.programs.write_clauses.Given as goal

abbrev pub invariant-loop-i : goal.invariant-loop-i
invariant-loop-i l = IsWriting (clauses_text (map (shown_clause l.source.names.now l.source.forms.now) l.list)) l.initial.out.items l.out.items (clauses_text
    (map (shown_clause l.source.names.now l.source.forms.now) (drop l.i l.list)))
