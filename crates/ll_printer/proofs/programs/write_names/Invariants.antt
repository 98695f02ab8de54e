use Rattle.std.proofs.Common.{drop, map}
use Rattle.ll_parser.specs.Nodes.{identifier}
use Rattle.ll_parser.specs.Printed.{names_text}
use Rattle.ll_printer.specs.Parts.{IsWriting}
use Rattle.ll_printer.proofs.programs.write_names.Given as goal

abbrev pub invariant-loop-i : goal.invariant-loop-i
invariant-loop-i l = IsWriting (names_text (map (identifier l.names) l.list)) l.initial.out.items l.out.items (names_text
    (map (identifier l.names) (drop l.i l.list)))
