use Rattle.std.proofs.Common.{drop, map}
use Rattle.ll_parser.specs.Nodes.{shown_module, shown_program}
use Rattle.ll_parser.specs.Printed.{modules_text, program_text}
use Rattle.ll_printer.specs.Parts.{IsWriting}
use Rattle.ll_printer.proofs.programs.write_program.Given as goal

abbrev pub invariant-loop-i : goal.invariant-loop-i
invariant-loop-i l =
    let p = l.program-inside in
    IsWriting (program_text (shown_program p.names p.forms p.clauses.items p.modules.items)) l.fn.out.items l.out.items
    (modules_text (map (shown_module p.names p.forms) (drop l.i p.modules.items)))
