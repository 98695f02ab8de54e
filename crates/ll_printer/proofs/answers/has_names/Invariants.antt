use Rattle.std.proofs.Common.{◌≡◌, take, false}
use Rattle.std.specs.List.{list_any}
use Rattle.ll_laws.specs.Output.{is_named}
use Rattle.ll_printer.proofs.answers.has_names.Given as goal

abbrev pub invariant-loop-name : goal.invariant-loop-name
invariant-loop-name l = list_any is_named (take l.name-index l.asked) ≡ false
