use Rattle.std.proofs.Common.{◌≡◌, ◌++◌, List, map, drop}
use Rattle.ll_parser.specs.Tokens.{Identifier}
use Rattle.ll_parser.specs.Nodes.{identifier}
use Rattle.ll_polarity.specs.Scope.{Binder}
use Rattle.ll_polarity.specs.Faults.{repeated}
use Rattle.ll_polarity.proofs.judge.repeated_fault.Given as goal

abbrev pub invariant-loop-name : goal.invariant-loop-name
invariant-loop-name l = record {
  faults : (more : List Identifier) → repeated (map (λ (b : Binder). b.text) l.fn.binders.scope) (map (identifier l.fn.binders.texts) l.names ++ more)
      ≡ repeated (map (λ (b : Binder). b.text) l.binders.scope) (map (identifier l.fn.binders.texts) (drop l.name-index l.names) ++ more);
  texts : l.binders.texts ≡ l.fn.binders.texts;
}
