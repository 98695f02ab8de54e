use Rattle.std.proofs.Common.{◌≡◌, ◌++◌, map, take, reverse}
use Rattle.ll_parser.specs.Nodes.{identifier}
use Rattle.ll_polarity.proofs.judge.open_all.Given as goal

abbrev pub invariant-loop-name : goal.invariant-loop-name
invariant-loop-name l =
    l.binders ≡ record l.fn.binders {
      scope = map (λ n. record { text = n.text; local = l.local })
          (reverse (map (identifier l.fn.binders.texts) (take l.name-index l.names))) ++ l.fn.binders.scope;
    }
