use Rattle.std.proofs.Common.{◌≡◌, ◌++◌, drop}
use Rattle.std.specs.Prelude.{filter, not}
use Rattle.ll_trace.specs.Shares.{goes_to_first}
use Rattle.ll_trace.proofs.deal.divide.Given as goal

abbrev pub invariant-loop-label : goal.invariant-loop-label
invariant-loop-label l = record {
  mine : l.mine.items ++ filter (goes_to_first l.uses l.fork) (drop l.label-index l.labels) ≡ filter (goes_to_first l.uses l.fork) l.labels;
  others : l.others.items ++ filter (λ n. not (goes_to_first l.uses l.fork n)) (drop l.label-index l.labels)
      ≡ filter (λ n. not (goes_to_first l.uses l.fork n)) l.labels;
}
