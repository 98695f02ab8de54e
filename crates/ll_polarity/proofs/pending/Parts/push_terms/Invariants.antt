use Rattle.std.proofs.Common.{◌≡◌, ◌++◌, ◌≤◌, map, drop, length}
use Rattle.ll_polarity.specs.declared.pending.Part.TheVariants.{Term}
use Rattle.ll_polarity.proofs.pending.Parts.push_terms.Given as goal

abbrev pub invariant-loop-left : goal.invariant-loop-left
invariant-loop-left l = record {
  within : l.left ≤ length l.terms;
  pushed : l.self ≡ map Term (drop l.left l.terms) ++ l.fn.self;
}

abbrev pub decreases-loop-left : goal.decreases-loop-left
decreases-loop-left l = l.left
