-- Terms are as many as their raw trees, and these no more than their nodes.
use Rattle.std.proofs.Common.{◌≡◌, ◌≤◌, length, arith}
use Rattle.ll_parser.specs.Raw.{RawList, none, more}
use Rattle.ll_parser.specs.Weights.{weights}
use Rattle.ll_parser.proofs.CallerLemmas.{weight_some}
use Rattle.ll_polarity.specs.Scope.{Scope}
use Rattle.ll_polarity.specs.Reading.{Met, read_term, read_terms}
use Rattle.ll_polarity.specs.Faults.{count}

pub count-le-weights : (rs : RawList) → count rs ≤ weights rs
count-le-weights none = omega arith
count-le-weights (more r rs) = let a = weight_some r in let b = count-le-weights rs in omega arith

pub length-read_terms : (scope : Scope) (met : Met) (rs : RawList) → length (read_terms scope met rs).it ≡ count rs
length-read_terms scope met none = omega arith
length-read_terms scope met (more r rs) = let e = length-read_terms scope (read_term scope met r).met rs in omega arith
