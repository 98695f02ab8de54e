-- An index that goes with a search.
use Rattle.std.specs.Prelude.{Option, Some, None}
use Rattle.std.specs.Arc.{arc_value}
use Rattle.std.specs.declared.sync.Arc.{Arc}
use Rattle.std.specs.declared.alloc.Global.{Global}
use Rattle.ll_laws.specs.Problem.{ProblemTree}
use Rattle.ll_index.specs.declared.index.Index.{Index}
use Rattle.ll_index.specs.Index.{HasIndex}

-- the index is of the problem's clauses
abbrev pub IsIndexOf : ProblemTree → Index → Type 0
IsIndexOf p x = HasIndex p.clauses x

-- where there is an index, it is of the problem's clauses
abbrev pub IsIndexed : ProblemTree → Option (Arc Index Global) → Type 0
IsIndexed p None = Unit {0}
IsIndexed p (Some x) = IsIndexOf p (arc_value x)
