use Rattle.std.proofs.Common.{◌++◌, ◌∷◌, []}
use Rattle.ll_bank.specs.Term.{sub}
use Rattle.ll_bank.specs.Nodes.{term_tree}
use Rattle.ll_unify.specs.Bindings.{found}
use Rattle.ll_unify.specs.Scanned.{IsScanned}
use Rattle.ll_unify.specs.Frames.{frames_weight}
use Rattle.ll_unify.proofs.scan.scan.Given as goal

abbrev pub invariant-frames : goal.invariant-frames
invariant-frames g l =
    IsScanned l.bank (g.T.Bindings.table l.table) l.var l.level l.seen.places.items l.seen.vars.items
    (sub (found l.bank (g.T.Bindings.table l.table)) (term_tree l.bank l.fn.start.0)) (l.frames.items ++ l.frame ∷ [])

abbrev pub decreases-frames : goal.decreases-frames
decreases-frames g l = frames_weight l.bank (found l.bank (g.T.Bindings.table l.table)) (l.frames.items ++ l.frame ∷ [])
