use Rattle.std.proofs.Common.{◌≡◌, ◌≤◌, ◌-◌, ◌++◌, ◌∷◌, [], length}
use Rattle.ll_bank.specs.Term.{sub}
use Rattle.ll_bank.specs.Nodes.{term_tree}
use Rattle.ll_unify.specs.Bindings.{found}
use Rattle.ll_unify.specs.Scanned.{IsScanned}
use Rattle.ll_unify.specs.Frames.{frames_weight}
use Rattle.ll_unify.proofs.scan.pass.Given as goal

abbrev pub invariant-loop-next : goal.invariant-loop-next
invariant-loop-next g l = record {
  scanned : IsScanned l.bank (g.T.Bindings.table l.table) l.var l.level l.seen.places.items l.seen.vars.items
      (sub (found l.bank (g.T.Bindings.table l.table)) (term_tree l.bank l.fn.start.0))
      (l.initial.frames.items ++ (record { at = l.frame.at; next = l.next }) ∷ []);
  frames : l.frames.items ≡ l.initial.frames.items;
  less : frames_weight l.bank (found l.bank (g.T.Bindings.table l.table)) (l.initial.frames.items ++ (record { at = l.frame.at; next = l.next }) ∷ [])
      ≤ frames_weight l.bank (found l.bank (g.T.Bindings.table l.table)) (l.initial.frames.items ++ l.frame ∷ []);
}

abbrev pub decreases-loop-next : goal.decreases-loop-next
decreases-loop-next g l = length l.args - l.next
