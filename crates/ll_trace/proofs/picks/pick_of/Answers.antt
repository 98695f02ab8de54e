use Rattle.std.proofs.Common.{◌≡◌, List, subst, sym, map}
use Rattle.std.proofs.lemmas.Result.{IfOk-from_err}
use Rattle.std.specs.Prelude.{Some}
use Rattle.ll_bank.specs.Nodes.{term_trees}
use Rattle.ll_laws.specs.declared.Part.{Part}
use Rattle.ll_laws.specs.declared.Rule.{Rule}
use Rattle.ll_laws.specs.Line.{put, ClauseLine}
use Rattle.ll_laws.specs.ShownLines.{line_of, part_line}
use Rattle.ll_trace.proofs.Picking.{pick-clause}
use Rattle.ll_trace.proofs.picks.pick_of.Goals as goal

pub returns-in_ok-push_levels-in-Clause : goal.returns-in_ok-push_levels-in-Clause
returns-in_ok-push_levels-in-Clause c = λ bank ts vs h.
    pick-clause c.in-Clause.label c.in-Clause.leaf (term_trees bank c.in-Clause.terms.items) c.deref.result.now c.args.level c.args.pending.now.items
    c.push_levels.new.pending.items ts vs c.in_ok-push_levels-in-Clause.ensures
    (subst (λ (ps : List Part). put (ClauseLine c.in-Clause.label c.in-Clause.leaf (term_trees bank c.in-Clause.terms.items) (map part_line ps)) ts ≡ Some vs)
    (sym c.deref.ensures.value)
    (subst (λ (r : Rule). put (line_of bank r) ts ≡ Some vs) c.in-Clause.is h))

pub returns-in_err-below-in-Bang : goal.returns-in_err-below-in-Bang
returns-in_err-below-in-Bang c = IfOk-from_err c.from_residual.result _ c.from_residual.ensures.0

pub returns-in_err-push-in-Bang : goal.returns-in_err-push-in-Bang
returns-in_err-push-in-Bang c = IfOk-from_err c.from_residual-in_err-push-in-Bang.result _ c.from_residual-in_err-push-in-Bang.ensures.0

pub returns-in_err-push-in-Exists : goal.returns-in_err-push-in-Exists
returns-in_err-push-in-Exists c = IfOk-from_err c.from_residual-in_err-push-in-Exists.result _ c.from_residual-in_err-push-in-Exists.ensures.0

pub returns-in_err-push-in-Left : goal.returns-in_err-push-in-Left
returns-in_err-push-in-Left c = IfOk-from_err c.from_residual-in_err-push-in-Left.result _ c.from_residual-in_err-push-in-Left.ensures.0

pub returns-in_err-push-in-Lolli : goal.returns-in_err-push-in-Lolli
returns-in_err-push-in-Lolli c = IfOk-from_err c.from_residual-in_err-push-in-Lolli.result _ c.from_residual-in_err-push-in-Lolli.ensures.0

pub returns-in_err-push-in-Tensor : goal.returns-in_err-push-in-Tensor
returns-in_err-push-in-Tensor c = IfOk-from_err c.from_residual-in_err-push-in-Tensor.result _ c.from_residual-in_err-push-in-Tensor.ensures.0

pub returns-in_err-push-in-Tensor-2 : goal.returns-in_err-push-in-Tensor-2
returns-in_err-push-in-Tensor-2 c = IfOk-from_err c.from_residual-in_err-push-in-Tensor-2.result _ c.from_residual-in_err-push-in-Tensor-2.ensures.0

pub returns-in_err-push_levels-in-Clause : goal.returns-in_err-push_levels-in-Clause
returns-in_err-push_levels-in-Clause c =
    IfOk-from_err c.from_residual-in_err-push_levels-in-Clause.result _ c.from_residual-in_err-push_levels-in-Clause.ensures.0
