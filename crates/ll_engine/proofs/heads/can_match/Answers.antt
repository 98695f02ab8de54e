use Rattle.std.proofs.lemmas.Result.{IfOk-from_err}
use Rattle.std.proofs.Common.{sym, ◌∙◌}
use Rattle.ll_bank.specs.Nodes.{term_tree}
use Rattle.ll_engine.proofs.matching.SignLemmas.{spine_of_predicate}
use Rattle.ll_engine.proofs.heads.can_match.Goals as goal

pub first_under-requires-clause-spine : goal.first_under-requires-clause-spine
first_under-requires-clause-spine c =
    spine_of_predicate c.args.asked.predicate (term_tree c.args.store.now.bank c.args.head.0) (sym c.has_predicate.ensures ∙ c.if-not-has_predicate.false)

pub returns-in_err-first : goal.returns-in_err-first
returns-in_err-first c = IfOk-from_err c.from_residual.result _ c.from_residual.ensures.0
