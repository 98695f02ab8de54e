use Rattle.std.proofs.Common.{◌∙◌}
use Rattle.std.proofs.lemmas.Result.{IfOk-from_err}
use Rattle.ll_bank.specs.Environments.{values_in}
use Rattle.ll_bank.specs.Nodes.{term_tree}
use Rattle.ll_engine.proofs.matching.ClosedLemmas.{no_sign, close-head, close-arity}
use Rattle.ll_engine.proofs.heads.asked_by.Goals as goal

pub unreachable-requires : goal.unreachable-requires
unreachable-requires c = no_sign (term_tree c.args.store.now.bank c.args.atom.0) c.requires.begins c.in_default.ensures

pub returns : goal.returns
returns c =
    let t = term_tree c.args.store.now.bank c.args.atom.0 in let env = values_in c.args.environment in record {
      head = close-head env t c.requires.begins ∙ c.in-Some.ensures.0;
      arity_is = close-arity env t c.requires.begins ∙ c.in-Some.ensures.1;
      first = c.in_ok-first.ensures;
    }

pub returns-in_err-first : goal.returns-in_err-first
returns-in_err-first c = IfOk-from_err c.from_residual.result _ c.from_residual.ensures.0
