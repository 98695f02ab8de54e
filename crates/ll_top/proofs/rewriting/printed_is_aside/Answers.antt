use Rattle.ll_top.proofs.judging.GrammarLemmas.{one-grammar-fault, no-grammar-fault}
use Rattle.ll_top.proofs.outcomes.LawLemmas.{Laws}
use Rattle.ll_top.proofs.RewritingPrints.{printed-again, printed-aside}
use Rattle.ll_top.proofs.rewriting.printed_is_aside.Goals as goal

pub returns-clause-again : goal.returns-clause-again
returns-clause-again c = printed-again c.printed_is_read.ensures

pub returns-clause-same : goal.returns-clause-same
returns-clause-same c =
    let laws : Laws = record {
      same = c.one_reading.ensures.tokens;
      one = c.one_reading.ensures.fault;
      not_both = c.one_reading.ensures.not_both;
      one_grammar = one-grammar-fault c.one_program.ensures.fault c.one_query.ensures.fault;
      no_grammar = no-grammar-fault c.one_program.ensures.not_both c.one_query.ensures.not_both;
      one_tree = c.one_program.ensures.tree;
      one_goal = c.one_query.ensures.tree;
      one_derivation = c.one_derivation_in_any.ensures.reading;
      one_proof = c.one_derivation_in_any.ensures.fault;
      no_proof_fault = c.one_derivation_in_any.ensures.not_both;
    } in
    printed-aside laws c.printed_is_read.ensures
