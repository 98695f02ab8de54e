use Rattle.ll_top.proofs.judging.GrammarLemmas.{one-grammar-fault, no-grammar-fault}
use Rattle.ll_top.proofs.outcomes.LawLemmas.{Laws}
use Rattle.ll_top.proofs.RewritingProofs.{comes-back}
use Rattle.ll_top.proofs.rewriting.converted_comes_back.Goals as goal

pub returns : goal.returns
returns c =
    let laws : Laws = record {
      same = c.one_reading.ensures.tokens;
      one = c.one_reading.ensures.fault;
      not_both = c.one_reading.ensures.not_both;
      one_grammar = one-grammar-fault c.one_program.ensures.fault c.one_query.ensures.fault;
      no_grammar = no-grammar-fault c.one_program.ensures.not_both c.one_query.ensures.not_both;
      one_tree = c.one_program.ensures.tree;
      one_goal = c.one_query.ensures.tree;
      one_derivation = c.one_derivation_in_any.ensures.reading;
      one_proof = c.one_derivation_in_any.ensures.fault;
      no_proof_fault = c.one_derivation_in_any.ensures.not_both;
    } in
    comes-back laws (record { first = c.over_other_names.ensures.first; second = c.over_other_names.ensures.second })
