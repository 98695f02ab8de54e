use Rattle.ll_top.proofs.judging.GrammarLemmas.{one-grammar-fault, no-grammar-fault}
use Rattle.ll_top.proofs.outcomes.LawLemmas.{Laws, run-once, session-once, deepen-once, print-once, check-once, converts-one, made-once}
use Rattle.ll_top.proofs.outcomes.OneText.{one-text}
use Rattle.ll_top.proofs.one_text.Goals as goal

pub returns : goal.returns
returns c words texts =
    let laws : Laws = record {
      same = c.one_reading.ensures.tokens;
      one = c.one_reading.ensures.fault;
      not_both = c.one_reading.ensures.not_both;
      one_grammar = one-grammar-fault c.one_program.ensures.fault c.one_query.ensures.fault;
      no_grammar = no-grammar-fault c.one_program.ensures.not_both c.one_query.ensures.not_both;
      one_tree = c.one_program.ensures.tree;
      one_goal = c.one_query.ensures.tree;
      one_derivation = c.one_derivation_in_any.ensures.reading;
      one_proof = c.one_derivation_in_any.ensures.fault;
      no_proof_fault = c.one_derivation_in_any.ensures.not_both;
    } in
    one-text texts (run-once laws texts) (session-once laws texts c.one_session.ensures.one) (deepen-once laws texts) (print-once laws texts)
    (check-once laws texts) (converts-one laws texts) (made-once laws texts) words
