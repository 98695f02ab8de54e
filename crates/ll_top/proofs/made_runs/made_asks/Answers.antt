use Rattle.ll_make.specs.Kinds.{query_text}
use Rattle.ll_make.specs.Programs.{program_text}
use Rattle.ll_top.proofs.judging.GrammarLemmas.{one-grammar-fault, no-grammar-fault}
use Rattle.ll_top.proofs.outcomes.LawLemmas.{Laws, asks-no-fault}
use Rattle.ll_top.proofs.calls.MadeRunLemmas.{made-asked}
use Rattle.ll_top.proofs.made_runs.made_asks.Goals as goal

pub returns-clause-asks : goal.returns-clause-asks
returns-clause-asks c = λ kind n bound fits. made-asked (program_text kind n) (query_text kind) bound (c.made_texts.ensures.program kind n fits)
    (c.made_texts.ensures.query kind)

pub returns-clause-no_fault : goal.returns-clause-no_fault
returns-clause-no_fault c = λ kind n role f fits h.
    let laws : Laws = record {
      same = c.one_reading.ensures.tokens;
      one = c.one_reading.ensures.fault;
      not_both = c.one_reading.ensures.not_both;
      one_grammar = one-grammar-fault c.one_program.ensures.fault c.one_query.ensures.fault;
      no_grammar = no-grammar-fault c.one_program.ensures.not_both c.one_query.ensures.not_both;
      one_tree = c.one_program.ensures.tree;
      one_goal = c.one_query.ensures.tree;
      one_derivation = c.one_derivation_in_any.ensures.reading;
      one_proof = c.one_derivation_in_any.ensures.fault;
      no_proof_fault = c.one_derivation_in_any.ensures.not_both;
    } in
    let a = made-asked (program_text kind n) (query_text kind) 0 (c.made_texts.ensures.program kind n fits) (c.made_texts.ensures.query kind) in
    asks-no-fault laws (program_text kind n) (query_text kind) 0 a.0 role f a.1 h
