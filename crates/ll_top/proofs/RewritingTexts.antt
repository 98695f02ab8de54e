-- Texts of one program ask the same, and have the same faults beside them.
use Rattle.std.proofs.Common.{◌≡◌, ◌+◌, ℕ, List, [], ap, sym, subst, ◌∙◌, map}
use Rattle.std.specs.Prelude.{Ok, Err, Result}
use Rattle.ll_laws.specs.Line.{DerivationLines}
use Rattle.ll_laws.specs.Problem.{ProblemTree}
use Rattle.ll_lexer.specs.declared.Fault.{Fault}
use Rattle.ll_parser.specs.Raw.{Raw, ProgramTree}
use Rattle.ll_parser.specs.Bare.{bare_program}
use Rattle.ll_parser.specs.Printed.{program_text}
use Rattle.ll_polarity.specs.Faults.{heading, program_faults, query_faults}
use Rattle.ll_polarity.specs.Asks.{part_of, problem_with, Asks, HasQueryFault, IsFirst}
use Rattle.ll_session.specs.Reading as session
use Rattle.ll_session.specs.Lines.{lines}
use Rattle.ll_session.specs.Queries.{QueryLine, LineAsks, HaveQueries, no_line, passed, asked, AreQueries}
use Rattle.ll_top.specs.declared.texts.judge.Role.{Role}
use Rattle.ll_top.specs.texts.Judging.{IsProgramText, IsFaultless, IsProgramFault, IsQueryFault, of_query_reading, of_query_scope}
use Rattle.ll_top.specs.texts.Judging.{IsTextFault, of_program, of_query}
use Rattle.ll_top.specs.texts.Judging.{TextsAsk, IsCheckFault, of_run_texts, of_proof, TextsGive}
use Rattle.ll_top.specs.Rewriting.{AreOfOneProgram}
use Rattle.ll_top.proofs.made.Aside.{headings-bare, faultless-aside}
use Rattle.ll_top.proofs.RewritingTrees.{printed-bare, part-bare}
use Rattle.ll_top.proofs.outcomes.LawLemmas.{Laws, one-program, faultless-no-fault}

-- ---- trees

module _ (t u : ProgramTree) (e : bare_program u ≡ bare_program t) where
  pub parts-same : part_of u ≡ part_of t
  parts-same = sym (part-bare u) ∙ (ap part_of e ∙ part-bare t)

  pub headings-same : map heading u.modules ≡ map heading t.modules
  headings-same = sym (headings-bare u.modules) ∙ (ap (λ (p : ProgramTree). map heading p.modules) e ∙ headings-bare t.modules)

  pub printed-same : program_text u ≡ program_text t
  printed-same = sym (printed-bare u) ∙ (ap program_text e ∙ printed-bare t)

  pub faultless-same : program_faults t ≡ [] → program_faults u ≡ []
  faultless-same = faultless-aside t u e

-- where the first program has no fault, the order of the two is free
pub one-turned : (text other : List ℕ) → AreOfOneProgram text other → AreOfOneProgram other text
one-turned text other o = record {
  tree = o.other_tree;
  other_tree = o.tree;
  is_faultless = record { is_program = o.is_other; faultless = faultless-same o.tree o.other_tree o.same o.is_faultless.faultless };
  is_other = o.is_faultless.is_program;
  same = sym o.same;
}

-- ---- texts

module _ (laws : Laws) (text other : List ℕ) (o : AreOfOneProgram text other) where
  abbrev first : ProgramTree
  first = o.tree

  abbrev second : ProgramTree
  second = o.other_tree

  pub second-faultless : IsFaultless other second
  second-faultless = record { is_program = o.is_other; faultless = faultless-same first second o.same o.is_faultless.faultless }

  tree-is : (tree : ProgramTree) → IsProgramText text tree → tree ≡ first
  tree-is tree h = one-program laws text tree first h o.is_faultless.is_program

  pub no-fault : (f : Fault) → IsProgramFault text f → ⊥
  no-fault f h = faultless-no-fault laws text first f o.is_faultless h

  -- what is asked of the one tree is asked of the other
  asked-of : (query : Raw) (bound : ℕ) (p : ProblemTree) → Asks first query bound p → Asks second query bound p
  asked-of query bound p a = record {
    program_faultless = second-faultless.faultless;
    query_faultless = subst (λ h. query_faults h query ≡ []) (sym (headings-same first second o.same)) a.query_faultless;
    is = a.is ∙ ap (λ x. problem_with x query bound) (sym (parts-same first second o.same));
  }

  pub asks-on : (query : List ℕ) (bound : ℕ) (p : ProblemTree) → TextsAsk text query bound p → TextsAsk other query bound p
  asks-on query bound p a = record {
    program_tree = second;
    query_tree = a.query_tree;
    is_program = o.is_other;
    is_query = a.is_query;
    asks = asked-of a.query_tree bound p (subst (λ t. Asks t a.query_tree bound p) (tree-is a.program_tree a.is_program) a.asks);
  }

  scope-on : (query : Raw) (f : Fault) → HasQueryFault first query f → HasQueryFault second query f
  scope-on query f h = subst (λ z. IsFirst f (query_faults z query)) (sym (headings-same first second o.same)) h

  query-on : (query : List ℕ) (f : Fault) → IsQueryFault first query f → IsQueryFault second query f
  query-on query f (of_query_reading h) = of_query_reading h
  query-on query f (of_query_scope tree t h) = of_query_scope tree t (scope-on tree f h)

  pub fault-on : (query : List ℕ) (role : Role) (f : Fault) → IsTextFault text query role f → IsTextFault other query role f
  fault-on query _ f (of_program h) = absurd (no-fault f h)
  fault-on query _ f (of_query tree l h) =
      of_query second second-faultless (query-on query f (subst (λ t. IsQueryFault t query f) (tree-is tree l.is_program) h))

  pub check-fault-on : (query proof : List ℕ) (role : Role) (f : Fault) → IsCheckFault text query proof role f → IsCheckFault other query proof role f
  check-fault-on query proof role f (of_run_texts h) = of_run_texts (fault-on query role f h)
  check-fault-on query proof _ f (of_proof bound p a h) = of_proof bound p (asks-on query bound p a) h

  pub give-on : (query proof : List ℕ) (bound : ℕ) (p : ProblemTree) (d : DerivationLines) → TextsGive text query proof bound p d
      → TextsGive other query proof bound p d
  give-on query proof bound p d g = record { asks = asks-on query bound p g.asks; is_text = g.is_text }

  -- ---- sessions

  own-on : (line : List ℕ) (f : Fault) → session.IsQueryFault first line f → session.IsQueryFault second line f
  own-on line f (session.lexical h) = session.lexical h
  own-on line f (session.grammatical l e i h) = session.grammatical l e i h
  own-on line f (session.of_scope tree t h) = session.of_scope tree t (scope-on tree f h)

  line-on : (bound line : ℕ) (w : List ℕ) (what : Result ProblemTree Fault) → LineAsks first bound line w what → LineAsks second bound line w what
  line-on bound line w (Ok p) h = record { tree = h.tree; is_query = h.is_query; asks = asked-of h.tree bound p h.asks }
  line-on bound line w (Err f) h = (h.0, own-on w h.0 h.1, h.2)

  lines-on : (bound line : ℕ) (ls : List (List ℕ)) (qs : List QueryLine) → HaveQueries first bound line ls qs → HaveQueries second bound line ls qs
  lines-on bound line _ _ no_line = no_line
  lines-on bound line _ _ (passed {rest = rest} {queries = queries} e h) = passed e (lines-on bound (line + 1) rest queries h)
  lines-on bound line _ _ (asked {text = w} {rest = rest} {queries = queries} what e q h) =
      asked what e (line-on bound line w what q) (lines-on bound (line + 1) rest queries h)

  pub queries-on : (tree : ProgramTree) → IsFaultless text tree → (queries : List ℕ) (bound : ℕ) (qs : List QueryLine) → AreQueries tree queries bound qs
      → AreQueries second queries bound qs
  queries-on tree l queries bound qs h =
      lines-on bound 1 (lines queries) qs (subst (λ t. AreQueries t queries bound qs) (tree-is tree l.is_program) h)
