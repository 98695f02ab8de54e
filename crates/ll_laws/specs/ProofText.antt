-- The text of a derivation, and the text that a run prints with proofs.
use Rattle.std.specs.Prelude.{ℕ, suc, List, [], ◌∷◌, ◌++◌, flat_map, count_by, Option, Some, None, codes, decimal}
use Rattle.ll_bank.specs.Term.{Term}
use Rattle.ll_laws.specs.declared.Event.{Event}
use Rattle.ll_laws.specs.declared.Event.TheVariants.{Answer, Reached}
use Rattle.ll_laws.specs.Search.{is_answer, is_reached}
use Rattle.ll_laws.specs.Problem.{ProblemTree, problem_events, problem_cost}
use Rattle.ll_laws.specs.Output.{line, argument_text, term_text, answer_text, summary_text}
use Rattle.ll_laws.specs.Line.{PartLine, Labels, Free, Line, OneLine, EraseLine, TensorLine, WithLine, LeftLine, RightLine, BangLine, UseLine, LolliLine}
use Rattle.ll_laws.specs.Line.{ImpLine, ForallLine, ExistsLine, ClauseLine, DerivationLines, NumLine}
use Rattle.ll_laws.specs.Dealt.{dealt}

-- a field: a space and its text
abbrev pub field : List ℕ → List ℕ
field text = codes " " ++ text

-- labels with a space between two
abbrev pub labels_text : List ℕ → List ℕ
labels_text [] = []
labels_text (n ∷ []) = decimal n
labels_text (n ∷ ns) = decimal n ++ field (labels_text ns)

-- a set of labels
abbrev pub set_text : List ℕ → List ℕ
set_text ns = codes "{" ++ labels_text ns ++ codes "}"

-- a term in the form of an argument
abbrev pub term_field : List (List ℕ) → Term → List ℕ
term_field names t = field (argument_text t (term_text names t))

-- what a clause node says of a premise
abbrev pub part_field : PartLine → List ℕ
part_field (Labels ns) = field (set_text ns)
part_field Free = field (codes "!")

-- one node, without the end of its line
abbrev pub node_text : List (List ℕ) → Line → List ℕ
node_text names OneLine = codes "true"
node_text names EraseLine = codes "erase"
node_text names (TensorLine s t) = codes "tensor" ++ field (set_text s) ++ field (set_text t)
node_text names WithLine = codes "with"
node_text names LeftLine = codes "left"
node_text names RightLine = codes "right"
node_text names BangLine = codes "bang"
node_text names (LolliLine n) = codes "lolli" ++ field (decimal n)
node_text names (ImpLine n) = codes "imp" ++ field (decimal n)
node_text names (ForallLine c) = codes "forall" ++ field (decimal c)
node_text names (ExistsLine t) = codes "exists" ++ term_field names t
node_text names UseLine = codes "use"
node_text names NumLine = codes "num"
node_text names (ClauseLine n k ts ps) = codes "clause" ++ field (decimal n) ++ field (decimal k) ++ flat_map (term_field names) ts ++ flat_map part_field ps

-- the text of a derivation: its version, a line for each variable of the query, and a line for each node in prefix order
abbrev pub proof_text : List (List ℕ) → DerivationLines → List ℕ
proof_text names d =
    line (codes "proof 1") ++ flat_map (λ t. line (codes "let" ++ term_field names t)) d.asked ++ flat_map (λ n. line (node_text names n)) d.nodes

-- the text of the derivation of an answer, if it has one
abbrev pub derivation_text : List (List ℕ) → Option DerivationLines → List ℕ
derivation_text names None = []
derivation_text names (Some d) = proof_text names d

-- the lines of the answers among the events, after k answers, each with its derivation
abbrev pub proved_answers_text : ProblemTree → ℕ → List Event → List ℕ
proved_answers_text p k [] = []
proved_answers_text p k (Answer a ∷ es) = answer_text p (suc k) a ++ derivation_text p.names (dealt p a) ++ proved_answers_text p (suc k) es
proved_answers_text p k (Reached ∷ es) = proved_answers_text p k es

-- the text for a list of events and a cost, with proofs
abbrev pub proved_output_text : ProblemTree → List Event → ℕ → List ℕ
proved_output_text p es inferences = proved_answers_text p 0 es ++ summary_text (count_by is_answer es) (count_by is_reached es) inferences

-- the text that a run of the problem prints with proofs
abbrev pub proved_run_text : ProblemTree → List ℕ
proved_run_text p = proved_output_text p (problem_events p) (problem_cost p)
