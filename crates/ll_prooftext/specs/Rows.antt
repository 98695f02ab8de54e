-- The lines of a derivation's text, in parts.
use Rattle.std.specs.Prelude.{ℕ, List, [], ◌++◌, flat_map, codes, decimal}
use Rattle.ll_bank.specs.Nodes.{Nodes}
use Rattle.ll_bank.specs.Term.{Term}
use Rattle.ll_laws.specs.declared.Rule.{Rule}
use Rattle.ll_laws.specs.declared.Rule.TheVariants.{One, Erase, Tensor, With, Left, Right, Bang, Lolli, Imp, Forall, Exists, Use, Num, Clause}
use Rattle.ll_laws.specs.Output.{line}
use Rattle.ll_laws.specs.Line.{Line, OneLine, EraseLine, TensorLine, WithLine, LeftLine, RightLine, BangLine, LolliLine, ImpLine, ForallLine, ExistsLine}
use Rattle.ll_laws.specs.Line.{UseLine, NumLine, ClauseLine}
use Rattle.ll_laws.specs.ShownLines.{line_of}
use Rattle.ll_laws.specs.ProofText.{field, set_text, term_field, part_field}

-- the first word of the line of a rule
abbrev pub word_text : Rule → List ℕ
word_text One = codes "true"
word_text Erase = codes "erase"
word_text (Tensor s t) = codes "tensor"
word_text With = codes "with"
word_text Left = codes "left"
word_text Right = codes "right"
word_text Bang = codes "bang"
word_text (Lolli n) = codes "lolli"
word_text (Imp n) = codes "imp"
word_text (Forall c) = codes "forall"
word_text (Exists t) = codes "exists"
word_text Use = codes "use"
word_text Num = codes "num"
word_text (Clause n k ts ps) = codes "clause"

-- what stands behind the first word
abbrev pub fields_text : List (List ℕ) → Line → List ℕ
fields_text names (TensorLine s t) = field (set_text s) ++ field (set_text t)
fields_text names (LolliLine n) = field (decimal n)
fields_text names (ImpLine n) = field (decimal n)
fields_text names (ForallLine c) = field (decimal c)
fields_text names (ExistsLine t) = term_field names t
fields_text names (ClauseLine n k ts ps) = field (decimal n) ++ (field (decimal k) ++ (flat_map (term_field names) ts ++ flat_map part_field ps))
fields_text names OneLine = []
fields_text names EraseLine = []
fields_text names WithLine = []
fields_text names LeftLine = []
fields_text names RightLine = []
fields_text names BangLine = []
fields_text names UseLine = []
fields_text names NumLine = []

-- the line of a variable of the query
abbrev pub let_text : List (List ℕ) → Term → List ℕ
let_text names t = line (codes "let" ++ term_field names t)

-- the line of a node
abbrev pub row_text : List (List ℕ) → Nodes → Rule → List ℕ
row_text names bank r = line (word_text r ++ fields_text names (line_of bank r))
