-- The text of a derivation with a table of shared terms: version 2.
use Rattle.std.specs.Prelude.{ℕ, List, [], ◌++◌, flat_map, codes, decimal}
use Rattle.ll_bank.specs.Term.{Term, Var, Int, Con, Ap}
use Rattle.ll_laws.specs.Output.{line, head_text, term_text}
use Rattle.ll_laws.specs.Line.{Line, OneLine, EraseLine, TensorLine, WithLine, LeftLine, RightLine, BangLine, LolliLine, ImpLine, ForallLine, ExistsLine}
use Rattle.ll_laws.specs.Line.{UseLine, NumLine, ClauseLine, DerivationLines}
use Rattle.ll_laws.specs.ProofText.{field, part_field, node_text}
use Rattle.ll_prooftext.specs.Table.{row_of, table}

-- a term in a field: one with arguments by its row, and any other as it is
abbrev pub short_text : List (List ℕ) → List Term → Term → List ℕ
short_text names rows (Ap f a) = codes "@" ++ decimal (row_of rows (Ap f a))
short_text names rows (Var n) = term_text names (Var n)
short_text names rows (Int z) = term_text names (Int z)
short_text names rows (Con h) = term_text names (Con h)

abbrev pub short_field : List (List ℕ) → List Term → Term → List ℕ
short_field names rows t = field (short_text names rows t)

-- a head and a field for each argument; `::` stands in front like any other head
abbrev pub spine_text : List (List ℕ) → List Term → Term → List ℕ
spine_text names rows (Ap f a) = spine_text names rows f ++ short_field names rows a
spine_text names rows (Con h) = head_text names h
spine_text names rows (Var n) = []
spine_text names rows (Int z) = []

-- the line of a row
abbrev pub share_line : List (List ℕ) → List Term → Term → List ℕ
share_line names rows t = line (codes "share" ++ field (spine_text names rows t))

-- the line of a variable of the query, and that of a node, without its end, where terms are shown so
abbrev pub let_text_by : (Term → List ℕ) → Term → List ℕ
let_text_by show t = codes "let" ++ show t

abbrev pub node_text_by : (Term → List ℕ) → Line → List ℕ
node_text_by show (ExistsLine t) = codes "exists" ++ show t
node_text_by show (ClauseLine n k ts ps) = codes "clause" ++ field (decimal n) ++ field (decimal k) ++ flat_map show ts ++ flat_map part_field ps
node_text_by show OneLine = node_text [] OneLine
node_text_by show EraseLine = node_text [] EraseLine
node_text_by show (TensorLine s t) = node_text [] (TensorLine s t)
node_text_by show WithLine = node_text [] WithLine
node_text_by show LeftLine = node_text [] LeftLine
node_text_by show RightLine = node_text [] RightLine
node_text_by show BangLine = node_text [] BangLine
node_text_by show (LolliLine n) = node_text [] (LolliLine n)
node_text_by show (ImpLine n) = node_text [] (ImpLine n)
node_text_by show (ForallLine c) = node_text [] (ForallLine c)
node_text_by show UseLine = node_text [] UseLine
node_text_by show NumLine = node_text [] NumLine

-- the lines of the variables and of the nodes
abbrev pub lines_by : (Term → List ℕ) → DerivationLines → List ℕ
lines_by show d = flat_map (λ t. line (let_text_by show t)) d.asked ++ flat_map (λ n. line (node_text_by show n)) d.nodes

-- the text over some rows: its version, a line for each row, one for each variable of the query, and one for each node in prefix order
abbrev pub text_over : List (List ℕ) → List Term → DerivationLines → List ℕ
text_over names rows d = line (codes "proof 2") ++ (flat_map (share_line names rows) rows ++ lines_by (short_field names rows) d)

-- the text of the derivation: over exactly its table
unfoldable pub proof_text2 : List (List ℕ) → DerivationLines → List ℕ
proof_text2 names d = text_over names (table d) d
