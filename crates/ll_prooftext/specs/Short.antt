-- The lines of a derivation whose terms are shown by a table, or left out.
use Rattle.std.specs.Prelude.{ℕ, Bool, true, false, List, [], ◌∷◌, All}
use Rattle.ll_bank.specs.declared.At.{At}
use Rattle.ll_bank.specs.Term.{Term}
use Rattle.ll_bank.specs.Nodes.{Nodes, term_trees}
use Rattle.ll_laws.specs.declared.Rule.{Rule}
use Rattle.ll_laws.specs.declared.Rule.TheVariants.{One, Erase, Tensor, With, Left, Right, Bang, Lolli, Imp, Forall, Exists, Use, Num, Clause}
use Rattle.ll_prooftext.specs.declared.table.Table.{Table}
use Rattle.ll_prooftext.specs.declared.short.Fields.{Fields}
use Rattle.ll_prooftext.specs.declared.short.Fields.TheVariants.{Rows, Bare}
use Rattle.ll_prooftext.specs.ProofText2.{short_field}
use Rattle.ll_prooftext.specs.Tables.{HasNumberAt, IsTableOf}

-- the places of the terms in the fields of a node
abbrev pub rule_places : Rule → List At
rule_places (Exists t) = t ∷ []
rule_places (Clause n k ts ps) = ts.items
rule_places One = []
rule_places Erase = []
rule_places (Tensor s t) = []
rule_places With = []
rule_places Left = []
rule_places Right = []
rule_places Bang = []
rule_places (Lolli n) = []
rule_places (Imp n) = []
rule_places (Forall c) = []
rule_places Use = []
rule_places Num = []

-- the table has the rows at its places
abbrev pub IsWhole : Nodes → Table → Type 0
IsWhole bank t = IsTableOf bank t (term_trees bank t.rows.items)

abbrev pub HasRows : Nodes → Fields → Type 0
HasRows bank (Rows t) = IsWhole bank t.now
HasRows bank Bare = Unit {0}

-- a term at this place can be shown
abbrev pub HasField : Fields → At → Type 0
HasField (Rows t) at = HasNumberAt t.now at.0
HasField Bare at = Unit {0}

abbrev pub HasNodeFields : Fields → Rule → Type 0
HasNodeFields fields r = All (HasField fields) (rule_places r)

-- how a term is shown
abbrev pub shown : List (List ℕ) → Nodes → Fields → Term → List ℕ
shown names bank (Rows t) u = short_field names (term_trees bank t.now.rows.items) u
shown names bank Bare u = []

-- a node with fields for terms
abbrev pub has_terms : Rule → Bool
has_terms (Exists t) = true
has_terms (Clause n k ts ps) = true
has_terms One = false
has_terms Erase = false
has_terms (Tensor s t) = false
has_terms With = false
has_terms Left = false
has_terms Right = false
has_terms Bang = false
has_terms (Lolli n) = false
has_terms (Imp n) = false
has_terms (Forall c) = false
has_terms Use = false
has_terms Num = false
