-- The keys under which clauses are loaded.
use Rattle.std.specs.Prelude.{◌≡◌, ℕ, ◌+◌, ◌%◌, ◌^◌, nat_lt, List, [], ◌∷◌, length, Option, Some, None, if◌then◌else◌}
use Rattle.ll_bank.specs.declared.FormAt.{FormAt}
use Rattle.ll_bank.specs.declared.Head.{Head}
use Rattle.ll_bank.specs.declared.Head.TheVariants.{Name, Eigen, Bound}
use Rattle.ll_bank.specs.Term.{head_of}
use Rattle.ll_bank.specs.Form.{Form, Top, One, Atom, With, Tensor, Plus, Bang, Lolli, Imp, Forall, Exists, Use, Num}
use Rattle.ll_bank.specs.Nodes.{Nodes, form_tree}
use Rattle.ll_laws.specs.Settle.{Entry}
use Rattle.ll_resources.specs.Resources.{Resources}

-- the key of a head: a name has its own, and all else has 0, as the last name of all has
abbrev pub head_key : Head → ℕ
head_key (Name n) = (n + 1) % 2 ^ 32
head_key (Eigen n) = 0
head_key (Bound n) = 0

-- of what may have a head
abbrev pub key_of_head : Option Head → ℕ
key_of_head None = 0
key_of_head (Some h) = head_key h

-- of a clause: that of its head where it has one leaf, behind premises and quantifiers alone
abbrev pub clause_key : Form → ℕ
clause_key (Atom t) = key_of_head (head_of t)
clause_key (Lolli g r) = clause_key r
clause_key (Imp g r) = clause_key r
clause_key (Forall r) = clause_key r
clause_key Top = 0
clause_key One = 0
clause_key (With r s) = 0
clause_key (Tensor f g) = 0
clause_key (Plus f g) = 0
clause_key (Bang f) = 0
clause_key (Exists f) = 0
clause_key (Use m ts f) = 0
clause_key (Num r t u) = 0

-- of entries: the oldest so many are the program's and have none
unfoldable pub keys_in : Nodes → ℕ → List (Entry FormAt) → List (Option ℕ)
keys_in bank count [] = []
keys_in bank count (e ∷ es) = (if nat_lt (length es) count then None else Some (clause_key (form_tree bank e.clause.0))) ∷ keys_in bank count es

-- entries were loaded under the keys of their clauses, but for so many of the program
pub record AreKeyed (bank : Nodes) (count : ℕ) (r : Resources FormAt) : Type 0 where
  pub keys : r.keys ≡ keys_in bank count r.entries
