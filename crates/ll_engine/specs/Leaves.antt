-- The candidates for an atom, by the predicates of the heads of clauses.
use Rattle.std.specs.Prelude.{◌≡◌, ℕ, suc, ◌+◌, sum_by, Bool, ◌&&◌, nat_eq, List, [], ◌∷◌, ◌++◌, Option, Some, None, if◌then◌else◌}
use Rattle.ll_bank.specs.declared.FormAt.{FormAt}
use Rattle.ll_bank.specs.Term.{Term, head_of, arity, same_head}
use Rattle.ll_bank.specs.Form.{Form, Top, One, Atom, With, Tensor, Plus, Bang, Lolli, Imp, Forall, Exists, Use, Num}
use Rattle.ll_bank.specs.Nodes.{Nodes, form_tree}
use Rattle.ll_laws.specs.declared.Candidate.{Candidate}
use Rattle.ll_laws.specs.Settle.{Entry, map_entry}
use Rattle.ll_laws.specs.Attempt.{is_open}
use Rattle.ll_engine.specs.declared.heads.Predicate.{Predicate}

-- the predicate of a term, none where it has no head
abbrev pub IsPredicate : Term → Option Predicate → Type 0
IsPredicate t None = head_of t ≡ None
IsPredicate t (Some p) = (head_of t ≡ Some p.head) × (arity t ≡ p.arity)

-- the term has this predicate
abbrev pub has_predicate : Predicate → Term → Bool
has_predicate p t = same_head (Some p.head) (head_of t) && nat_eq p.arity (arity t)

-- the heads of a clause's leaves, from left to right, as they stand under their quantifiers
abbrev pub heads : Form → List Term
heads Top = []
heads One = []
heads (Atom a) = a ∷ []
heads (With r s) = heads r ++ heads s
heads (Tensor f g) = []
heads (Plus f g) = []
heads (Bang f) = []
heads (Lolli g r) = heads r
heads (Imp g r) = heads r
heads (Forall r) = heads r
heads (Exists f) = []
heads (Use m ts f) = []
heads (Num r t u) = []

-- the leaves from leaf k on whose heads pass a test
abbrev pub head_tries : (Term → Bool) → ℕ → ℕ → List Term → List Candidate
head_tries test label k [] = []
head_tries test label k (h ∷ hs) = if test h then record { label = label; leaf = k } ∷ head_tries test label (suc k) hs else head_tries test label (suc k) hs

-- the leaves of an entry that may be picked whose heads pass a test
abbrev pub open_tries : (Term → Bool) → Entry Form → List Candidate
open_tries test e = if is_open e then head_tries test e.label 0 (heads e.clause) else []

-- an entry with its clause as it stands in the bank
abbrev pub standing_entry : Nodes → Entry FormAt → Entry Form
standing_entry bank e = map_entry (λ f. form_tree bank f.0) e

-- the heads of clauses that wait, the last one first
abbrev pub waiting_heads : Nodes → List FormAt → List Term
waiting_heads bank [] = []
waiting_heads bank (f ∷ fs) = waiting_heads bank fs ++ heads (form_tree bank f.0)

-- how much of a clause there is to walk through
abbrev pub walk_size : Form → ℕ
walk_size (With r s) = suc (walk_size r + walk_size s)
walk_size (Lolli g r) = suc (walk_size r)
walk_size (Imp g r) = suc (walk_size r)
walk_size (Forall r) = suc (walk_size r)
walk_size _ = 1

-- and of clauses that wait
abbrev pub waiting_size : Nodes → List FormAt → ℕ
waiting_size bank fs = sum_by (λ f. walk_size (form_tree bank f.0)) fs
