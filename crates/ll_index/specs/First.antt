-- The outermost sign of an atom's first argument, by which leaves of clauses are told apart from the atom before they are unified.
use Rattle.std.specs.Prelude.{◌≡◌, ℕ, Bool, true, false, ◌&&◌, not, List, [], ◌∷◌, All, nat_eq, slice_get, filter, flat_map, Option, Some, None, unwrap_or}
use Rattle.std.specs.Ordering.{int_eq}
use Rattle.ll_bank.specs.declared.Head.{Head}
use Rattle.ll_bank.specs.declared.Head.TheVariants.{Name}
use Rattle.ll_bank.specs.Term.{Term, Int, Ap, head_of, arity, same_predicate}
use Rattle.ll_bank.specs.Form.{Form, Atom}
use Rattle.ll_laws.specs.declared.Candidate.{Candidate}
use Rattle.ll_laws.specs.Module.{ClauseTree, Setting}
use Rattle.ll_laws.specs.Settle.{Entry, Item, Goal}
use Rattle.ll_laws.specs.State.{State}
use Rattle.ll_laws.specs.Attempt.{entry_at, entry_tries, attempt}
use Rattle.ll_laws.specs.Search.{program_entries}
use Rattle.ll_laws.specs.Unify.{mgu}
use Rattle.ll_index.specs.declared.laws.First.{First}
use Rattle.ll_index.specs.declared.laws.First.TheVariants.{Open, Int as IntSign, Head as NameSign}
use Rattle.ll_index.specs.Standing.{StandingLeaf, standing_leaves}

-- the sign of a head with so many arguments: only a name can't give way to a term, nor be compared by what stands for it
abbrev pub name_sign : Option Head → ℕ → First
name_sign (Some (Name n)) k = NameSign n k
name_sign _ k = Open

-- the outermost sign of a term
abbrev pub sign_of : Term → First
sign_of (Int z) = IntSign z
sign_of t = name_sign (head_of t) (arity t)

-- and of a term that there may not be
abbrev pub sign_if_some : Option Term → First
sign_if_some None = Open
sign_if_some (Some t) = sign_of t

-- the first argument of a term, if it has one
abbrev pub first_argument : Term → Option Term
first_argument (Ap f a) = Some (unwrap_or (first_argument f) a)
first_argument _ = None

-- the outermost sign of the first argument of an atom
abbrev pub first_of : Term → First
first_of a = sign_if_some (first_argument a)

-- no term has both signs
abbrev pub signs_clash : First → First → Bool
signs_clash (IntSign y) (IntSign z) = not (int_eq y z)
signs_clash (IntSign y) (NameSign n k) = true
signs_clash (NameSign n k) (IntSign z) = true
signs_clash (NameSign n k) (NameSign m j) = not (nat_eq n m && nat_eq k j)
signs_clash _ _ = false

-- the sign of a leaf that there may not be
abbrev pub first_if_leaf : Option StandingLeaf → First
first_if_leaf None = Open
first_if_leaf (Some l) = first_of l.head

-- the outermost sign of the first argument of the head of a clause's leaf, as it stands
abbrev pub leaf_first : Form → ℕ → First
leaf_first r k = first_if_leaf (slice_get (standing_leaves r) k)

-- the candidates for an atom among the leaves of an entry, less those whose sign clashes with this one
abbrev pub entry_matches : First → Term → Entry Form → List Candidate
entry_matches first a e = filter (λ c. not (signs_clash first (leaf_first e.clause c.leaf))) (entry_tries a e)

-- the candidates for an atom among a program's clauses, less those whose sign clashes with this one
abbrev pub program_matches : First → Term → List ClauseTree → List Candidate
program_matches first a cs = flat_map (entry_matches first a) (program_entries 0 cs)

-- ---- laws

-- atoms of one predicate whose first arguments have signs that clash have no unifier
abbrev pub ClashesDiffer : Type 0
ClashesDiffer = (a b : Term) (levels : List ℕ) → same_predicate a b ≡ true → signs_clash (first_of a) (first_of b) ≡ true → mgu (a ∷ []) (b ∷ []) levels ≡ None

-- so a candidate for an atom whose sign clashes with the atom's gives nothing
abbrev pub ClashesGiveNothing : Type 0
ClashesGiveNothing =
    (m : Setting) (s : State) (a : Term) (rest : List (Item Form)) (e : Entry Form) → s.agenda ≡ Goal (Atom a) ∷ rest → entry_at s.context e.label ≡ Some e
    → All (λ c. signs_clash (first_of a) (leaf_first e.clause c.leaf) ≡ true → attempt m s c ≡ None) (entry_tries a e)
