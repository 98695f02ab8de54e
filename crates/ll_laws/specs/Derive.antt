-- What follows from clauses, in the words of the sequent calculus (Hodas and Miller 1994, right rules and backchaining), with sums,
-- existential goals and module loads beside their rules.
use Rattle.std.specs.Prelude.{◌≡◌, ℕ, suc, ◌+◌, true, false, List, [], ◌∷◌, ◌++◌, Some, slice_get, Contains}
use Rattle.std.specs.List.{list_any}
use Rattle.ll_bank.specs.declared.Head.TheVariants.{Eigen}
use Rattle.ll_bank.specs.Term.{Term, Con, is_closed}
use Rattle.ll_bank.specs.Form.{Form, Top, One, Atom, With, Tensor, Plus, Bang, Lolli, Imp, Forall, Exists, Use, instantiate, form_has_eigen, Num, Relation}
use Rattle.ll_laws.specs.Leaf.{Premise, Needs, NeedsFree, leaf}
use Rattle.ll_laws.specs.Module.{Setting, ModuleTree, unfold_load}
use Rattle.ll_laws.specs.Number.{holds}

-- the third list is dealt out to the first and the second: it is a shuffle of them
pub data Dealt {A : Type 0} : List A → List A → List A → Type 0 where
  dealt_none : Dealt [] [] []
  dealt_left : {x : A} {xs ys zs : List A} → Dealt xs ys zs → Dealt (x ∷ xs) ys (x ∷ zs)
  dealt_right : {x : A} {xs ys zs : List A} → Dealt xs ys zs → Dealt xs (x ∷ ys) (x ∷ zs)

-- eigenvariable c stands in none of the formulas
abbrev pub IsNew : ℕ → List Form → Type 0
IsNew c fs = list_any (form_has_eigen c) fs ≡ false

-- each term is closed
abbrev pub AreClosed : List Term → Type 0
AreClosed [] = Unit {0}
AreClosed (t ∷ ts) = (is_closed t ≡ true) × AreClosed ts

mutual
  -- the goal follows from the unbounded clauses c and the bounded clauses d, by a derivation with so many nodes; variables count
  -- as constants
  pub data Derivable (beside : Setting) : ℕ → List Form → List Form → Form → Type 0 where
    by_one : {c : List Form} → Derivable beside 1 c [] One
    by_top : {c d : List Form} → Derivable beside 1 c d Top
    by_tensor : {m n : ℕ} {c d e f : List Form} {g h : Form} → Dealt d e f → Derivable beside m c d g → Derivable beside n c e h
        → Derivable beside (suc (m + n)) c f (Tensor g h)
    by_with : {m n : ℕ} {c d : List Form} {g h : Form} → Derivable beside m c d g → Derivable beside n c d h → Derivable beside (suc (m + n)) c d (With g h)
    by_left : {m : ℕ} {c d : List Form} {g h : Form} → Derivable beside m c d g → Derivable beside (suc m) c d (Plus g h)
    by_right : {m : ℕ} {c d : List Form} {g h : Form} → Derivable beside m c d h → Derivable beside (suc m) c d (Plus g h)
    by_bang : {m : ℕ} {c : List Form} {g : Form} → Derivable beside m c [] g → Derivable beside (suc m) c [] (Bang g)
    by_lolli : {m : ℕ} {c d : List Form} {r g : Form} → Derivable beside m c (d ++ r ∷ []) g → Derivable beside (suc m) c d (Lolli r g)
    by_imp : {m : ℕ} {c d : List Form} {r g : Form} → Derivable beside m (r ∷ c) d g → Derivable beside (suc m) c d (Imp r g)
    by_forall : {m : ℕ} {c d : List Form} {g : Form} (k : ℕ) → IsNew k (g ∷ (c ++ d)) → Derivable beside m c d (instantiate g (Con (Eigen k)))
        → Derivable beside (suc m) c d (Forall g)
    by_exists : {m : ℕ} {c d : List Form} {g : Form} (t : Term) → is_closed t ≡ true → Derivable beside m c d (instantiate g t)
        → Derivable beside (suc m) c d (Exists g)
    by_use : {m k : ℕ} {c d : List Form} {g : Form} {ts : List Term} (l : ModuleTree) → slice_get beside.modules k ≡ Some l
        → Derivable beside m c d (unfold_load l ts g) → Derivable beside (suc m) c d (Use k ts g)
    by_num : {c : List Form} {r : Relation} {t u : Term} → holds beside.operators r t u ≡ true → Derivable beside 1 c [] (Num r t u)
    by_free : {m : ℕ} {c d : List Form} {a : Term} (r : Form) (k : ℕ) (ts : List Term) (ps : List Premise) → Contains c r → AreClosed ts
        → leaf r k ts ≡ Some (record { premises = ps; head = a }) → Premises beside m c d ps → Derivable beside (suc m) c d (Atom a)
    by_linear : {m : ℕ} {c d e : List Form} {a : Term} (r : Form) (k : ℕ) (ts : List Term) (ps : List Premise) → Dealt (r ∷ []) e d → AreClosed ts
        → leaf r k ts ≡ Some (record { premises = ps; head = a }) → Premises beside m c e ps → Derivable beside (suc m) c d (Atom a)

  -- each bounded premise follows from its part of d, and `{g}` from nothing bounded for each unbounded premise g
  pub data Premises (beside : Setting) : ℕ → List Form → List Form → List Premise → Type 0 where
    no_premise : {c : List Form} → Premises beside 0 c [] []
    a_premise : {m n : ℕ} {c d e f : List Form} {g : Form} {ps : List Premise} → Dealt d e f → Derivable beside m c d g → Premises beside n c e ps
        → Premises beside (m + n) c f (Needs g ∷ ps)
    a_free_premise : {m n : ℕ} {c e : List Form} {g : Form} {ps : List Premise} → Derivable beside m c [] (Bang g) → Premises beside n c e ps
        → Premises beside (m + n) c e (NeedsFree g ∷ ps)
