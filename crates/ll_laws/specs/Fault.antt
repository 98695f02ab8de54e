-- The first node of a derivation, in prefix order, that does not fit, with its first reason.
--
-- Reasons: 1 the rule does not fit the goal; 2 bounded resources left; 3 not a dealing; 4 no such resource; 5 no such leaf; 6 wrong
-- number of terms; 7 the head is not the goal; 8 wrong parts; 9 the label is not new; 10 the constant is not new; 11 wrong number of
-- terms for the query's variables, at node 0; 12 numbers do not fit. At a clause node they are judged in the order 1, 4, 5, 6, 7, 8, 3, and
-- at a whole-number node in the order 1, 2, 12.
use Rattle.std.specs.Prelude.{ℕ, suc, Bool, true, false, ◌&&◌, ◌||◌, not, if◌then◌else◌, List, [], ◌∷◌, ◌++◌, length, nat_eq, nat_lt, Option, Some, None}
use Rattle.std.specs.Prelude.{slice_get}
use Rattle.std.specs.List.{list_any}
use Rattle.std.specs.Ordering.{int_eq}
use Rattle.ll_bank.specs.declared.Head.TheVariants.{Eigen}
use Rattle.ll_bank.specs.Term.{Term, Var, Int, Con, Ap, head_eq}
use Rattle.ll_bank.specs.Form.{Form, Top, One, Atom, With, Tensor, Plus, Bang, Lolli, Imp, Forall, Exists, Use, instantiate, form_has_eigen, Num}
use Rattle.ll_laws.specs.Leaf.{Premise, Needs, NeedsFree, Leaf, ways, leaf}
use Rattle.ll_laws.specs.Module.{Setting, ModuleTree, unfold_load}
use Rattle.ll_laws.specs.Shows.{Tree, OneNode, EraseNode, TensorNode, WithNode, LeftNode, RightNode, BangNode, LolliNode, ImpNode, ForallNode, ExistsNode}
use Rattle.ll_laws.specs.Shows.{UseNode, ClauseNode, Parts, NoParts, BoundedPart, UnboundedPart, Labelled, clauses, has_label, part, rest, splits, all_in}
use Rattle.ll_laws.specs.Shows.{Found, Missing, Took, pick, NumNode}
use Rattle.ll_laws.specs.Number.{holds}

-- what checking a tree gives
pub data Checked : Type 0 where
  -- it fits; the number of the node after it
  Fits : ℕ → Checked
  -- the node that does not, and the reason
  Fault : ℕ → ℕ → Checked

-- one check after another
abbrev pub then_check : Checked → (ℕ → Checked) → Checked
then_check (Fits k) go = go k
then_check (Fault k r) go = Fault k r

-- reason r at node k unless the test holds
abbrev pub unless : Bool → ℕ → ℕ → Checked → Checked
unless ok k r c = if ok then c else Fault k r

-- no bounded clause
abbrev pub is_empty : List Labelled → Bool
is_empty [] = true
is_empty (l ∷ ls) = false

-- two terms are one
abbrev pub term_eq : Term → Term → Bool
term_eq (Var x) (Var y) = nat_eq x y
term_eq (Int x) (Int y) = int_eq x y
term_eq (Con h) (Con k) = head_eq h k
term_eq (Ap f a) (Ap g b) = term_eq f g && term_eq a b
term_eq _ _ = false

-- the parts are as many as the premises, and of their kinds
abbrev pub parts_fit : Parts → List Premise → Bool
parts_fit NoParts [] = true
parts_fit (BoundedPart s x ps) (Needs g ∷ gs) = parts_fit ps gs
parts_fit (UnboundedPart x ps) (NeedsFree g ∷ gs) = parts_fit ps gs
parts_fit _ _ = false

-- the parts deal out d
abbrev pub parts_deal : Parts → List Labelled → Bool
parts_deal NoParts d = is_empty d
parts_deal (BoundedPart s x ps) d = all_in s d && parts_deal ps (rest s d)
parts_deal (UnboundedPart x ps) d = parts_deal ps d

-- what is said of a clause node itself: its reason, or its premises and the clauses left for them
pub data Judged : Type 0 where
  Wrong : ℕ → Judged
  Right : List Premise → List Labelled → Judged

-- the node judged by its leaf
abbrev pub judge_leaf : Term → Parts → List Labelled → Option Leaf → Judged
judge_leaf a ps e None = Wrong 6
judge_leaf a ps e (Some l) =
    if term_eq l.head a then (if parts_fit ps l.premises then (if parts_deal ps e then Right l.premises e else Wrong 3) else Wrong 8) else Wrong 7

-- the node judged by its clause, if it was found
abbrev pub judge_clause : Term → ℕ → List Term → Parts → Found → Judged
judge_clause a k ts ps Missing = Wrong 4
judge_clause a k ts ps (Took r e) = if nat_lt k (length (ways r)) then judge_leaf a ps e (leaf r k ts) else Wrong 5

-- the module of a load
abbrev pub module_of : Setting → ℕ → Option ModuleTree
module_of beside k = slice_get beside.modules k

-- a clause node that was judged, and then its parts
abbrev pub on_judged : Judged → ℕ → (List Premise → List Labelled → Checked) → Checked
on_judged (Wrong r) k go = Fault k r
on_judged (Right gs e) k go = go gs e

-- the goal of a load, where it has a module; in a valid problem it has
abbrev pub on_module : Option ModuleTree → ℕ → (ModuleTree → Checked) → Checked
on_module None k go = Fault k 1
on_module (Some l) k go = go l

abbrev mutual
  -- the first fault of a tree whose first node has number k, over unbounded clauses c and bounded clauses d
  pub fault : Setting → ℕ → Tree → List Labelled → List Labelled → Form → Checked
  fault beside k OneNode c d One = unless (is_empty d) k 2 (Fits (suc k))
  fault beside k EraseNode c d Top = Fits (suc k)
  fault beside k (TensorNode s t x y) c d (Tensor g h) = unless (splits s t d) k 3
      (then_check (fault beside (suc k) x c (part s d) g) (λ m. fault beside m y c (part t d) h))
  fault beside k (WithNode x y) c d (With g h) = then_check (fault beside (suc k) x c d g) (λ m. fault beside m y c d h)
  fault beside k (LeftNode x) c d (Plus g h) = fault beside (suc k) x c d g
  fault beside k (RightNode x) c d (Plus g h) = fault beside (suc k) x c d h
  fault beside k (BangNode x) c d (Bang g) = unless (is_empty d) k 2 (fault beside (suc k) x c d g)
  fault beside k (LolliNode n x) c d (Lolli r g) = unless (not (has_label c n || has_label d n)) k 9
      (fault beside (suc k) x c (d ++ record { label = n; clause = r } ∷ []) g)
  fault beside k (ImpNode n x) c d (Imp r g) = unless (not (has_label c n || has_label d n)) k 9
      (fault beside (suc k) x (record { label = n; clause = r } ∷ c) d g)
  fault beside k (ForallNode e x) c d (Forall g) = unless (not (list_any (form_has_eigen e) (g ∷ (clauses c ++ clauses d)))) k 10
      (fault beside (suc k) x c d (instantiate g (Con (Eigen e))))
  fault beside k (ExistsNode t x) c d (Exists g) = fault beside (suc k) x c d (instantiate g t)
  fault beside k (UseNode x) c d (Use m ts g) = on_module (module_of beside m) k (λ l. fault beside (suc k) x c d (unfold_load l ts g))
  fault beside k NumNode c d (Num r t u) = unless (is_empty d) k 2 (unless (holds beside.operators r t u) k 12 (Fits (suc k)))
  fault beside k (ClauseNode n j ts ps) c d (Atom a) = on_judged (judge_clause a j ts ps (pick n c d)) k (λ gs e. fault_parts beside (suc k) ps c e gs)
  fault beside k _ c d _ = Fault k 1

  -- the first fault of a clause node's parts
  pub fault_parts : Setting → ℕ → Parts → List Labelled → List Labelled → List Premise → Checked
  fault_parts beside k NoParts c d gs = Fits k
  fault_parts beside k (BoundedPart s x ps) c d (Needs g ∷ gs) = then_check (fault beside k x c (part s d) g) (λ m. fault_parts beside m ps c (rest s d) gs)
  fault_parts beside k (UnboundedPart x ps) c d (NeedsFree g ∷ gs) = then_check (fault beside k x c [] (Bang g)) (λ m. fault_parts beside m ps c d gs)
  fault_parts beside k _ c d _ = Fits k
