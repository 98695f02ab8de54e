-- What one node makes of its sequent: a reason, or the sequents of its children; and what waiting sequents owe.
use Rattle.std.specs.Prelude.{◌≡◌, ℕ, Bool, ◌||◌, not, if◌then◌else◌, List, [], ◌∷◌, ◌++◌, map, All, Option, Some, None}
use Rattle.std.specs.List.{list_any}
use Rattle.ll_bank.specs.declared.Head.TheVariants.{Eigen}
use Rattle.ll_bank.specs.Term.{Con}
use Rattle.ll_bank.specs.Form.{Form, Top, One, Atom, With, Tensor, Plus, Bang, Lolli, Imp, Forall, Exists, Use, Num, instantiate, form_has_eigen}
use Rattle.ll_bank.specs.Nodes.{Nodes}
use Rattle.ll_laws.specs.Leaf.{Premise, Needs, NeedsFree}
use Rattle.ll_laws.specs.Module.{Setting, ModuleTree, unfold_load}
use Rattle.ll_laws.specs.Number.{holds}
use Rattle.ll_laws.specs.Shows.{Tree, OneNode, Parts, NoParts, BoundedPart, UnboundedPart, Labelled, clauses, has_label, part, rest, splits, pick}
use Rattle.ll_laws.specs.Line.{PartLine, Labels, Free, Line, OneLine, EraseLine, WithLine, LeftLine, RightLine, BangLine, UseLine, TensorLine, LolliLine}
use Rattle.ll_laws.specs.Line.{ImpLine, ForallLine, ExistsLine, ClauseLine, NumLine, trees_of}
use Rattle.ll_laws.specs.Fault.{Checked, Fits, then_check, is_empty, Judged, Wrong, Right, judge_clause, module_of, fault}
use Rattle.ll_sequent.specs.declared.sequents.Resource.{Resource}
use Rattle.ll_sequent.specs.declared.sequents.Sequent.{Sequent}
use Rattle.ll_sequent.specs.declared.sequents.Step.{Step}
use Rattle.ll_sequent.specs.declared.sequents.Step.TheVariants.{Refused, Leaves}
use Rattle.ll_sequent.specs.Sequents.{SequentTree, sequent_in, IsSequent}

-- a node is refused for a reason, or leaves sequents for its children
pub data Made : Type 0 where
  Refuses : ℕ → Made
  Asks : List SequentTree → Made

-- a sequent of its parts
abbrev pub sequent : List Labelled → List Labelled → Form → SequentTree
sequent c d g = record { free = c; bounded = d; goal = g }

-- the sequents, if the test holds, and else the reason
abbrev pub provided : Bool → ℕ → List SequentTree → Made
provided ok r qs = if ok then Asks qs else Refuses r

-- what a clause node says of its premises, without their derivations
abbrev pub blank : List PartLine → Parts
blank [] = NoParts
blank (Labels s ∷ ps) = BoundedPart s OneNode (blank ps)
blank (Free ∷ ps) = UnboundedPart OneNode (blank ps)

-- the sequents of the premises of a clause node
abbrev pub premises : List PartLine → List Labelled → List Labelled → List Premise → List SequentTree
premises (Labels s ∷ ps) c d (Needs g ∷ gs) = sequent c (part s d) g ∷ premises ps c (rest s d) gs
premises (Free ∷ ps) c d (NeedsFree g ∷ gs) = sequent c [] (Bang g) ∷ premises ps c d gs
premises _ c d _ = []

-- a clause node that was judged
abbrev pub made_of : List PartLine → List Labelled → Judged → Made
made_of ps c (Wrong r) = Refuses r
made_of ps c (Right gs e) = Asks (premises ps c e gs)

-- the sequent of a load, where it has a module
abbrev pub made_by : Option ModuleTree → (ModuleTree → SequentTree) → Made
made_by None go = Refuses 1
made_by (Some l) go = Asks (go l ∷ [])

-- what the rule of a node makes of its sequent
abbrev pub made : Setting → Line → List Labelled → List Labelled → Form → Made
made beside OneLine c d One = provided (is_empty d) 2 []
made beside EraseLine c d Top = Asks []
made beside (TensorLine s t) c d (Tensor g h) = provided (splits s t d) 3 (sequent c (part s d) g ∷ sequent c (part t d) h ∷ [])
made beside WithLine c d (With g h) = Asks (sequent c d g ∷ sequent c d h ∷ [])
made beside LeftLine c d (Plus g h) = Asks (sequent c d g ∷ [])
made beside RightLine c d (Plus g h) = Asks (sequent c d h ∷ [])
made beside BangLine c d (Bang g) = provided (is_empty d) 2 (sequent c d g ∷ [])
made beside (LolliLine n) c d (Lolli r g) = provided (not (has_label c n || has_label d n)) 9 (sequent c (d ++ record { label = n; clause = r } ∷ []) g ∷ [])
made beside (ImpLine n) c d (Imp r g) = provided (not (has_label c n || has_label d n)) 9 (sequent (record { label = n; clause = r } ∷ c) d g ∷ [])
made beside (ForallLine e) c d (Forall g) = provided (not (list_any (form_has_eigen e) (g ∷ (clauses c ++ clauses d)))) 10
    (sequent c d (instantiate g (Con (Eigen e))) ∷ [])
made beside (ExistsLine t) c d (Exists g) = Asks (sequent c d (instantiate g t) ∷ [])
made beside UseLine c d (Use m ts g) = made_by (module_of beside m) (λ l. sequent c d (unfold_load l ts g))
made beside NumLine c d (Num r t u) = if is_empty d then provided (holds beside.operators r t u) 12 [] else Refuses 2
made beside (ClauseLine n j ts ps) c d (Atom a) = made_of ps c (judge_clause a j ts (blank ps) (pick n c d))
made beside _ c d _ = Refuses 1

-- the same of a whole sequent
abbrev pub made_at : Setting → Line → SequentTree → Made
made_at beside line q = made beside line q.free q.bounded q.goal

-- ---- what waiting sequents owe

-- the first fault of trees, the first of whose nodes has number k, each with its sequent
abbrev pub faults : Setting → ℕ → List Tree → List SequentTree → Checked
faults beside k (x ∷ xs) (q ∷ qs) = then_check (fault beside k x q.free q.bounded q.goal) (λ m. faults beside m xs qs)
faults beside k _ _ = Fits k

-- the whole is judged as the trees that these nodes make are judged at the sequents that wait
pub record Owes (beside : Setting) (whole : Checked) (k : ℕ) (lines : List Line) (qs : List SequentTree) : Type 0 where
  pub trees : List Tree
  pub are : trees_of lines ≡ Some trees
  pub same : whole ≡ faults beside k trees qs

-- ---- as a bank shows it

-- what was made of a sequent
abbrev pub made_in : Nodes → List Resource → Step → Made
made_in bank free (Refused r) = Refuses r
made_in bank free (Leaves qs) = Asks (map (sequent_in bank free) qs.items)

-- the sequents that a step leaves are sequents, and have all unbounded clauses
pub record AreLeft (modules : List ModuleTree) (bank : Nodes) (count : ℕ) (qs : List Sequent) : Type 0 where
  pub each : All (IsSequent modules bank) qs
  pub whole : All (λ (q : Sequent). q.free ≡ count) qs

-- and so of a step
abbrev pub IsLeft : List ModuleTree → Nodes → ℕ → Step → Type 0
IsLeft modules bank count (Refused r) = Unit {0}
IsLeft modules bank count (Leaves qs) = AreLeft modules bank count qs.items
