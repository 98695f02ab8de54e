-- The derivation of an answer: the nodes of its branch, with every label dealt out.
use Rattle.std.specs.Prelude.{◌≡◌, ℕ, List, [], ◌∷◌, ◌++◌, map, length, take, drop, slice_index, slice_index_or, Option, Some, None}
use Rattle.ll_laws.specs.declared.Step.{Step}
use Rattle.ll_laws.specs.declared.Step.TheVariants.{Plain, Right, Clause as ClauseStep}
use Rattle.ll_bank.specs.Term.{Term, Var}
use Rattle.ll_bank.specs.Form.{Form, Top, One, Atom, With, Tensor, Plus, Bang, Lolli, Imp, Forall, Exists, Use, instantiate, Num}
use Rattle.ll_laws.specs.Leaf.{Leaf, ways, leaf}
use Rattle.ll_laws.specs.Module.{Setting}
use Rattle.ll_laws.specs.Settle.{Entry, Item, Goal}
use Rattle.ll_laws.specs.State.{State, settle}
use Rattle.ll_laws.specs.Attempt.{stepped, entry_at, attempt_goal}
use Rattle.ll_laws.specs.Shows.{Tree}
use Rattle.ll_laws.specs.Line.{Line, OneLine, EraseLine, TensorLine, WithLine, LeftLine, RightLine, BangLine, UseLine, LolliLine, ImpLine, ForallLine}
use Rattle.ll_laws.specs.Line.{ExistsLine, ClauseLine, part_line, trees_of, lines, DerivationLines, NumLine}
use Rattle.ll_laws.specs.Run.{taken_by, run_start}
use Rattle.ll_laws.specs.Dealing.{deal}
use Rattle.ll_laws.specs.Problem.{ProblemTree, setting_of}
use Rattle.ll_laws.specs.Verdict.{root_bounded}
use Rattle.ll_laws.specs.Answered.{Answered}

-- ---- the nodes of a branch, whose variables have the terms that the answer gives them

-- the term of a variable; a variable that the list has no term for stands for itself
abbrev pub value : List Term → ℕ → Term
value all x = slice_index_or all x (Var x)

-- the terms of k variables from the n-th on
abbrev pub values : List Term → ℕ → ℕ → List Term
values all n k = take k (drop n all)

-- what a step tells: a node and the state that follows it, or nothing where the step does not fit the state
pub data Replayed : Type 0 where
  Off : Replayed
  On : Line → State → Replayed

-- a node where there is a state that follows
abbrev pub replayed : Line → Option State → Replayed
replayed n None = Off
replayed n (Some s) = On n s

-- a leaf of the entry with this label, with these terms on the way to it
abbrev pub atom_leaf : State → List (Item Form) → ℕ → ℕ → List Term → Option Leaf → Replayed
atom_leaf s rest label k us None = Off
atom_leaf s rest label k us (Some l) = On (ClauseLine label k us (map part_line l.premises)) (taken_by s rest label k us l.premises)

-- leaf k of an entry, with the terms of the variables that come next
abbrev pub atom_line : List Term → State → List (Item Form) → ℕ → ℕ → Option (Entry Form) → Replayed
atom_line all s rest label k None = Off
atom_line all s rest label k (Some e) =
    atom_leaf s rest label k (values all (length s.terms) (slice_index (ways e.clause) k))
    (leaf e.clause k (values all (length s.terms) (slice_index (ways e.clause) k)))

-- what a step tells of a state with this goal in front
abbrev pub line_of : Setting → List Term → State → Form → List (Item Form) → Step → Replayed
line_of beside all s One rest c = replayed OneLine (attempt_goal beside s One rest (record { label = 0; leaf = 0 }))
line_of beside all s Top rest c = replayed EraseLine (attempt_goal beside s Top rest (record { label = 0; leaf = 0 }))
line_of beside all s (Tensor f g) rest c = replayed (TensorLine [] []) (attempt_goal beside s (Tensor f g) rest (record { label = 0; leaf = 0 }))
line_of beside all s (With f g) rest c = replayed WithLine (attempt_goal beside s (With f g) rest (record { label = 0; leaf = 0 }))
line_of beside all s (Plus f g) rest Right = replayed RightLine (attempt_goal beside s (Plus f g) rest (record { label = 0; leaf = 1 }))
line_of beside all s (Plus f g) rest _ = replayed LeftLine (attempt_goal beside s (Plus f g) rest (record { label = 0; leaf = 0 }))
line_of beside all s (Bang f) rest c = replayed BangLine (attempt_goal beside s (Bang f) rest (record { label = 0; leaf = 0 }))
line_of beside all s (Lolli r g) rest c = replayed (LolliLine s.label) (attempt_goal beside s (Lolli r g) rest (record { label = 0; leaf = 0 }))
line_of beside all s (Imp r g) rest c = replayed (ImpLine s.label) (attempt_goal beside s (Imp r g) rest (record { label = 0; leaf = 0 }))
line_of beside all s (Forall f) rest c = replayed (ForallLine s.eigens) (attempt_goal beside s (Forall f) rest (record { label = 0; leaf = 0 }))
line_of beside all s (Exists f) rest c =
    On (ExistsLine (value all (length s.terms)))
    (record (stepped s (Goal (instantiate f (value all (length s.terms))) ∷ rest) Plain) {
      terms = s.terms ++ value all (length s.terms) ∷ [];
    })
line_of beside all s (Use m ts g) rest c = replayed UseLine (attempt_goal beside s (Use m ts g) rest (record { label = 0; leaf = 0 }))
line_of beside all s (Num r t u) rest c = On NumLine (stepped s rest Plain)
line_of beside all s (Atom a) rest (ClauseStep label k) = atom_line all s rest label k (entry_at s.context label)
line_of beside all s (Atom a) rest _ = Off

-- what a step tells of a state with this agenda
abbrev pub front_line : Setting → List Term → State → List (Item Form) → Step → Replayed
front_line beside all s (Goal g ∷ rest) c = line_of beside all s g rest c
front_line beside all s _ c = Off

-- what a step tells of what settling gave
abbrev pub settled_line : Setting → List Term → Option State → Step → Replayed
settled_line beside all None c = Off
settled_line beside all (Some t) c = front_line beside all t t.agenda c

-- a node in front of those of the steps after it
abbrev pub after_line : Replayed → (State → List Line) → List Line
after_line Off go = []
after_line (On n s) go = n ∷ go s

-- the nodes of the steps from the state s on
abbrev pub replay : Setting → List Term → List Step → State → List Line
replay beside all [] s = []
replay beside all (c ∷ cs) s = after_line (settled_line beside all (settle s) c) (replay beside all cs)

-- ---- the derivation

-- the terms that an answer gives the variables of the query
abbrev pub asked_terms : ProblemTree → Answered → List Term
asked_terms p a = take (length p.asked) a.terms

-- the nodes of an answer's branch, before labels are dealt out
abbrev pub branch_lines : ProblemTree → Answered → List Line
branch_lines p a = replay (setting_of p) a.terms a.steps (run_start p (asked_terms p a))

-- one tree with these labels dealt out
abbrev pub dealt_trees : List ℕ → Option (List Tree) → Option Tree
dealt_trees labels (Some (x ∷ [])) = Some (deal labels x)
dealt_trees labels _ = None

-- the tree of an answer: the root has the labels of all linear clauses of the program
abbrev pub dealt_tree : ProblemTree → Answered → Option Tree
dealt_tree p a = dealt_trees (map (λ l. l.label) (root_bounded p)) (trees_of (branch_lines p a))

-- the derivation of this tree
abbrev pub dealt_lines : List Term → Option Tree → Option DerivationLines
dealt_lines ts None = None
dealt_lines ts (Some x) = Some (record { asked = ts; nodes = lines x })

-- the derivation of an answer of a problem
unfoldable pub dealt : ProblemTree → Answered → Option DerivationLines
dealt p a = dealt_lines (asked_terms p a) (dealt_tree p a)

-- the derivation has as many nodes as the answer's branch has steps
abbrev pub HasNodeForEachStep : Answered → DerivationLines → Type 0
HasNodeForEachStep a d = length d.nodes ≡ length a.steps
