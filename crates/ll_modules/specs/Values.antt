-- Expressions that are being evaluated.
use Rattle.std.specs.Prelude.{◌≡◌, ◌+◌, ◌*◌, ◌<◌, ◌++◌, ℕ, ℤ, List, [], ◌∷◌, Option, Some, option_map}
use Rattle.ll_bank.specs.declared.At.{At}
use Rattle.ll_bank.specs.Nodes.{Nodes, term_tree, HasTerm}
use Rattle.ll_bank.specs.Opened.{term_size}
use Rattle.ll_laws.specs.Number.{Operator, Sum, Difference, Product, Operators, value_of, combined}
use Rattle.ll_modules.specs.declared.evaluate.Operator.{Operator as SeenOperator}
use Rattle.ll_modules.specs.declared.evaluate.Operator.TheVariants as seen
use Rattle.ll_modules.specs.declared.evaluate.Frame.{Frame}
use Rattle.ll_modules.specs.declared.evaluate.Frame.TheVariants.{Left, Right, Note}
use Rattle.ll_modules.specs.declared.evaluate.Todo.{Todo}
use Rattle.ll_modules.specs.declared.evaluate.Todo.TheVariants.{Enter, Leave}

-- an operator of the code as the definitions have it
abbrev pub shown_operator : SeenOperator → Operator
shown_operator seen.Sum = Sum
shown_operator seen.Difference = Difference
shown_operator seen.Product = Product

-- the same of one that may lack
abbrev pub seen_operator : Option SeenOperator → Option Operator
seen_operator o = option_map shown_operator o

-- what an operator makes of the value of the side that is being evaluated
abbrev pub framed : Operators → Nodes → Frame → Option ℤ → Option ℤ
framed ops bank (Left o at) v = combined (Some (shown_operator o)) v (value_of ops (term_tree bank at.0))
framed ops bank (Right o z) v = combined (Some (shown_operator o)) (Some z) v
framed ops bank (Note at) v = v

-- what comes out in the end; the innermost operator stands last
abbrev pub ended : Operators → Nodes → List Frame → Option ℤ → Option ℤ
ended ops bank [] v = v
ended ops bank (f ∷ fs) v = framed ops bank f (ended ops bank fs v)

-- the value of what is next
abbrev pub todo_value : Operators → Nodes → Todo → Option ℤ
todo_value ops bank (Enter at) = value_of ops (term_tree bank at.0)
todo_value ops bank (Leave v) = v

-- what is left to do for an operator
abbrev pub frame_work : Nodes → Frame → ℕ
frame_work bank (Left o at) = 2 + 2 * term_size (term_tree bank at.0)
frame_work bank (Right o z) = 1
frame_work bank (Note at) = 1

-- for all of them
abbrev pub frames_work : Nodes → List Frame → ℕ
frames_work bank [] = 0
frames_work bank (f ∷ fs) = frame_work bank f + frames_work bank fs

-- for what is next
abbrev pub todo_work : Nodes → Todo → ℕ
todo_work bank (Enter at) = 2 * term_size (term_tree bank at.0)
todo_work bank (Leave v) = 0

-- the place of a right side is in the bank
abbrev pub IsInside : Nodes → Frame → Type 0
IsInside bank (Left o at) = HasTerm bank at.0
IsInside bank (Right o z) = Unit {0}
IsInside bank (Note at) = Unit {0}

-- the places of all operators are
abbrev pub AreInside : Nodes → List Frame → Type 0
AreInside bank [] = Unit {0}
AreInside bank (f ∷ fs) = IsInside bank f × AreInside bank fs

-- the place of what is next is
abbrev pub IsTodoInside : Nodes → Todo → Type 0
IsTodoInside bank (Enter at) = HasTerm bank at.0
IsTodoInside bank (Leave v) = Unit {0}

-- the value that comes to a note is that of its term
abbrev pub IsNoted : Operators → Nodes → Frame → Option ℤ → Type 0
IsNoted ops bank (Note at) v = v ≡ value_of ops (term_tree bank at.0)
IsNoted ops bank (Left o at) v = Unit {0}
IsNoted ops bank (Right o z) v = Unit {0}

-- so it is with all notes
abbrev pub AreNoted : Operators → Nodes → List Frame → Option ℤ → Type 0
AreNoted ops bank [] v = Unit {0}
AreNoted ops bank (f ∷ fs) v = IsNoted ops bank f (ended ops bank fs v) × AreNoted ops bank fs v

-- the values that are known are those of the terms
abbrev pub AreKnown : Operators → Nodes → (ℕ → Option ℤ) → Type 0
AreKnown ops bank known = (at : ℕ) (z : ℤ) → known at ≡ Some z → value_of ops (term_tree bank at) ≡ Some z

-- a note was put behind the others, or none
pub data IsNoting (at : At) (old new : List Frame) : Type 0 where
  noted : new ≡ old ++ Note at ∷ [] → IsNoting at old new
  none : new ≡ old → IsNoting at old new

-- a step keeps what comes out in the end, stays in the bank, and leaves less to do
pub record IsStep (ops : Operators) (bank : Nodes) (old : List Frame) (value : Option ℤ) (work : ℕ) (new : List Frame) (todo : Todo) : Type 0 where
  pub same : ended ops bank new (todo_value ops bank todo) ≡ ended ops bank old value
  pub less : frames_work bank new + todo_work bank todo < frames_work bank old + work
  pub inside : AreInside bank new
  pub next_inside : IsTodoInside bank todo
  pub noted : AreNoted ops bank old value → AreNoted ops bank new (todo_value ops bank todo)
