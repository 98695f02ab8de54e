-- Terms that are gone through argument by argument.
use Rattle.std.specs.Prelude.{ℕ, ◌+◌, List, sum_by}
use Rattle.ll_bank.specs.Term.{Term}
use Rattle.ll_bank.specs.Nodes.{Nodes, term_tree}
use Rattle.ll_unify.specs.declared.frame.Frame.{Frame}
use Rattle.ll_unify.specs.Spines.{rest_weight}

-- the term of a frame
abbrev pub frame_tree : Nodes → Frame → Term
frame_tree nodes f = term_tree nodes f.at.0

-- the weight of what is left to do
abbrev pub frames_weight : Nodes → (ℕ → Term) → List Frame → ℕ
frames_weight nodes s items = sum_by (λ f. 1 + rest_weight s (term_tree nodes f.at.0) f.next) items
