-- The weight of what is left of terms that are gone through argument by argument.
use Rattle.std.proofs.Common.{◌≡◌, ℕ, ◌+◌, ◌<◌, List, [], ◌∷◌, ◌++◌, length, ap, arith}
use Rattle.std.proofs.lemmas.List.Sums.{sum_by_push}
use Rattle.ll_bank.specs.declared.At.{At}
use Rattle.ll_bank.specs.Term.{Term, sub}
use Rattle.ll_bank.specs.Nodes.{Nodes, term_tree}
use Rattle.ll_unify.specs.declared.frame.Frame.{Frame}
use Rattle.ll_unify.specs.Spines.{args_in, arg, weight, rest_weight}
use Rattle.ll_unify.specs.Frames.{frames_weight}
use Rattle.ll_unify.proofs.Spines.{weight-two, rest_weight-more, weight-place}

pub weight-pops : (nodes : Nodes) (s : ℕ → Term) (fs : List Frame) (f : Frame) → frames_weight nodes s fs < frames_weight nodes s (fs ++ f ∷ [])
weight-pops nodes s fs f =
    let w : Frame → ℕ = λ h. 1 + rest_weight s (term_tree nodes h.at.0) h.next in let q = sum_by_push w fs f in omega arith

pub weight-known : (nodes : Nodes) (s : ℕ → Term) (fs : List Frame) (f g : Frame) → f.next < length (args_in (term_tree nodes f.at.0)) → g.at ≡ f.at
    → g.next ≡ f.next + 1
    → frames_weight nodes s (fs ++ g ∷ []) < frames_weight nodes s (fs ++ f ∷ [])
weight-known nodes s fs f g b ga gn =
    let w : Frame → ℕ = λ h. 1 + rest_weight s (term_tree nodes h.at.0) h.next in
    let p = sum_by_push w fs g in let q = sum_by_push w fs f in
    let r = rest_weight-more s (term_tree nodes f.at.0) f.next b in let v = weight-two (sub s (arg (term_tree nodes f.at.0) f.next)) in
    let e : rest_weight s (term_tree nodes g.at.0) g.next ≡ rest_weight s (term_tree nodes f.at.0) (f.next + 1) =
    λ i. rest_weight s (term_tree nodes (ga i).0) (gn i) in
    omega arith

pub weight-opens : (nodes : Nodes) (s : ℕ → Term) (fs : List Frame) (f g : Frame) (end : At) → f.next < length (args_in (term_tree nodes f.at.0)) → g.at ≡ f.at
    → g.next ≡ f.next + 1
    → sub s (term_tree nodes end.0) ≡ sub s (arg (term_tree nodes f.at.0) f.next)
    → frames_weight nodes s ((fs ++ g ∷ []) ++ (record { at = end; next = 0 }) ∷ []) < frames_weight nodes s (fs ++ f ∷ [])
weight-opens nodes s fs f g end b ga gn same =
    let w : Frame → ℕ = λ h. 1 + rest_weight s (term_tree nodes h.at.0) h.next in
    let o = sum_by_push w (fs ++ g ∷ []) (record { at = end; next = 0 }) in
    let p = sum_by_push w fs g in let q = sum_by_push w fs f in
    let r = rest_weight-more s (term_tree nodes f.at.0) f.next b in let v = weight-place nodes s end.0 in
    let d : weight (sub s (term_tree nodes end.0)) ≡ weight (sub s (arg (term_tree nodes f.at.0) f.next)) = ap weight same in
    let e : rest_weight s (term_tree nodes g.at.0) g.next ≡ rest_weight s (term_tree nodes f.at.0) (f.next + 1) =
    λ i. rest_weight s (term_tree nodes (ga i).0) (gn i) in
    omega arith
