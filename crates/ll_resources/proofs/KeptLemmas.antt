-- What is kept, with more marks behind it, and after some of them went.
use Rattle.std.proofs.Common.{◌≡◌, ℕ, ◌+◌, ◌-◌, ◌<◌, ◌≤◌, Bool, List, [], ◌∷◌, ◌++◌, length, map, All, get_or, take, drop, refl, ap, sym, ◌∙◌, arith}
use Rattle.std.proofs.Common.{length-append, length-drop}
use Rattle.std.specs.Prelude.{reverse}
use Rattle.std.proofs.lemmas.List.{map-append, drop-append-le, take-append-le, take-append-drop, drop_at, take_all, get_or-map}
use Rattle.std.proofs.lemmas.List.Elements.{All-head, All-tail, All-weaker, All-push, All-get_or}
use Rattle.ll_laws.specs.Settle.{Saved}
use Rattle.ll_resources.specs.declared.saves.SavedMarks.{SavedMarks}
use Rattle.ll_resources.specs.declared.context.Saved.{Saved as Handle}
use Rattle.ll_resources.specs.Resources.{saved_at}
use Rattle.ll_resources.specs.Saves.{block_of, kept_marks, IsWithin}
use Rattle.ll_resources.specs.Seen.{filled}

-- a block is not touched by marks behind it
pub block-behind : (ms xs : List Bool) (k : SavedMarks) → IsWithin ms k → block_of (ms ++ xs) k ≡ block_of ms k
block-behind ms xs k h =
    let e = length-drop k.from ms in
    let fits : k.to - k.from ≤ length (drop k.from ms) = omega (arith, e, h.0, h.1) in
    ap (take (k.to - k.from)) (drop-append-le k.from ms xs (let l : k.from ≤ length ms = omega (arith, h.0, h.1) in l))
    ∙ take-append-le (k.to - k.from) (drop k.from ms) xs fits

-- marks and flag, by a block
of_block : SavedMarks → List Bool → Saved
of_block k bs = record { live = filled k.count (reverse bs); flag = k.flag }

marks-behind : (ms xs : List Bool) (k : SavedMarks) → IsWithin ms k → kept_marks (ms ++ xs) k ≡ kept_marks ms k
unfolding of_block
marks-behind ms xs k h = ap (of_block k) (block-behind ms xs k h)

-- nor is all that was kept
pub kept-behind : (ms xs : List Bool) (ks : List SavedMarks) → All (IsWithin ms) ks → map (kept_marks (ms ++ xs)) ks ≡ map (kept_marks ms) ks
kept-behind ms xs [] h = refl
kept-behind ms xs (k ∷ ks) h =
    let e = marks-behind ms xs k (All-head (IsWithin ms) k ks h) in
    let f = kept-behind ms xs ks (All-tail (IsWithin ms) k ks h) in cc

-- the block of marks behind others
pub block-new : (ms xs : List Bool) (k : SavedMarks) → k.from ≡ length ms → k.to ≡ length ms + length xs → block_of (ms ++ xs) k ≡ xs
block-new ms xs k f t = ap (take (k.to - k.from)) (drop_at ms xs k.from (sym f)) ∙ take_all (k.to - k.from) xs (omega (arith, f, t))

-- what is kept once such marks are kept
pub kept-more : (ms xs : List Bool) (ks : List SavedMarks) (k : SavedMarks) → All (IsWithin ms) ks → k.from ≡ length ms → k.to ≡ length ms + length xs
    → map (kept_marks (ms ++ xs)) (ks ++ k ∷ []) ≡ map (kept_marks ms) ks ++ record { live = filled k.count (reverse xs); flag = k.flag } ∷ []
unfolding of_block
kept-more ms xs ks k h f t =
    map-append (kept_marks (ms ++ xs)) ks (k ∷ [])
    ∙ (ap (λ ss. ss ++ kept_marks (ms ++ xs) k ∷ []) (kept-behind ms xs ks h)
    ∙ ap (λ bs. map (kept_marks ms) ks ++ of_block k bs ∷ []) (block-new ms xs k f t))

-- ranges stay within marks
pub within-behind : (ms xs : List Bool) (ks : List SavedMarks) → All (IsWithin ms) ks → All (IsWithin (ms ++ xs)) ks
within-behind ms xs ks h = All-weaker (IsWithin ms) (IsWithin (ms ++ xs)) (λ k w. (w.0, (let n = length-append ms xs in omega (arith, n, w.1)))) ks h

pub within-more : (ms xs : List Bool) (ks : List SavedMarks) (k : SavedMarks) → All (IsWithin ms) ks → k.from ≡ length ms → k.to ≡ length ms + length xs
    → All (IsWithin (ms ++ xs)) (ks ++ k ∷ [])
within-more ms xs ks k h f t =
    All-push (IsWithin (ms ++ xs)) ks k (within-behind ms xs ks h) (omega (arith, f, t), (let n = length-append ms xs in omega (arith, n, t)))

-- what lies within the first marks is the same once the others are gone
pub saved-cut : (ms : List Bool) (m : ℕ) (ks ls : List SavedMarks) (h : Handle) (d : SavedMarks) → h.number < length ls → h.number < length ks
    → get_or ls h.number d ≡ get_or ks h.number d
    → All (IsWithin (take m ms)) ls → saved_at (map (kept_marks (take m ms)) ls) h ≡ saved_at (map (kept_marks ms) ks) h
saved-cut ms m ks ls h d i j e w =
    get_or-map (kept_marks (take m ms)) ls h.number d _ i
    ∙ (sym (marks-behind (take m ms) (drop m ms) (get_or ls h.number d) (All-get_or (IsWithin (take m ms)) ls h.number d i w))
    ∙ (ap (λ xs. kept_marks xs (get_or ls h.number d)) (take-append-drop m ms)
    ∙ (ap (kept_marks ms) e ∙ sym (get_or-map (kept_marks ms) ks h.number d _ j))))
