-- The first node of a whole-number goal.
use Rattle.std.proofs.Common.{◌≡◌, ◌<◌, ◌+◌, ℕ, suc, Bool, true, false, ◌||◌, cond, List, [], ◌∷◌, length, map, drop, get_or, None, Some, refl, ap, ◌∙◌, arith}
use Rattle.std.specs.List.{list_any, position_from}
use Rattle.std.proofs.Math.Seq.{drop-cons}
use Rattle.ll_bank.specs.Nodes.{Nodes}
use Rattle.ll_laws.specs.declared.Rule.{Rule}
use Rattle.ll_laws.specs.declared.Rule.TheVariants.{One, Erase, Tensor, With, Left, Right, Bang, Lolli, Imp, Forall, Exists, Use, Num, Clause}
use Rattle.ll_laws.specs.Line.{Line, counts_numbers}
use Rattle.ll_laws.specs.ShownLines.{line_of}
use Rattle.ll_top.specs.checks.Counting.{is_counting}

-- where there is none, none is found
pub none-counts : (i : ℕ) (ns : List Line) → list_any counts_numbers ns ≡ false → position_from counts_numbers i ns ≡ None
none-counts i [] h = refl
none-counts i (n ∷ ns) h = step (counts_numbers n) h (λ g. none-counts (i + 1) ns g)
  where
    step : (b : Bool) → (b || list_any counts_numbers ns) ≡ false → (list_any counts_numbers ns ≡ false → position_from counts_numbers (i + 1) ns ≡ None)
        → cond b (Some i) (position_from counts_numbers (i + 1) ns) ≡ None
    step true h g = cc
    step false h g = g h

-- where none is found, there is none
pub counts-none : (i : ℕ) (ns : List Line) → position_from counts_numbers i ns ≡ None → list_any counts_numbers ns ≡ false
counts-none i [] h = refl
counts-none i (n ∷ ns) h = step (counts_numbers n) h (λ g. counts-none (i + 1) ns g)
  where
    step : (b : Bool) → cond b (Some i) (position_from counts_numbers (i + 1) ns) ≡ None
        → (position_from counts_numbers (i + 1) ns ≡ None → list_any counts_numbers ns ≡ false) → (b || list_any counts_numbers ns) ≡ false
    step true h g = cc
    step false h g = g h

-- a rule and its line
line-counts : (bank : Nodes) (r : Rule) → counts_numbers (line_of bank r) ≡ is_counting r
line-counts bank One = refl
line-counts bank Erase = refl
line-counts bank (Tensor a b) = refl
line-counts bank With = refl
line-counts bank Left = refl
line-counts bank Right = refl
line-counts bank Bang = refl
line-counts bank (Lolli l) = refl
line-counts bank (Imp l) = refl
line-counts bank (Forall c) = refl
line-counts bank (Exists t) = refl
line-counts bank Use = refl
line-counts bank Num = refl
line-counts bank (Clause l k ts ps) = refl

pub lines-count : (bank : Nodes) (i : ℕ) (rs : List Rule) → position_from counts_numbers i (map (line_of bank) rs) ≡ position_from is_counting i rs
lines-count bank i [] = refl
lines-count bank i (r ∷ rs) =
    ap (λ b. cond b (Some i) (position_from counts_numbers (i + 1) (map (line_of bank) rs))) (line-counts bank r)
    ∙ ap (cond (is_counting r) (Some i)) (lines-count bank (i + 1) rs)

drop-one : (rs : List Rule) (i : ℕ) (r : Rule) → i < length rs → drop i rs ≡ get_or rs i r ∷ drop (i + 1) rs
drop-one rs i r l = drop-cons rs i r l ∙ ap (λ k. get_or rs i r ∷ drop k rs) (let e : suc i ≡ i + 1 = omega arith in e)

-- one rule more was passed
pub passes : (rs : List Rule) (i : ℕ) (r : Rule) → i < length rs → is_counting (get_or rs i r) ≡ false
    → position_from is_counting (i + 1) (drop i rs) ≡ position_from is_counting (i + 1 + 1) (drop (i + 1) rs)
passes rs i r l h =
    ap (position_from is_counting (i + 1)) (drop-one rs i r l) ∙ ap (λ b. cond b (Some (i + 1)) (position_from is_counting (i + 1 + 1) (drop (i + 1) rs))) h

-- or it is the one
pub finds : (rs : List Rule) (i : ℕ) (r : Rule) → i < length rs → is_counting (get_or rs i r) ≡ true
    → position_from is_counting (i + 1) (drop i rs) ≡ Some (i + 1)
finds rs i r l h =
    ap (position_from is_counting (i + 1)) (drop-one rs i r l) ∙ ap (λ b. cond b (Some (i + 1)) (position_from is_counting (i + 1 + 1) (drop (i + 1) rs))) h
