-- Entries with other live marks, for callers.
use Rattle.std.proofs.Common.{◌≡◌, suc, Bool, List, [], ◌∷◌, length, refl, ap}
use Rattle.ll_laws.specs.Settle.{Entry as Resource, remark}

module _ {C : Type 0} where
  -- entries stay in number
  pub length-remark : (es : List (Resource C)) (bs : List Bool) → length (remark es bs) ≡ length es
  length-remark [] bs = refl
  length-remark (e ∷ es) [] = refl
  length-remark (e ∷ es) (b ∷ bs) = ap suc (length-remark es bs)
