-- Stacks of things that wait for one another.
use Rattle.std.proofs.Common.{◌≡◌, List, [], ◌∷◌, ◌++◌, refl, ap, sym, subst, ◌∙◌}
use Rattle.ll_unify.specs.Stacks.{lowest, Waits, Stack, is_empty, is_full}

-- the last of a list and what is before it
pub record LastTwo {F : Type 0} (fs gs : List F) (f g : F) : Type 0 where
  pub front : fs ≡ gs
  pub last : f ≡ g

pub no_last : {F : Type 0} → (fs : List F) (f : F) → fs ++ f ∷ [] ≡ [] → ⊥
no_last [] f e = cc
no_last (x ∷ fs) f e = cc

pub same_last : {F : Type 0} → (fs gs : List F) (f g : F) → fs ++ f ∷ [] ≡ gs ++ g ∷ [] → LastTwo fs gs f g
same_last [] [] f g e = record { front = refl; last = cc }
same_last [] (y ∷ gs) f g e = let q : [] ≡ gs ++ g ∷ [] = cc in absurd (no_last gs g (sym q))
same_last (x ∷ fs) [] f g e = let q : fs ++ f ∷ [] ≡ [] = cc in absurd (no_last fs f q)
same_last (x ∷ fs) (y ∷ gs) f g e =
    let h : x ≡ y = cc in let q : fs ++ f ∷ [] ≡ gs ++ g ∷ [] = cc in
    let r = same_last fs gs f g q in record { front = let p = r.front in cc; last = r.last }

module _ {F : Type 0} (E : Type 0) (P : List F → F → Type 0) where
  -- what holds with a last element
  pub opened : (items fs : List F) (f : F) → Stack E P items → items ≡ fs ++ f ∷ [] → P fs f
  opened items fs f (is_empty e p) q = absurd (no_last fs f (sym q ∙ e))
  opened items fs f (is_full gs g e p) q =
      let r = same_last gs fs g f (sym e ∙ q) in subst (λ z. P z f) r.front (subst (λ z. P gs z) r.last p)

  -- what holds on the empty stack
  pub closed : (items : List F) → Stack E P items → items ≡ [] → E
  closed items (is_empty e p) q = p
  closed items (is_full gs g e p) q = absurd (no_last gs g (sym e ∙ q))

module _ {F K : Type 0} (key : F → K) (R : F → K → Type 0) where
  pub lowest-push : (fs : List F) (f : F) (c : K) → lowest key (fs ++ f ∷ []) c ≡ lowest key fs (key f)
  lowest-push [] f c = refl
  lowest-push (g ∷ fs) f c = refl

  -- one more waits for c
  pub Waits-push : (fs : List F) (f : F) (c : K) → Waits key R fs (key f) → R f c → Waits key R (fs ++ f ∷ []) c
  Waits-push [] f c w r = (r, tt)
  Waits-push (g ∷ fs) f c w r = (subst (R g) (sym (lowest-push fs f c)) w.0, Waits-push fs f c w.1 r)

  -- the last one waits for c, and those below for it
  pub Waits-last : (fs : List F) (f : F) (c : K) → Waits key R (fs ++ f ∷ []) c → Waits key R fs (key f) × R f c
  Waits-last [] f c w = (tt, w.0)
  Waits-last (g ∷ fs) f c w = let r = Waits-last fs f c w.1 in ((subst (R g) (lowest-push fs f c) w.0, r.0), r.1)

pub Waits-map : {F K : Type 0} → (key : F → K) (R S : F → K → Type 0) → ((f : F) (c : K) → R f c → S f c) → (fs : List F) (c : K) → Waits key R fs c
    → Waits key S fs c
Waits-map key R S h [] c w = tt
Waits-map key R S h (f ∷ fs) c w = (h f (lowest key fs c) w.0, Waits-map key R S h fs c w.1)

-- a list is empty or has a last element
pub data SplitLast {F : Type 0} (items : List F) : Type 0 where
  no_item : items ≡ [] → SplitLast items
  an_item : (fs : List F) (f : F) → items ≡ fs ++ f ∷ [] → SplitLast items

pub split_last : {F : Type 0} → (items : List F) → SplitLast items
split_last [] = no_item refl
split_last (x ∷ items) = elim (split_last items) [
  | no_item e ↦ an_item [] x (ap (λ ys. x ∷ ys) e)
  | an_item fs f e ↦ an_item (x ∷ fs) f (ap (λ ys. x ∷ ys) e)
]
