-- Pairs of places whose terms are to be equal, as they are opened.
use Rattle.std.proofs.Common.{◌≡◌, ℕ, ◌+◌, ◌-◌, ◌<◌, true, false, ◌↔◌, List, [], ◌∷◌, ◌++◌, length, map, reverse, get_or, take, refl, ap, sym, subst, ◌∙◌}
use Rattle.std.proofs.Common.{arith, true≢false, append_assoc}
use Rattle.std.specs.Prelude.{IsTrue, Some, None}
use Rattle.std.proofs.lemmas.List.{map-append, map_push, reverse-append, reverse-reverse, length-reverse, length-map, get_or-reverse, take_more}
use Rattle.std.proofs.lemmas.List.Elements.{All-append, All-cons, All-nil, All-pop}
use Rattle.ll_bank.specs.declared.At.{At}
use Rattle.ll_bank.specs.declared.Head.{Head}
use Rattle.ll_bank.specs.declared.pairs.Pair.{Pair}
use Rattle.ll_bank.specs.Term.{Term, Var, Int, Con, Ap, apply, app, head_of, arity}
use Rattle.ll_bank.specs.Nodes.{Nodes, term_tree, term_trees, AllInTerms, HasTerm}
use Rattle.ll_bank.specs.Pairs.{lefts, rights, AreInBanks, AreEqual}
use Rattle.ll_bank.proofs.Heads.{head_of-apply, arity-apply}

-- ---- arguments behind the pairs that wait

-- one more of the places on one side
pub places-more : (side : Pair → At) (now next : List Pair) (old args : List At) (done at : ℕ) (p : Pair) (x : At) → done < length args
    → at ≡ length args - done - 1 → side p ≡ get_or args at x
    → map side now ≡ old ++ take done (reverse args) → next ≡ now ++ p ∷ [] → map side next ≡ old ++ take (done + 1) (reverse args)
places-more side now next old args done at p x l a e so_far is =
    let m : done < length (reverse args) = let q = length-reverse args in omega arith in
    let g : get_or (reverse args) done x ≡ side p = get_or-reverse args done x l ∙ (ap (λ k. get_or args k x) (omega arith) ∙ sym e) in
    ap (map side) is
    ∙ (map_push side now p
    ∙ ((λ i. so_far i ++ sym g i ∷ [])
    ∙ (append_assoc old (take done (reverse args)) (get_or (reverse args) done x ∷ []) ∙ ap (λ xs. old ++ xs) (sym (take_more (reverse args) done x m)))))

-- the pairs of arguments, behind those that wait, are places of the banks
pub inside-more : (mine theirs : Nodes) (old new : List Pair) (args others : List At) → AreInBanks mine theirs old → AllInTerms mine args
    → AllInTerms theirs others
    → lefts new ≡ lefts old ++ reverse args → rights new ≡ rights old ++ reverse others → AreInBanks mine theirs new
inside-more mine theirs old new args others h a b l r = record {
  left = all mine (lefts old) (lefts new) args h.left a l;
  right =
      all theirs (rights old) (rights new) others h.right b r;
}
  where
    all : (nodes : Nodes) (old new args : List At) → AllInTerms nodes old → AllInTerms nodes args → new ≡ old ++ reverse args → AllInTerms nodes new
    all nodes old new args h a e = subst (AllInTerms nodes) (sym e) (All-append (λ (x : At). HasTerm nodes x.0) old (reverse args) h (λ k d l.
        let m : k < length args = let q = length-reverse args in omega arith in
        subst (λ (x : At). HasTerm nodes x.0) (sym (get_or-reverse args k d m)) (a (length args - 1 - k) d (omega arith))))

-- lists of terms with equal heads, one behind the other
split-two : (xs ys ts us : List Term) → length xs ≡ length ys → xs ++ ts ≡ ys ++ us → (xs ≡ ys) × (ts ≡ us)
split-two [] [] ts us n e = (refl, e)
split-two [] (y ∷ ys) ts us n e = absurd (omega arith)
split-two (x ∷ xs) [] ts us n e = absurd (omega arith)
split-two (x ∷ xs) (y ∷ ys) ts us n e =
    let h : x ≡ y = cc in let t : xs ++ ts ≡ ys ++ us = cc in let r = split-two xs ys ts us (omega arith) t in
    ((λ i. h i ∷ r.0 i), r.1)

head-same : (t u : Term) → t ∷ [] ≡ u ∷ [] → t ≡ u
head-same t u e = cc

-- ---- one sign

-- applications with as many arguments
apply-parts : (f g : Term) (ts us : List Term) → length ts ≡ length us → apply f ts ≡ apply g us → (f ≡ g) × (ts ≡ us)
apply-parts f g [] [] n e = (e, refl)
apply-parts f g [] (u ∷ us) n e = absurd (omega arith)
apply-parts f g (t ∷ ts) [] n e = absurd (omega arith)
apply-parts f g (t ∷ ts) (u ∷ us) n e =
    let r = apply-parts (Ap f t) (Ap g u) ts us (omega arith) e in let p = r.0 in let h : f ≡ g = cc in let a : t ≡ u = cc in (h, λ i. a i ∷ r.1 i)

-- two signs
pub two-signs : (A : Type 0) (t u : Term) → (t ≡ u → ⊥) → (IsTrue false × A) ↔ (A × (t ≡ u))
two-signs A t u n = ((λ h. absurd (true≢false (sym h.0))), λ h. absurd (n h.1))

-- two heads, or arguments of two numbers
pub other-head : (h k : Head) (ts us : List Term) (t u : Term) → t ≡ app h ts → u ≡ app k us → (h ≡ k → ⊥) → t ≡ u → ⊥
other-head h k ts us t u p q n e =
    let o : Some h ≡ Some k = sym (head_of-apply (Con h) ts) ∙ (ap head_of (sym p ∙ (e ∙ q)) ∙ head_of-apply (Con k) us) in n cc

pub other-count : (h k : Head) (ts us : List Term) (t u : Term) → t ≡ app h ts → u ≡ app k us → (length ts ≡ length us → ⊥) → t ≡ u → ⊥
other-count h k ts us t u p q n e =
    let a : arity (app h ts) ≡ arity (app k us) = ap arity (sym p ∙ (e ∙ q)) in
    let b = arity-apply (Con h) ts in let c = arity-apply (Con k) us in n (omega arith)

map-reverse : (f : At → Term) (xs : List At) → map f (reverse xs) ≡ reverse (map f xs)
map-reverse f [] = refl
map-reverse f (x ∷ xs) = ap (map f) (reverse-append (x ∷ []) xs)
    ∙ (map-append f (reverse xs) (x ∷ []) ∙ (ap (λ ys. ys ++ f x ∷ []) (map-reverse f xs) ∙ sym (reverse-append (f x ∷ []) (map f xs))))

-- one head with as many arguments
module _ (mine theirs : Nodes) (old new : List Pair) (args others : List At) (n : length args ≡ length others) (l : lefts new ≡ lefts old ++ reverse args)
    (r : rights new ≡ rights old ++ reverse others) where
  opened : (nodes : Nodes) (old new args : List At) → new ≡ old ++ reverse args → term_trees nodes new ≡ term_trees nodes old ++ reverse (term_trees nodes args)
  opened nodes old new args e =
      ap (term_trees nodes) e ∙ (map-append (λ (a : At). term_tree nodes a.0) old (reverse args)
      ∙ ap (λ ts. term_trees nodes old ++ ts) (map-reverse (λ (a : At). term_tree nodes a.0) args))

  count : length (term_trees mine (lefts old)) ≡ length (term_trees theirs (rights old))
  count =
      length-map (lefts old) (λ (a : At). term_tree mine a.0)
      ∙ (length-map old (λ (p : Pair). p.left) ∙ (sym (length-map old (λ (p : Pair). p.right))
      ∙ sym (length-map (rights old) (λ (a : At). term_tree theirs a.0))))

  arguments : length (term_trees mine args) ≡ length (term_trees theirs others)
  arguments = length-map args (λ (a : At). term_tree mine a.0) ∙ (n ∙ sym (length-map others (λ (a : At). term_tree theirs a.0)))

  pub one-head : (h k : Head) (t u : Term) → t ≡ app h (term_trees mine args) → u ≡ app k (term_trees theirs others) → h ≡ k
      → (IsTrue true × AreEqual mine theirs new) ↔ (AreEqual mine theirs old × (t ≡ u))
  one-head h k t u p q same = (
    (λ e.
        let s = split-two (term_trees mine (lefts old)) (term_trees theirs (rights old)) (reverse (term_trees mine args)) (reverse (term_trees theirs others))
        count
        (sym (opened mine (lefts old) (lefts new) args l) ∙ (e.1 ∙ opened theirs (rights old) (rights new) others r)) in
        let a : term_trees mine args ≡ term_trees theirs others =
        sym (reverse-reverse (term_trees mine args)) ∙ (ap reverse s.1 ∙ reverse-reverse (term_trees theirs others)) in
        (s.0, p ∙ ((λ i. app (same i) (a i)) ∙ sym q))),
    λ e.
        let s = apply-parts (Con h) (Con k) (term_trees mine args) (term_trees theirs others) arguments (sym p ∙ (e.1 ∙ q)) in
        (refl, opened mine (lefts old) (lefts new) args l ∙ ((λ i. e.0 i ++ reverse (s.1 i)) ∙ sym (opened theirs (rights old) (rights new) others r))),
  )

-- an application, and what has no head
pub not-applied : (t u : Term) (h : Head) (ts : List Term) → u ≡ app h ts → head_of t ≡ None → t ≡ u → ⊥
not-applied t u h ts q p e = let o : Some h ≡ None = sym (head_of-apply (Con h) ts) ∙ (ap head_of (sym q ∙ sym e) ∙ p) in cc

-- a variable and a number
pub var-int : (t u : Term) (n : ℕ) (z : _) → t ≡ Var n → u ≡ Int z → t ≡ u → ⊥
var-int t u n z p q e = let s : Var n ≡ Int z = sym p ∙ (e ∙ q) in cc

-- ---- the pair behind the others

module _ (mine theirs : Nodes) (now rest : List Pair) (p : Pair) (is : now ≡ rest ++ p ∷ []) where
  pub last-inside : AreInBanks mine theirs now → AreInBanks mine theirs rest × (HasTerm mine p.left.0 × HasTerm theirs p.right.0)
  last-inside h =
      let l = All-pop (λ (a : At). HasTerm mine a.0) (lefts now) (lefts rest) (Some p.left) (ap lefts is ∙ map_push (λ (q : Pair). q.left) rest p) h.left in
      let r = All-pop (λ (a : At). HasTerm theirs a.0) (rights now) (rights rest) (Some p.right) (ap rights is ∙ map_push (λ (q : Pair). q.right) rest p)
      h.right in
      (record { left = l.0; right = r.0 }, (l.1, r.1))

  pub last-equal : AreEqual mine theirs now ↔ (AreEqual mine theirs rest × (term_tree mine p.left.0 ≡ term_tree theirs p.right.0))
  last-equal =
      let l : term_trees mine (lefts now) ≡ term_trees mine (lefts rest) ++ term_tree mine p.left.0 ∷ [] =
      ap (term_trees mine) (ap lefts is ∙ map_push (λ (q : Pair). q.left) rest p) ∙ map_push (λ (a : At). term_tree mine a.0) (lefts rest) p.left in
      let r : term_trees theirs (rights now) ≡ term_trees theirs (rights rest) ++ term_tree theirs p.right.0 ∷ [] =
      ap (term_trees theirs) (ap rights is ∙ map_push (λ (q : Pair). q.right) rest p) ∙ map_push (λ (a : At). term_tree theirs a.0) (rights rest) p.right in
      let n : length (term_trees mine (lefts rest)) ≡ length (term_trees theirs (rights rest)) =
      length-map (lefts rest) (λ (a : At). term_tree mine a.0)
      ∙ (length-map rest (λ (q : Pair). q.left) ∙ (sym (length-map rest (λ (q : Pair). q.right))
      ∙ sym (length-map (rights rest) (λ (a : At). term_tree theirs a.0)))) in (
        (λ e.
            let s = split-two (term_trees mine (lefts rest)) (term_trees theirs (rights rest)) (term_tree mine p.left.0 ∷ [])
            (term_tree theirs p.right.0 ∷ []) n
            (sym l ∙ (e ∙ r)) in
            (s.0, head-same (term_tree mine p.left.0) (term_tree theirs p.right.0) s.1)),
        λ e. l ∙ ((λ i. e.0 i ++ e.1 i ∷ []) ∙ sym r),
      )

-- ---- the first pair, and no pair

pub first-inside : (mine theirs : Nodes) (now before : List Pair) (p : Pair) → before ≡ [] → now ≡ before ++ p ∷ [] → HasTerm mine p.left.0
    → HasTerm theirs p.right.0 → AreInBanks mine theirs now
first-inside mine theirs now before p none is l r =
    subst (AreInBanks mine theirs) (sym (is ∙ ap (λ ps. ps ++ p ∷ []) none)) (record {
      left = All-cons (λ (a : At). HasTerm mine a.0) p.left [] l (All-nil (λ (a : At). HasTerm mine a.0));
      right = All-cons (λ (a : At). HasTerm theirs a.0) p.right [] r (All-nil (λ (a : At). HasTerm theirs a.0));
    })

pub first-equal : (mine theirs : Nodes) (now before : List Pair) (p : Pair) → before ≡ [] → now ≡ before ++ p ∷ []
    → AreEqual mine theirs now ↔ (term_tree mine p.left.0 ≡ term_tree theirs p.right.0)
first-equal mine theirs now before p none is =
    let e : now ≡ p ∷ [] = is ∙ ap (λ ps. ps ++ p ∷ []) none in
    subst (λ ps. AreEqual mine theirs ps ↔ (term_tree mine p.left.0 ≡ term_tree theirs p.right.0)) (sym e)
    (head-same (term_tree mine p.left.0) (term_tree theirs p.right.0), λ q. (λ i. q i ∷ []))

pub none-equal : (mine theirs : Nodes) (now : List Pair) → (0 < length now → false ≡ true) → AreEqual mine theirs now
none-equal mine theirs [] h = refl
none-equal mine theirs (p ∷ now) h = absurd (true≢false (sym (h (omega arith))))
