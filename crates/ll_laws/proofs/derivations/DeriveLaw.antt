-- What a tree shows is derivable.
use Rattle.std.proofs.Common.{◌≡◌, ℕ, refl, ap, sym, subst, ◌∙◌, Bool, true, false, nat_eq, List, [], ◌∷◌, ◌++◌, arith, Contains}
use Rattle.std.proofs.lemmas.List.{map-append}
use Rattle.std.specs.Prelude.{cond, ◌&&◌, not, Some, suc, if◌then◌else◌}
use Rattle.std.specs.List.{list_all}
use Rattle.ll_list_laws.proofs.CallerLemmas.{and_true_left as and_left, and_true_right as and_right}
use Rattle.ll_bank.specs.Term.{Term, Con}
use Rattle.ll_bank.specs.Form.{Form, Top, One, Atom, With, Tensor, Plus, Bang, Lolli, Imp, Forall, Exists, Use, instantiate, Num}
use Rattle.ll_laws.specs.Leaf.{Premise, Needs, NeedsFree, leaf}
use Rattle.ll_laws.specs.Module.{Setting, unfold_load}
use Rattle.ll_laws.specs.Derive.{AreClosed, Dealt, dealt_none, dealt_left, dealt_right, Derivable, by_one, by_top, by_tensor, by_with, by_left, by_right}
use Rattle.ll_laws.specs.Derive.{by_bang, by_lolli, by_imp, by_forall, by_exists, by_use, by_free, by_linear, Premises, no_premise, a_premise, a_free_premise}
use Rattle.ll_laws.specs.Derive.{by_num}
use Rattle.ll_laws.specs.Shows.{Tree, OneNode, EraseNode, TensorNode, WithNode, LeftNode, RightNode, BangNode, LolliNode, ImpNode, ForallNode, ExistsNode}
use Rattle.ll_laws.specs.Shows.{UseNode, ClauseNode, Parts, NoParts, BoundedPart, UnboundedPart, nodes, part_nodes, Labelled, clauses, has, part, rest, one_of}
use Rattle.ll_laws.specs.Shows.{Found, Missing, Took, behind, take_label, pick, pick_of, Shows, ShowsParts, NumNode}

-- lists that take each element exactly once
pub deal_two : (s t : List ℕ) (d : List Labelled) → list_all (λ l. one_of (has s l.label) (has t l.label)) d ≡ true
    → Dealt (clauses (part s d)) (clauses (part t d)) (clauses d)
deal_two s t [] h = dealt_none
deal_two s t (l ∷ ls) h =
    step (has s l.label) (has t l.label) (and_left _ _ h) (deal_two s t ls (and_right _ _ h))
  where
    step : (a b : Bool) → one_of a b ≡ true → Dealt (clauses (part s ls)) (clauses (part t ls)) (clauses ls)
        → Dealt (clauses (cond a (l ∷ part s ls) (part s ls))) (clauses (cond b (l ∷ part t ls) (part t ls))) (l.clause ∷ clauses ls)
    step true true h r = cc
    step true false h r = dealt_left r
    step false true h r = dealt_right r
    step false false h r = cc

pub deal_rest : (s : List ℕ) (d : List Labelled) → Dealt (clauses (part s d)) (clauses (rest s d)) (clauses d)
deal_rest s [] = dealt_none
deal_rest s (l ∷ ls) = step (has s l.label) (deal_rest s ls)
  where
    step : (a : Bool) → Dealt (clauses (part s ls)) (clauses (rest s ls)) (clauses ls)
        → Dealt (clauses (cond a (l ∷ part s ls) (part s ls))) (clauses (cond (not a) (l ∷ rest s ls) (rest s ls))) (l.clause ∷ clauses ls)
    step true r = dealt_left r
    step false r = dealt_right r

-- nothing on one side
pub deal_none : (d : List Form) → Dealt [] d d
deal_none [] = dealt_none
deal_none (x ∷ xs) = dealt_right (deal_none xs)

-- an element that is the first, or one of the others
here : (x : Form) (xs : List Form) → Contains (x ∷ xs) x
here x xs = (0, omega arith, refl)

there : (x : Form) (xs : List Form) (y : Form) → Contains xs y → Contains (x ∷ xs) y
there x xs y h = (suc h.0, omega (arith, h.1), h.2)

pub in_taken : (n : ℕ) (c : List Labelled) (r : Form) (e : List Labelled) → take_label n c ≡ Took r e → Contains (clauses c) r
in_taken n [] r e h = cc
in_taken n (l ∷ ls) r e h = step (nat_eq n l.label) (take_label n ls) (in_taken n ls) h
  where
    step : (b : Bool) (o : Found) → ((s : Form) (f : List Labelled) → o ≡ Took s f → Contains (clauses ls) s)
        → (if b then Took l.clause ls else behind l o) ≡ Took r e → Contains (l.clause ∷ clauses ls) r
    step true o go h = let p : l.clause ≡ r = cc in subst (λ x. Contains (l.clause ∷ clauses ls) x) p (here l.clause (clauses ls))
    step false Missing go h = cc
    step false (Took s f) go h = let p : s ≡ r = cc in there l.clause (clauses ls) r (go r f (ap (λ x. Took x f) p))

pub deal_taken : (n : ℕ) (d : List Labelled) (r : Form) (e : List Labelled) → take_label n d ≡ Took r e → Dealt (r ∷ []) (clauses e) (clauses d)
deal_taken n [] r e h = cc
deal_taken n (l ∷ ls) r e h = step (nat_eq n l.label) (take_label n ls) (deal_taken n ls) h
  where
    step : (b : Bool) (o : Found) → ((s : Form) (f : List Labelled) → o ≡ Took s f → Dealt (s ∷ []) (clauses f) (clauses ls))
        → (if b then Took l.clause ls else behind l o) ≡ Took r e → Dealt (r ∷ []) (clauses e) (l.clause ∷ clauses ls)
    step true o go h =
        let p : l.clause ≡ r = cc in let f : ls ≡ e = cc in
        subst (λ x. Dealt (x ∷ []) (clauses e) (l.clause ∷ clauses ls)) p
        (subst (λ x. Dealt (l.clause ∷ []) (clauses x) (l.clause ∷ clauses ls)) f (dealt_left (deal_none (clauses ls))))
    step false Missing go h = cc
    step false (Took s f) go h =
        let p : s ≡ r = cc in let q : l ∷ f ≡ e = cc in
        subst (λ x. Dealt (r ∷ []) (clauses x) (l.clause ∷ clauses ls)) q (dealt_right (go r f (ap (λ x. Took x f) p)))

-- a clause that was picked, by the way it was picked
by_clause : (beside : Setting) (n : ℕ) (c d e : List Labelled) (r : Form) (m k : ℕ) (a : Term) (ts : List Term) (gs : List Premise)
    → pick n c d ≡ Took r e → AreClosed ts → leaf r k ts ≡ Some (record { premises = gs; head = a }) → Premises beside m (clauses c) (clauses e) gs
    → Derivable beside (suc m) (clauses c) (clauses d) (Atom a)
by_clause beside n c d e r m k a ts gs h t l p = step (take_label n c) (take_label n d) refl refl h
  where
    step : (o q : Found) → take_label n c ≡ o → take_label n d ≡ q → pick_of d o q ≡ Took r e → Derivable beside (suc m) (clauses c) (clauses d) (Atom a)
    step (Took s f) q x y h =
        let i : s ≡ r = cc in let j : e ≡ d = cc in
        by_free r k ts gs (in_taken n c r f (x ∙ ap (λ z. Took z f) i)) t l (subst (λ z. Premises beside m (clauses c) (clauses z) gs) j p)
    step Missing q x y h = by_linear r k ts gs (deal_taken n d r e (y ∙ h)) t l p

-- the law
mutual
  pub derive : (beside : Setting) (x : Tree) (c d : List Labelled) (g : Form) → Shows beside x c d g → Derivable beside (nodes x) (clauses c) (clauses d) g
  derive beside OneNode c d One h = subst (λ e. Derivable beside 1 (clauses c) (clauses e) One) (sym h) by_one
  derive beside EraseNode c d Top h = by_top
  derive beside NumNode c d (Num r t u) h = subst (λ e. Derivable beside 1 (clauses c) (clauses e) (Num r t u)) (sym h.0) (by_num h.1)
  derive beside (TensorNode s t x y) c d (Tensor g k) h =
      by_tensor (deal_two s t d (and_right _ _ h.0)) (derive beside x c (part s d) g h.1) (derive beside y c (part t d) k h.2)
  derive beside (WithNode x y) c d (With g k) h = by_with (derive beside x c d g h.0) (derive beside y c d k h.1)
  derive beside (LeftNode x) c d (Plus g k) h = by_left (derive beside x c d g h)
  derive beside (RightNode x) c d (Plus g k) h = by_right (derive beside x c d k h)
  derive beside (BangNode x) c d (Bang g) h =
      subst (λ e. Derivable beside (suc (nodes x)) (clauses c) (clauses e) (Bang g)) (sym h.0)
      (by_bang (subst (λ e. Derivable beside (nodes x) (clauses c) (clauses e) g) h.0 (derive beside x c d g h.1)))
  derive beside (LolliNode n x) c d (Lolli r g) h = by_lolli
      (subst (λ e. Derivable beside (nodes x) (clauses c) e g) (map-append (λ l. l.clause) d (record { label = n; clause = r } ∷ []))
      (derive beside x c (d ++ record { label = n; clause = r } ∷ []) g h.1))
  derive beside (ImpNode n x) c d (Imp r g) h = by_imp (derive beside x (record { label = n; clause = r } ∷ c) d g h.1)
  derive beside (ForallNode k x) c d (Forall g) h = by_forall k h.0 (derive beside x c d (instantiate g (Con _)) h.1)
  derive beside (ExistsNode t x) c d (Exists g) h = by_exists t h.0 (derive beside x c d (instantiate g t) h.1)
  derive beside (UseNode x) c d (Use k ts g) h = by_use h.0 h.1 (derive beside x c d (unfold_load h.0 ts g) h.2)
  derive beside (ClauseNode n k ts ps) c d (Atom a) h =
      by_clause beside n c d h.1 h.0 (part_nodes ps) k a ts h.2 h.3 h.4 h.5 (derive_parts beside ps c h.1 h.2 h.6)
  derive beside _ c d _ h = absurd h

  pub derive_parts : (beside : Setting) (ps : Parts) (c d : List Labelled) (gs : List Premise) → ShowsParts beside ps c d gs
      → Premises beside (part_nodes ps) (clauses c) (clauses d) gs
  derive_parts beside NoParts c d [] h = subst (λ e. Premises beside 0 (clauses c) (clauses e) []) (sym h) no_premise
  derive_parts beside (BoundedPart s x ps) c d (Needs g ∷ gs) h =
      a_premise (deal_rest s d) (derive beside x c (part s d) g h.1) (derive_parts beside ps c (rest s d) gs h.2)
  derive_parts beside (UnboundedPart x ps) c d (NeedsFree g ∷ gs) h = a_free_premise (derive beside x c [] (Bang g) h.0) (derive_parts beside ps c d gs h.1)
  derive_parts beside _ c d _ h = absurd h
