-- What a tree shows is derivable, by a derivation that has whole-number goals where the tree has them.
use Rattle.std.proofs.Common.{Contains, arith, nat_eq, ◌≡◌, ℕ, suc, refl, ap, sym, subst, ◌∙◌, Bool, true, false, List, [], ◌∷◌, ◌++◌}
use Rattle.std.proofs.lemmas.List.{map-append}
use Rattle.std.specs.Prelude.{if◌then◌else◌, ◌||◌, Some}
use Rattle.ll_list_laws.proofs.CallerLemmas.{and_true_right as and_right}
use Rattle.ll_bank.specs.Term.{Term, Con}
use Rattle.ll_bank.specs.Form.{Form, Top, One, Atom, With, Tensor, Plus, Bang, Lolli, Imp, Forall, Exists, Use, instantiate, Num}
use Rattle.ll_laws.specs.Leaf.{Premise, Needs, NeedsFree, leaf}
use Rattle.ll_laws.specs.Module.{Setting, unfold_load}
use Rattle.ll_laws.specs.Derive.{AreClosed, Dealt, dealt_left, dealt_right, Derivable, by_one, by_top, by_tensor, by_with, by_left, by_right}
use Rattle.ll_laws.specs.Derive.{by_bang, by_lolli, by_imp, by_forall, by_exists, by_use, by_free, by_linear, Premises, no_premise, a_premise, a_free_premise}
use Rattle.ll_laws.specs.Derive.{by_num}
use Rattle.ll_laws.specs.Shows.{Tree, OneNode, EraseNode, TensorNode, WithNode, LeftNode, RightNode, BangNode, LolliNode, ImpNode, ForallNode, ExistsNode}
use Rattle.ll_laws.specs.Shows.{UseNode, ClauseNode, Parts, NoParts, BoundedPart, UnboundedPart, nodes, part_nodes, Labelled, clauses, part, rest}
use Rattle.ll_laws.specs.Shows.{Found, Missing, Took, behind, take_label, pick, pick_of, Shows, ShowsParts, NumNode}
use Rattle.ll_top.specs.textbook.Follows.{reckons, premises_reckon}
use Rattle.ll_laws.proofs.CallerLemmas.{deal_two, deal_rest, deal_none, in_taken, deal_taken, numbers, numbers_part}

pub record Derived (beside : Setting) (m : ℕ) (c d : List Form) (g : Form) (n : Bool) : Type 0 where
  pub derivation : Derivable beside m c d g
  pub mark : reckons derivation ≡ n

record DerivedParts (beside : Setting) (m : ℕ) (c d : List Form) (gs : List Premise) (n : Bool) : Type 0 where
  premises : Premises beside m c d gs
  mark : premises_reckon premises ≡ n

both : {a b c d : Bool} → a ≡ c → b ≡ d → a || b ≡ c || d
both {b = b} {c = c} p q = ap (λ z. z || b) p ∙ ap (λ z. c || z) q

-- a clause that was picked, by the way it was picked
by_clause : (beside : Setting) (n : ℕ) (c d e : List Labelled) (r : Form) (m k : ℕ) (a : Term) (ts : List Term) (gs : List Premise) (b : Bool)
    → pick n c d ≡ Took r e → AreClosed ts → leaf r k ts ≡ Some (record { premises = gs; head = a })
    → DerivedParts beside m (clauses c) (clauses e) gs b
    → Derived beside (suc m) (clauses c) (clauses d) (Atom a) b
by_clause beside n c d e r m k a ts gs b h t l p = step (take_label n c) (take_label n d) refl refl h
  where
    step : (o q : Found) → take_label n c ≡ o → take_label n d ≡ q → pick_of d o q ≡ Took r e → Derived beside (suc m) (clauses c) (clauses d) (Atom a) b
    step (Took s f) q x y h =
        let i : s ≡ r = cc in let j : e ≡ d = cc in
        let u = subst (λ z. DerivedParts beside m (clauses c) (clauses z) gs b) j p in
        record { derivation = by_free r k ts gs (in_taken n c r f (x ∙ ap (λ z. Took z f) i)) t l u.premises; mark = u.mark }
    step Missing q x y h = record { derivation = by_linear r k ts gs (deal_taken n d r e (y ∙ h)) t l p.premises; mark = p.mark }

mutual
  pub derived : (beside : Setting) (x : Tree) (c d : List Labelled) (g : Form) → Shows beside x c d g
      → Derived beside (nodes x) (clauses c) (clauses d) g (numbers x)
  derived beside OneNode c d One h =
      subst (λ e. Derived beside 1 (clauses c) (clauses e) One false) (sym h) (record { derivation = by_one; mark = refl })
  derived beside EraseNode c d Top h = record { derivation = by_top; mark = refl }
  derived beside NumNode c d (Num r t u) h =
      subst (λ e. Derived beside 1 (clauses c) (clauses e) (Num r t u) true) (sym h.0) (record { derivation = by_num h.1; mark = refl })
  derived beside (TensorNode s t x y) c d (Tensor g k) h =
      let a = derived beside x c (part s d) g h.1 in
      let b = derived beside y c (part t d) k h.2 in
      record { derivation = by_tensor (deal_two s t d (and_right _ _ h.0)) a.derivation b.derivation; mark = both a.mark b.mark }
  derived beside (WithNode x y) c d (With g k) h =
      let a = derived beside x c d g h.0 in
      let b = derived beside y c d k h.1 in
      record { derivation = by_with a.derivation b.derivation; mark = both a.mark b.mark }
  derived beside (LeftNode x) c d (Plus g k) h = let a = derived beside x c d g h in record { derivation = by_left a.derivation; mark = a.mark }
  derived beside (RightNode x) c d (Plus g k) h = let a = derived beside x c d k h in record { derivation = by_right a.derivation; mark = a.mark }
  derived beside (BangNode x) c d (Bang g) h =
      let a = subst (λ e. Derived beside (nodes x) (clauses c) (clauses e) g (numbers x)) h.0 (derived beside x c d g h.1) in
      subst (λ e. Derived beside (suc (nodes x)) (clauses c) (clauses e) (Bang g) (numbers x)) (sym h.0)
      (record { derivation = by_bang a.derivation; mark = a.mark })
  derived beside (LolliNode n x) c d (Lolli r g) h =
      let a = subst (λ e. Derived beside (nodes x) (clauses c) e g (numbers x)) (map-append (λ l. l.clause) d (record { label = n; clause = r } ∷ []))
      (derived beside x c (d ++ record { label = n; clause = r } ∷ []) g h.1) in
      record { derivation = by_lolli a.derivation; mark = a.mark }
  derived beside (ImpNode n x) c d (Imp r g) h =
      let a = derived beside x (record { label = n; clause = r } ∷ c) d g h.1 in record { derivation = by_imp a.derivation; mark = a.mark }
  derived beside (ForallNode k x) c d (Forall g) h =
      let a = derived beside x c d (instantiate g (Con _)) h.1 in record { derivation = by_forall k h.0 a.derivation; mark = a.mark }
  derived beside (ExistsNode t x) c d (Exists g) h =
      let a = derived beside x c d (instantiate g t) h.1 in record { derivation = by_exists t h.0 a.derivation; mark = a.mark }
  derived beside (UseNode x) c d (Use k ts g) h =
      let a = derived beside x c d (unfold_load h.0 ts g) h.2 in record { derivation = by_use h.0 h.1 a.derivation; mark = a.mark }
  derived beside (ClauseNode n k ts ps) c d (Atom a) h =
      by_clause beside n c d h.1 h.0 (part_nodes ps) k a ts h.2 (numbers_part ps) h.3 h.4 h.5 (derived_parts beside ps c h.1 h.2 h.6)
  derived beside _ c d _ h = absurd h

  derived_parts : (beside : Setting) (ps : Parts) (c d : List Labelled) (gs : List Premise) → ShowsParts beside ps c d gs
      → DerivedParts beside (part_nodes ps) (clauses c) (clauses d) gs (numbers_part ps)
  derived_parts beside NoParts c d [] h =
      subst (λ e. DerivedParts beside 0 (clauses c) (clauses e) [] false) (sym h) (record { premises = no_premise; mark = refl })
  derived_parts beside (BoundedPart s x ps) c d (Needs g ∷ gs) h =
      let a = derived beside x c (part s d) g h.1 in
      let b = derived_parts beside ps c (rest s d) gs h.2 in
      record { premises = a_premise (deal_rest s d) a.derivation b.premises; mark = both a.mark b.mark }
  derived_parts beside (UnboundedPart x ps) c d (NeedsFree g ∷ gs) h =
      let a = derived beside x c [] (Bang g) h.0 in
      let b = derived_parts beside ps c d gs h.1 in
      record { premises = a_free_premise a.derivation b.premises; mark = both a.mark b.mark }
  derived_parts beside _ c d _ h = absurd h
