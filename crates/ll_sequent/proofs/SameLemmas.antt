-- Pairs of terms of one bank.
use Rattle.std.proofs.Common.{◌≡◌, ℕ, suc, ◌+◌, ◌<◌, true, List, [], ◌∷◌, ◌++◌, length, get_or, All, refl, ap, sym, subst, ◌∙◌, inl, inr, arith, true≢false}
use Rattle.std.specs.Prelude.{Some}
use Rattle.std.proofs.lemmas.Bool.{cases_lt, eqb-true}
use Rattle.std.proofs.lemmas.Bool.Decides.{Decides-int_eq}
use Rattle.std.proofs.lemmas.List.{get_or_default}
use Rattle.std.proofs.lemmas.List.Elements.{All-push, All-pop}
use Rattle.ll_bank.specs.declared.At.{At}
use Rattle.ll_bank.specs.declared.TermView.{TermView}
use Rattle.ll_bank.specs.declared.TermView.TheVariants.{Var as VarView, Int as IntView, App as AppView}
use Rattle.ll_bank.specs.contracts.TermViewPartialEq.TheImpl.{eq-value as view_eq_value}
use Rattle.ll_bank.specs.Term.{Var, Int}
use Rattle.ll_bank.specs.Nodes.{Nodes, term_tree, term_trees, HasTerm, IsTermView}
use Rattle.ll_bank.proofs.CallerLemmas.{same_view, same_term_of}
use Rattle.ll_sequent.specs.declared.same.Pair.{Pair}
use Rattle.ll_sequent.specs.Copied.{ArePairs, AreSame}

-- places whose views compare as equal show one term
pub same_seen : (bank : Nodes) (a b : ℕ) (x y : TermView) → IsTermView bank a x → IsTermView bank b y → (view_eq_value).it x y ≡ true
    → term_tree bank a ≡ term_tree bank b
same_seen bank a b x (AppView h args) v w e = same_term_of bank a x h args.now v (same_view x (AppView h args) e) ∙ sym w.0
same_seen bank a b (VarView m) (VarView n) v w e = v ∙ (ap Var (eqb-true m n e) ∙ sym w)
same_seen bank a b (IntView m) (IntView n) v w e = v ∙ (ap Int ((Decides-int_eq m n).0 e) ∙ sym w)
same_seen bank a b x y v w e = absurd (true≢false (sym e))

-- terms that are equal place by place
pub same_trees : (bank : Nodes) (xs ys : List At) → length xs ≡ length ys
    → ((j : ℕ) (d : At) → j < length xs → term_tree bank (get_or xs j d).0 ≡ term_tree bank (get_or ys j d).0)
    → term_trees bank xs ≡ term_trees bank ys
same_trees bank [] [] n h = refl
same_trees bank [] (y ∷ ys) n h = absurd (omega arith)
same_trees bank (x ∷ xs) [] n h = absurd (omega arith)
same_trees bank (x ∷ xs) (y ∷ ys) n h = λ i. h 0 x (omega arith) i ∷ same_trees bank xs ys (omega arith) (λ j d l. h (suc j) d (omega arith)) i

module _ (bank : Nodes) (old new : List Pair) (p : Pair) (is : new ≡ old ++ p ∷ []) where
  -- one pair more
  pub pairs_more : ArePairs bank old → HasTerm bank p.left.0 → HasTerm bank p.right.0 → ArePairs bank new
  pairs_more h l r =
      let P : Pair → Type 0 = λ q. HasTerm bank q.left.0 × HasTerm bank q.right.0 in
      subst (All P) (sym is) (All-push P old p h (l, r))

  -- one pair fewer
  pub pairs_fewer : ArePairs bank new → ArePairs bank old × (HasTerm bank p.left.0 × HasTerm bank p.right.0)
  pairs_fewer h = All-pop (λ (q : Pair). HasTerm bank q.left.0 × HasTerm bank q.right.0) new old (Some p) is h

  pub same_fewer : AreSame bank new → AreSame bank old × (term_tree bank p.left.0 ≡ term_tree bank p.right.0)
  same_fewer h = All-pop (λ (q : Pair). term_tree bank q.left.0 ≡ term_tree bank q.right.0) new old (Some p) is h

  pub same_more : AreSame bank old → term_tree bank p.left.0 ≡ term_tree bank p.right.0 → AreSame bank new
  same_more h e =
      let P : Pair → Type 0 = λ q. term_tree bank q.left.0 ≡ term_tree bank q.right.0 in
      subst (All P) (sym is) (All-push P old p h e)

-- what holds below a number and at it holds below the next
pub one_more_same : (bank : Nodes) (xs ys : List At) (i : ℕ) (c : At) → i < length xs → i < length ys
    → ((j : ℕ) (d : At) → j < i → term_tree bank (get_or xs j d).0 ≡ term_tree bank (get_or ys j d).0)
    → term_tree bank (get_or xs i c).0 ≡ term_tree bank (get_or ys i c).0 → (j : ℕ) (d : At) → j < i + 1
    → term_tree bank (get_or xs j d).0 ≡ term_tree bank (get_or ys j d).0
one_more_same bank xs ys i c l m h e j d k = elim (cases_lt j i) [
  | inl q ↦ h j d q
  | inr q ↦
      let s : i ≡ j = (omega arith) in
      let t : term_tree bank (get_or xs i d).0 ≡ term_tree bank (get_or ys i d).0 =
      ap (λ (a : At). term_tree bank a.0) (get_or_default xs i d c l) ∙ (e ∙ ap (λ (a : At). term_tree bank a.0) (get_or_default ys i c d m)) in
      subst (λ n. term_tree bank (get_or xs n d).0 ≡ term_tree bank (get_or ys n d).0) s t
]
