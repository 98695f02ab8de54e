-- A chain, built from its end.
use Rattle.std.proofs.Common.{◌≡◌, ℕ, zero, suc, ◌-◌, ◌<◌, ◌≤◌, List, [], ◌∷◌, length, drop, get_or, All, refl, ap, sym, subst, ◌∙◌, arith}
use Rattle.std.proofs.Math.Seq.{drop-cons}
use Rattle.std.proofs.Math.ListN.{drop_of_length-le}
use Rattle.ll_bank.specs.declared.Head.TheVariants.{Name}
use Rattle.ll_bank.specs.Term.{Con, Ap}
use Rattle.ll_bank.specs.Nodes.{Nodes, term_tree, HasTerm, ShowsTerm, Extends}
use Rattle.ll_bank.proofs.CallerLemmas.{Extends-trans, term_tree-extends}
use Rattle.ll_prooftext.specs.declared.terms.Item.{Item}
use Rattle.ll_prooftext.specs.Brackets.{chain_term}

pub chain_none : (bank : Nodes) (items : List Item) (last : ℕ) → HasTerm bank last
    → ShowsTerm bank last (chain_term bank (drop (length items) items) (term_tree bank last))
chain_none bank items last h = let e : drop (length items) items ≡ [] = drop_of_length-le items (omega arith) in rw e (record { inside = h; tree = refl })

pub chain_keeps : (bank mid over : Nodes) → Extends bank mid → Extends mid over → Extends bank over
chain_keeps bank mid over e f = Extends-trans e f

pub chain_more : (bank mid over : Nodes) (items : List Item) (left : ℕ) (i : Item) (last term next : ℕ) → left ≤ length items → 0 < left
    → i ≡ get_or items (left - 1) i → All (λ j. HasTerm bank j.at.0) items → ShowsTerm mid term (chain_term bank (drop left items) (term_tree bank last))
    → Extends bank mid
    → ShowsTerm over next (Ap (Ap (Con (Name i.sign)) (term_tree mid i.at.0)) (term_tree mid term))
    → ShowsTerm over next (chain_term bank (drop (left - 1) items) (term_tree bank last))
chain_more bank mid over items zero i last term next w s e a t k h = absurd (omega arith)
chain_more bank mid over items (suc n) i last term next w s e a t k h =
    let m : suc n - 1 ≡ n = omega arith in
    let f : i ≡ get_or items n i = subst (λ j. i ≡ get_or items j i) m e in
    let c : drop n items ≡ i ∷ drop (suc n) items = drop-cons items n i (omega arith) ∙ ap (λ j. j ∷ drop (suc n) items) (sym f) in
    let inside : HasTerm bank i.at.0 = subst (λ j. HasTerm bank j.at.0) (sym f) (a n i (omega arith)) in
    let x : term_tree mid i.at.0 ≡ term_tree bank i.at.0 = term_tree-extends k i.at.0 inside in
    let l : term_tree mid term ≡ chain_term bank (drop (suc n) items) (term_tree bank last) = t.tree in
    subst (λ j. ShowsTerm over next (chain_term bank (drop j items) (term_tree bank last))) (sym m)
    (subst (λ js. ShowsTerm over next (chain_term bank js (term_tree bank last))) (sym c)
    (record {
      inside = h.inside;
      tree = h.tree ∙ (ap (λ u. Ap (Ap (Con (Name i.sign)) u) (term_tree mid term)) x
          ∙ ap (λ u. Ap (Ap (Con (Name i.sign)) (term_tree bank i.at.0)) u) l);
    }))
