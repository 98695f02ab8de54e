-- Terms whose variables all have levels, as a bank grows.
use Rattle.std.proofs.Common.{◌≡◌, ℕ, Bool, true, List, [], ◌∷◌, false, get_or, refl, sym, subst}
use Rattle.std.specs.Prelude.{◌&&◌}
use Rattle.std.specs.List.{list_all}
use Rattle.std.proofs.lemmas.Bool.{and_from}
use Rattle.std.proofs.lemmas.List.Elements.{All-head, All-tail}
use Rattle.ll_list_laws.proofs.CallerLemmas.{and_true_left as and_left, and_true_right as and_right}
use Rattle.ll_bank.specs.declared.Head.{Head}
use Rattle.ll_bank.specs.declared.At.{At}
use Rattle.ll_bank.specs.Term.{Term, Con, Ap, apply, app}
use Rattle.ll_bank.specs.Nodes.{Nodes, term_tree, term_trees, ShowsTerm, Extends}
use Rattle.ll_bank.proofs.CallerLemmas.{HasTerm-extends, term_tree-extends}
use Rattle.ll_laws.specs.Unify.{vars_below}
use Rattle.test_search.specs.Levelled.{IsLevelled, AreLevelled}

-- a term with arguments
vars-apply : (n : ℕ) (f : Term) (ts : List Term) → vars_below n f ≡ true → list_all (vars_below n) ts ≡ true → vars_below n (apply f ts) ≡ true
vars-apply n f [] h k = h
vars-apply n f (u ∷ ts) h k =
    vars-apply n (Ap f u) ts (and_from (vars_below n f) (vars_below n u) h (and_left (vars_below n u) (list_all (vars_below n) ts) k))
    (and_right (vars_below n u) (list_all (vars_below n) ts) k)

pub all-levelled : (nodes : Nodes) (n : ℕ) (ats : List At) → AreLevelled nodes n ats → list_all (vars_below n) (term_trees nodes ats) ≡ true
all-levelled nodes n [] h = refl
all-levelled nodes n (a ∷ ats) h =
    and_from (vars_below n (term_tree nodes a.0)) (list_all (vars_below n) (term_trees nodes ats)) (All-head (λ (b : At). IsLevelled nodes n b.0) a ats h).vars
    (all-levelled nodes n ats (All-tail (λ (b : At). IsLevelled nodes n b.0) a ats h))

pub levelled-app : (old new : Nodes) (n at : ℕ) (h : Head) (args : List At) → AreLevelled old n args → ShowsTerm new at (app h (term_trees old args))
    → IsLevelled new n at
levelled-app old new n at h args a s = record {
  inside = s.inside;
  vars =
      subst (λ u. vars_below n u ≡ true) (sym s.tree) (vars-apply n (Con h) (term_trees old args) refl (all-levelled old n args a));
}

pub levelled-extends : (old new : Nodes) (n : ℕ) (ats : List At) → Extends old new → AreLevelled old n ats → AreLevelled new n ats
levelled-extends old new n ats e h k d l = let p = h k d l in
    record {
      inside = HasTerm-extends e (get_or ats k d).0 p.inside;
      vars =
          subst (λ u. vars_below n u ≡ true) (sym (term_tree-extends e (get_or ats k d).0 p.inside)) p.vars;
    }
