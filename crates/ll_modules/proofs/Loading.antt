-- The arguments of a load, put in place of a clause's parameters one after another, the last one first.
use Rattle.std.proofs.Common.{◌≡◌, ℕ, ◌+◌, ◌-◌, ◌<◌, ◌≤◌, true, List, [], ◌∷◌, ◌++◌, length, take, drop, map, get_or, ap, sym, subst, ◌∙◌, arith, Some}
use Rattle.std.proofs.lemmas.List.{take_more, drop_more, reverse-append, length-map, get_or-map}
use Rattle.ll_bank.specs.declared.At.{At}
use Rattle.ll_bank.specs.Term.{Term}
use Rattle.ll_bank.specs.Form.{Form, close_form, instantiate, form_applies_heads}
use Rattle.ll_bank.specs.Nodes.{Nodes, term_tree, term_trees, form_tree, AllInTerms, Extends}
use Rattle.ll_bank.proofs.CallerLemmas.{term_tree-extends, term_trees-extends}
use Rattle.ll_laws.specs.declared.Clause.{Clause}
use Rattle.ll_laws.specs.Module.{load, load_all}
use Rattle.ll_laws.specs.Shown.{clause_tree, HasClauses}
use Rattle.ll_modules.specs.Loads.{arguments_env, AreClosed, MayLoad}
use Rattle.ll_modules.proofs.Closing.{opens_first, form_before}

-- a further term is innermost
env_more : (ts : List Term) (t : Term) → arguments_env (ts ++ t ∷ []) ≡ Some t ∷ arguments_env ts
env_more ts t = ap (map (λ u. Some u)) (reverse-append ts (t ∷ []))

module _ {old now : Nodes} (keeps : Extends old now) (args : List At) (places : AllInTerms old args) (closed : AreClosed (term_trees old args)) where
  -- a formula with the first terms in place of its places, of which the last one is put there now
  pub one_less : (i : ℕ) (d : At) (f g : Form) → 0 < i → i ≤ length args → close_form (arguments_env (take i (term_trees old args))) f ≡ g
      → close_form (arguments_env (take (i - 1) (term_trees old args))) (instantiate f (term_tree now (get_or args (i - 1) d).0)) ≡ g
  one_less i d f g low high is =
      let l : i - 1 < length args = omega arith in
      let m : i - 1 < length (term_trees old args) = let q = length-map args (λ (a : At). term_tree old a.0) in omega arith in
      let e : i - 1 + 1 ≡ i = omega arith in
      let t = get_or (term_trees old args) (i - 1) (term_tree old d.0) in
      let same : term_tree now (get_or args (i - 1) d).0 ≡ t =
      term_tree-extends keeps (get_or args (i - 1) d).0 (places (i - 1) d l)
      ∙ sym (get_or-map (λ (a : At). term_tree old a.0) args (i - 1) d (term_tree old d.0) l) in
      let split : arguments_env (take i (term_trees old args)) ≡ Some t ∷ arguments_env (take (i - 1) (term_trees old args)) =
      ap (λ n. arguments_env (take n (term_trees old args))) (sym e)
      ∙ (ap arguments_env (take_more (term_trees old args) (i - 1) (term_tree old d.0) m) ∙ env_more (take (i - 1) (term_trees old args)) t) in
      ap (λ u. close_form (arguments_env (take (i - 1) (term_trees old args))) (instantiate f u)) same
      ∙ (sym (opens_first t (arguments_env (take (i - 1) (term_trees old args))) (closed (i - 1) (term_tree old d.0) m) f)
      ∙ (ap (λ env. close_form env f) (sym split) ∙ is))

  -- which leaves arguments with their heads
  pub heads_now : (i : ℕ) (d : At) (f g : Form) → 0 < i → i ≤ length args → close_form (arguments_env (take i (term_trees old args))) f ≡ g
      → form_applies_heads g ≡ true
      → form_applies_heads (instantiate f (term_tree now (get_or args (i - 1) d).0)) ≡ true
  heads_now i d f g low high is h =
      form_before (arguments_env (take (i - 1) (term_trees old args))) (instantiate f (term_tree now (get_or args (i - 1) d).0))
      (ap form_applies_heads (one_less i d f g low high is) ∙ h)

  -- the arguments stay closed
  pub closed_now : AreClosed (term_trees now args)
  closed_now = subst AreClosed (sym (term_trees-extends keeps args places)) closed

  -- so a clause may be loaded
  pub clause_heads : (cs : List Clause) (k : ℕ) (d : Clause) → k < length cs → HasClauses old cs → MayLoad old cs (term_trees old args)
      → form_applies_heads (close_form (arguments_env (term_trees now args)) (form_tree now (get_or cs k d).form.0)) ≡ true
  clause_heads cs k d l inside h =
      (λ i. form_applies_heads (close_form (arguments_env (term_trees-extends keeps args places i)) (keeps.same_forms (get_or cs k d).form.0 (inside k d l) i)))
      ∙ h k d l

  -- and comes in front of those that are
  pub clause_loaded : (cs : List Clause) (i : ℕ) (d : Clause) (f g : Form) → 0 < i → i ≤ length cs → HasClauses old cs
      → f ≡ load_all (arguments_env (term_trees old args)) (map (clause_tree old) (drop i cs)) g
      → load (get_or cs (i - 1) d).kind (close_form (arguments_env (term_trees now args)) (form_tree now (get_or cs (i - 1) d).form.0)) f
      ≡ load_all (arguments_env (term_trees old args)) (map (clause_tree old) (drop (i - 1) cs)) g
  clause_loaded cs i d f g low high inside is =
      let l : i - 1 < length cs = omega arith in
      let e : i - 1 + 1 ≡ i = omega arith in
      (λ j. load (get_or cs (i - 1) d).kind (close_form (arguments_env (term_trees-extends keeps args places j))
      (keeps.same_forms (get_or cs (i - 1) d).form.0 (inside (i - 1) d l) j)) (is j))
      ∙ (ap (λ n. load_all (arguments_env (term_trees old args)) (map (clause_tree old) (get_or cs (i - 1) d ∷ drop n cs)) g) (sym e)
      ∙ ap (λ rest. load_all (arguments_env (term_trees old args)) (map (clause_tree old) rest) g) (sym (drop_more cs (i - 1) d l)))
