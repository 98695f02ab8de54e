-- A constant that is new in a sequent, and the rule for `forall`.
use Rattle.std.proofs.Common.{◌≡◌, ℕ, refl, ap, sym, ◌∙◌, subst, true, false, List, [], ◌∷◌, ◌++◌, map, take, length, ◌<◌, ◌≤◌, arith}
use Rattle.std.specs.Prelude.{◌||◌, not}
use Rattle.std.specs.List.{list_any}
use Rattle.std.proofs.lemmas.List.Folds.{list_any-append}
use Rattle.std.proofs.lemmas.List.{take_all}
use Rattle.std.proofs.lemmas.List.Elements.{All-nil, All-cons, All-head, All-tail}
use Rattle.ll_bank.specs.declared.FormAt.{FormAt}
use Rattle.ll_bank.specs.declared.FormNode.{FormNode}
use Rattle.ll_bank.specs.declared.FormNode.TheVariants.{Top as TopView, One as OneView, Atom as AtomView, With as WithView, Tensor as TensorView}
use Rattle.ll_bank.specs.declared.FormNode.TheVariants.{Plus as PlusView, Bang as BangView, Lolli as LolliView, Imp as ImpView, Forall as ForallView}
use Rattle.ll_bank.specs.declared.FormNode.TheVariants.{Exists as ExistsView, Use as UseView, Is as IsView, Less as LessView, Most as MostView}
use Rattle.ll_bank.specs.declared.Head.TheVariants.{Eigen}
use Rattle.ll_bank.specs.Term.{Con}
use Rattle.ll_bank.specs.Form.{Form, instantiate, form_has_eigen, form_applies_heads}
use Rattle.ll_bank.specs.Nodes.{Nodes, form_tree, form_of, ShowsForm, IsFormView, Extends}
use Rattle.ll_laws.specs.Module.{Setting, ModuleTree}
use Rattle.ll_laws.specs.Shows.{Labelled, clauses}
use Rattle.ll_laws.specs.Line.{ForallLine}
use Rattle.ll_laws.specs.Valid.{GoalSide, ClauseSide, has_heads}
use Rattle.ll_sequent.specs.declared.sequents.Resource.{Resource}
use Rattle.ll_sequent.specs.declared.sequents.Sequent.{Sequent}
use Rattle.ll_sequent.specs.declared.sequents.Step.{Step}
use Rattle.ll_sequent.specs.declared.sequents.Step.TheVariants.{Refused}
use Rattle.ll_sequent.specs.Sequents.{labelled_in, bounded_in, free_in, IsHeld, AreHeld}
use Rattle.ll_sequent.specs.Steps.{Refuses, made, provided}
use Rattle.ll_sequent.specs.Named.{IsLeaving}
use Rattle.ll_sequent.specs.Constants.{is_in_each, forms_of, stands_in, AllInForms}
use Rattle.ll_sequent.specs.Judging.{beside, Steps}
use Rattle.ll_sequent.proofs.RuleLemmas.{goal_sound, none_added, any_reverse}
use Rattle.ll_sequent.proofs.OpeningLemmas.{opened_steps}
use Rattle.ll_sequent.proofs.Closings.{sound-instantiate, heads-instantiate}

any_clauses : (e : ℕ) (ls : List Labelled) → list_any (form_has_eigen e) (clauses ls) ≡ list_any (λ (l : Labelled). form_has_eigen e l.clause) ls
any_clauses e [] = refl
any_clauses e (l ∷ ls) = ap (λ b. form_has_eigen e l.clause || b) (any_clauses e ls)

any_shown : (e : ℕ) (bank : Nodes) (rs : List Resource) → list_any (λ (l : Labelled). form_has_eigen e l.clause) (map (labelled_in bank) rs)
    ≡ is_in_each e bank (forms_of rs)
any_shown e bank [] = refl
any_shown e bank (r ∷ rs) = ap (λ b. form_has_eigen e (form_tree bank r.form.0) || b) (any_shown e bank rs)

-- the constant stands in the sequent
pub stands_shown : (e : ℕ) (bank : Nodes) (k : ℕ) (free bounded : List Resource) (f : FormAt) → k ≡ length free
    → list_any (form_has_eigen e) (form_tree bank f.0 ∷ (clauses (free_in bank (take k free)) ++ clauses (bounded_in bank bounded)))
    ≡ stands_in e bank f free bounded
stands_shown e bank k free bounded f n =
    let low : length free ≤ k = omega arith in
    let a : list_any (form_has_eigen e) (clauses (free_in bank (take k free))) ≡ is_in_each e bank (forms_of free) =
    ap (λ xs. list_any (form_has_eigen e) (clauses (free_in bank xs))) (take_all k free low)
    ∙ (any_clauses e (free_in bank free) ∙ (any_reverse (λ (l : Labelled). form_has_eigen e l.clause) (map (labelled_in bank) free) ∙ any_shown e bank free)) in
    let b : list_any (form_has_eigen e) (clauses (bounded_in bank bounded)) ≡ is_in_each e bank (forms_of bounded) =
    any_clauses e (bounded_in bank bounded) ∙ any_shown e bank bounded in
    ap (λ v. form_has_eigen e (form_tree bank f.0) || v) (list_any-append (form_has_eigen e) (clauses (free_in bank (take k free)))
    (clauses (bounded_in bank bounded)) ∙ (λ i. a i || b i))

not_forall : (b : Setting) (bank : Nodes) (c d : List Labelled) (e : ℕ) (v : FormNode) → ((f : FormAt) → v ≡ ForallView f → ⊥)
    → made b (ForallLine e) c d (form_of bank v) ≡ Refuses 1
not_forall b bank c d e (ForallView f) n = absurd (n f refl)
not_forall b bank c d e TopView n = refl
not_forall b bank c d e OneView n = refl
not_forall b bank c d e (AtomView a) n = refl
not_forall b bank c d e (WithView f g) n = refl
not_forall b bank c d e (TensorView f g) n = refl
not_forall b bank c d e (PlusView f g) n = refl
not_forall b bank c d e (BangView f) n = refl
not_forall b bank c d e (LolliView f g) n = refl
not_forall b bank c d e (ImpView f g) n = refl
not_forall b bank c d e (ExistsView f) n = refl
not_forall b bank c d e (UseView m ts f) n = refl
not_forall b bank c d e (IsView t u) n = refl
not_forall b bank c d e (LessView t u) n = refl
not_forall b bank c d e (MostView t u) n = refl

pub forall_refused : (bank : Nodes) (free : List Resource) (s : Sequent) (e : ℕ) (view : FormNode) → IsFormView bank s.goal.0 view
    → ((f : FormAt) → view ≡ ForallView f → ⊥)
    → Steps (ForallLine e) bank free s bank free (Refused 1)
forall_refused bank free s e view seen n = λ ops modules h. record {
  made = sym (ap (made (beside ops modules) (ForallLine e) (free_in bank (take s.free free)) (bounded_in bank s.bounded.items)) seen.tree
      ∙ not_forall (beside ops modules) bank (free_in bank (take s.free free)) (bounded_in bank s.bounded.items) e view n);
  left = tt;
  free = h.unbounded;
  adds = none_added free;
}

module _ (bank : Nodes) (free : List Resource) (s : Sequent) (e : ℕ) (f : FormAt) (seen : IsFormView bank s.goal.0 (ForallView f)) where
  pub forall_known : stands_in e bank f free s.bounded.items ≡ true → Steps (ForallLine e) bank free s bank free (Refused 10)
  forall_known old = λ ops modules h.
      let ok = stands_shown e bank s.free free s.bounded.items f h.all ∙ old in
      record {
        made = sym (ap (made (beside ops modules) (ForallLine e) (free_in bank (take s.free free)) (bounded_in bank s.bounded.items)) seen.tree
            ∙ (λ i. provided (not (ok i)) 10 (record {
              free = free_in bank (take s.free free);
              bounded = bounded_in bank s.bounded.items;
              goal =
                  instantiate (form_tree bank f.0) (Con (Eigen e));
            } ∷ [])));
        left = tt;
        free = h.unbounded;
        adds = none_added free;
      }

  pub forall_heads : has_heads true GoalSide [] (form_tree bank s.goal.0) ≡ true → form_applies_heads (instantiate (form_tree bank f.0) (Con (Eigen e))) ≡ true
  forall_heads h =
      let P : Form → Type 0 = λ g. has_heads true GoalSide [] g ≡ true in
      heads-instantiate GoalSide true (form_tree bank f.0) (Con (Eigen e)) refl (λ b. refl) (subst P seen.tree h)

  pub forall_steps : (new : Nodes) (p : Sequent) (step : Step) → stands_in e bank f free s.bounded.items ≡ false → Extends bank new
      → ShowsForm new p.goal.0 (instantiate (form_tree bank f.0) (Con (Eigen e))) → p.free ≡ s.free → p.bounded.items ≡ s.bounded.items
      → IsLeaving (p ∷ []) step
      → Steps (ForallLine e) bank free s new free step
  forall_steps new p step fresh keeps shows same_free same_bounded leaving = λ ops modules h.
      let g = goal_sound bank s modules (ForallView f) seen h.sequent in
      let ok = stands_shown e bank s.free free s.bounded.items f h.all ∙ fresh in
      opened_steps bank new s p keeps same_free same_bounded (instantiate (form_tree bank f.0) (Con (Eigen e))) shows (ForallLine e) step free ops modules h
      leaving
      (sound-instantiate modules GoalSide true (form_tree bank f.0) (Con (Eigen e)) refl (λ b. refl)
      (record { closed = g.closed; heads = g.heads; loads = g.loads }))
      (ap (made (beside ops modules) (ForallLine e) (free_in bank (take s.free free)) (bounded_in bank s.bounded.items)) seen.tree
      ∙ (λ i. provided (not (ok i)) 10 (record {
        free = free_in bank (take s.free free);
        bounded = bounded_in bank s.bounded.items;
        goal =
            instantiate (form_tree bank f.0) (Con (Eigen e));
      } ∷ [])))

-- the formulas of clauses that are held lie in the bank
pub forms_held : (modules : List ModuleTree) (bank : Nodes) (rs : List Resource) → AreHeld modules bank rs → AllInForms bank (forms_of rs)
forms_held modules bank [] h = All-nil (λ (f : FormAt). f.0 < length bank.forms)
forms_held modules bank (r ∷ rs) h =
    All-cons (λ (f : FormAt). f.0 < length bank.forms) r.form (forms_of rs) (All-head (λ (r : Resource). IsHeld modules bank ClauseSide r.form.0) r rs h).inside
    (forms_held modules bank rs (All-tail (λ (r : Resource). IsHeld modules bank ClauseSide r.form.0) r rs h))
