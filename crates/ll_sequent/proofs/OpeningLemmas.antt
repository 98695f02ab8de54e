-- What the rules that open a formula make of their sequents, where the bank grows.
use Rattle.std.proofs.Common.{◌≡◌, ℕ, refl, ap, sym, ◌∙◌, subst, true, false, List, [], ◌∷◌, take, reverse, length}
use Rattle.std.proofs.lemmas.List.Elements.{All-take}
use Rattle.ll_bank.specs.declared.FormAt.{FormAt}
use Rattle.ll_bank.specs.declared.FormNode.{FormNode}
use Rattle.ll_bank.specs.declared.FormNode.TheVariants.{Top as TopView, One as OneView, Atom as AtomView, With as WithView, Tensor as TensorView}
use Rattle.ll_bank.specs.declared.FormNode.TheVariants.{Plus as PlusView, Bang as BangView, Lolli as LolliView, Imp as ImpView, Forall as ForallView}
use Rattle.ll_bank.specs.declared.FormNode.TheVariants.{Exists as ExistsView, Use as UseView, Is as IsView, Less as LessView, Most as MostView}
use Rattle.ll_bank.specs.Term.{Term, is_closed}
use Rattle.ll_bank.specs.Form.{Form, instantiate, form_applies_heads}
use Rattle.ll_bank.specs.Nodes.{Nodes, form_tree, form_of, ShowsForm, IsFormView, Extends}
use Rattle.ll_laws.specs.Number.{Operators}
use Rattle.ll_laws.specs.Module.{Setting, ModuleTree}
use Rattle.ll_laws.specs.Shows.{Labelled}
use Rattle.ll_laws.specs.Line.{Line, ExistsLine}
use Rattle.ll_laws.specs.Valid.{GoalSide, ClauseSide, has_heads}
use Rattle.ll_sequent.specs.declared.sequents.Resource.{Resource}
use Rattle.ll_sequent.specs.declared.sequents.Sequent.{Sequent}
use Rattle.ll_sequent.specs.declared.sequents.Step.{Step}
use Rattle.ll_sequent.specs.declared.sequents.Step.TheVariants.{Refused}
use Rattle.ll_sequent.specs.Sequents.{bounded_in, free_in, sequent_in, IsSound, IsHeld, AreHeld}
use Rattle.ll_sequent.specs.Steps.{Refuses, Asks, made, made_at, made_in, IsLeft}
use Rattle.ll_sequent.specs.Named.{IsLeaving}
use Rattle.ll_sequent.specs.Judging.{beside, Holds, IsStep, StepsOver}
use Rattle.ll_sequent.proofs.Waiting.{same_labelled, are_held-extends}
use Rattle.ll_sequent.proofs.RuleLemmas.{goal_sound, one_steps, none_added}
use Rattle.ll_sequent.proofs.Closings.{sound-instantiate, heads-instantiate}

-- the bank and the sequent before and after, with a goal that is new
module _ (old new : Nodes) (s p : Sequent) (keeps : Extends old new) (free_same : p.free ≡ s.free) (bounded_same : p.bounded.items ≡ s.bounded.items) (g : Form)
    (shows : ShowsForm new p.goal.0 g) where
  pub shown_opened : (modules : List ModuleTree) (free : List Resource) → Holds modules old free s
      → record { free = free_in old (take s.free free); bounded = bounded_in old s.bounded.items; goal = g } ≡ sequent_in new free p
  shown_opened modules free h =
      let f : free_in new (take p.free free) ≡ free_in old (take s.free free) =
      ap (λ n. free_in new (take n free)) free_same
      ∙ ap reverse (same_labelled keeps modules (take s.free free)
      (All-take (λ (r : Resource). IsHeld modules old ClauseSide r.form.0) s.free free h.unbounded)) in
      let b : bounded_in new p.bounded.items ≡ bounded_in old s.bounded.items =
      ap (bounded_in new) bounded_same ∙ same_labelled keeps modules s.bounded.items h.sequent.bounded in
      λ i. record { free = sym f i; bounded = sym b i; goal = sym shows.tree i }

  pub opened_steps : (line : Line) (step : Step) (free : List Resource) (ops : Operators) (modules : List ModuleTree) → Holds modules old free s
      → IsLeaving (p ∷ []) step → IsSound modules GoalSide [] g
      → made_at (beside ops modules) line (sequent_in old free s)
      ≡ Asks (record { free = free_in old (take s.free free); bounded = bounded_in old s.bounded.items; goal = g } ∷ [])
      → IsStep ops modules line (sequent_in old free s) new free free step
  opened_steps line step free ops modules h leaving sound is =
      let P : Form → Type 0 = IsSound modules GoalSide [] in
      let Q : List Resource → Type 0 = AreHeld modules new in
      one_steps ops modules line (sequent_in old free s) new free free p step leaving (is ∙ (λ i. Asks (shown_opened modules free h i ∷ [])))
      (free_same ∙ h.all)
      (record {
        goal = record { inside = shows.inside; sound = subst P (sym shows.tree) sound };
        bounded =
            subst Q (sym bounded_same) (are_held-extends keeps modules s.bounded.items h.sequent.bounded);
      })
      (are_held-extends keeps modules free h.unbounded) (none_added free)

-- ---- `exists`

pub not_exists : (b : Setting) (bank : Nodes) (c d : List Labelled) (t : Term) (v : FormNode) → ((f : FormAt) → v ≡ ExistsView f → ⊥)
    → made b (ExistsLine t) c d (form_of bank v) ≡ Refuses 1
not_exists b bank c d t (ExistsView f) n = absurd (n f refl)
not_exists b bank c d t TopView n = refl
not_exists b bank c d t OneView n = refl
not_exists b bank c d t (AtomView a) n = refl
not_exists b bank c d t (WithView f g) n = refl
not_exists b bank c d t (TensorView f g) n = refl
not_exists b bank c d t (PlusView f g) n = refl
not_exists b bank c d t (BangView f) n = refl
not_exists b bank c d t (LolliView f g) n = refl
not_exists b bank c d t (ImpView f g) n = refl
not_exists b bank c d t (ForallView f) n = refl
not_exists b bank c d t (UseView m ts f) n = refl
not_exists b bank c d t (IsView x y) n = refl
not_exists b bank c d t (LessView x y) n = refl
not_exists b bank c d t (MostView x y) n = refl

-- heads alone have arguments in the instance
pub exists_heads : (bank : Nodes) (at : ℕ) (f : FormAt) (t : Term) → IsFormView bank at (ExistsView f) → has_heads true GoalSide [] (form_tree bank at) ≡ true
    → is_closed t ≡ true
    → form_applies_heads (instantiate (form_tree bank f.0) t) ≡ true
exists_heads bank at f t seen h c =
    let P : Form → Type 0 = λ g. has_heads true GoalSide [] g ≡ true in
    heads-instantiate GoalSide false (form_tree bank f.0) t c (λ e. cc) (subst P seen.tree h)

pub exists_steps : (old new : Nodes) (s p : Sequent) (f : FormAt) (t : Term) (step : Step) → IsFormView old s.goal.0 (ExistsView f) → is_closed t ≡ true
    → Extends old new
    → ShowsForm new p.goal.0 (instantiate (form_tree old f.0) t) → p.free ≡ s.free → p.bounded.items ≡ s.bounded.items → IsLeaving (p ∷ []) step
    → StepsOver (ExistsLine t) old s new step
exists_steps old new s p f t step seen c keeps shows same_free same_bounded leaving = λ ops modules free h.
    let g = goal_sound old s modules (ExistsView f) seen h.sequent in
    opened_steps old new s p keeps same_free same_bounded (instantiate (form_tree old f.0) t) shows (ExistsLine t) step free ops modules h leaving
    (sound-instantiate modules GoalSide false (form_tree old f.0) t c (λ e. cc) (record { closed = g.closed; heads = g.heads; loads = g.loads }))
    (ap (made (beside ops modules) (ExistsLine t) (free_in old (take s.free free)) (bounded_in old s.bounded.items)) seen.tree)

pub exists_refused : (bank : Nodes) (s : Sequent) (t : Term) (view : FormNode) (step : Step) → IsFormView bank s.goal.0 view
    → ((f : FormAt) → view ≡ ExistsView f → ⊥) → step ≡ Refused 1
    → StepsOver (ExistsLine t) bank s bank step
exists_refused bank s t view step seen n e = λ ops modules free h.
    let P : Step → Type 0 = λ x. IsLeft modules bank (length free) x in
    record {
      made = ap (made_in bank free) e
          ∙ sym (ap (made (beside ops modules) (ExistsLine t) (free_in bank (take s.free free)) (bounded_in bank s.bounded.items)) seen.tree
          ∙ not_exists (beside ops modules) bank (free_in bank (take s.free free)) (bounded_in bank s.bounded.items) t view n);
      left = subst P (sym e) tt;
      free = h.unbounded;
      adds = none_added free;
    }
