-- The atom in front, whose free bound places stand for variables, and the places of its arguments.
use Rattle.std.proofs.Common.{◌≡◌, ℕ, zero, suc, ◌-◌, true, false, List, [], ◌∷◌, map, length, All, refl, ap, sym, subst, ◌∙◌}
use Rattle.ll_bank.specs.declared.At.{At}
use Rattle.ll_bank.specs.declared.Head.{Head}
use Rattle.ll_bank.specs.declared.Head.TheVariants.{Name, Eigen, Bound}
use Rattle.ll_bank.specs.declared.FormNode.TheVariants.{Atom as AtomView}
use Rattle.ll_bank.specs.Environments.{values_in, values_before, IsWithin}
use Rattle.ll_bank.specs.Term.{Term, Var, Int, Con, Ap, app, sub, close, place, applies_heads}
use Rattle.ll_bank.specs.Form.{Atom, close_form, sub_form}
use Rattle.ll_bank.specs.Nodes.{term_tree, term_trees}
use Rattle.ll_bank.proofs.CallerLemmas.{HasForm-extends, form_tree-extends}
use Rattle.ll_laws.specs.Settle.{Goal as GoalOf}
use Rattle.ll_laws.specs.Valid.{IsFormula, GoalSide}
use Rattle.ll_laws.specs.Consistent.{allowed_in}
use Rattle.ll_laws.proofs.CallerLemmas.{FormFits, fits_of_formula, fit-vars, grows-refl}
use Rattle.ll_agenda.specs.Frames.{HasTop, items_at}
use Rattle.ll_unify.specs.Bindings.{Table, HasCells}
use Rattle.ll_unify.specs.Spines.{args_in}
use Rattle.ll_unify.proofs.CallerLemmas.{cells-below, found-bound, table-extends}
use Rattle.ll_bind.specs.Built.{AreBuilt, begins_fixed}
use Rattle.ll_bind.proofs.CallerLemmas.{begins-sign, built-places, built-app}
use Rattle.ll_freeze.specs.Parts.{Parts, table}
use Rattle.ll_freeze.specs.declared.machine.Item.TheVariants.{Goal}
use Rattle.ll_freeze.specs.Reading.{reading}
use Rattle.ll_freeze.specs.Shown.{shown_item, items_of, state_of}
use Rattle.ll_freeze.specs.Fits.{Fits, allowed, setting}
use Rattle.ll_engine.specs.declared.attempt.Position.{Position}
use Rattle.ll_engine.specs.Front.{IsFront, IsAsked, IsSameSearch}
use Rattle.ll_engine.proofs.machine.ReadLemmas.{fits_table, reading_same}
use Rattle.ll_engine.proofs.machine.MachineLemmas.{agenda_shown, front_tree, goal_in_front, goal_inside, goal_sorted}
use Rattle.ll_engine.proofs.inferences.Quantifying.{fits_apply, goal_stays, goal_stays_read}
use Rattle.ll_engine.proofs.inferences.Closing.{IsGrown, grown}
use Rattle.ll_engine.proofs.inferences.TakingLemmas.{allowed_shown}
use Rattle.ll_engine.proofs.inferences.WayLemmas.{begins_in}

-- no bound place stands for a sign
place_unfixed : (end count k n : ℕ) → begins_fixed (place (values_before end count) k n) ≡ false
place_unfixed end zero k n = refl
place_unfixed end (suc count) zero n = refl
place_unfixed end (suc count) (suc k) n = place_unfixed (end - 1) count k n

begins_open : (end count : ℕ) (u : Term) → begins_fixed (close (values_before end count) u) ≡ true → begins_fixed u ≡ true
begins_open end count (Var x) h = h
begins_open end count (Int z) h = h
begins_open end count (Con (Name k)) h = refl
begins_open end count (Con (Eigen k)) h = refl
begins_open end count (Con (Bound k)) h = let e : false ≡ true = sym (place_unfixed end count k 0) ∙ h in cc
begins_open end count (Ap f a) h = begins_open end count f h

module _ (m : Parts) (atom : At) (p : Position) (f : Fits m) (h : IsFront m (AtomView atom) p) where
  -- the atom, with the variables of its environment
  abbrev pub tree : Term
  tree = close (values_in p.environment) (term_tree m.bank atom.0)

  sorted : IsFormula (allowed m) GoalSide [] (Atom tree)
  sorted = subst (IsFormula (allowed m) GoalSide []) (front_tree m (AtomView atom) p h) (goal_sorted m h.goal p.environment _ f h.list).1

  fits : FormFits (allowed m) GoalSide [] (Atom tree)
  fits = fits_of_formula (allowed m) GoalSide [] (Atom tree) sorted

  pub within : IsWithin (length m.levels) p.environment
  within = (goal_sorted m h.goal p.environment _ f h.list).0

  pub begins : begins_fixed (term_tree m.bank atom.0) ≡ true
  begins = begins_open p.environment.end p.environment.count (term_tree m.bank atom.0) (begins_in 0 tree fits.0)

  pub heads : applies_heads tree ≡ true
  heads = fits_apply (allowed m) GoalSide [] (Atom tree) fits

  pub vars : HasCells m.bank (table m) tree
  vars =
      let read = subst (λ g. IsFormula (allowed_in (setting m) (state_of m)) GoalSide [] (sub_form (reading m.bank m.bound) g))
      (front_tree m (AtomView atom) p h) (goal_in_front m h.goal p.environment _ f h.list) in
      let here = subst (λ may. IsFormula may GoalSide [] (Atom (sub (reading m.bank m.bound) tree))) (allowed_shown m) read in
      cells-below m.bank (table m) tree (fits_table m f)
      (fit-vars (allowed m) [] (sub (reading m.bank m.bound) tree)
      (fits_of_formula (allowed m) GoalSide [] (Atom (sub (reading m.bank m.bound) tree)) here).1)

  pub front_shown : (state_of m).agenda ≡ GoalOf (Atom (sub (reading m.bank m.bound) tree))
      ∷ map (shown_item m.bank m.bound m.resources.kept) (items_at m.agenda p.rest)
  front_shown =
      agenda_shown m (Goal h.goal p.environment ∷ items_at m.agenda p.rest) h.list
      ∙ ap (λ g. GoalOf (sub_form (reading m.bank m.bound) g) ∷ map (shown_item m.bank m.bound m.resources.kept) (items_at m.agenda p.rest))
      (front_tree m (AtomView atom) p h)

  -- ---- once its arguments have places

  module _ (new : Parts) (w : IsGrown m new) (agenda : new.agenda ≡ m.agenda) (top : new.top ≡ m.top) where
    list : items_of new ≡ Goal h.goal p.environment ∷ items_at m.agenda p.rest
    list = (λ i. items_at (agenda i) (top i)) ∙ h.list

    reads : (x : ℕ) → reading new.bank m.bound x ≡ reading m.bank m.bound x
    reads x = reading_same m.bank new.bank w.bank m.bound f.bound x

    pub args_read : IsSameSearch m new
    args_read =
        let inside = goal_inside m h.goal p.environment _ f h.list in
        grown m new (Goal h.goal p.environment) (Goal h.goal p.environment) (items_at m.agenda p.rest) f h.list w list
        (ap (λ g. GoalOf g) (goal_stays_read m.bank new.bank m.bound m.bound w.bank reads p.environment h.goal inside))
        (HasForm-extends w.bank h.goal.0 inside)
        (goal_stays m.bank new.bank (allowed m) (allowed m) w.bank (grows-refl (allowed m)) 0 (Goal h.goal p.environment) inside
        (goal_sorted m h.goal p.environment _ f h.list))

    module _ (sign : Head) (args : List At) (is : term_tree m.bank atom.0 ≡ app sign (args_in (term_tree m.bank atom.0)))
        (built : AreBuilt new.bank (table m) (values_in p.environment) (args_in (term_tree m.bank atom.0)) args) where
      table_same : table new ≡ table m
      table_same = λ i. record { bound = w.bound i; levels = w.levels i }

      same : sub (reading new.bank m.bound) (app sign (term_trees new.bank args)) ≡ sub (reading new.bank m.bound) tree
      same =
          built-app new.bank (table m) (values_in p.environment) sign (args_in (term_tree m.bank atom.0)) args
          (begins-sign (term_tree m.bank atom.0) sign (args_in (term_tree m.bank atom.0)) is begins) built
          (reading new.bank m.bound) (λ x at e. found-bound new.bank (table m) x at (table-extends m.bank new.bank (table m) (fits_table m f) w.bank) e)
          ∙ ap (λ u. sub (reading new.bank m.bound) (close (values_in p.environment) u)) (sym is)

      pub is_asked : IsAsked new sign args p
      is_asked = record {
        goal = h.goal;
        list = list ∙ ap (λ a. Goal h.goal p.environment ∷ items_at a p.rest) (sym agenda);
        behind = subst (λ a. HasTop a p.rest) (sym agenda) h.behind;
        fixed = begins-sign (term_tree m.bank atom.0) sign (args_in (term_tree m.bank atom.0)) is begins;
        places = subst (λ t. All (λ (a : At). Rattle.ll_unify.specs.Bindings.IsPlaceOf new.bank t a.0) args) (sym table_same)
            (built-places new.bank (table m) (values_in p.environment) (args_in (term_tree m.bank atom.0)) args built);
        reads =
            ap (λ t. sub_form (reading new.bank new.bound) (close_form (values_in p.environment) t))
            (form_tree-extends w.bank h.goal.0 (goal_inside m h.goal p.environment _ f h.list) ∙ h.seen.tree)
            ∙ (ap (λ b. Atom (sub (reading new.bank b) tree)) w.bound
            ∙ (ap Atom (sym same) ∙ ap (λ b. Atom (sub (reading new.bank b) (app sign (term_trees new.bank args)))) (sym w.bound)));
      }
