-- What is read of formulas of the grammar without a fault: names with as many arguments as they may have.
use Rattle.std.proofs.Common.{◌≡◌, ◌≤◌, ℕ, refl, sym, subst, Bool, true, false, List, [], ◌∷◌, ◌++◌, inl, inr, arith}
use Rattle.std.specs.Prelude.{◌⊎◌, find}
use Rattle.ll_bank.specs.Form.{Form, Forall}
use Rattle.ll_laws.specs.Valid.{Side, GoalSide, ClauseSide}
use Rattle.ll_parser.specs.declared.Op.{Op}
use Rattle.ll_parser.specs.declared.Op.TheVariants as op
use Rattle.ll_parser.specs.Raw.{Raw, truth, erasure, braces, universal, existential, load, binary, is_goal, less_goal, most_goal, head, anything, int, RawList}
use Rattle.ll_parser.specs.Raw.{none, more}
use Rattle.ll_parser.specs.Weights.{weight}
use Rattle.ll_polarity.specs.Scope.{Scope, Meaning, Bound, Local, Free, Constant, binds, meaning}
use Rattle.ll_polarity.specs.Reading.{Met, read_name, read_term, read_terms, joined, read_form}
use Rattle.ll_polarity.specs.Faults.{unless, count, may_be_head, applied_fault, term_faults, terms_faults, on_goal_side, left_side, right_side, may_join}
use Rattle.ll_polarity.specs.Faults.{Heading, is_named}
use Rattle.ll_polarity.specs.Faults.{load_fault, form_faults}
use Rattle.ll_polarity.proofs.CallerLemmas.{More, more_trans, longer_term, longer_form, none_left, none_right, none_unless, length-read_terms, places, Means}
use Rattle.ll_polarity.proofs.CallerLemmas.{means}
use Rattle.ll_top.specs.spelled.Taking.{anyhow, TermTakes, TermsTake, IsLight, FormTakes}
use Rattle.ll_top.specs.spelled.Laws.{name_takes}
use Rattle.ll_top.specs.spelled.Spoken.{IsSpokenExpression, AreSpokenExpressions, IsSpoken}
use Rattle.ll_top.proofs.respelling.Terms.{wider-front}
use Rattle.ll_top.proofs.respelling.Forms.{form-wider}
use Rattle.ll_top.proofs.respelling.Reading.{apply-takes, may-stand, head-takes, read-takes, reads-take}
use Rattle.ll_top.proofs.respelling.Lightness.{light-read}

-- ---- expressions

named-any : (scope : Scope) (m : Meaning) (met : Met) (w : List ℕ) (k : ℕ) → Means scope m → (k ≡ 0) ⊎ (may_be_head m ≡ true)
    → TermTakes anyhow (places scope) k (read_name m met w).it
named-any scope (Bound j) met w k h (inl q) = inl q
named-any scope (Bound j) met w k h (inr q) = cc
named-any scope (Local j) met w k h p = inr h.1
named-any scope Free met w k h (inl q) = q
named-any scope Free met w k h (inr q) = cc
named-any scope Constant met w k h p = tt

mutual
  read-any : (scope : Scope) (met : Met) (r : Raw) → IsSpokenExpression r → term_faults scope r ≡ []
      → TermTakes anyhow (places scope) 0 (read_term scope met r).it
  read-any scope met (head n args) s h =
      apply-takes anyhow (places scope) (read_name (meaning scope n.text) met n.text).it
      (read_terms scope (read_name (meaning scope n.text) met n.text).met args).it
      (subst (λ k. TermTakes anyhow (places scope) k (read_name (meaning scope n.text) met n.text).it)
      (sym (length-read_terms scope (read_name (meaning scope n.text) met n.text).met args))
      (named-any scope (meaning scope n.text) met n.text (count args) (means scope n.text)
      (may-stand [] scope n args (none_left (applied_fault scope n args) (terms_faults scope args) h))))
      (reads-any scope (read_name (meaning scope n.text) met n.text).met args s (none_right (applied_fault scope n args) (terms_faults scope args) h))
  read-any scope met (anything at) s h = refl
  read-any scope met (int at z) s h = (refl, s)
  read-any scope met _ s h = absurd s

  reads-any : (scope : Scope) (met : Met) (rs : RawList) → AreSpokenExpressions rs → terms_faults scope rs ≡ []
      → TermsTake anyhow (places scope) (read_terms scope met rs).it
  reads-any scope met none s h = tt
  reads-any scope met (more r rs) s h = (
    read-any scope met r s.0 (none_left (term_faults scope r) (terms_faults scope rs) h),
    reads-any scope (read_term scope met r).met rs s.1 (none_right (term_faults scope r) (terms_faults scope rs) h),
  )

-- ---- formulas

module _ (names : List (List ℕ)) (most : ℕ) (ms : List (List ℕ)) (heads : List Heading) where
  joined-takes : (sc : List Bool) (o : Op) (side : Side) (f g : Form) → may_join o side ≡ true → IsLight most f → IsLight most g
      → FormTakes (name_takes names) most (left_side o side) sc f → FormTakes (name_takes names) most (right_side o side) sc g
      → FormTakes (name_takes names) most side sc (joined o f g)
  joined-takes sc op.ColonDash GoalSide f g m l r a b = (r, (b, a))
  joined-takes sc op.ColonDash ClauseSide f g m l r a b = (b, a)
  joined-takes sc op.LeftArrow GoalSide f g m l r a b = (r, (b, a))
  joined-takes sc op.LeftArrow ClauseSide f g m l r a b = (b, a)
  joined-takes sc op.Lolli GoalSide f g m l r a b = (l, (a, b))
  joined-takes sc op.Lolli ClauseSide f g m l r a b = (a, b)
  joined-takes sc op.RightArrow GoalSide f g m l r a b = (l, (a, b))
  joined-takes sc op.RightArrow ClauseSide f g m l r a b = (a, b)
  joined-takes sc op.Plus side f g m l r a b = (a, b)
  joined-takes sc op.With side f g m l r a b = (a, b)
  joined-takes sc op.Tensor side f g m l r a b = (a, b)

  quantified-takes : (sc : List Bool) (side : Side) (f : Form) → FormTakes (name_takes names) most side (false ∷ sc) f
      → FormTakes (name_takes names) most side sc (Forall f)
  quantified-takes sc GoalSide f h = form-wider (name_takes names) most (false ∷ sc) (true ∷ sc) GoalSide f (wider-front sc true) h
  quantified-takes sc ClauseSide f h = h

  pub form-takes : (side : Side) (scope : Scope) (met : Met) (r : Raw) → IsSpoken r → form_faults heads side scope r ≡ []
      → More (read_form ms scope met r).met.names names → weight r ≤ most
      → FormTakes (name_takes names) most side (places scope) (read_form ms scope met r).it
  form-takes side scope met (truth at) s h g le = tt
  form-takes side scope met (erasure at) s h g le = tt
  form-takes side scope met (braces at r) s h g le =
      form-takes side scope met r s (none_right (unless (on_goal_side side) 7 at) (form_faults heads side scope r) h) g (omega arith)
  form-takes side scope met (universal at n r) s h g le =
      quantified-takes (places scope) side (read_form ms (binds n.text ∷ scope) met r).it (form-takes side (binds n.text ∷ scope) met r s h g (omega arith))
  form-takes side scope met (existential at n r) s h g le =
      form-takes side (binds n.text ∷ scope) met r s (none_right (unless (on_goal_side side) 7 at) (form_faults heads side (binds n.text ∷ scope) r) h) g
      (omega arith)
  form-takes side scope met (load at m args r) s h g le =
      let a = load_fault (find (is_named m.text) heads) m (count args) in let b = terms_faults scope args in let c = unless (on_goal_side side) 8 at in
      let d = form_faults heads side scope r in
      let ts = read_terms scope met args in (
        reads-take names scope met args s.0 (none_right a b (none_left (a ++ b) c (none_left (a ++ b ++ c) d h)))
            (more_trans (longer_form ms scope ts.met r).names g),
        form-takes side scope ts.met r s.1 (none_right (a ++ b ++ c) d h) g (omega arith),
      )
  form-takes side scope met (binary o at l r) s h g le =
      let a = form_faults heads (left_side o side) scope l in let b = unless (may_join o side) 7 at in let c = form_faults heads (right_side o side) scope r in
      let f = read_form ms scope met l in
      let p = none_left (a ++ b) c h in
      joined-takes (places scope) o side f.it (read_form ms scope f.met r).it (none_unless (may_join o side) 7 at (none_right a b p))
      (light-read most ms scope met l (omega arith)) (light-read most ms scope f.met r (omega arith))
      (form-takes (left_side o side) scope met l s.0 (none_left a b p) (more_trans (longer_form ms scope f.met r).names g) (omega arith))
      (form-takes (right_side o side) scope f.met r s.1 (none_right (a ++ b) c h) g (omega arith))
  form-takes side scope met (is_goal at l r) s h g le =
      let a = term_faults scope l in let b = unless (on_goal_side side) 7 at in let c = term_faults scope r in
      let t = read_term scope met l in (
        read-takes names scope met l s.0 (none_left a b (none_left (a ++ b) c h)) (more_trans (longer_term scope t.met r).names g),
        read-any scope t.met r s.1 (none_right (a ++ b) c h),
      )
  form-takes side scope met (less_goal at l r) s h g le = tt
  form-takes side scope met (most_goal at l r) s h g le = tt
  form-takes side scope met (head n args) s h g le =
      let u = unless (may_be_head (meaning scope n.text)) 9 n.at in let v = terms_faults scope args in
      head-takes names scope met n args s.0 (inr (none_unless (may_be_head (meaning scope n.text)) 9 n.at (none_left u v h))) g
      (reads-take names scope (read_name (meaning scope n.text) met n.text).met args s.1 (none_right u v h) g)
  form-takes side scope met (anything at) s h g le = refl
  form-takes side scope met (int at z) s h g le = absurd s
