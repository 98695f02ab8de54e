-- What is read of a formula without a fault is a formula of a problem, on its side.
use Rattle.std.proofs.Common.{◌≡◌, ℕ, suc, ◌+◌, ◌≤◌, true, false, List, [], ◌∷◌, ◌++◌, length, slice_get, Option, Some, None, refl, sym, subst, arith}
use Rattle.std.proofs.Common.{length-append}
use Rattle.std.specs.Prelude.{nat_eq, find}
use Rattle.std.proofs.lemmas.Bool.{le-leb, and_from as and_intro}
use Rattle.std.proofs.lemmas.List.{length-map}
use Rattle.ll_bank.specs.Term.{Term}
use Rattle.ll_bank.specs.Form.{Form, Top, One, Atom, With, Tensor, Plus, Bang, Lolli, Imp, Forall, Exists, Use, Num, Relation, Is, Less, Most}
use Rattle.ll_lexer.specs.declared.Place.{Place}
use Rattle.ll_laws.specs.Module.{ModuleTree}
use Rattle.ll_laws.specs.Leaf.{ways}
use Rattle.ll_laws.specs.Valid.{Side, GoalSide, ClauseSide, given, each_term, names_below, arity_up_to, fits_module, leaves_up_to}
use Rattle.ll_laws.specs.Valid as valid
use Rattle.ll_laws.proofs.CallerLemmas.{FormFits}
use Rattle.ll_parser.specs.declared.Op.{Op}
use Rattle.ll_parser.specs.declared.Op.TheVariants as op
use Rattle.ll_parser.specs.Tokens.{Identifier}
use Rattle.ll_parser.specs.Raw.{Raw, truth, erasure, braces, universal, existential, load, binary, is_goal, less_goal, most_goal, head, anything, int}
use Rattle.ll_polarity.specs.Scope.{Scope, binds, meaning}
use Rattle.ll_polarity.specs.Reading.{Met, read_name, read_term, read_terms, joined, module_in, read_number, read_form}
use Rattle.ll_polarity.specs.Faults.{unless, count, may_be_head, term_faults, terms_faults, on_goal_side, left_side, right_side, may_join, Heading, is_named}
use Rattle.ll_polarity.specs.Faults.{load_fault, number_faults, form_faults}
use Rattle.ll_polarity.proofs.reading.Grows.{longer_term, longer_form}
use Rattle.ll_parser.specs.Weights.{weight}
use Rattle.ll_parser.proofs.CallerLemmas.{IsForm}
use Rattle.ll_polarity.proofs.reading.Weight.{length-read_terms}
use Rattle.ll_polarity.proofs.naming.Meanings.{places}
use Rattle.ll_polarity.proofs.reading.Terms.{none_left, none_right, none_unless, Room, IsIn, in_before, IsTerm, AreTerms, IsApplied, applied_term}
use Rattle.ll_polarity.proofs.reading.Terms.{read_is_term, read_are_terms}

-- a formula on a side in a scope
pub record IsGood (room : Room) (side : Side) (scope : valid.Scope) (f : Form) : Type 0 where
  pub fits : FormFits (given room.modules room.variables) side scope f
  pub named : (m : ℕ) → each_term (λ n. names_below room.names) m f ≡ true
  pub leaves : leaves_up_to room.most side f ≡ true
  pub arguments : (m : ℕ) → each_term (λ n. arity_up_to room.most) m f ≡ true

-- ---- its leaves

-- a formula has no more leaves than its raw tree has nodes
pub few_ways : (ms : List (List ℕ)) (scope : Scope) (met : Met) (r : Raw) → length (ways (read_form ms scope met r).it) ≤ weight r
few_ways ms scope met (truth at) = omega arith
few_ways ms scope met (erasure at) = omega arith
few_ways ms scope met (braces at r) = omega arith
few_ways ms scope met (universal at n r) = let i = few_ways ms (binds n.text ∷ scope) met r in
    let e = length-map (ways (read_form ms (binds n.text ∷ scope) met r).it) (λ n. suc n) in omega arith
few_ways ms scope met (existential at n r) = omega arith
few_ways ms scope met (load at m args r) = omega arith
few_ways ms scope met (binary o at l r) = by o (few_ways ms scope met l) (few_ways ms scope (read_form ms scope met l).met r)
  where
    by : (o : Op) → length (ways (read_form ms scope met l).it) ≤ weight l → length (ways (read_form ms scope (read_form ms scope met l).met r).it) ≤ weight r
        → length (ways (joined o (read_form ms scope met l).it (read_form ms scope (read_form ms scope met l).met r).it)) ≤ suc (weight l + weight r)
    by op.ColonDash a b = omega arith
    by op.LeftArrow a b = omega arith
    by op.Lolli a b = omega arith
    by op.RightArrow a b = omega arith
    by op.Plus a b = omega arith
    by op.With a b = omega (arith, length-append (ways (read_form ms scope met l).it) (ways (read_form ms scope (read_form ms scope met l).met r).it))
    by op.Tensor a b = omega arith
few_ways ms scope met (is_goal at l r) = omega arith
few_ways ms scope met (less_goal at l r) = omega arith
few_ways ms scope met (most_goal at l r) = omega arith
few_ways ms scope met (head n args) = omega arith
few_ways ms scope met (anything at) = omega arith
few_ways ms scope met (int at z) = omega arith

-- ---- formulas made of formulas

module _ {room : Room} {scope : valid.Scope} {f g : Form} where
  pub with_goals : IsGood room GoalSide scope f → IsGood room GoalSide scope g → IsGood room GoalSide scope (With f g)
  with_goals a b = record {
    fits = (a.fits, b.fits);
    named = λ m. and_intro _ _ (a.named m) (b.named m);
    leaves = and_intro _ _ a.leaves b.leaves;
    arguments =
        λ m. and_intro _ _ (a.arguments m) (b.arguments m);
  }

  pub with_clauses : length (ways (With f g)) ≤ room.most → IsGood room ClauseSide scope f → IsGood room ClauseSide scope g
      → IsGood room ClauseSide scope (With f g)
  with_clauses few a b = record {
    fits = (a.fits, b.fits);
    named = λ m. and_intro _ _ (a.named m) (b.named m);
    leaves = and_intro _ _ (and_intro _ _ (le-leb (length (ways (With f g))) room.most few) a.leaves) b.leaves;
    arguments = λ m. and_intro _ _ (a.arguments m) (b.arguments m);
  }

  pub tensor_goals : IsGood room GoalSide scope f → IsGood room GoalSide scope g → IsGood room GoalSide scope (Tensor f g)
  tensor_goals a b = record {
    fits = (tt, a.fits, b.fits);
    named = λ m. and_intro _ _ (a.named m) (b.named m);
    leaves = and_intro _ _ a.leaves b.leaves;
    arguments = λ m. and_intro _ _ (a.arguments m) (b.arguments m);
  }

  pub plus_goals : IsGood room GoalSide scope f → IsGood room GoalSide scope g → IsGood room GoalSide scope (Plus f g)
  plus_goals a b = record {
    fits = (tt, a.fits, b.fits);
    named = λ m. and_intro _ _ (a.named m) (b.named m);
    leaves = and_intro _ _ a.leaves b.leaves;
    arguments = λ m. and_intro _ _ (a.arguments m) (b.arguments m);
  }

  pub lolli_goal : IsGood room ClauseSide scope f → IsGood room GoalSide scope g → IsGood room GoalSide scope (Lolli f g)
  lolli_goal a b = record {
    fits = (a.fits, b.fits);
    named = λ m. and_intro _ _ (a.named m) (b.named m);
    leaves = and_intro _ _ a.leaves b.leaves;
    arguments =
        λ m. and_intro _ _ (a.arguments m) (b.arguments m);
  }

  pub lolli_clause : IsGood room GoalSide scope f → IsGood room ClauseSide scope g → IsGood room ClauseSide scope (Lolli f g)
  lolli_clause a b = record {
    fits = (a.fits, b.fits);
    named = λ m. and_intro _ _ (a.named m) (b.named m);
    leaves = and_intro _ _ a.leaves b.leaves;
    arguments =
        λ m. and_intro _ _ (a.arguments m) (b.arguments m);
  }

  pub imp_goal : IsGood room ClauseSide scope f → IsGood room GoalSide scope g → IsGood room GoalSide scope (Imp f g)
  imp_goal a b = record {
    fits = (a.fits, b.fits);
    named = λ m. and_intro _ _ (a.named m) (b.named m);
    leaves = and_intro _ _ a.leaves b.leaves;
    arguments =
        λ m. and_intro _ _ (a.arguments m) (b.arguments m);
  }

  pub imp_clause : IsGood room GoalSide scope f → IsGood room ClauseSide scope g → IsGood room ClauseSide scope (Imp f g)
  imp_clause a b = record {
    fits = (a.fits, b.fits);
    named = λ m. and_intro _ _ (a.named m) (b.named m);
    leaves = and_intro _ _ a.leaves b.leaves;
    arguments =
        λ m. and_intro _ _ (a.arguments m) (b.arguments m);
  }

-- two formulas joined by an operator that may stand on the side
joined_good : (room : Room) (side : Side) (scope : valid.Scope) (o : Op) (f g : Form) → may_join o side ≡ true → length (ways (joined o f g)) ≤ room.most
    → IsGood room (left_side o side) scope f → IsGood room (right_side o side) scope g → IsGood room side scope (joined o f g)
joined_good room GoalSide scope op.ColonDash f g may few a b = lolli_goal b a
joined_good room ClauseSide scope op.ColonDash f g may few a b = lolli_clause b a
joined_good room GoalSide scope op.LeftArrow f g may few a b = imp_goal b a
joined_good room ClauseSide scope op.LeftArrow f g may few a b = imp_clause b a
joined_good room GoalSide scope op.Lolli f g may few a b = lolli_goal a b
joined_good room ClauseSide scope op.Lolli f g may few a b = lolli_clause a b
joined_good room GoalSide scope op.RightArrow f g may few a b = imp_goal a b
joined_good room ClauseSide scope op.RightArrow f g may few a b = imp_clause a b
joined_good room GoalSide scope op.Plus f g may few a b = plus_goals a b
joined_good room ClauseSide scope op.Plus f g may few a b = absurd (cc)
joined_good room GoalSide scope op.With f g may few a b = with_goals a b
joined_good room ClauseSide scope op.With f g may few a b = with_clauses few a b
joined_good room GoalSide scope op.Tensor f g may few a b = tensor_goals a b
joined_good room ClauseSide scope op.Tensor f g may few a b = absurd (cc)

-- ---- formulas of one part

one_good : (room : Room) (side : Side) (scope : valid.Scope) → on_goal_side side ≡ true → IsGood room side scope One
one_good room GoalSide scope h = record { fits = tt; named = λ m. refl; leaves = refl; arguments = λ m. refl }
one_good room ClauseSide scope h = absurd (cc)

top_good : (room : Room) (side : Side) (scope : valid.Scope) → IsGood room side scope Top
top_good room GoalSide scope = record { fits = tt; named = λ m. refl; leaves = refl; arguments = λ m. refl }
top_good room ClauseSide scope = record { fits = tt; named = λ m. refl; leaves = refl; arguments = λ m. refl }

bang_good : (room : Room) (side : Side) (scope : valid.Scope) (f : Form) → on_goal_side side ≡ true → IsGood room side scope f → IsGood room side scope (Bang f)
bang_good room GoalSide scope f h a = record { fits = (tt, a.fits); named = a.named; leaves = a.leaves; arguments = a.arguments }
bang_good room ClauseSide scope f h a = absurd (cc)

pub forall_good : (room : Room) (side : Side) (scope : valid.Scope) (f : Form) → IsGood room side (false ∷ scope) f → IsGood room side scope (Forall f)
forall_good room GoalSide scope f a = record { fits = a.fits; named = λ m. a.named (suc m); leaves = a.leaves; arguments = λ m. a.arguments (suc m) }
forall_good room ClauseSide scope f a = record { fits = a.fits; named = λ m. a.named (suc m); leaves = a.leaves; arguments = λ m. a.arguments (suc m) }

exists_good : (room : Room) (side : Side) (scope : valid.Scope) (f : Form) → on_goal_side side ≡ true → IsGood room side (false ∷ scope) f
    → IsGood room side scope (Exists f)
exists_good room GoalSide scope f h a = record { fits = (tt, a.fits); named = λ m. a.named (suc m); leaves = a.leaves; arguments = λ m. a.arguments (suc m) }
exists_good room ClauseSide scope f h a = absurd (cc)

use_good : (room : Room) (side : Side) (scope : valid.Scope) (k : ℕ) (ts : List Term) (f : Form) → on_goal_side side ≡ true
    → fits_module (slice_get room.modules k) ts ≡ true
    → AreTerms room scope ts → IsGood room side scope f → IsGood room side scope (Use k ts f)
use_good room GoalSide scope k ts f h l hs a = record {
  fits = (tt, l, hs.fit, a.fits);
  named = λ m. and_intro _ _ hs.named (a.named m);
  leaves = a.leaves;
  arguments = λ m. and_intro _ _ hs.arguments (a.arguments m);
}
use_good room ClauseSide scope k ts f h l hs a = absurd (cc)

atom_good : (room : Room) (side : Side) (scope : Scope) (t : Term) → IsApplied room (places scope) t → IsGood room side (places scope) (Atom t)
atom_good room GoalSide scope t a = record { fits = (a.head, a.term.fit); named = λ m. a.term.named; leaves = refl; arguments = λ m. a.term.arguments }
atom_good room ClauseSide scope t a = record { fits = (a.head, a.term.fit); named = λ m. a.term.named; leaves = refl; arguments = λ m. a.term.arguments }

number_good : (room : Room) (side : Side) (scope : Scope) (q : Relation) (t u : Term) → on_goal_side side ≡ true → IsTerm room (places scope) t
    → IsTerm room (places scope) u
    → IsGood room side (places scope) (Num q t u)
number_good room GoalSide scope q t u h a b = record {
  fits = (tt, a.fit, b.fit);
  named = λ m. and_intro _ _ a.named b.named;
  leaves = refl;
  arguments = λ m. and_intro _ _ a.arguments b.arguments;
}
number_good room ClauseSide scope q t u h a b = absurd (cc)

-- ---- loads

-- the first module that has a name stands at the name's place, with as many parameters
abbrev pub Finds : List ModuleTree → List (List ℕ) → List Heading → Type 0
Finds modules ms heads =
    (w : List ℕ) (h : Heading) → find (is_named w) heads ≡ Some h → (m : ModuleTree) × (slice_get modules (module_in ms w) ≡ Some m) × (m.params ≡ h.params)

load_fits : (modules : List ModuleTree) (ms : List (List ℕ)) (heads : List Heading) (n : Identifier) (ts : List Term) (k : ℕ) → Finds modules ms heads
    → length ts ≡ k
    → load_fault (find (is_named n.text) heads) n k ≡ [] → fits_module (slice_get modules (module_in ms n.text)) ts ≡ true
load_fits modules ms heads n ts k finds e h = by (find (is_named n.text) heads) refl h
  where
    by : (o : Option Heading) → find (is_named n.text) heads ≡ o → load_fault o n k ≡ [] → fits_module (slice_get modules (module_in ms n.text)) ts ≡ true
    by None is h = absurd (cc)
    by (Some d) is h =
        let f = finds n.text d is in
        subst (λ o. fits_module o ts ≡ true) (sym f.1)
        (subst (λ z. nat_eq z f.0.params ≡ true) (sym e) (subst (λ z. nat_eq k z ≡ true) (sym f.2) (none_unless (nat_eq k d.params) 11 n.at h)))

-- ---- formulas

module _ (room : Room) (ms : List (List ℕ)) (heads : List Heading) (finds : Finds room.modules ms heads) where
  read_number_is_good : (q : Relation) (side : Side) (scope : Scope) (met : Met) (at : Place) (l r : Raw) → number_faults side scope at l r ≡ []
      → IsIn room (read_number q scope met l r).met
      → weight l + weight r ≤ room.most → IsGood room side (places scope) (read_number q scope met l r).it
  read_number_is_good q side scope met at l r h i le =
      let a = term_faults scope l in let b = unless (on_goal_side side) 7 at in let c = term_faults scope r in
      let t = read_term scope met l in
      let p = none_left (a ++ b) c h in
      number_good room side scope q t.it (read_term scope t.met r).it (none_unless (on_goal_side side) 7 at (none_right a b p))
      (read_is_term room scope met l (none_left a b p) (in_before (longer_term scope t.met r) i) (omega arith))
      (read_is_term room scope t.met r (none_right (a ++ b) c h) i (omega arith))

  pub read_is_good : (side : Side) (scope : Scope) (met : Met) (r : Raw) → IsForm r → form_faults heads side scope r ≡ []
      → IsIn room (read_form ms scope met r).met → weight r ≤ room.most
      → IsGood room side (places scope) (read_form ms scope met r).it
  read_is_good side scope met (truth at) w h i le = one_good room side (places scope) (none_unless (on_goal_side side) 7 at h)
  read_is_good side scope met (erasure at) w h i le = top_good room side (places scope)
  read_is_good side scope met (braces at r) w h i le =
      let u = unless (on_goal_side side) 7 at in let v = form_faults heads side scope r in
      bang_good room side (places scope) _ (none_unless (on_goal_side side) 7 at (none_left u v h))
      (read_is_good side scope met r w (none_right u v h) i (omega arith))
  read_is_good side scope met (universal at n r) w h i le = forall_good room side (places scope) _
      (read_is_good side (binds n.text ∷ scope) met r w h i (omega arith))
  read_is_good side scope met (existential at n r) w h i le =
      let u = unless (on_goal_side side) 7 at in let v = form_faults heads side (binds n.text ∷ scope) r in
      exists_good room side (places scope) _ (none_unless (on_goal_side side) 7 at (none_left u v h))
      (read_is_good side (binds n.text ∷ scope) met r w (none_right u v h) i (omega arith))
  read_is_good side scope met (load at m args r) w h i le =
      let a = load_fault (find (is_named m.text) heads) m (count args) in let b = terms_faults scope args in let c = unless (on_goal_side side) 8 at in
      let d = form_faults heads side scope r in
      let ts = read_terms scope met args in
      let p = none_left (a ++ b ++ c) d h in let q = none_left (a ++ b) c p in
      use_good room side (places scope) (module_in ms m.text) ts.it _ (none_unless (on_goal_side side) 8 at (none_right (a ++ b) c p))
      (load_fits room.modules ms heads m ts.it (count args) finds (length-read_terms scope met args) (none_left a b q))
      (read_are_terms room scope met args (none_right a b q) (in_before (longer_form ms scope ts.met r) i) (omega arith))
      (read_is_good side scope ts.met r w (none_right (a ++ b ++ c) d h) i (omega arith))
  read_is_good side scope met (binary o at l r) w h i le =
      let a = form_faults heads (left_side o side) scope l in let b = unless (may_join o side) 7 at in let c = form_faults heads (right_side o side) scope r in
      let f = read_form ms scope met l in
      let p = none_left (a ++ b) c h in
      joined_good room side (places scope) o f.it (read_form ms scope f.met r).it (none_unless (may_join o side) 7 at (none_right a b p))
      (omega (arith, few_ways ms scope met (binary o at l r)))
      (read_is_good (left_side o side) scope met l w.0 (none_left a b p) (in_before (longer_form ms scope f.met r) i) (omega arith))
      (read_is_good (right_side o side) scope f.met r w.1 (none_right (a ++ b) c h) i (omega arith))
  read_is_good side scope met (head n args) w h i le =
      let b = may_be_head (meaning scope n.text) in let u = unless b 9 n.at in let v = terms_faults scope args in
      atom_good room side scope _
      (applied_term room scope met n args (none_unless b 9 n.at (none_left u v h)) i
      (read_are_terms room scope (read_name (meaning scope n.text) met n.text).met args (none_right u v h) i (omega arith)) le)
  read_is_good side scope met (is_goal at l r) w h i le = read_number_is_good Is side scope met at l r h i (omega arith)
  read_is_good side scope met (less_goal at l r) w h i le = read_number_is_good Less side scope met at l r h i (omega arith)
  read_is_good side scope met (most_goal at l r) w h i le = read_number_is_good Most side scope met at l r h i (omega arith)
  read_is_good side scope met (anything at) w h i le = absurd w
  read_is_good side scope met (int at z) w h i le = absurd w
