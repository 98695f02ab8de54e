-- A clause node, judged in its order.
use Rattle.std.proofs.Common.{◌≡◌, ℕ, zero, suc, ◌+◌, ◌-◌, ◌<◌, ◌≤◌, refl, ap, sym, subst, ◌∙◌, arith, Bool, true, false, List, [], ◌∷◌, map, take, reverse}
use Rattle.std.proofs.Common.{length, All, Option, Some, None}
use Rattle.std.specs.Prelude.{◌&&◌, if◌then◌else◌, nat_lt, option_map}
use Rattle.std.specs.List.{list_all}
use Rattle.std.proofs.lemmas.Bool.{and_parts, ltb-true, lt-ltb}
use Rattle.std.proofs.lemmas.List.{take_all}
use Rattle.std.proofs.lemmas.List.Elements.{All-cons, All-head, All-tail, All-push}
use Rattle.ll_bank.specs.declared.At.{At}
use Rattle.ll_bank.specs.declared.FormAt.{FormAt}
use Rattle.ll_bank.specs.declared.FormNode.{FormNode}
use Rattle.ll_bank.specs.declared.FormNode.TheVariants.{Top as TopView, One as OneView, Atom as AtomView, With as WithView, Tensor as TensorView}
use Rattle.ll_bank.specs.declared.FormNode.TheVariants.{Plus as PlusView, Bang as BangView, Lolli as LolliView, Imp as ImpView, Forall as ForallView}
use Rattle.ll_bank.specs.declared.FormNode.TheVariants.{Exists as ExistsView, Use as UseView, Is as IsView, Less as LessView, Most as MostView}
use Rattle.ll_bank.specs.Term.{Term, Env, is_closed}
use Rattle.ll_bank.specs.Form.{Form, Atom, With, Lolli, Imp, Forall, close_form}
use Rattle.ll_bank.specs.Nodes.{Nodes, form_tree, form_of, term_tree, HasForm, IsFormView, Extends}
use Rattle.ll_bank.proofs.CallerLemmas.{Extends-refl}
use Rattle.ll_laws.proofs.CallerLemmas.{under}
use Rattle.ll_laws.specs.Number.{Operators}
use Rattle.ll_laws.specs.Fault.{term_eq, parts_fit, parts_deal, Wrong, Right, judge_leaf, judge_clause}
use Rattle.ll_laws.specs.Leaf.{Premise, Needs, NeedsFree, Leaf, add_premise, premise_goal, ways, leaf, leaf_from}
use Rattle.ll_laws.specs.Line.{PartLine, Line, ClauseLine}
use Rattle.ll_laws.specs.Module.{Setting, ModuleTree}
use Rattle.ll_laws.specs.Shows.{Labelled, pick}
use Rattle.ll_laws.specs.Valid.{Side, GoalSide, ClauseSide, Scope, free_below, has_heads, loads_fit}
use Rattle.ll_sequent.specs.declared.sequents.Resource.{Resource}
use Rattle.ll_sequent.specs.declared.sequents.Sequent.{Sequent}
use Rattle.ll_sequent.specs.declared.sequents.Step.{Step}
use Rattle.ll_sequent.specs.declared.sequents.Step.TheVariants.{Refused, Leaves}
use Rattle.ll_sequent.specs.Constants.{AllInForms}
use Rattle.ll_sequent.specs.Judging.{beside, Holds, IsStep}
use Rattle.ll_sequent.specs.Opened.{found_in, form_trees, IsDealing}
use Rattle.ll_sequent.specs.Sequents.{bounded_in, free_in, sequent_in, IsSound, IsHeld, AreHeld}
use Rattle.ll_sequent.specs.Steps.{Refuses, Asks, blank, premises, made, made_at, made_of, AreLeft}
use Rattle.ll_sequent.proofs.Closings.{Puts, sound-close, closed_free, closed_headed}
use Rattle.ll_sequent.proofs.UnfoldLemmas.{puts_one, puts_nothing}
use Rattle.ll_sequent.proofs.RuleLemmas.{none_added}
use Rattle.ll_sequent.proofs.Waiting.{same_labelled, are_held-extends}

-- ---- the premises of a sound clause are sound

module _ (modules : List ModuleTree) where
  abbrev AreSoundGoals : List Premise → Type 0
  AreSoundGoals ps = All (λ (p : Premise). IsSound modules GoalSide [] (premise_goal p)) ps

  both_parts : (inner : Scope) (side other : Side) (f g h : Form) → free_below (length inner) h ≡ free_below (length inner) f && free_below (length inner) g
      → has_heads true side inner h ≡ has_heads true other inner f && has_heads true side inner g
      → loads_fit modules h ≡ loads_fit modules f && loads_fit modules g → IsSound modules side inner h
      → IsSound modules other inner f × IsSound modules side inner g
  both_parts inner side other f g h a b c s =
      let p = and_parts (free_below (length inner) f) (free_below (length inner) g) (sym a ∙ s.closed) in
      let q = and_parts (has_heads true other inner f) (has_heads true side inner g) (sym b ∙ s.heads) in
      let r = and_parts (loads_fit modules f) (loads_fit modules g) (sym c ∙ s.loads) in
      (record { closed = p.0; heads = q.0; loads = r.0 }, record { closed = p.1; heads = q.1; loads = r.1 })

  past_premise : (p : Premise) (o : Option Leaf) (l : Leaf) → ((i : Leaf) → o ≡ Some i → AreSoundGoals i.premises)
      → IsSound modules GoalSide [] (premise_goal p) → option_map (add_premise p) o ≡ Some l → AreSoundGoals l.premises
  past_premise p o l go s e =
      let u = under p o l e in subst AreSoundGoals (sym u.premises)
      (All-push (λ (p : Premise). IsSound modules GoalSide [] (premise_goal p)) u.inner.premises p (go u.inner u.is) s)

  leaf_sound : (e : Env) (inner : Scope) (r : Form) (k : ℕ) (ts : List Term) (l : Leaf) → Puts e inner [] → IsSound modules ClauseSide inner r
      → list_all is_closed ts ≡ true → leaf_from e r k ts ≡ Some l → AreSoundGoals l.premises
  leaf_sound e inner (Atom a) zero [] l h s c is = let q : [] ≡ l.premises = cc in subst AreSoundGoals q (λ k d n. absurd (omega arith))
  leaf_sound e inner (Atom a) zero (t ∷ ts) l h s c is = cc
  leaf_sound e inner (Atom a) (suc k) [] l h s c is = cc
  leaf_sound e inner (Atom a) (suc k) (t ∷ ts) l h s c is = cc
  leaf_sound e inner (With q r) k ts l h s c is =
      let b = both_parts inner ClauseSide ClauseSide q r (With q r) refl refl refl s in
      by (nat_lt k (length (ways q))) (leaf_sound e inner q k ts l h b.0 c) (leaf_sound e inner r (k - length (ways q)) ts l h b.1 c) is
    where
      by : (b : Bool) → (leaf_from e q k ts ≡ Some l → AreSoundGoals l.premises) → (leaf_from e r (k - length (ways q)) ts ≡ Some l → AreSoundGoals l.premises)
          → (if b then leaf_from e q k ts else leaf_from e r (k - length (ways q)) ts) ≡ Some l → AreSoundGoals l.premises
      by true i j x = i x
      by false i j x = j x
  leaf_sound e inner (Lolli g r) k ts l h s c is =
      let b = both_parts inner ClauseSide GoalSide g r (Lolli g r) refl refl refl s in
      past_premise (Needs (close_form e g)) (leaf_from e r k ts) l (λ i x. leaf_sound e inner r k ts i h b.1 c x) (sound-close h modules GoalSide g b.0) is
  leaf_sound e inner (Imp g r) k ts l h s c is =
      let b = both_parts inner ClauseSide GoalSide g r (Imp g r) refl refl refl s in
      let t = sound-close h modules GoalSide g b.0 in
      past_premise (NeedsFree (close_form e g)) (leaf_from e r k ts) l (λ i x. leaf_sound e inner r k ts i h b.1 c x)
      (record { closed = t.closed; heads = t.heads; loads = t.loads }) is
  leaf_sound e inner (Forall r) k [] l h s c is = cc
  leaf_sound e inner (Forall r) k (t ∷ ts) l h s c is =
      let d = and_parts (is_closed t) (list_all is_closed ts) c in
      leaf_sound (Some t ∷ e) (false ∷ inner) r k ts l (puts_one t e inner [] (closed_free 0 t d.0) (closed_headed [] t d.0) h)
      (record { closed = s.closed; heads = s.heads; loads = s.loads }) d.1 is
  leaf_sound e inner _ k ts l h s c is = cc

  -- at their places
  goals_sound : (bank : Nodes) (goals : List FormAt) (ps : List Premise) → AllInForms bank goals → form_trees bank goals ≡ map premise_goal ps
      → AreSoundGoals ps → All (λ (f : FormAt). IsHeld modules bank GoalSide f.0) goals
  goals_sound bank [] ps i e s = λ k d l. absurd (omega arith)
  goals_sound bank (f ∷ goals) [] i e s = absurd (let z : ⊥ = cc in z)
  goals_sound bank (f ∷ goals) (p ∷ ps) i e s =
      let a : form_tree bank f.0 ≡ premise_goal p = cc in
      let b : form_trees bank goals ≡ map premise_goal ps = cc in
      let P : Form → Type 0 = IsSound modules GoalSide [] in
      All-cons (λ (f : FormAt). IsHeld modules bank GoalSide f.0) f goals
      (record {
        inside = All-head (λ (f : FormAt). HasForm bank f.0) f goals i;
        sound =
            subst P (sym a) (All-head (λ (p : Premise). IsSound modules GoalSide [] (premise_goal p)) p ps s);
      })
      (goals_sound bank goals ps (All-tail (λ (f : FormAt). HasForm bank f.0) f goals i) b
      (All-tail (λ (p : Premise). IsSound modules GoalSide [] (premise_goal p)) p ps s))

-- ---- the node

not_atom : (b : Setting) (bank : Nodes) (c d : List Labelled) (n k : ℕ) (ts : List Term) (ps : List PartLine) (v : FormNode) → ((a : At) → v ≡ AtomView a → ⊥)
    → made b (ClauseLine n k ts ps) c d (form_of bank v) ≡ Refuses 1
not_atom b bank c d n k ts ps (AtomView a) m = absurd (m a refl)
not_atom b bank c d n k ts ps TopView m = refl
not_atom b bank c d n k ts ps OneView m = refl
not_atom b bank c d n k ts ps (WithView f g) m = refl
not_atom b bank c d n k ts ps (TensorView f g) m = refl
not_atom b bank c d n k ts ps (PlusView f g) m = refl
not_atom b bank c d n k ts ps (BangView f) m = refl
not_atom b bank c d n k ts ps (LolliView f g) m = refl
not_atom b bank c d n k ts ps (ImpView f g) m = refl
not_atom b bank c d n k ts ps (ForallView f) m = refl
not_atom b bank c d n k ts ps (ExistsView f) m = refl
not_atom b bank c d n k ts ps (UseView m us f) z = refl
not_atom b bank c d n k ts ps (IsView t u) z = refl
not_atom b bank c d n k ts ps (LessView t u) z = refl
not_atom b bank c d n k ts ps (MostView t u) z = refl

not_below : (a b left : ℕ) → b + left ≡ a → nat_lt a b ≡ false
not_below a b left h = go (nat_lt a b) refl
  where
    go : (c : Bool) → nat_lt a b ≡ c → c ≡ false
    go true e = let l = ltb-true a b e in absurd (omega arith)
    go false e = refl

module _ (ops : Operators) (modules : List ModuleTree) (old : Nodes) (free : List Resource) (s : Sequent) (h : Holds modules old free s) (n k : ℕ)
    (ts : List Term) (lines : List PartLine) where
  abbrev line : Line
  line = ClauseLine n k ts lines

  refused : (new : Nodes) → Extends old new → (r : ℕ) → made_at (beside ops modules) line (sequent_in old free s) ≡ Refuses r
      → IsStep ops modules line (sequent_in old free s) new free free (Refused r)
  refused new keeps r e = record { made = sym e; left = tt; free = are_held-extends keeps modules free h.unbounded; adds = none_added free }

  pub clause_other : (v : FormNode) → IsFormView old s.goal.0 v → ((a : At) → v ≡ AtomView a → ⊥)
      → IsStep ops modules line (sequent_in old free s) old free free (Refused 1)
  clause_other v seen m =
      refused old (Extends-refl old) 1
      (ap (made (beside ops modules) line (free_in old (take s.free free)) (bounded_in old s.bounded.items)) seen.tree
      ∙ not_atom (beside ops modules) old (free_in old (take s.free free)) (bounded_in old s.bounded.items) n k ts lines v m)

  module _ (atom : At) (seen : IsFormView old s.goal.0 (AtomView atom)) (found : Option FormAt) (left : List Resource)
      (picked : found_in old found left ≡ pick n (free_in old free) (bounded_in old s.bounded.items)) where
    judged : made_at (beside ops modules) line (sequent_in old free s)
        ≡ made_of lines (free_in old (take s.free free)) (judge_clause (term_tree old atom.0) k ts (blank lines) (found_in old found left))
    judged =
        let low : length free ≤ s.free = let e = h.all in omega arith in
        ap (made (beside ops modules) line (free_in old (take s.free free)) (bounded_in old s.bounded.items)) seen.tree
        ∙ ap (λ f. made_of lines (free_in old (take s.free free)) (judge_clause (term_tree old atom.0) k ts (blank lines) f))
        (ap (λ fs. pick n (free_in old fs) (bounded_in old s.bounded.items)) (take_all s.free free low) ∙ sym picked)

    wrong : (new : Nodes) → Extends old new → (r : ℕ) → judge_clause (term_tree old atom.0) k ts (blank lines) (found_in old found left) ≡ Wrong r
        → IsStep ops modules line (sequent_in old free s) new free free (Refused r)
    wrong new keeps r e = refused new keeps r (judged ∙ ap (made_of lines (free_in old (take s.free free))) e)

    pub clause_missing : found ≡ None → IsStep ops modules line (sequent_in old free s) old free free (Refused 4)
    clause_missing e = wrong old (Extends-refl old) 4 (ap (λ f. judge_clause (term_tree old atom.0) k ts (blank lines) (found_in old f left)) e)

    module _ (f : FormAt) (is : found ≡ Some f) where
      abbrev r : Form
      r = form_tree old f.0

      abbrev e : List Labelled
      e = bounded_in old left

      took : judge_clause (term_tree old atom.0) k ts (blank lines) (found_in old found left)
          ≡ (if nat_lt k (length (ways r)) then judge_leaf (term_tree old atom.0) (blank lines) e (leaf r k ts) else Wrong 5)
      took = ap (λ g. judge_clause (term_tree old atom.0) k ts (blank lines) (found_in old g left)) is

      pub clause_no_leaf : (new : Nodes) → Extends old new → (past : ℕ) → length (ways r) + past ≡ k
          → IsStep ops modules line (sequent_in old free s) new free free (Refused 5)
      clause_no_leaf new keeps past p =
          wrong new keeps 5 (took ∙ ap (λ b. if b then judge_leaf (term_tree old atom.0) (blank lines) e (leaf r k ts) else Wrong 5)
          (not_below k (length (ways r)) past p))

      module _ (among : k < length (ways r)) where
        by_leaf : judge_clause (term_tree old atom.0) k ts (blank lines) (found_in old found left)
            ≡ judge_leaf (term_tree old atom.0) (blank lines) e (leaf r k ts)
        by_leaf = took ∙ ap (λ b. if b then judge_leaf (term_tree old atom.0) (blank lines) e (leaf r k ts) else Wrong 5) (lt-ltb k (length (ways r)) among)

        pub clause_other_way : (new : Nodes) → Extends old new → leaf r k ts ≡ None → IsStep ops modules line (sequent_in old free s) new free free (Refused 6)
        clause_other_way new keeps n = wrong new keeps 6 (by_leaf ∙ ap (judge_leaf (term_tree old atom.0) (blank lines) e) n)

        module _ (l : Leaf) (leaf_is : leaf r k ts ≡ Some l) where
          opened : judge_clause (term_tree old atom.0) k ts (blank lines) (found_in old found left) ≡ judge_leaf (term_tree old atom.0) (blank lines) e (Some l)
          opened = by_leaf ∙ ap (judge_leaf (term_tree old atom.0) (blank lines) e) leaf_is

          pub clause_other_head : (new : Nodes) → Extends old new → term_eq l.head (term_tree old atom.0) ≡ false
              → IsStep ops modules line (sequent_in old free s) new free free (Refused 7)
          clause_other_head new keeps n =
              wrong new keeps 7
              (opened ∙ ap (λ b. if b then (if parts_fit (blank lines) l.premises then (if parts_deal (blank lines) e then Right l.premises e else Wrong 3) else
              Wrong 8) else Wrong 7) n)

          module _ (head : term_eq l.head (term_tree old atom.0) ≡ true) where
            headed : judge_clause (term_tree old atom.0) k ts (blank lines) (found_in old found left)
                ≡ (if parts_fit (blank lines) l.premises then (if parts_deal (blank lines) e then Right l.premises e else Wrong 3) else Wrong 8)
            headed =
                opened ∙ ap (λ b. if b then (if parts_fit (blank lines) l.premises then (if parts_deal (blank lines) e then Right l.premises e else Wrong 3)
                else Wrong 8) else Wrong 7) head

            pub clause_other_parts : (new : Nodes) → Extends old new → parts_fit (blank lines) l.premises ≡ false
                → IsStep ops modules line (sequent_in old free s) new free free (Refused 8)
            clause_other_parts new keeps n = wrong new keeps 8
                (headed ∙ ap (λ b. if b then (if parts_deal (blank lines) e then Right l.premises e else Wrong 3) else Wrong 8) n)

            module _ (fit : parts_fit (blank lines) l.premises ≡ true) (new : Nodes) (keeps : Extends old new) (held : AreHeld modules old left)
                (sound : IsHeld modules old ClauseSide f.0) (closed : list_all is_closed ts ≡ true)
                (goals : List FormAt) (inside : AllInForms new goals) (trees : form_trees new goals ≡ map premise_goal l.premises) where
              fitting : judge_clause (term_tree old atom.0) k ts (blank lines) (found_in old found left)
                  ≡ (if parts_deal (blank lines) e then Right l.premises e else Wrong 3)
              fitting = headed ∙ ap (λ b. if b then (if parts_deal (blank lines) e then Right l.premises e else Wrong 3) else Wrong 8) fit

              same_left : bounded_in new left ≡ e
              same_left = same_labelled keeps modules left held

              same_free : free_in new (take s.free free) ≡ free_in old (take s.free free)
              same_free =
                  let low : length free ≤ s.free = let e = h.all in omega arith in
                  ap (free_in new) (take_all s.free free low)
                  ∙ (ap reverse (same_labelled keeps modules free h.unbounded) ∙ ap (free_in old) (sym (take_all s.free free low)))

              pub clause_dealt : (step : Step) → IsDealing lines goals s.free left new l.premises step
                  → IsStep ops modules line (sequent_in old free s) new free free step
              clause_dealt (Refused q) d =
                  let P : ℕ → Type 0 = λ m. IsStep ops modules line (sequent_in old free s) new free free (Refused m) in
                  subst P (sym d.0) (wrong new keeps 3 (fitting
                  ∙ ap (λ b. if b then Right l.premises e else Wrong 3) (sym (ap (parts_deal (blank lines)) same_left) ∙ d.1)))
              clause_dealt (Leaves v) d =
                  let P : ℕ → Type 0 = λ m. AreLeft modules new m v.items in
                  let goals_held = goals_sound modules new goals l.premises inside trees
                  (leaf_sound modules [] [] r k ts l (puts_nothing []) sound.sound closed leaf_is) in
                  record {
                    made = ap Asks (d.shows free ∙ (λ i. premises lines (same_free i) (same_left i) l.premises))
                        ∙ sym (judged ∙ ap (made_of lines (free_in old (take s.free free)))
                        (fitting ∙ ap (λ b. if b then Right l.premises e else Wrong 3) (sym (ap (parts_deal (blank lines)) same_left) ∙ d.deal)));
                    left = subst P h.all (d.left modules (are_held-extends keeps modules left held) goals_held);
                    free = are_held-extends keeps modules free h.unbounded;
                    adds = none_added free;
                  }
