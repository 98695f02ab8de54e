-- What a machine shows after a leaf was taken, part by part.
use Rattle.std.proofs.Common.{◌≡◌, ℕ, zero, suc, ◌+◌, ◌<◌, ◌≤◌, List, [], ◌∷◌, ◌++◌, length, map, All, refl, ap, sym, subst, ◌∙◌, arith, inl, inr, Option}
use Rattle.std.proofs.Common.{Some, Bool, true, false}
use Rattle.std.specs.Prelude.{if◌then◌else◌, nat_eq, option_map, ◌||◌, not}
use Rattle.std.proofs.Math.Bool.{or-true}
use Rattle.std.proofs.lemmas.Bool.{cases_lt}
use Rattle.std.proofs.lemmas.List.Elements.{All-head, All-tail, All-cons}
use Rattle.std.specs.List.{list_all}
use Rattle.std.proofs.lemmas.List.{map-append}
use Rattle.ll_list_laws.proofs.CallerLemmas.{map_same, and_true_left as and_left, and_true_right as and_right}
use Rattle.ll_bank.specs.declared.At.{At}
use Rattle.ll_bank.specs.declared.FormAt.{FormAt}
use Rattle.ll_bank.specs.declared.environment.Environment.{Environment}
use Rattle.ll_bank.specs.Environments.{IsWithin}
use Rattle.ll_bank.specs.Term.{Term, Var, sub}
use Rattle.ll_bank.specs.Form.{Form, sub_form}
use Rattle.ll_bank.specs.Nodes.{Nodes, HasForm, AllInTerms, Extends, term_trees}
use Rattle.ll_bank.proofs.CallerLemmas.{Extends-trans, sub-term_trees}
use Rattle.ll_laws.specs.Leaf.{Premise, Needs, NeedsFree, premise_goal}
use Rattle.ll_laws.specs.Settle.{Saved, Entry, map_entry, unlive}
use Rattle.ll_laws.specs.State.{sub_item, sub_entry}
use Rattle.ll_laws.specs.Attempt.{is_linear, is_open, vars_from, entry_at, picked}
use Rattle.ll_laws.specs.Valid.{Allowed, IsFormula, GoalSide}
use Rattle.ll_laws.specs.Consistent.{is_made}
use Rattle.ll_laws.proofs.CallerLemmas.{sub_premise, sub_same, formula_of_fits, PremisesFit}
use Rattle.ll_freeze.specs.declared.machine.Item.TheVariants.{Goal}
use Rattle.ll_freeze.specs.Reading.{reading, read_term, read_form, goal_tree, read_goal, HasValue}
use Rattle.ll_freeze.specs.Shown.{shown_item, shown_entry}
use Rattle.ll_freeze.specs.Fits.{HasItem, IsGoalIn}
use Rattle.ll_engine.proofs.machine.ReadLemmas.{reading_same}
use Rattle.ll_engine.proofs.machine.ReadLemmas.{reading_past}
use Rattle.ll_freeze.proofs.CallerLemmas.{form_same}
use Rattle.ll_engine.proofs.machine.LaterLemmas.{goal_later, terms_later, entries_later}
use Rattle.ll_engine.proofs.inferences.StepLemmas.{vars_fixed}

-- ---- variables

pub vars_split : (a n count : ℕ) → vars_from a (n + count) ≡ vars_from a n ++ vars_from (a + n) count
vars_split a zero count = (λ i. vars_from ((let e : a ≡ a + 0 = omega arith in e) i) ((let e : 0 + count ≡ count = omega arith in e) i))
vars_split a (suc n) count =
    ap (vars_from a) (let e : suc n + count ≡ suc (n + count) = omega arith in e)
    ∙ ap (λ ts. Var a ∷ ts) (vars_split (suc a) n count ∙ ap (λ b. vars_from (suc a) n ++ vars_from b count) (let e : suc a + n ≡ a + suc n = omega arith in e))

-- every variable stands for a term that is made
pub made_at : (variables eigens : ℕ) (s : ℕ → Term) (a n x : ℕ) → list_all (is_made variables eigens) (map (sub s) (vars_from a n)) ≡ true → a ≤ x → x < a + n
    → is_made variables eigens (s x) ≡ true
made_at variables eigens s a zero x h l u = absurd (omega arith)
made_at variables eigens s a (suc n) x h l u =
    elim (cases_lt a x) [
      | inl lt ↦ made_at variables eigens s (suc a) n x (and_right (is_made variables eigens (s a))
          (list_all (is_made variables eigens) (map (sub s) (vars_from (suc a) n))) h) (omega arith) (omega arith)
      | inr le ↦ subst (λ y. is_made variables eigens (s y) ≡ true) (let e : a ≡ x = omega arith in
          e) (and_left (is_made variables eigens (s a)) (list_all (is_made variables eigens) (map (sub s) (vars_from (suc a) n))) h)
    ]

-- ---- entries

-- the entry with a label has what all have
pub found_has : (P : Entry FormAt → Type 0) (es : List (Entry FormAt)) (label : ℕ) (e : Entry FormAt) → All P es → entry_at es label ≡ Some e → P e
found_has P [] label e h q = cc
found_has P (d ∷ es) label e h q = go (nat_eq d.label label) (found_has P es label e (All-tail P d es h)) q
  where
    go : (b : Bool) → (entry_at es label ≡ Some e → P e) → (if b then Some d else entry_at es label) ≡ Some e → P e
    go true next w = let same : d ≡ e = cc in subst P same (All-head P d es h)
    go false next w = next w

-- and it is found after all were read
pub entry_read : (f : FormAt → Form) (es : List (Entry FormAt)) (label : ℕ)
    → entry_at (map (map_entry f) es) label ≡ option_map (map_entry f) (entry_at es label)
entry_read f [] label = refl
entry_read f (d ∷ es) label = go (nat_eq d.label label) (entry_read f es label)
  where
    go : (b : Bool) → entry_at (map (map_entry f) es) label ≡ option_map (map_entry f) (entry_at es label)
        → (if b then Some (map_entry f d) else entry_at (map (map_entry f) es) label) ≡ option_map (map_entry f) (if b then Some d else entry_at es label)
    go true next = refl
    go false next = next

-- so is the one that is picked
pub picked_read : (f : FormAt → Form) (es : List (Entry FormAt)) (label : ℕ) → picked label (map (map_entry f) es) ≡ map (map_entry f) (picked label es)
picked_read f [] label = refl
picked_read f (d ∷ es) label = go (nat_eq d.label label) (picked_read f es label)
  where
    go : (b : Bool) → picked label (map (map_entry f) es) ≡ map (map_entry f) (picked label es)
        → (if b then unlive (map_entry f d) ∷ map (map_entry f) es else map_entry f d ∷ picked label (map (map_entry f) es))
        ≡ map (map_entry f) (if b then unlive d ∷ es else d ∷ picked label es)
    go true next = refl
    go false next = ap (λ xs. map_entry f d ∷ xs) next

-- picking keeps the clauses
pub picked_all : (Q : FormAt → Type 0) (es : List (Entry FormAt)) (label : ℕ) → All (λ e. Q e.clause) es → All (λ e. Q e.clause) (picked label es)
picked_all Q [] label h = h
picked_all Q (d ∷ es) label h = go (nat_eq d.label label) (picked_all Q es label (All-tail (λ (e : Entry FormAt). Q e.clause) d es h))
  where
    go : (b : Bool) → All (λ (e : Entry FormAt). Q e.clause) (picked label es)
        → All (λ (e : Entry FormAt). Q e.clause) (if b then unlive d ∷ es else d ∷ picked label es)
    go true next = All-cons (λ (e : Entry FormAt). Q e.clause) (unlive d) es (All-head (λ (e : Entry FormAt). Q e.clause) d es h)
        (All-tail (λ (e : Entry FormAt). Q e.clause) d es h)
    go false next = All-cons (λ (e : Entry FormAt). Q e.clause) d (picked label es) (All-head (λ (e : Entry FormAt). Q e.clause) d es h) next

-- an entry that isn't live is as it was after it is picked
pub picked_dead : (es : List (Entry FormAt)) (label : ℕ) (e : Entry FormAt) → entry_at es label ≡ Some e → e.live ≡ false → picked label es ≡ es
picked_dead [] label e q dead = refl
picked_dead (d ∷ es) label e q dead = go (nat_eq d.label label) (λ w. picked_dead es label e w dead) q
  where
    go : (b : Bool) → (entry_at es label ≡ Some e → picked label es ≡ es) → (if b then Some d else entry_at es label) ≡ Some e
        → (if b then unlive d ∷ es else d ∷ picked label es) ≡ d ∷ es
    go true next w =
        let same : d ≡ e = cc in
        let dark : d.live ≡ false = ap (λ (x : Entry FormAt). x.live) same ∙ dead in
        λ i. record { label = d.label; kind = d.kind; live = sym dark i; clause = d.clause } ∷ es
    go false next w = ap (λ xs. d ∷ xs) (next w)

-- an entry that is live may be picked
pub can_pick : (es : List (Entry FormAt)) (label : ℕ) (e : Entry FormAt) → entry_at es label ≡ Some e → e.live ≡ true
    → option_map is_open (entry_at es label) ≡ Some true
can_pick es label e q alive = ap (option_map is_open) q ∙ ap (λ b. Some b) (ap (λ b. not (is_linear e.kind) || b) alive ∙ or-true (not (is_linear e.kind)))

-- ---- what is read later

goal_sub : (s : ℕ → Term) (p : Premise) → premise_goal (sub_premise s p) ≡ sub_form s (premise_goal p)
goal_sub s (Needs g) = refl
goal_sub s (NeedsFree g) = refl

module _ (first mid new : Nodes) (bound after : List (Option At)) (v : ℕ
    → Term) (e1 : Extends first mid) (e2 : Extends mid new) (has : All (HasValue first) bound)
    (reads : (x : ℕ) → reading new after x ≡ sub v (reading mid bound x)) where
  pub reads_first : (x : ℕ) → reading new after x ≡ sub v (reading first bound x)
  reads_first x = reads x ∙ ap (sub v) (reading_same first mid e1 bound has x)

  -- the premises of a leaf
  pub goals_later : (gs : List (FormAt × Environment)) (ps : List Premise) (kept : List Saved) → All (λ g. HasForm mid g.0.0) gs
      → map (λ g. goal_tree mid g.1 g.0) gs ≡ map premise_goal ps
      → map (shown_item new after kept) (map (λ g. Goal g.0 g.1) gs) ≡ map (sub_item v)
      (map (λ p. Rattle.ll_laws.specs.Settle.Goal (premise_goal p)) (map (sub_premise (reading first bound)) ps))
  goals_later [] [] kept h e = refl
  goals_later [] (p ∷ ps) kept h e = cc
  goals_later (g ∷ gs) [] kept h e = cc
  goals_later (g ∷ gs) (p ∷ ps) kept h e =
      let P : FormAt × Environment → Type 0 = λ f. HasForm mid f.0.0 in
      let here : goal_tree mid g.1 g.0 ≡ premise_goal p = cc in
      let there : map (λ (f : FormAt × Environment). goal_tree mid f.1 f.0) gs ≡ map premise_goal ps = cc in
      let one : read_goal new after g.1 g.0 ≡ sub_form v (premise_goal (sub_premise (reading first bound) p)) =
      goal_later mid new bound after v e2 reads g.1 g.0 (All-head P g gs h)
      ∙ ap (sub_form v) (form_same (reading mid bound) (reading first bound) (reading_same first mid e1 bound has) (goal_tree mid g.1 g.0)
      ∙ (ap (sub_form (reading first bound)) here ∙ sym (goal_sub (reading first bound) p)))
      in
      let rest = goals_later gs ps kept (All-tail P g gs h) there in
      λ i. Rattle.ll_laws.specs.Settle.Goal (one i) ∷ rest i

  -- the context
  pub picked_later : (es : List (Entry FormAt)) (label : ℕ) → All (λ e. HasForm first e.clause.0) es
      → map (sub_entry v) (picked label (map (shown_entry first bound) es)) ≡ map (shown_entry new after) (picked label es)
  picked_later es label h =
      ap (map (sub_entry v)) (picked_read (read_form first bound) es label)
      ∙ sym (entries_later first new bound after v (Extends-trans e1 e2) reads_first (picked label es) (picked_all (λ f. HasForm first f.0) es label h))

  -- the variables, with new ones
  pub terms_taken : (ats more : List At) (n count : ℕ) → length bound ≤ n → term_trees first ats ≡ vars_from 0 n → AllInTerms mid more
      → term_trees mid more ≡ vars_from 0 (n + count)
      → map (sub v) (map (read_term first bound) ats ++ vars_from n count) ≡ map (read_term new after) more
  terms_taken ats more n count small old_vars inside new_vars =
      let r = reading first bound in
      let olds : map (sub r) (vars_from 0 n) ≡ map (read_term first bound) ats = ap (map (sub r)) (sym old_vars) ∙ sub-term_trees r first ats in
      let news : map (sub r) (vars_from n count) ≡ vars_from n count = vars_fixed r n count (λ x l. reading_past first bound x (omega arith)) in
      let split : map (sub r) (vars_from 0 (n + count)) ≡ map (read_term first bound) ats ++ vars_from n count =
      ap (map (sub r)) (vars_split 0 n count ∙ ap (λ b. vars_from 0 n ++ vars_from b count) (let e : 0 + n ≡ n = omega arith in e))
      ∙ (map-append (sub r) (vars_from 0 n) (vars_from n count) ∙ (λ i. olds i ++ news i))
      in
      let all : map (read_term mid bound) more ≡ map (sub r) (vars_from 0 (n + count)) =
      sym (sub-term_trees (reading mid bound) mid more) ∙ (map_same (sub (reading mid bound)) (sub r)
      (sub_same (reading mid bound) r (reading_same first mid e1 bound has)) (term_trees mid more) ∙ ap (map (sub r)) new_vars)
      in
      sym (terms_later mid new bound after v e2 reads more inside ∙ ap (map (sub v)) (all ∙ split))

-- ---- goals as they stand

pub goals_sorted : (may : Allowed) (bank : Nodes) (gs : List (FormAt × Environment)) (ps : List Premise) → All (λ g. IsWithin may.variables g.1) gs
    → PremisesFit may ps → map (λ g. goal_tree bank g.1 g.0) gs ≡ map premise_goal ps → All (IsGoalIn may bank) (map (λ g. Goal g.0 g.1) gs)
goals_sorted may bank [] [] w h e = λ k d l. absurd (omega arith)
goals_sorted may bank [] (p ∷ ps) w h e = cc
goals_sorted may bank (g ∷ gs) [] w h e = cc
goals_sorted may bank (g ∷ gs) (p ∷ ps) w h e =
    let P : FormAt × Environment → Type 0 = λ f. IsWithin may.variables f.1 in
    let here : goal_tree bank g.1 g.0 ≡ premise_goal p = cc in
    let there : map (λ (f : FormAt × Environment). goal_tree bank f.1 f.0) gs ≡ map premise_goal ps = cc in
    let one = subst (IsFormula may GoalSide []) (sym here) (formula_of_fits may GoalSide [] (premise_goal p) h.0) in
    All-cons (IsGoalIn may bank) (Goal g.0 g.1) (map (λ f. Goal f.0 f.1) gs) (All-head P g gs w, one)
    (goals_sorted may bank gs ps (All-tail P g gs w) h.1 there)

pub goals_inside : (bank : Nodes) (kept : ℕ) (gs : List (FormAt × Environment)) → All (λ g. HasForm bank g.0.0) gs
    → All (HasItem bank kept) (map (λ g. Goal g.0 g.1) gs)
goals_inside bank kept [] h = λ k d l. absurd (omega arith)
goals_inside bank kept (g ∷ gs) h =
    let P : FormAt × Environment → Type 0 = λ f. HasForm bank f.0.0 in
    All-cons (HasItem bank kept) (Goal g.0 g.1) (map (λ f. Goal f.0 f.1) gs) (All-head P g gs h) (goals_inside bank kept gs (All-tail P g gs h))
