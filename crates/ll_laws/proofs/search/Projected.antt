-- What the search does, seen with closed terms for its variables, is an inference of a run.
use Rattle.std.proofs.Common.{◌≡◌, ℕ, zero, suc, refl, ap, sym, subst, ◌∙◌, Bool, true, false, List, [], ◌∷◌, ◌++◌, map, nat_eq, length, ℤ}
use Rattle.std.specs.Prelude.{if◌then◌else◌, Option, Some, None, option_map, slice_get, slice_index}
use Rattle.std.specs.List.{list_any}
use Rattle.std.proofs.lemmas.List.{map-append, length-map}
use Rattle.ll_list_laws.proofs.CallerLemmas.{map_map, map_same, or_false_left as or_off_left, or_false_right as or_off_right}
use Rattle.ll_bank.specs.declared.Head.TheVariants.{Eigen}
use Rattle.ll_bank.specs.Term.{Term, Con, sub, Int}
use Rattle.ll_bank.specs.Form.{Form, Top, One, Atom, With, Tensor, Plus, Bang, Lolli, Imp, Forall, Exists, Use, sub_form, instantiate, Num, Relation, Is, Less}
use Rattle.ll_bank.specs.Form.{Most}
use Rattle.ll_laws.specs.declared.Candidate.{Candidate}
use Rattle.ll_laws.specs.declared.Step.{Step}
use Rattle.ll_laws.specs.declared.Step.TheVariants.{Plain, Left, Right, Clause as ClauseStep}
use Rattle.ll_laws.specs.Leaf.{Premise, Needs, NeedsFree, Leaf, leaf, ways, premise_goal}
use Rattle.ll_laws.specs.Module.{Setting, ModuleTree, unfold_load}
use Rattle.ll_laws.specs.Settle.{Entry, Item, Goal, LolliEnd, ImpEnd, WithMiddle, WithEnd, BangEnd, marks, unlive}
use Rattle.ll_laws.specs.State.{State, sub_item, sub_entry}
use Rattle.ll_laws.specs.Unify.{Solved}
use Rattle.ll_laws.specs.Attempt.{stepped, attempt_goal, take_side, load_module, with_leaf, instantiated, entry_at, picked, vars_from, is_open}
use Rattle.ll_laws.specs.Derive.{IsNew}
use Rattle.ll_laws.specs.Line.{Line, WithLine, LeftLine, RightLine, BangLine, UseLine, ForallLine, ExistsLine, ClauseLine, part_line, NumLine}
use Rattle.ll_laws.specs.Run.{Goes, goes_one, goes_top, goes_tensor, goes_left, goes_right, goes_with, goes_bang, goes_lolli, goes_imp, goes_forall}
use Rattle.ll_laws.specs.Run.{goes_exists, goes_use, goes_atom, taken_by, IsFresh, MayChoose, goes_num}
use Rattle.ll_laws.specs.Dealt.{value, values, On, replayed, atom_leaf, atom_line, line_of}
use Rattle.ll_laws.proofs.unification.SubLaws.{sub_comp, sub_form_comp, IsClosing, sub_instantiate, leaf-sub, ways-sub, sub_premise, sub_leaf}
use Rattle.ll_laws.proofs.completeness.Grounding.{grounded}
use Rattle.ll_laws.specs.Number.{value_of, holds}
use Rattle.ll_laws.proofs.search.Numbers.{value_sub, holds_sub, is_holds}

-- ---- an inference of a run is what the branch's step tells again

-- the step of a node
abbrev pub step_of : Line → Step
step_of LeftLine = Left
step_of RightLine = Right
step_of (ClauseLine label k us ps) = ClauseStep label k
step_of _ = Plain

-- the terms that a node chooses are those of the variables that come next
abbrev pub Chosen : List Term → State → Line → Type 0
Chosen all s (ExistsLine t) = value all (length s.terms) ≡ t
Chosen all s (ClauseLine label k us ps) = (e : Entry Form) → entry_at s.context label ≡ Some e
    → values all (length s.terms) (slice_index (ways e.clause) k) ≡ us
Chosen all s _ = Unit {0}

pub goes_steps : {beside : Setting} {s : State} {rest : List (Item Form)} {g : Form} {n : Line} {u : State} → Goes beside s rest g n u
    → u.steps ≡ s.steps ++ step_of n ∷ []
goes_steps goes_one = refl
goes_steps goes_top = refl
goes_steps goes_tensor = refl
goes_steps goes_left = refl
goes_steps goes_right = refl
goes_steps goes_with = refl
goes_steps goes_bang = refl
goes_steps (goes_lolli f) = refl
goes_steps (goes_imp f) = refl
goes_steps (goes_forall f) = refl
goes_steps (goes_exists t f) = refl
goes_steps (goes_use m f) = refl
goes_steps (goes_num p) = refl
goes_steps (goes_atom e label k us ps a b c d) = refl

pub goes_line : {beside : Setting} {s : State} {rest : List (Item Form)} {g : Form} {n : Line} {u : State} → Goes beside s rest g n u → (all : List Term)
    → Chosen all s n
    → line_of beside all s g rest (step_of n) ≡ On n u
goes_line goes_one all h = refl
goes_line goes_top all h = refl
goes_line goes_tensor all h = refl
goes_line goes_left all h = refl
goes_line goes_right all h = refl
goes_line goes_with all h = refl
goes_line goes_bang all h = refl
goes_line (goes_lolli f) all h = refl
goes_line (goes_imp f) all h = refl
goes_line (goes_forall f) all h = refl
goes_line {s = s} {rest = rest} (goes_exists {f = f} t q) all h =
    ap (λ z. On (ExistsLine z) (record (stepped s (Goal (instantiate f z) ∷ rest) Plain) { terms = s.terms ++ z ∷ [] })) h
goes_line {s = s} {rest = rest} (goes_use {ts = ts} {g = g} m q) all h = ap (λ o. replayed UseLine (load_module s rest ts g o)) q
goes_line (goes_num p) all h = refl
goes_line {s = s} {rest = rest} (goes_atom e label k us ps he ho hc hl) all h =
    ap (atom_line all s rest label k) he ∙ (ap (λ z. atom_leaf s rest label k z (leaf e.clause k z)) (h e he) ∙ ap (atom_leaf s rest label k us) hl)

-- ---- the inferences of the search

-- a goal that is none of an atom, `exists` and `is`
abbrev pub IsPlain : Form → Type 0
IsPlain (Atom a) = ⊥
IsPlain (Exists a) = ⊥
IsPlain (Num Is a b) = ⊥
IsPlain _ = Unit {0}

-- what a run needs of the state beyond what the search looks at
pub record Ready (beside : Setting) (s : State) (f : ℕ → Term) (goal : Form) : Type 0 where
  pub fresh : IsFresh s.label s.context
  pub new : (g : Form) → goal ≡ Forall g → IsNew s.eigens (sub_form f g ∷ map (λ e. e.clause) (map (sub_entry f) s.context))
  pub modules : (k : ℕ) (m : ModuleTree) (ts : List Term) (g : Form) → slice_get beside.modules k ≡ Some m
      → sub_form f (unfold_load m ts g) ≡ unfold_load m (map (sub f) ts) (sub_form f g)

pub marks_sub : (f : ℕ → Term) (es : List (Entry Form)) → marks (map (sub_entry f) es) ≡ marks es
marks_sub f [] = refl
marks_sub f (e ∷ es) = ap (λ xs. e.live ∷ xs) (marks_sub f es)

fresh_sub : (f : ℕ → Term) (n : ℕ) (es : List (Entry Form)) → IsFresh n es → IsFresh n (map (sub_entry f) es)
fresh_sub f n [] h = refl
fresh_sub f n (e ∷ es) h =
    rw (or_off_left (nat_eq n e.label) (list_any (λ d. nat_eq n d.label) es) h)
    (fresh_sub f n es (or_off_right (nat_eq n e.label) (list_any (λ d. nat_eq n d.label) es) h))

pub unlive_sub : (f : ℕ → Term) (es : List (Entry Form)) → map (sub_entry f) (map unlive es) ≡ map unlive (map (sub_entry f) es)
unlive_sub f [] = refl
unlive_sub f (e ∷ es) = ap (λ xs. unlive (sub_entry f e) ∷ xs) (unlive_sub f es)

-- the inference that the search takes, seen through f
pub record Projects (beside : Setting) (all : List Term) (f : ℕ → Term) (s : State) (rest : List (Item Form)) (g : Form) (u : State) : Type 0 where
  pub node : Line
  pub goes : Goes beside (grounded f s) (map (sub_item f) rest) (sub_form f g) node u
  pub chosen : Chosen all (grounded f s) node

keep : (beside : Setting) (all : List Term) (f : ℕ → Term) (s : State) (rest : List (Item Form)) (g : Form) (v u : State) → Some v ≡ Some u
    → Projects beside all f s rest g (grounded f v) → Projects beside all f s rest g (grounded f u)
keep beside all f s rest g v u h p = subst (λ w. Projects beside all f s rest g (grounded f w)) (let e : v ≡ u = cc in e) p

-- a test of numbers that holds
tested : (beside : Setting) (all : List Term) (f : ℕ → Term) (s : State) (rest : List (Item Form)) (r : Relation) (a b : Term) (u : State) (o : Bool)
    → holds beside.operators r a b ≡ o
    → (if o then Some (stepped s rest Plain) else None) ≡ Some u → Projects beside all f s rest (Num r a b) (grounded f u)
tested beside all f s rest r a b u true q h = keep beside all f s rest (Num r a b) _ u h
    (record { node = _; goes = goes_num (holds_sub beside.operators f r a b q); chosen = tt })
tested beside all f s rest r a b u false q h = cc

-- one inference that makes no variable and binds none
pub project : (beside : Setting) (all : List Term) (f : ℕ → Term) → IsClosing f → (s : State) (g : Form) → Ready beside s f g
    → (rest : List (Item Form)) (c : Candidate) (u : State) → attempt_goal beside s g rest c ≡ Some u
    → (IsPlain g) → Projects beside all f s rest g (grounded f u)
project beside all f cl s One rd rest c u h i = keep beside all f s rest One _ u h (record { node = _; goes = goes_one; chosen = tt })
project beside all f cl s Top rd rest c u h i = keep beside all f s rest Top _ u h (record { node = _; goes = goes_top; chosen = tt })
project beside all f cl s (Tensor a b) rd rest c u h i = keep beside all f s rest (Tensor a b) _ u h (record { node = _; goes = goes_tensor; chosen = tt })
project beside all f cl s (Plus a b) rd rest c u h i = step c.leaf h
  where
    step : (k : ℕ) → Some (take_side k s a b rest) ≡ Some u → Projects beside all f s rest (Plus a b) (grounded f u)
    step zero h = keep beside all f s rest (Plus a b) _ u h (record { node = _; goes = goes_left; chosen = tt })
    step (suc k) h = keep beside all f s rest (Plus a b) _ u h (record { node = _; goes = goes_right; chosen = tt })
project beside all f cl s (With a b) rd rest c u h i =
    let to : List Bool
    → State = λ m. record (stepped (grounded f s) (Goal (sub_form f a) ∷ WithMiddle (record { live = m; flag = s.flag }) ∷ Goal (sub_form f b)
    ∷ WithEnd (record { live = m; flag = s.flag }) (record { live = m; flag = s.flag }) ∷ map (sub_item f) rest) Plain) { flag = false } in
    keep beside all f s rest (With a b) _ u h (record {
      node = _;
      goes =
          subst (λ m. Goes beside (grounded f s) (map (sub_item f) rest) (With (sub_form f a) (sub_form f b)) WithLine (to m)) (marks_sub f s.context)
          goes_with;
      chosen = tt;
    })
project beside all f cl s (Bang a) rd rest c u h i =
    let to : List Bool → List (Entry Form) → State = λ m es.
    record (stepped (grounded f s) (Goal (sub_form f a) ∷ BangEnd (record { live = m; flag = s.flag }) ∷ map (sub_item f) rest) Plain) {
      context = es;
      flag = false;
    } in
    keep beside all f s rest (Bang a) _ u h (record {
      node = _;
      goes =
          subst (λ es. Goes beside (grounded f s) (map (sub_item f) rest) (Bang (sub_form f a)) BangLine (to (marks s.context) es))
          (sym (unlive_sub f s.context))
          (subst (λ m. Goes beside (grounded f s) (map (sub_item f) rest) (Bang (sub_form f a)) BangLine (to m (map unlive (map (sub_entry f) s.context))))
          (marks_sub f s.context) goes_bang);
      chosen = tt;
    })
project beside all f cl s (Lolli r a) rd rest c u h i = keep beside all f s rest (Lolli r a) _ u h
    (record { node = _; goes = goes_lolli (fresh_sub f s.label s.context rd.fresh); chosen = tt })
project beside all f cl s (Imp r a) rd rest c u h i = keep beside all f s rest (Imp r a) _ u h
    (record { node = _; goes = goes_imp (fresh_sub f s.label s.context rd.fresh); chosen = tt })
project beside all f cl s (Forall a) rd rest c u h i =
    let to : Form → State = λ g. record (stepped (grounded f s) (Goal g ∷ map (sub_item f) rest) Plain) { eigens = suc s.eigens } in
    keep beside all f s rest (Forall a) _ u h (record {
      node = _;
      goes = subst (λ g. Goes beside (grounded f s) (map (sub_item f) rest) (Forall (sub_form f a)) (ForallLine s.eigens) (to g))
          (sym (sub_instantiate f cl a (Con (Eigen s.eigens)))) (goes_forall (rd.new a refl));
      chosen = tt;
    })
project beside all f cl s (Exists a) rd rest c u h i = absurd i
project beside all f cl s (Use m ts a) rd rest c u h i = step (slice_get beside.modules m) refl h
  where
    step : (o : Option ModuleTree) → slice_get beside.modules m ≡ o → load_module s rest ts a o ≡ Some u
        → Projects beside all f s rest (Use m ts a) (grounded f u)
    step None q h = cc
    step (Some l) q h =
        let to : Form → State = λ g. stepped (grounded f s) (Goal g ∷ map (sub_item f) rest) Plain in
        keep beside all f s rest (Use m ts a) (stepped s (Goal (unfold_load l ts a) ∷ rest) Plain) u h (record {
          node = _;
          goes = subst (λ g. Goes beside (grounded f s) (map (sub_item f) rest) (Use m (map (sub f) ts) (sub_form f a)) UseLine (to g))
              (sym (rd.modules m l ts a q)) (goes_use l q);
          chosen = tt;
        })
project beside all f cl s (Atom a) rd rest c u h i = absurd i
project beside all f cl s (Num Is a b) rd rest c u h i = absurd i
project beside all f cl s (Num Less a b) rd rest c u h i = tested beside all f s rest Less a b u (holds beside.operators Less a b) refl h
project beside all f cl s (Num Most a b) rd rest c u h i = tested beside all f s rest Most a b u (holds beside.operators Most a b) refl h

-- ---- an atom: the substitution before is the one after, behind the answer of `mgu`
entry_sub : (f : ℕ → Term) (es : List (Entry Form)) (n : ℕ) (e : Entry Form) → entry_at es n ≡ Some e → entry_at (map (sub_entry f) es) n ≡ Some (sub_entry f e)
entry_sub f [] n e h = cc
entry_sub f (d ∷ es) n e h = step (nat_eq d.label n) (entry_sub f es n e) h
  where
    step : (b : Bool) → (entry_at es n ≡ Some e → entry_at (map (sub_entry f) es) n ≡ Some (sub_entry f e))
        → (if b then Some d else entry_at es n) ≡ Some e → (if b then Some (sub_entry f d) else entry_at (map (sub_entry f) es) n) ≡ Some (sub_entry f e)
    step true ih h = let q : d ≡ e = cc in ap (λ x. Some (sub_entry f x)) q
    step false ih h = ih h

slice_at : (ns : List ℕ) (k n : ℕ) → slice_get ns k ≡ Some n → slice_index ns k ≡ n
slice_at [] k n h = cc
slice_at (m ∷ ns) zero n h = cc
slice_at (m ∷ ns) (suc k) n h = slice_at ns k n h

module _ (f : ℕ → Term) (v : Solved) where
  abbrev pub back : ℕ → Term
  back x = sub f (v.subst x)

  item_comp : (i : Item Form) → sub_item f (sub_item v.subst i) ≡ sub_item back i
  item_comp (Goal g) = ap Goal (sub_form_comp f v.subst g)
  item_comp (LolliEnd b) = refl
  item_comp ImpEnd = refl
  item_comp (WithMiddle s) = refl
  item_comp (WithEnd s h) = refl
  item_comp (BangEnd s) = refl

  entry_comp : (e : Entry Form) → sub_entry f (sub_entry v.subst e) ≡ sub_entry back e
  entry_comp e = ap (λ c. record e { clause = c }) (sub_form_comp f v.subst e.clause)

  premise_comp : (p : Premise) → sub_item back (Goal (premise_goal p)) ≡ Goal (premise_goal (sub_premise back p))
  premise_comp (Needs g) = refl
  premise_comp (NeedsFree g) = refl

  picked_sub : (n : ℕ) (es : List (Entry Form)) → map (sub_entry back) (picked n es) ≡ picked n (map (sub_entry back) es)
  picked_sub n [] = refl
  picked_sub n (e ∷ es) = step (nat_eq e.label n) (picked_sub n es)
    where
      step : (b : Bool) → map (sub_entry back) (picked n es) ≡ picked n (map (sub_entry back) es)
          → map (sub_entry back) (if b then unlive e ∷ es else e ∷ picked n es)
          ≡ (if b then unlive (sub_entry back e) ∷ map (sub_entry back) es else sub_entry back e ∷ picked n (map (sub_entry back) es))
      step true h = refl
      step false h = ap (λ xs. sub_entry back e ∷ xs) h

  pub same_taken : (s : State) (rest : List (Item Form)) (label k n : ℕ) (l : Leaf)
      → grounded f (instantiated (with_leaf s rest label k n l) v)
      ≡ taken_by (grounded back s) (map (sub_item back) rest) label k (map (sub back) (vars_from (length s.levels) n)) (map (sub_premise back) l.premises)
  same_taken s rest label k n l =
      parts
      (map_map (sub_item f) (sub_item v.subst) (map (λ p. Goal (premise_goal p)) l.premises ++ rest)
      ∙ (map_same _ _ item_comp (map (λ p. Goal (premise_goal p)) l.premises ++ rest)
      ∙ (map-append (sub_item back) (map (λ p. Goal (premise_goal p)) l.premises) rest
      ∙ ap (λ xs. xs ++ map (sub_item back) rest)
      (map_map (sub_item back) (λ p. Goal (premise_goal p)) l.premises
      ∙ (map_same _ _ premise_comp l.premises ∙ sym (map_map (λ p. Goal (premise_goal p)) (sub_premise back) l.premises))))))
      (map_map (sub_entry f) (sub_entry v.subst) (picked label s.context) ∙ (map_same _ _ entry_comp (picked label s.context) ∙ picked_sub label s.context))
      (map_map (sub f) (sub v.subst) (s.terms ++ vars_from (length s.levels) n)
      ∙ (map_same _ _ (sub_comp f v.subst) (s.terms ++ vars_from (length s.levels) n) ∙ map-append (sub back) s.terms (vars_from (length s.levels) n)))
    where
      parts : {a b : List (Item Form)} {c d : List (Entry Form)} {x y : List Term} → a ≡ b → c ≡ d → x ≡ y
          → record (grounded back s) { agenda = a; context = c; terms = x; steps = s.steps ++ ClauseStep label k ∷ [] }
          ≡ record (grounded back s) { agenda = b; context = d; terms = y; steps = s.steps ++ ClauseStep label k ∷ [] }
      parts p q r = cc

  same_gone : (s : State) (rest : List (Item Form)) → grounded f (instantiated (stepped s rest Plain) v)
      ≡ stepped (grounded back s) (map (sub_item back) rest) Plain
  same_gone s rest =
      parts (map_map (sub_item f) (sub_item v.subst) rest ∙ map_same _ _ item_comp rest)
      (map_map (sub_entry f) (sub_entry v.subst) s.context ∙ map_same _ _ entry_comp s.context)
      (map_map (sub f) (sub v.subst) s.terms ∙ map_same _ _ (sub_comp f v.subst) s.terms)
    where
      parts : {a b : List (Item Form)} {c d : List (Entry Form)} {x y : List Term} → a ≡ b → c ≡ d → x ≡ y
          → record (grounded back s) { agenda = a; context = c; terms = x; steps = s.steps ++ Plain ∷ [] }
          ≡ record (grounded back s) { agenda = b; context = d; terms = y; steps = s.steps ++ Plain ∷ [] }
      parts p q r = cc

  -- an `is`, whose left side is unified with the value of its right one
  pub project_value : (beside : Setting) (all : List Term) (s : State) (rest : List (Item Form)) (a b : Term) (z : ℤ) → value_of beside.operators b ≡ Some z
      → sub v.subst a ≡ Int z
      → Projects beside all back s rest (Num Is a b) (grounded f (instantiated (stepped s rest Plain) v))
  project_value beside all s rest a b z h e =
      record {
        node = NumLine;
        goes =
            subst (λ u. Goes beside (grounded back s) (map (sub_item back) rest) (Num Is (sub back a) (sub back b)) NumLine u) (sym (same_gone s rest))
            (goes_num (is_holds beside.operators (sub back a) (sub back b) z (sym (sub_comp f v.subst a) ∙ ap (sub f) e)
            (value_sub beside.operators back b z h)));
        chosen = tt;
      }

  same_ways : (es : List (Entry Form)) (label k n : ℕ) (e d : Entry Form) → entry_at es label ≡ Some e → slice_get (ways e.clause) k ≡ Some n
      → entry_at (map (sub_entry back) es) label ≡ Some d → slice_index (ways d.clause) k ≡ n
  same_ways es label k n e d he hw hd =
      let q : sub_entry back e ≡ d = let w : Some (sub_entry back e) ≡ Some d = sym (entry_sub back es label e he) ∙ hd in cc in
      subst (λ z. slice_index (ways z.clause) k ≡ n) q (ap (λ ws. slice_index ws k) (ways-sub back e.clause) ∙ slice_at (ways e.clause) k n hw)

  -- a leaf taken for an atom
  pub project_atom : (beside : Setting) (all : List Term) → IsClosing back
      → (s : State) (rest : List (Item Form)) (a : Term) (label k n : ℕ) (e : Entry Form) (l : Leaf)
      → entry_at s.context label ≡ Some e → is_open e ≡ true → slice_get (ways e.clause) k ≡ Some n
      → values all (length s.terms) n ≡ map (sub back) (vars_from (length s.levels) n)
      → MayChoose s.eigens (map (sub back) (vars_from (length s.levels) n)) → leaf e.clause k (vars_from (length s.levels) n) ≡ Some l
      → sub v.subst a ≡ sub v.subst l.head
      → Projects beside all back s rest (Atom a) (grounded f (instantiated (with_leaf s rest label k n l) v))
  project_atom beside all cl s rest a label k n e l he ho hw hv hc hl hu =
      let same : sub back l.head ≡ sub back a = sym (sub_comp f v.subst l.head) ∙ (ap (sub f) (sym hu) ∙ sub_comp f v.subst a) in
      let lf = leaf-sub back cl [] e.clause k (vars_from (length s.levels) n) ∙ ap (option_map (sub_leaf back)) hl in
      let line : Line = ClauseLine label k (map (sub back) (vars_from (length s.levels) n)) (map part_line (map (sub_premise back) l.premises)) in
      record {
        node = line;
        goes =
            subst (λ u. Goes beside (grounded back s) (map (sub_item back) rest) (Atom (sub back a)) line u) (sym (same_taken s rest label k n l))
            (goes_atom (sub_entry back e) label k (map (sub back) (vars_from (length s.levels) n)) (map (sub_premise back) l.premises)
            (entry_sub back s.context label e he) ho hc
            (lf ∙ ap (λ h. Some (record { premises = map (sub_premise back) l.premises; head = h })) same));
        chosen = λ d hd. ap (values all (length (map (sub back) s.terms))) (same_ways s.context label k n e d he hw hd)
            ∙ (ap (λ z. values all z n) (length-map s.terms (sub back)) ∙ hv);
      }
