-- What the steps of a walker do.
use Rattle.std.proofs.Common.{◌≡◌, ℕ, zero, suc, ◌+◌, ◌-◌, ◌<◌, ◌≤◌, refl, ap, sym, subst, ◌∙◌, arith, List, [], ◌∷◌, ◌++◌, map, length, take, drop, All}
use Rattle.std.proofs.Common.{slice_index_or}
use Rattle.std.specs.Prelude.{Option, Some, None, Result, Ok, Err, IfOk, slice_get, slice_index}
use Rattle.std.proofs.lemmas.List.{map-append, length-map, append-nil as append_none}
use Rattle.std.proofs.lemmas.List.Elements.{All-nil, All-cons, All-append, All-take, All-drop}
use Rattle.ll_list_laws.proofs.CallerLemmas.{length-take_most}
use Rattle.ll_bank.specs.declared.At.{At}
use Rattle.ll_bank.specs.declared.FormAt.{FormAt}
use Rattle.ll_bank.specs.Term.{Term, Var}
use Rattle.ll_bank.specs.Form.{Form, Forall, Exists, Use}
use Rattle.ll_bank.specs.Nodes.{Nodes, no_nodes, HasForm, HasTerm, AllInTerms, form_tree, term_tree, term_trees}
use Rattle.ll_laws.specs.declared.Kind.{Kind}
use Rattle.ll_laws.specs.declared.Kind.TheVariants.{Linear, Unbounded}
use Rattle.ll_laws.specs.declared.Module.{Module}
use Rattle.ll_laws.specs.declared.Rule.{Rule}
use Rattle.ll_laws.specs.declared.Rule.TheVariants.{Exists as ExistsRule, Use as UseRule}
use Rattle.ll_laws.specs.declared.Step.{Step}
use Rattle.ll_laws.specs.declared.Step.TheVariants.{Clause as ClauseStep}
use Rattle.ll_laws.specs.Leaf.{premise_goal, ways}
use Rattle.ll_laws.specs.Line.{Line, LolliLine, ImpLine, ForallLine, ExistsLine, UseLine, ClauseLine, part_line}
use Rattle.ll_laws.specs.Module.{ClauseTree, ModuleTree, load, forall_all}
use Rattle.ll_laws.specs.Shown.{module_tree}
use Rattle.ll_laws.specs.ShownLines.{line_of, HasLine, part_line as shown_part}
use Rattle.ll_laws.specs.Dealt.{values}
use Rattle.ll_trace.specs.declared.leaf.Opened.{Opened}
use Rattle.ll_trace.specs.declared.walk.Goal.{Goal}
use Rattle.ll_trace.specs.declared.walk.Goal.TheVariants.{Plain, Loading as LoadingGoal}
use Rattle.ll_trace.specs.declared.walk.Loading.{Loading}
use Rattle.ll_trace.specs.declared.walk.Walker.{Walker}
use Rattle.ll_trace.specs.Bare.{bare, some_atom, premises_at, bare_load, bare_load_all}
use Rattle.ll_trace.specs.Walk.{Walk, Told, Tells, to_prove, with_clause, tell_load, tell_leaf, tell_clause, tell_goal, tell_front, tell, IsTold}
use Rattle.ll_trace.specs.Goals.{stacked, shown_goal, HasGoal, loading_goal, clauses_of}
use Rattle.ll_trace.specs.Opening.{Opens}
use Rattle.ll_trace.specs.Walker.{trees, bare_clauses, walk_of, IsInside, MayTake, TellsGoal, MayStep, Steps, Pushes, HasLeaf}

-- what holds of a value holds weakened
pub if_ok : {A E : Type 0} (P Q : A → Type 0) → ((x : A) → P x → Q x) → (r : Result A E) → IfOk r P → IfOk r Q
if_ok P Q f (Ok x) h = f x h
if_ok P Q f (Err e) h = tt

pub stacked-append : (forms : Nodes) (ms : List ModuleTree) (gs hs : List Goal) (below : List Form)
    → stacked forms ms (gs ++ hs) below ≡ stacked forms ms hs (stacked forms ms gs below)
stacked-append forms ms [] hs below = refl
stacked-append forms ms (g ∷ gs) hs below = stacked-append forms ms gs hs (shown_goal forms ms g ∷ below)

-- ---- terms

pub trees-take : (bank : Nodes) (n : ℕ) (ats : List At) → take n (term_trees bank ats) ≡ term_trees bank (take n ats)
trees-take bank zero ats = refl
trees-take bank (suc n) [] = refl
trees-take bank (suc n) (a ∷ ats) = ap (λ ts. term_tree bank a.0 ∷ ts) (trees-take bank n ats)

trees-drop : (bank : Nodes) (n : ℕ) (ats : List At) → drop n (term_trees bank ats) ≡ term_trees bank (drop n ats)
trees-drop bank zero ats = refl
trees-drop bank (suc n) [] = refl
trees-drop bank (suc n) (a ∷ ats) = trees-drop bank n ats

pub values-trees : (bank : Nodes) (ats : List At) (used n : ℕ) → values (term_trees bank ats) used n ≡ term_trees bank (take n (drop used ats))
values-trees bank ats used n = ap (take n) (trees-drop bank used ats) ∙ trees-take bank n (drop used ats)

value-tree : (bank : Nodes) (ats : List At) (x : ℕ) (d : Term) (a : At) → slice_get ats x ≡ Some a
    → slice_index_or (term_trees bank ats) x d ≡ term_tree bank a.0
value-tree bank [] x d a h = absurd (cc (h))
value-tree bank (b ∷ ats) zero d a h = let e : b ≡ a = cc in ap (λ (y : At). term_tree bank y.0) e
value-tree bank (b ∷ ats) (suc x) d a h = value-tree bank ats x d a h

got_inside : (ats : List At) (x : ℕ) (a : At) → slice_get ats x ≡ Some a → x < length ats
got_inside [] x a h = absurd (cc (h))
got_inside (b ∷ ats) zero a h = omega arith
got_inside (b ∷ ats) (suc x) a h = let l = got_inside ats x a h in omega (arith, l)

got_all : (P : At → Type 0) (ats : List At) (x : ℕ) (a : At) → slice_get ats x ≡ Some a → All P ats → P a
got_all P [] x a h k = absurd (cc (h))
got_all P (b ∷ ats) zero a h k = let e : b ≡ a = cc in subst P e (k 0 b (omega arith))
got_all P (b ∷ ats) (suc x) a h k = got_all P ats x a h (λ j d l. k (suc j) d (omega (arith, l)))

-- ---- loads

pub forall_less : (n : ℕ) (g : Form) → 0 < n → forall_all n g ≡ Forall (forall_all (n - 1) g)
forall_less zero g h = absurd (omega (arith, h))
forall_less (suc n) g h = ap (λ m. Forall (forall_all m g)) (let e : n ≡ suc n - 1 = omega arith in e)

known_module : (w : Walk) (g : Form) (rest : List Form) (forms : Nodes) (ms : List Module) (k : ℕ) (d : Module)
    → IsTold (tell_load w g rest (slice_get (map (module_tree forms) ms) k)) → d ≡ slice_index_or ms k d
    → (slice_get (map (module_tree forms) ms) k ≡ Some (module_tree forms d)) × (k < length ms)
known_module w g rest forms [] k d h e = absurd h
known_module w g rest forms (m ∷ ms) zero d h e = (ap (λ (x : Module). let o : Option ModuleTree = Some (module_tree forms x) in o) (sym e), omega arith)
known_module w g rest forms (m ∷ ms) (suc k) d h e = let r = known_module w g rest forms ms k d h e in let l = r.1 in (r.0, omega (arith, l))

known_clause : (forms : Nodes) (fs : List FormAt) (label k : ℕ) (d : FormAt) → HasLeaf (slice_get (bare_clauses forms fs) label) k
    → d ≡ slice_index_or fs label d
    → slice_get (bare_clauses forms fs) label ≡ Some (bare (form_tree forms d.0))
known_clause forms [] label k d h e = absurd h
known_clause forms (f ∷ fs) zero k d h e = ap (λ (x : FormAt). let o : Option Form = Some (bare (form_tree forms x.0)) in o) (sym e)
known_clause forms (f ∷ fs) (suc label) k d h e = known_clause forms fs label k d h e

-- the node of a clause loaded
abbrev pub load_line : Kind → ℕ → Line
load_line Linear label = LolliLine label
load_line Unbounded label = ImpLine label

drop-got : {A : Type 0} (xs : List A) (k : ℕ) (x : A) → slice_get xs k ≡ Some x → drop k xs ≡ x ∷ drop (k + 1) xs
drop-got [] k x h = absurd (cc (h))
drop-got (y ∷ xs) zero x h = let e : y ≡ x = cc in ap (λ z. z ∷ xs) e
drop-got (y ∷ xs) (suc k) x h = drop-got xs k x h ∙ ap (λ n. x ∷ drop n (y ∷ xs)) (let e : suc (k + 1) ≡ suc k + 1 = omega arith in e)

drop-end : {A : Type 0} (xs : List A) (k : ℕ) → slice_get xs k ≡ None → drop k xs ≡ []
drop-end [] zero h = refl
drop-end [] (suc k) h = refl
drop-end (y ∷ xs) zero h = absurd (cc (h))
drop-end (y ∷ xs) (suc k) h = drop-end xs k h

pub take_whole : {A : Type 0} (n : ℕ) (xs : List A) → length xs ≤ n → take n xs ≡ xs
take_whole zero [] h = refl
take_whole zero (x ∷ xs) h = absurd (omega (arith, h))
take_whole (suc n) [] h = refl
take_whole (suc n) (x ∷ xs) h = ap (λ ys. x ∷ ys) (take_whole n xs (omega (arith, h)))

drop_few : {A : Type 0} (n : ℕ) (xs : List A) → n ≤ length xs → length (drop n xs) + n ≡ length xs
drop_few zero xs h = omega arith
drop_few (suc n) [] h = absurd (omega (arith, h))
drop_few (suc n) (x ∷ xs) h = let l = drop_few n xs (omega (arith, h)) in omega (arith, l)

-- ---- a goal taken off

module _ (forms : Nodes) (modules : List Module) (terms : List At) (old : Walker) (c : Step) (i : IsInside forms (length modules) old)
    (u : old.used ≤ length terms) where
  abbrev ms : List ModuleTree
  ms = trees forms modules

  abbrev here : Walk
  here = walk_of forms ms old

  abbrev below : List Form
  below = stacked forms ms old.goals.items []

  -- what the step tells of a goal
  abbrev tells : List Term → Form → Told
  tells all g = tell_goal (trees forms modules) all here g below c

  -- from the formula's sign to the formula
  pub takes_tree : (form : ℕ) (t : Form) (rule : Rule) (new : Walker) → form_tree forms form ≡ t → TellsGoal forms modules terms old (bare t) c rule new
      → TellsGoal forms modules terms old (bare (form_tree forms form)) c rule new
  takes_tree form t rule new e h = subst (λ (x : Form). TellsGoal forms modules terms old (bare x) c rule new) (sym e) h

  more_goals : (new : List Goal) (goals : List Goal) → new ≡ old.goals.items ++ goals → All (HasGoal forms (length modules)) goals
      → All (HasGoal forms (length modules)) new
  more_goals new goals e h = subst (All (HasGoal forms (length modules))) (sym e) (All-append (HasGoal forms (length modules)) old.goals.items goals i.goals h)

  -- nothing but goals is new
  pub takes_goals : (g : Form) (rule : Rule) (n : Line) (goals : List Goal) (new : Walker) → new.goals.items ≡ old.goals.items ++ goals
      → new.clauses.items ≡ old.clauses.items → new.eigens ≡ old.eigens → new.used ≡ old.used
      → All (HasGoal forms (length modules)) goals → ((bank : Nodes) → line_of bank rule ≡ n)
      → ((all : List Term) → tells all g ≡ Tells n (to_prove here (stacked forms ms goals below)))
      → ((bank : Nodes) → AllInTerms bank terms → HasLine bank rule) → TellsGoal forms modules terms old g c rule new
  takes_goals g rule n goals new e1 e2 e3 e4 a l t p =
      let walk : to_prove here (stacked forms ms goals below) ≡ walk_of forms ms new =
      (λ j. record {
        goals = (sym (ap (λ gs. stacked forms ms gs []) e1 ∙ stacked-append forms ms old.goals.items goals [])) j;
        clauses = bare_clauses forms (sym e2 j);
        eigens = sym e3 j;
        used = sym e4 j;
      }) in
      record {
        told = λ bank. t (term_trees bank terms) ∙ (λ j. Tells (sym (l bank) j) (walk j));
        inside = record { goals = more_goals new.goals.items goals e1 a; clauses = subst (All (λ (f : FormAt). HasForm forms f.0)) (sym e2) i.clauses };
        used = omega (arith, e4, u);
        places = p;
      }

  -- one clause more
  pub takes_load : (g : Form) (goal : Goal) (clause : FormAt) (rule : Rule) (n : Line) (new : Walker) → Pushes old goal (clause ∷ []) 0 0 new
      → HasGoal forms (length modules) goal → HasForm forms clause.0
      → ((bank : Nodes) → line_of bank rule ≡ n) → ((all : List Term)
      → tells all g ≡ Tells n (with_clause here (bare (form_tree forms clause.0)) (shown_goal forms ms goal ∷ below)))
      → ((bank : Nodes) → AllInTerms bank terms → HasLine bank rule) → TellsGoal forms modules terms old g c rule new
  takes_load g goal clause rule n new s hg hf l t p =
      let e3 = s.eigens in
      let e4 = s.used in
      let eigens : old.eigens ≡ new.eigens = omega (arith, e3) in
      let used : old.used ≡ new.used = omega (arith, e4) in
      let walk : with_clause here (bare (form_tree forms clause.0)) (shown_goal forms ms goal ∷ below) ≡ walk_of forms ms new =
      (λ j. record {
        goals = (sym (ap (λ gs. stacked forms ms gs []) s.goals ∙ stacked-append forms ms old.goals.items (goal ∷ []) [])) j;
        clauses = (sym (ap (bare_clauses forms) s.clauses ∙ map-append (λ (f : FormAt). bare (form_tree forms f.0)) old.clauses.items (clause ∷ []))) j;
        eigens = eigens j;
        used = used j;
      }) in
      record {
        told = λ bank. t (term_trees bank terms) ∙ (λ j. Tells (sym (l bank) j) (walk j));
        inside = record {
          goals = more_goals new.goals.items (goal ∷ []) s.goals
              (All-cons (HasGoal forms (length modules)) goal [] hg (All-nil (HasGoal forms (length modules))));
          clauses = subst (All (λ (f : FormAt). HasForm forms f.0)) (sym s.clauses)
              (All-append (λ (f : FormAt). HasForm forms f.0) old.clauses.items (clause ∷ []) i.clauses
              (All-cons (λ (f : FormAt). HasForm forms f.0) clause [] hf (All-nil (λ (f : FormAt). HasForm forms f.0))));
        };
        used = omega (arith, e4, u);
        places = p;
      }

  loads_so : (k : Kind) (all : List Term) (r g : Form) → tells all (load k r g) ≡ Tells (load_line k (length here.clauses)) (with_clause here r (g ∷ below))
  loads_so Linear all r g = refl
  loads_so Unbounded all r g = refl

  -- the label is the next one
  pub label_is : (label : ℕ) → label ≡ length old.clauses.items → label ≡ length here.clauses
  label_is label h = h ∙ sym (length-map old.clauses.items (λ (f : FormAt). bare (form_tree forms f.0)))

  -- one eigenvariable more
  pub takes_open : (g : Form) (goal : Goal) (rule : Rule) (new : Walker) → Pushes old goal [] 1 0 new → HasGoal forms (length modules) goal
      → ((bank : Nodes) → line_of bank rule ≡ ForallLine old.eigens)
      → ((all : List Term) → tells all g ≡ Tells (ForallLine old.eigens) (record here { goals = shown_goal forms ms goal ∷ below; eigens = suc old.eigens }))
      → ((bank : Nodes) → AllInTerms bank terms → HasLine bank rule) → TellsGoal forms modules terms old g c rule new
  takes_open g goal rule new s hg l t p =
      let e3 = s.eigens in
      let e4 = s.used in
      let eigens : suc old.eigens ≡ new.eigens = omega (arith, e3) in
      let used : old.used ≡ new.used = omega (arith, e4) in
      let clauses : new.clauses.items ≡ old.clauses.items = s.clauses ∙ append_none old.clauses.items in
      let walk : record here { goals = shown_goal forms ms goal ∷ below; eigens = suc old.eigens } ≡ walk_of forms ms new =
      (λ j. record {
        goals = (sym (ap (λ gs. stacked forms ms gs []) s.goals ∙ stacked-append forms ms old.goals.items (goal ∷ []) [])) j;
        clauses = bare_clauses forms (sym clauses j);
        eigens = eigens j;
        used = used j;
      }) in
      record {
        told = λ bank. t (term_trees bank terms) ∙ (λ j. Tells (sym (l bank) j) (walk j));
        inside = record {
          goals = more_goals new.goals.items (goal ∷ []) s.goals
              (All-cons (HasGoal forms (length modules)) goal [] hg (All-nil (HasGoal forms (length modules))));
          clauses = subst (All (λ (f : FormAt). HasForm forms f.0)) (sym clauses) i.clauses;
        };
        used = omega (arith, e4, u);
        places = p;
      }

  -- one term more is used
  pub takes_fill : (f : Form) (body : FormAt) (term : At) (new : Walker) → Pushes old (Plain body) [] 0 1 new → HasForm forms body.0
      → slice_get terms old.used ≡ Some term → f ≡ bare (form_tree forms body.0)
      → TellsGoal forms modules terms old (Exists f) c (ExistsRule term) new
  takes_fill f body term new s hb got same =
      let e3 = s.eigens in
      let e4 = s.used in
      let eigens : old.eigens ≡ new.eigens = omega (arith, e3) in
      let used : suc old.used ≡ new.used = omega (arith, e4) in
      let l = got_inside terms old.used term got in
      let clauses : new.clauses.items ≡ old.clauses.items = s.clauses ∙ append_none old.clauses.items in
      let walk : record here { goals = f ∷ below; used = suc old.used } ≡ walk_of forms ms new =
      (λ j. record {
        goals = (ap (λ x. x ∷ below) same ∙ sym (ap (λ gs. stacked forms ms gs []) s.goals ∙ stacked-append forms ms old.goals.items (Plain body ∷ []) [])) j;
        clauses = bare_clauses forms (sym clauses j);
        eigens = eigens j;
        used = used j;
      }) in
      record {
        told = λ bank. λ j. Tells (ExistsLine (value-tree bank terms old.used (Var old.used) term got j)) (walk j);
        inside = record {
          goals = more_goals new.goals.items (Plain body ∷ []) s.goals
              (All-cons (HasGoal forms (length modules)) (Plain body) [] hb (All-nil (HasGoal forms (length modules))));
          clauses = subst (All (λ (x : FormAt). HasForm forms x.0)) (sym clauses) i.clauses;
        };
        used = omega (arith, e4, l);
        places = λ bank h. got_all (λ (a : At). a.0 < length bank.terms) terms old.used term got h;
      }

  -- a load is in front
  pub takes_use : (module' : ℕ) (d : Module) (g : FormAt) (ts : List Term) (new : Walker)
      → IsTold (tells (term_trees no_nodes terms) (Use module' ts (bare (form_tree forms g.0)))) → d ≡ slice_index_or modules module' d → HasForm forms g.0
      → new.goals.items ≡ old.goals.items ++ LoadingGoal (record { locals = d.locals; «module» = module'; next = 0; goal = g }) ∷ []
      → new.clauses.items ≡ old.clauses.items → new.eigens ≡ old.eigens → new.used ≡ old.used
      → TellsGoal forms modules terms old (Use module' ts (bare (form_tree forms g.0))) c UseRule new
  takes_use module' d g ts new told is hg e1 e2 e3 e4 =
      let k = known_module here (bare (form_tree forms g.0)) below forms modules module' d told is in
      let goal : Loading = record { locals = d.locals; «module» = module'; next = 0; goal = g } in
      let shown : shown_goal forms ms (LoadingGoal goal) ≡ bare_load (module_tree forms d) (bare (form_tree forms g.0)) =
      ap (λ o. forall_all d.locals (bare_load_all (drop 0 (clauses_of o)) (bare (form_tree forms g.0)))) k.0 in
      takes_goals (Use module' ts (bare (form_tree forms g.0))) UseRule UseLine (LoadingGoal goal ∷ []) new e1 e2 e3 e4
      (All-cons (HasGoal forms (length modules)) (LoadingGoal goal) [] (hg, k.1) (All-nil (HasGoal forms (length modules)))) (λ bank. refl)
      (λ all. ap (λ o. tell_load here (bare (form_tree forms g.0)) below o) k.0 ∙ ap (λ x. Tells UseLine (to_prove here (x ∷ below))) (sym shown))
      (λ bank h. tt)

  -- a leaf of a clause is taken
  pub takes_leaf : (label k : ℕ) (d : FormAt) (opened : Opened) (new : Walker) (rule : Rule) (taken : List At) → c ≡ ClauseStep label k
      → HasLeaf (slice_get here.clauses label) k → d ≡ slice_index_or old.clauses.items label d
      → Opens forms d.0 k old.goals.items new.goals.items opened → new.clauses.items ≡ old.clauses.items → new.eigens ≡ old.eigens
      → new.used ≡ old.used + length taken
      → taken ≡ take opened.quantifiers (drop old.used terms)
      → ((bank : Nodes) → line_of bank rule ≡ ClauseLine label k (term_trees bank taken) (map shown_part opened.parts.items))
      → ((bank : Nodes) → HasLine bank rule ≡ AllInTerms bank taken) → TellsGoal forms modules terms old some_atom c rule new
  takes_leaf label k d opened new rule taken step leaf is o e2 e3 e4 t l p =
      let r = bare (form_tree forms d.0) in
      let n = slice_index (ways r) k in
      let us : (bank : Nodes) → values (term_trees bank terms) old.used n ≡ term_trees bank taken = λ bank.
      values-trees bank terms old.used n ∙ ap (term_trees bank) (ap (λ m. take m (drop old.used terms)) (sym o.quantifiers) ∙ sym t) in
      let many : (bank : Nodes) → length (term_trees bank taken) ≡ length taken = λ bank. length-map taken (λ (a : At). term_tree bank a.0) in
      let walk : (bank : Nodes) → record here { goals = map premise_goal o.premises ++ below; used = old.used + length (term_trees bank taken) }
      ≡ walk_of forms ms new = λ bank.
      (λ j. record {
        goals = (sym (ap (λ gs. stacked forms ms gs []) o.pushed ∙ (stacked-append forms ms old.goals.items o.goals [] ∙ o.goals_are.trees ms below))) j;
        clauses = bare_clauses forms (sym e2 j);
        eigens = sym e3 j;
        used = (ap (λ m. old.used + m) (many bank) ∙ sym e4) j;
      }) in
      let line : (bank : Nodes) → ClauseLine label k (term_trees bank taken) (map part_line o.premises) ≡ line_of bank rule =
      λ bank. ap (ClauseLine label k (term_trees bank taken)) (sym o.parts) ∙ sym (l bank) in
      let few = length-take_most opened.quantifiers (drop old.used terms) in
      let more = drop_few old.used terms u in
      let count = ap (λ (ats : List At). length ats) t in
      record {
        told = λ bank.
            ap (λ x. tell_goal (trees forms modules) (term_trees bank terms) here some_atom below x) step
            ∙ (ap (λ x. tell_clause (term_trees bank terms) here below label k x) (known_clause forms old.clauses.items label k d leaf is)
            ∙ (ap (λ x. tell_leaf here below label k x (premises_at r k)) (us bank)
            ∙ (ap (λ x. tell_leaf here below label k (term_trees bank taken) x) o.are
            ∙ (λ j. Tells (line bank j) (walk bank j)))));
        inside = record {
          goals = more_goals new.goals.items o.goals o.pushed (o.goals_are.inside (length modules));
          clauses =
              subst (All (λ (x : FormAt). HasForm forms x.0)) (sym e2) i.clauses;
        };
        used = omega (arith, few, more, count, e4, u);
        places = λ bank h. subst (λ (P : Type 0). P) (sym (p bank))
            (subst (λ (ats : List At). AllInTerms bank ats) (sym t)
            (All-take (λ (a : At). HasTerm bank a.0) opened.quantifiers (drop old.used terms) (All-drop (λ (a : At). HasTerm bank a.0) old.used terms h)));
      }

  -- what is left of a load opens a local
  pub takes_local : (loading rest : Loading) (rule : Rule) (new : Walker) → 0 < loading.locals → rest ≡ record loading { locals = loading.locals - 1 }
      → HasForm forms loading.goal.0 → loading.«module» < length modules
      → Pushes old (LoadingGoal rest) [] 1 0 new → ((bank : Nodes) → line_of bank rule ≡ ForallLine old.eigens)
      → ((bank : Nodes) → AllInTerms bank terms → HasLine bank rule)
      → TellsGoal forms modules terms old (loading_goal forms ms loading) c rule new
  takes_local loading rest rule new pos e hg hm s l p =
      let inner = bare_load_all (drop loading.next (clauses_of (slice_get ms loading.«module»))) (bare (form_tree forms loading.goal.0)) in
      let left : Loading = record loading { locals = loading.locals - 1 } in
      subst (λ (g : Form). TellsGoal forms modules terms old g c rule new) (sym (forall_less loading.locals inner pos))
      (takes_open (Forall (forall_all (loading.locals - 1) inner)) (LoadingGoal left) rule new
      (subst (λ (x : Loading). Pushes old (LoadingGoal x) [] 1 0 new) e s) (hg, hm) l (λ all. refl) p)

  -- or loads a clause
  pub takes_clause : (loading rest : Loading) (d : ClauseTree) (clause : FormAt) (rule : Rule) (label : ℕ) (new : Walker) → loading.locals ≡ 0
      → rest ≡ record loading { next = loading.next + 1 } → HasForm forms loading.goal.0
      → loading.«module» < length modules → d.form ≡ form_tree forms clause.0 → HasForm forms clause.0
      → slice_get (clauses_of (slice_get ms loading.«module»)) loading.next ≡ Some d → Pushes old (LoadingGoal rest) (clause ∷ []) 0 0 new
      → label ≡ length old.clauses.items → ((bank : Nodes) → line_of bank rule ≡ load_line d.kind label)
      → ((bank : Nodes) → AllInTerms bank terms → HasLine bank rule) → TellsGoal forms modules terms old (loading_goal forms ms loading) c rule new
  takes_clause loading rest d clause rule label new none e hg hm same hf at s lab l p =
      let cs = clauses_of (slice_get ms loading.«module») in
      let g = bare (form_tree forms loading.goal.0) in
      let left : Loading = record loading { next = loading.next + 1 } in
      let inner = bare_load_all (drop (loading.next + 1) cs) g in
      let shown : shown_goal forms ms (LoadingGoal left) ≡ inner = ap (λ n. forall_all n inner) none in
      let front : loading_goal forms ms loading ≡ load d.kind (bare (form_tree forms clause.0)) (shown_goal forms ms (LoadingGoal left)) =
      ap (λ n. forall_all n (bare_load_all (drop loading.next cs) g)) none
      ∙ (ap (λ xs. bare_load_all xs g) (drop-got cs loading.next d at) ∙ (λ j. load d.kind (bare (same j)) (sym shown j))) in
      subst (λ (x : Form). TellsGoal forms modules terms old x c rule new) (sym front)
      (takes_load (load d.kind (bare (form_tree forms clause.0)) (shown_goal forms ms (LoadingGoal left))) (LoadingGoal left) clause rule
      (load_line d.kind (length here.clauses)) new
      (subst (λ (x : Loading). Pushes old (LoadingGoal x) (clause ∷ []) 0 0 new) e s) (hg, hm) hf (λ bank. l bank ∙ ap (load_line d.kind) (label_is label lab))
      (λ all. loads_so d.kind all (bare (form_tree forms clause.0)) (shown_goal forms ms (LoadingGoal left))) p)

  -- or is its goal
  pub load_over : (loading : Loading) → loading.locals ≡ 0 → slice_get (clauses_of (slice_get ms loading.«module»)) loading.next ≡ None
      → loading_goal forms ms loading ≡ bare (form_tree forms loading.goal.0)
  load_over loading none end =
      let cs = clauses_of (slice_get ms loading.«module») in
      ap (λ n. forall_all n (bare_load_all (drop loading.next cs) (bare (form_tree forms loading.goal.0)))) none
      ∙ ap (λ xs. bare_load_all xs (bare (form_tree forms loading.goal.0))) (drop-end cs loading.next end)

-- ---- the goal in front

-- the walker with the goal in front taken off
pub front_is : (forms : Nodes) (modules : List Module) (terms : List Term) (old popped : Walker) (g : Goal) (c : Step)
    → old.goals.items ≡ popped.goals.items ++ g ∷ [] → popped.clauses.items ≡ old.clauses.items → popped.eigens ≡ old.eigens
    → popped.used ≡ old.used → tell (trees forms modules) terms (walk_of forms (trees forms modules) old) c
    ≡ tell_goal (trees forms modules) terms (walk_of forms (trees forms modules) popped) (shown_goal forms (trees forms modules) g)
    (stacked forms (trees forms modules) popped.goals.items []) c
front_is forms modules terms old popped g c e e2 e3 e4 =
    let ms = trees forms modules in
    let s : stacked forms ms old.goals.items [] ≡ shown_goal forms ms g ∷ stacked forms ms popped.goals.items [] =
    ap (λ gs. stacked forms ms gs []) e ∙ stacked-append forms ms popped.goals.items (g ∷ []) [] in
    let w : to_prove (walk_of forms ms old) (stacked forms ms popped.goals.items []) ≡ walk_of forms ms popped =
    (λ j. record { goals = stacked forms ms popped.goals.items []; clauses = bare_clauses forms (sym e2 j); eigens = sym e3 j; used = sym e4 j }) in
    ap (λ gs. tell_front (trees forms modules) terms (walk_of forms ms old) gs c) s
    ∙ ap (λ v. tell_goal (trees forms modules) terms v (shown_goal forms ms g) (stacked forms ms popped.goals.items []) c) w

pub steps_of : (forms : Nodes) (modules : List Module) (terms : List At) (old popped new : Walker) (g : Goal) (c : Step) (rule : Rule)
    → old.goals.items ≡ popped.goals.items ++ g ∷ [] → popped.clauses.items ≡ old.clauses.items
    → popped.eigens ≡ old.eigens → popped.used ≡ old.used → TellsGoal forms modules terms popped (shown_goal forms (trees forms modules) g) c rule new
    → Steps forms modules terms old c rule new
steps_of forms modules terms old popped new g c rule e e2 e3 e4 t =
    record {
      told = λ bank. front_is forms modules (term_trees bank terms) old popped g c e e2 e3 e4 ∙ t.told bank;
      inside = t.inside;
      used = t.used;
      places =
          t.places;
    }

pub may_take : (forms : Nodes) (modules : List Module) (terms : List At) (old popped : Walker) (g : Goal) (c : Step)
    → old.goals.items ≡ popped.goals.items ++ g ∷ [] → popped.clauses.items ≡ old.clauses.items → popped.eigens ≡ old.eigens
    → popped.used ≡ old.used → MayStep forms modules terms old c → MayTake forms modules terms popped (shown_goal forms (trees forms modules) g) c
may_take forms modules terms old popped g c e e2 e3 e4 h = subst (λ (t : Told). IsTold t)
    (front_is forms modules (term_trees no_nodes terms) old popped g c e e2 e3 e4) h
