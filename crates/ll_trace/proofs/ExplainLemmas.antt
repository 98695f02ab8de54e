-- What the parts of a call give together.
use Rattle.std.proofs.Common.{◌≡◌, ℕ, zero, suc, ◌+◌, ◌<◌, ◌≤◌, refl, ap, sym, subst, ◌∙◌, arith, List, [], ◌∷◌, ◌++◌, map, length, take, drop, All}
use Rattle.std.proofs.Common.{slice_index_or, Option, Some, None}
use Rattle.std.specs.Prelude.{slice_get, slice_index, Contains}
use Rattle.std.specs.Vec.{vec_len}
use Rattle.std.proofs.lemmas.List.{length-map}
use Rattle.std.proofs.lemmas.List.Elements.{All-nil, All-cons, All-take, All-map}
use Rattle.ll_list_laws.proofs.CallerLemmas.{length-drop_same}
use Rattle.ll_bank.specs.declared.At.{At}
use Rattle.ll_bank.specs.declared.FormAt.{FormAt}
use Rattle.ll_bank.specs.declared.BankSize.{BankSize}
use Rattle.ll_bank.specs.Term.{Term}
use Rattle.ll_bank.specs.Form.{Form, Top, One, Atom, With, Tensor, Plus, Bang, Lolli, Imp, Forall, Exists, Use, Num}
use Rattle.ll_bank.specs.Nodes.{Nodes, no_nodes, HasForm, HasTerm, AllInTerms, form_tree, term_tree, term_trees, size_of, IsCutTo}
use Rattle.ll_bank.proofs.CallerLemmas.{term_trees-extends}
use Rattle.ll_laws.specs.declared.Branch.TheInside.{Inside as BranchInside}
use Rattle.ll_laws.specs.declared.Clause.{Clause}
use Rattle.ll_laws.specs.declared.Kind.{Kind}
use Rattle.ll_laws.specs.declared.Kind.TheVariants.{Linear, Unbounded}
use Rattle.ll_laws.specs.declared.Module.{Module}
use Rattle.ll_laws.specs.declared.Problem.TheInside.{Inside as ProblemInside}
use Rattle.ll_laws.specs.declared.Rule.{Rule}
use Rattle.ll_laws.specs.declared.Step.{Step}
use Rattle.ll_laws.specs.declared.Step.TheVariants.{Plain as PlainStep, Left, Right, Clause as ClauseStep}
use Rattle.ll_laws.specs.Leaf.{Premise, premise_goal, ways}
use Rattle.ll_laws.specs.Line.{Line, DerivationLines, IsWhole, trees_of, lines}
use Rattle.ll_laws.specs.Module.{ClauseTree, ModuleTree}
use Rattle.ll_laws.specs.Answered.{Answered}
use Rattle.ll_laws.specs.Problem.{ProblemTree, problem_events}
use Rattle.ll_laws.specs.Shows.{Tree, Labelled}
use Rattle.ll_laws.specs.Shown.{clause_tree, module_tree, HasClauses, HasModules}
use Rattle.ll_laws.specs.ShownLines.{line_of, HasLines}
use Rattle.ll_laws.specs.Verdict.{labelled, DerivationShows}
use Rattle.ll_laws.specs.Laws.{AnswersAreShown}
use Rattle.ll_laws.specs.Valid.{IsValid}
use Rattle.ll_laws.specs.declared.Event.TheVariants.{Answer}
use Rattle.ll_laws.specs.Dealing.{deal}
use Rattle.ll_laws.specs.Dealt.{values, asked_terms, branch_lines, dealt, HasNodeForEachStep}
use Rattle.ll_trace.specs.declared.walk.Goal.TheVariants.{Plain}
use Rattle.ll_trace.specs.declared.walk.Walker.{Walker}
use Rattle.ll_trace.specs.Bare.{bare, premises_at}
use Rattle.ll_trace.specs.Walk.{Walk, Told, Lost, Tells, tell_load, tell_leaf, tell_clause, tell_goal, tell_front, tell, after_node, told, walk_start}
use Rattle.ll_trace.specs.Goals.{HasGoal, stacked}
use Rattle.ll_trace.specs.Start.{IsAtStart, with_label, linear_labels}
use Rattle.ll_trace.specs.Walker.{trees, bare_clauses, walk_of, IsInside, AreNodes}
use Rattle.ll_trace.proofs.TakeLemmas.{trees-take}
use Rattle.ll_trace.proofs.Answers.{IsWalked, root_labels}

-- ---- how many nodes a walk tells does not hang on its terms

abbrev Alike : Told → Told → Type 0
Alike Lost Lost = Unit {0}
Alike (Tells m v) (Tells n w) = v ≡ w
Alike _ _ = ⊥

same-take : (n : ℕ) (xs ys : List Term) → length xs ≡ length ys → length (take n xs) ≡ length (take n ys)
same-take zero xs ys h = refl
same-take (suc n) [] [] h = refl
same-take (suc n) [] (y ∷ ys) h = absurd (omega (arith, h))
same-take (suc n) (x ∷ xs) [] h = absurd (omega (arith, h))
same-take (suc n) (x ∷ xs) (y ∷ ys) h = ap suc (same-take n xs ys (omega (arith, h)))

module _ (modules : List ModuleTree) (xs ys : List Term) (same : length xs ≡ length ys) where
  alike-load : (w : Walk) (g : Form) (rest : List Form) (o : Option ModuleTree) → Alike (tell_load w g rest o) (tell_load w g rest o)
  alike-load w g rest None = tt
  alike-load w g rest (Some m) = refl

  alike-leaf : (w : Walk) (rest : List Form) (label k : ℕ) (us vs : List Term) (o : Option (List Premise)) → length us ≡ length vs
      → Alike (tell_leaf w rest label k us o) (tell_leaf w rest label k vs o)
  alike-leaf w rest label k us vs None h = tt
  alike-leaf w rest label k us vs (Some ps) h = λ i. record w { goals = map premise_goal ps ++ rest; used = w.used + h i }

  alike-clause : (w : Walk) (rest : List Form) (label k : ℕ) (o : Option Form) → Alike (tell_clause xs w rest label k o) (tell_clause ys w rest label k o)
  alike-clause w rest label k None = tt
  alike-clause w rest label k (Some r) =
      let n = slice_index (ways r) k in
      alike-leaf w rest label k (values xs w.used n) (values ys w.used n) (premises_at r k)
      (same-take n (drop w.used xs) (drop w.used ys) (length-drop_same w.used xs ys same))

  alike-goal : (w : Walk) (g : Form) (rest : List Form) (c : Step) → Alike (tell_goal modules xs w g rest c) (tell_goal modules ys w g rest c)
  alike-goal w One rest c = refl
  alike-goal w Top rest c = refl
  alike-goal w (Tensor f g) rest c = refl
  alike-goal w (With f g) rest c = refl
  alike-goal w (Plus f g) rest Right = refl
  alike-goal w (Plus f g) rest PlainStep = refl
  alike-goal w (Plus f g) rest Left = refl
  alike-goal w (Plus f g) rest (ClauseStep label k) = refl
  alike-goal w (Bang f) rest c = refl
  alike-goal w (Lolli r g) rest c = refl
  alike-goal w (Imp r g) rest c = refl
  alike-goal w (Forall f) rest c = refl
  alike-goal w (Exists f) rest c = refl
  alike-goal w (Use m ts g) rest c = alike-load w g rest (slice_get modules m)
  alike-goal w (Num r t u) rest c = refl
  alike-goal w (Atom a) rest (ClauseStep label k) = alike-clause w rest label k (slice_get w.clauses label)
  alike-goal w (Atom a) rest PlainStep = tt
  alike-goal w (Atom a) rest Left = tt
  alike-goal w (Atom a) rest Right = tt

  alike-front : (w : Walk) (gs : List Form) (c : Step) → Alike (tell_front modules xs w gs c) (tell_front modules ys w gs c)
  alike-front w [] c = tt
  alike-front w (g ∷ rest) c = alike-goal (record w { goals = rest }) g rest c

  alike-after : (t u : Told) (go to : Walk → List Line) → Alike t u → ((v : Walk) → length (go v) ≡ length (to v))
      → length (after_node t go) ≡ length (after_node u to)
  alike-after Lost Lost go to a h = refl
  alike-after Lost (Tells n w) go to a h = absurd a
  alike-after (Tells m v) Lost go to a h = absurd a
  alike-after (Tells m v) (Tells n w) go to a h = ap suc (h v ∙ ap (λ x. length (to x)) a)

  told-count : (cs : List Step) (w : Walk) → length (told modules xs cs w) ≡ length (told modules ys cs w)
  told-count [] w = refl
  told-count (c ∷ cs) w = alike-after (tell modules xs w c) (tell modules ys w c) (told modules xs cs) (told modules ys cs) (alike-front w w.goals c)
      (λ v. told-count cs v)

pub take_exact : (n : ℕ) (ats : List At) → n ≤ length ats → n ≡ length (take n ats)
take_exact zero ats h = refl
take_exact (suc n) [] h = absurd (omega (arith, h))
take_exact (suc n) (x ∷ ats) h = ap suc (take_exact n ats (omega (arith, h)))

-- ---- the labels of the root

labels_more : (n : ℕ) (cs : List Clause) (k : ℕ) (d : Clause) → k < length cs
    → linear_labels n (take (k + 1) cs) ≡ linear_labels n (take k cs) ++ with_label (slice_index_or cs k d).kind (n + k) []
labels_more n [] k d l = absurd (omega (arith, l))
labels_more n (c ∷ cs) zero d l = ap (λ m. with_label c.kind m []) (let e : n ≡ n + 0 = omega arith in e)
labels_more n (c ∷ cs) (suc k) d l =
    ap (λ m. linear_labels n (take m (c ∷ cs))) (let e : suc k + 1 ≡ suc (k + 1) = omega arith in e)
    ∙ (ap (with_label c.kind n) (labels_more (suc n) cs k d (omega (arith, l))
    ∙ ap (λ m. linear_labels (suc n) (take k cs) ++ with_label (slice_index_or cs k d).kind m []) (let e : suc n + k ≡ n + suc k = omega arith in e))
    ∙ push c.kind (linear_labels (suc n) (take k cs)) (with_label (slice_index_or cs k d).kind (n + suc k) []))
  where
    push : (x : Kind) (ms ns : List ℕ) → with_label x n (ms ++ ns) ≡ with_label x n ms ++ ns
    push Linear ms ns = refl
    push Unbounded ms ns = refl

pub label_linear : (cs : List Clause) (k : ℕ) (d : Clause) (old new : List ℕ) → k < length cs → old ≡ linear_labels 0 (take k cs)
    → (slice_index_or cs k d).kind ≡ Linear → new ≡ old ++ k ∷ []
    → new ≡ linear_labels 0 (take (k + 1) cs)
label_linear cs k d old new l h e m =
    m ∙ (ap (λ ns. ns ++ k ∷ []) h ∙ (ap (λ j. linear_labels 0 (take k cs) ++ j ∷ []) (let z : k ≡ 0 + k = omega arith in z)
    ∙ (ap (λ x. linear_labels 0 (take k cs) ++ with_label x (0 + k) []) (sym e) ∙ sym (labels_more 0 cs k d l))))

pub label_other : (cs : List Clause) (k : ℕ) (d : Clause) (old : List ℕ) → k < length cs → old ≡ linear_labels 0 (take k cs)
    → (slice_index_or cs k d).kind ≡ Unbounded → old ≡ linear_labels 0 (take (k + 1) cs)
label_other cs k d old l h e = h ∙ (none (linear_labels 0 (take k cs))
    ∙ (ap (λ x. linear_labels 0 (take k cs) ++ with_label x (0 + k) []) (sym e) ∙ sym (labels_more 0 cs k d l)))
  where
    none : (ns : List ℕ) → ns ≡ ns ++ []
    none [] = refl
    none (n ∷ ns) = ap (λ ms. n ∷ ms) (none ns)

labels-root : (forms : Nodes) (n : ℕ) (cs : List Clause) → map (λ (l : Labelled). l.label) (labelled Linear n (map (clause_tree forms) cs)) ≡ linear_labels n cs
labels-root forms n [] = refl
labels-root forms n (c ∷ cs) = step c.kind (labels-root forms (suc n) cs)
  where
    step : (k : Kind) → map (λ (l : Labelled). l.label) (labelled Linear (suc n) (map (clause_tree forms) cs)) ≡ linear_labels (suc n) cs
        → map (λ (l : Labelled). l.label) (labelled Linear n (record { kind = k; form = form_tree forms c.form.0 } ∷ map (clause_tree forms) cs))
        ≡ with_label k n (linear_labels (suc n) cs)
    step Linear h = ap (λ ns. n ∷ ns) h
    step Unbounded h = h

-- ---- the call

clauses-bare : (forms : Nodes) (cs : List Clause) → bare_clauses forms (map (λ (c : Clause). c.form) cs)
    ≡ map (λ (c : ClauseTree). bare c.form) (map (clause_tree forms) cs)
clauses-bare forms [] = refl
clauses-bare forms (c ∷ cs) = ap (λ fs. bare (form_tree forms c.form.0) ∷ fs) (clauses-bare forms cs)

abbrev shown_problem : ProblemInside → ProblemTree
shown_problem i = record {
  names = i.names;
  modules = map (module_tree i.bank) i.modules.items;
  clauses = map (clause_tree i.bank) i.clauses.items;
  goal = form_tree i.bank i.goal.0;
  asked = i.asked.items;
  bound = i.bound;
}

abbrev shown_branch : BranchInside → Answered
shown_branch b = record { terms = term_trees b.bank b.terms.items; steps = b.steps.items }

-- The parts of a problem and of the branch of an answer, as a call has read them, and the walker at its start. The problem asks for `count`
-- variables
pub record IsExplaining (p : ProblemTree) (a : Answered) (forms bank : Nodes) (modules : List Module) (clauses : List Clause) (goal : FormAt)
    (terms : List At) (steps : List Step) (w : Walker) (count : ℕ) : Type 0 where
  pub walked : IsWalked p a
  pub modules_are : map (module_tree forms) modules ≡ p.modules
  pub clauses_are : map (clause_tree forms) clauses ≡ p.clauses
  pub goal_is : form_tree forms goal.0 ≡ p.goal
  pub terms_are : term_trees bank terms ≡ a.terms
  pub steps_are : steps ≡ a.steps
  pub many : count ≡ length p.asked
  pub start : IsAtStart goal clauses count w
  pub has_clauses : HasClauses forms clauses
  pub has_goal : HasForm forms goal.0
  pub has_terms : AllInTerms bank terms

pub explaining : (i : ProblemInside) (b : BranchInside) {p : ProblemTree} {a : Answered} {modules : List Module} {clauses : List Clause} {terms : List At}
    {steps : List Step} {w : Walker} {count : ℕ} → IsWalked p a → shown_problem i ≡ p → shown_branch b ≡ a
    → HasModules i.bank i.modules.items × HasClauses i.bank i.clauses.items × HasForm i.bank i.goal.0 → AllInTerms b.bank b.terms.items
    → modules ≡ i.modules.items → clauses ≡ i.clauses.items → terms ≡ b.terms.items → steps ≡ b.steps.items
    → count ≡ vec_len i.asked → IsAtStart i.goal clauses count w
    → IsExplaining p a i.bank b.bank modules clauses i.goal terms steps w count
explaining i b walked problem_is branch_is problem_holds branch_holds modules_are clauses_are terms_are steps_are many start = record {
  walked = walked;
  modules_are = ap (map (module_tree i.bank)) modules_are ∙ ap (λ (q : ProblemTree). q.modules) problem_is;
  clauses_are = ap (map (clause_tree i.bank)) clauses_are ∙ ap (λ (q : ProblemTree). q.clauses) problem_is;
  goal_is = ap (λ (q : ProblemTree). q.goal) problem_is;
  terms_are = ap (term_trees b.bank) terms_are ∙ ap (λ (c : Answered). c.terms) branch_is;
  steps_are = steps_are ∙ ap (λ (c : Answered). c.steps) branch_is;
  many = many ∙ (i.asked.ok.0 ∙ ap (λ (q : ProblemTree). length q.asked) problem_is);
  start = start;
  has_clauses = subst (λ (cs : List Clause). HasClauses i.bank cs) (sym clauses_are) problem_holds.1;
  has_goal = problem_holds.2;
  has_terms = subst (λ (ats : List At). AllInTerms b.bank ats) (sym terms_are) branch_holds;
}

module _ {p : ProblemTree} {a : Answered} {forms bank : Nodes} {modules : List Module} {clauses : List Clause} {goal : FormAt} {terms : List At}
    {steps : List Step} {w : Walker} {count : ℕ} (h : IsExplaining p a forms bank modules clauses goal terms steps w count) where
  walk_is : walk_of forms (trees forms modules) w ≡ walk_start p
  walk_is = λ i. record {
    goals = (ap (λ gs. stacked forms (trees forms modules) gs []) h.start.goals ∙ ap (λ g. bare g ∷ []) h.goal_is) i;
    clauses =
        (ap (bare_clauses forms) h.start.loaded ∙ (clauses-bare forms clauses ∙ ap (map (λ (c : ClauseTree). bare c.form)) h.clauses_are)) i;
    eigens = h.start.eigens i;
    used = (h.start.used ∙ h.many) i;
  }

  told_is : (all : List Term) → all ≡ a.terms → told (trees forms modules) all steps (walk_of forms (trees forms modules) w) ≡ branch_lines p a
  told_is all e = (λ i. told (h.modules_are i) (e i) (h.steps_are i) (walk_is i)) ∙ h.walked.told

  -- the terms are enough
  pub used_is : w.used ≤ length terms
  used_is =
      let n = h.walked.asked in
      let m = few (length p.asked) a.terms in
      let k = ap (λ (ts : List Term). length ts) h.terms_are in
      let j = length-map terms (λ (x : At). term_tree bank x.0) in
      let u = h.start.used in
      let v = h.many in
      omega (arith, n, m, k, j, u, v)
    where
      few : (n : ℕ) (ts : List Term) → length (take n ts) ≤ length ts
      few zero ts = omega arith
      few (suc n) [] = omega arith
      few (suc n) (t ∷ ts) = let l = few n ts in omega (arith, l)

  pub told_count : length (told (trees forms modules) (term_trees no_nodes terms) steps (walk_of forms (trees forms modules) w)) ≡ length steps
  told_count =
      told-count (trees forms modules) (term_trees no_nodes terms) (term_trees bank terms)
      (length-map terms (λ (x : At). term_tree no_nodes x.0) ∙ sym (length-map terms (λ (x : At). term_tree bank x.0))) steps
      (walk_of forms (trees forms modules) w)
      ∙ (ap (λ (ns : List Line). length ns) (told_is (term_trees bank terms) h.terms_are)
      ∙ (h.walked.count ∙ ap (λ (cs : List Step). length cs) (sym h.steps_are)))

  pub inside_is : (modules_count : ℕ) → IsInside forms modules_count w
  inside_is n = record {
    goals = subst (All (HasGoal forms n)) (sym h.start.goals) (All-cons (HasGoal forms n) (Plain goal) [] h.has_goal (All-nil (HasGoal forms n)));
    clauses = subst (All (λ (f : FormAt). HasForm forms f.0)) (sym h.start.loaded)
        (All-map (λ (f : FormAt). HasForm forms f.0) (λ (c : Clause). c.form) clauses h.has_clauses);
  }

  -- the terms are read again, and as many as are asked for are taken
  module _ {again : List At} (same : again ≡ terms) where
    pub asked_there : count ≡ length (take count again)
    asked_there =
        let l = used_is in let u = h.start.used in let n = ap (λ (ats : List At). length ats) same in
        take_exact count again (omega (arith, l, u, n))

    pub asked_is : {asked : List At} → asked ≡ take count again → asked ≡ take (length p.asked) terms
    asked_is e = e ∙ (λ i. take (h.many i) (same i))

  -- the image has the same terms
  module _ {image : Nodes} {size : BankSize} (cut : IsCutTo size bank image) (whole : size ≡ size_of bank) where
    all_in : AllInTerms image terms
    all_in = let n : length image.terms ≡ length bank.terms = ap (λ (z : BankSize). z.terms) (cut.places ∙ whole) in
        λ k d l. subst (λ m. (slice_index_or terms k d).0 < m) (sym n) (h.has_terms k d l)

    same_terms : term_trees image terms ≡ a.terms
    same_terms = sym (term_trees-extends cut.trees terms all_in) ∙ h.terms_are

    pub asked_in : (asked : List At) → asked ≡ take (length p.asked) terms → AllInTerms image asked
    asked_in asked e = subst (λ (ats : List At). AllInTerms image ats) (sym e) (All-take (λ (x : At). HasTerm image x.0) (length p.asked) terms all_in)

    -- the nodes are the tree of the answer
    is_tree : (rules : List Rule) → AreNodes forms modules terms steps w rules → trees_of (map (line_of image) rules) ≡ Some (h.walked.tree ∷ [])
    is_tree rules are = ap trees_of (are.told image ∙ told_is (term_trees image terms) same_terms) ∙ h.walked.is_tree

    pub nodes_in : (rules dealt' : List Rule) → AreNodes forms modules terms steps w rules → (HasLines image rules → HasLines image dealt')
        → HasLines image dealt'
    nodes_in rules dealt' are f = f (are.places image all_in)

    pub explained : (rules new : List Rule) (labels : List ℕ) (asked : List At) → AreNodes forms modules terms steps w rules → labels ≡ linear_labels 0 clauses
        → ((x : Tree) → trees_of (map (line_of image) rules) ≡ Some (x ∷ []) → map (line_of image) new ≡ lines (deal labels x))
        → asked ≡ take (length p.asked) terms
        → dealt p a ≡ Some (record { asked = term_trees image asked; nodes = map (line_of image) new })
    explained rules new labels asked are l f e =
        let ls : labels ≡ root_labels p = l ∙ (sym (labels-root forms 0 clauses)
        ∙ ap (λ cs. map (λ (x : Labelled). x.label) (labelled Linear 0 cs)) h.clauses_are) in
        let ns : map (line_of image) new ≡ lines (deal (root_labels p) h.walked.tree) =
        f h.walked.tree (is_tree rules are) ∙ ap (λ ms. lines (deal ms h.walked.tree)) ls in
        let ts : term_trees image asked ≡ asked_terms p a = ap (term_trees image) e
        ∙ (sym (trees-take image (length p.asked) terms) ∙ ap (take (length p.asked)) same_terms) in
        h.walked.is_dealt ∙ (λ i. Some (record { asked = sym ts i; nodes = sym ns i }))

-- ---- what a derivation of an answer shows

-- the derivation is whole, shows the query, and has a node for each step of the branch
pub record IsShown (p : ProblemTree) (a : Answered) (d : DerivationLines) : Type 0 where
  pub whole : IsWhole d
  pub shows : DerivationShows p d
  pub count : HasNodeForEachStep a d

pub is_shown : AnswersAreShown → (p : ProblemTree) (a : Answered) → IsValid p → Contains (problem_events p) (Answer a) → (d : DerivationLines)
    → dealt p a ≡ Some d → IsShown p a d
is_shown law p a v h d e =
    let s = law p a v h in
    let same : s.0 ≡ d = some_same (sym s.1 ∙ e) in
    subst (IsShown p a) same (record { whole = s.3; shows = s.4; count = s.5 })
  where
    some_same : {x y : DerivationLines} → Some x ≡ Some y → x ≡ y
    some_same f = cc
