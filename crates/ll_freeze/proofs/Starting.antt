-- The machine in which a search starts.
use Rattle.std.proofs.Common.{◌≡◌, ℕ, zero, suc, ◌+◌, ◌≤◌, refl, ap, sym, ◌∙◌, subst, true, List, [], ◌∷◌, ◌++◌, map, length, replicate, arith, All}
use Rattle.std.proofs.Common.{slice_index_or}
use Rattle.std.proofs.lemmas.List.{map-append, length-map, length-replicate}
use Rattle.std.proofs.lemmas.List.Elements.{All-nil, All-cons, All-head, All-tail, All-push, All-weaker}
use Rattle.std.specs.Prelude.{Option, Some, None}
use Rattle.ll_bank.specs.declared.At.{At}
use Rattle.ll_bank.specs.declared.FormAt.{FormAt}
use Rattle.ll_bank.specs.Term.{Var, sub}
use Rattle.ll_bank.specs.Form.{Form, Top, One, Atom, With, Tensor, Plus, Bang, Lolli, Imp, Forall, Exists, Use, Num, sub_form}
use Rattle.ll_bank.specs.Nodes.{Nodes, HasTerm, HasForm, AllInTerms, Extends, ShowsTerm, term_tree, term_trees, form_tree}
use Rattle.ll_bank.proofs.CallerLemmas.{form_empty, HasForm-extends, form_tree-extends, AllInTerms-extends, term_trees-extends}
use Rattle.ll_laws.specs.declared.Clause.{Clause}
use Rattle.ll_laws.specs.declared.Kind.{Kind}
use Rattle.ll_laws.specs.Module.{ClauseTree, ModuleTree}
use Rattle.ll_laws.specs.Problem.{ProblemTree, setting_of, start_of}
use Rattle.ll_laws.specs.Search.{program_entries}
use Rattle.ll_laws.specs.Settle.{Entry, Goal as GoalOf}
use Rattle.ll_laws.specs.State.{State}
use Rattle.ll_laws.specs.Shown.{clause_tree, module_tree, HasClauses, HasModules}
use Rattle.ll_laws.specs.declared.Module.{Module}
use Rattle.ll_laws.specs.Attempt.{is_linear, vars_from}
use Rattle.ll_laws.specs.Valid.{IsValid, IsFormula, AreClauses, Allowed, GoalSide, ClauseSide, given}
use Rattle.ll_laws.specs.Consistent.{IsConsistent}
use Rattle.ll_laws.proofs.CallerLemmas.{sub_id, subs_id, Grows, formula-more, starts_consistent, grows_given}
use Rattle.ll_resources.specs.Resources.{Resources, started, entries_from}
use Rattle.ll_agenda.specs.Frames.{ShowsItems}
use Rattle.ll_freeze.specs.Parts.{Parts, table}
use Rattle.ll_unify.specs.Bindings.{Table, IsOrdered}
use Rattle.ll_unify.proofs.CallerLemmas.{followed-free}
use Rattle.ll_store.specs.declared.cells.Cell.{Cell}
use Rattle.ll_freeze.specs.Reading.{reading, read_term, read_form, HasValue}
use Rattle.ll_freeze.specs.Shown.{closed_goal, shown_item, shown_entry, items_of, state_of}
use Rattle.ll_freeze.specs.Fits.{HasItem, IsGoalIn, allowed, setting}
use Rattle.ll_freeze.specs.Calls.{IsStart}
use Rattle.ll_freeze.specs.Resting.{RestsOn}
use Rattle.ll_freeze.proofs.Resting.{start_rests}
use Rattle.ll_freeze.proofs.KeyLemmas.{keys-started}
use Rattle.ll_freeze.proofs.CallerLemmas.{form_same, state_is, clauses_later, modules_later, modules_has, vars_more, trees_read}

-- clauses as a context takes them
abbrev pub pair_of : Clause → Kind × FormAt
pair_of c = (c.kind, c.form)

abbrev pub pairs : List Clause → List (Kind × FormAt)
pairs cs = map pair_of cs

-- one variable more
pub variable_more : (old new : Nodes) (made more : List At) (at : At) (n : ℕ) → Extends old new → AllInTerms old made → term_trees old made ≡ vars_from 0 n
    → ShowsTerm new at.0 (Var n)
    → more ≡ made ++ at ∷ [] → AllInTerms new more × (term_trees new more ≡ vars_from 0 (n + 1))
variable_more old new made more at n k h v s e =
    let q : suc n ≡ n + 1 = omega arith in (
      subst (λ (xs : List At). AllInTerms new xs) (sym e) (All-push (λ (x : At). HasTerm new x.0) made at (AllInTerms-extends k made h) s.inside),
      ap (λ xs. term_trees new xs) e
          ∙ (map-append (λ (x : At). term_tree new x.0) made (at ∷ [])
          ∙ (ap (λ ts. ts ++ term_tree new at.0 ∷ []) (term_trees-extends k made h ∙ v)
          ∙ (ap (λ t. vars_from 0 n ++ t ∷ []) s.tree ∙ (sym (vars_more 0 n n (omega arith)) ∙ ap (λ i. vars_from 0 i) q)))),
    )

-- ---- where nothing is bound, what is read is what stands there

abbrev nones : ℕ → List (Option At)
nones n = replicate n None

look_none : (n x : ℕ) → slice_index_or (nones n) x None ≡ None
look_none zero zero = refl
look_none zero (suc x) = refl
look_none (suc n) zero = refl
look_none (suc n) (suc x) = look_none n x

form_id : (f : Form) → sub_form Var f ≡ f
form_id Top = refl
form_id One = refl
form_id (Atom a) = ap Atom (sub_id a)
form_id (With f g) = λ i. With (form_id f i) (form_id g i)
form_id (Tensor f g) = λ i. Tensor (form_id f i) (form_id g i)
form_id (Plus f g) = λ i. Plus (form_id f i) (form_id g i)
form_id (Bang f) = ap Bang (form_id f)
form_id (Lolli f g) = λ i. Lolli (form_id f i) (form_id g i)
form_id (Imp f g) = λ i. Imp (form_id f i) (form_id g i)
form_id (Forall f) = ap Forall (form_id f)
form_id (Exists f) = ap Exists (form_id f)
form_id (Num r t u) = λ i. Num r (sub_id t i) (sub_id u i)
form_id (Use m ts f) = λ i. Use m (subs_id ts i) (form_id f i)

module _ (bank : Nodes) (bound : List (Option At)) (reads : (x : ℕ) → reading bank bound x ≡ Var x) where
  form_as_is : (at : FormAt) → read_form bank bound at ≡ form_tree bank at.0
  form_as_is at = form_same (reading bank bound) Var reads (form_tree bank at.0) ∙ form_id (form_tree bank at.0)

  entries_as_are : (n : ℕ) (cs : List Clause)
      → map (shown_entry bank bound) (entries_from n (pairs cs)) ≡ program_entries n (map (clause_tree bank) cs)
  entries_as_are n [] = refl
  entries_as_are n (c ∷ cs) =
      λ i. record { label = n; kind = c.kind; live = is_linear c.kind; clause = form_as_is c.form i } ∷ entries_as_are (suc n) cs i

  vars_as_are : (a n : ℕ) → map (sub (reading bank bound)) (vars_from a n) ≡ vars_from a n
  vars_as_are a zero = refl
  vars_as_are a (suc n) = λ i. reads a i ∷ vars_as_are (suc a) n i

-- ---- what a machine has at the start

none_bound : (bank : Nodes) (n : ℕ) → All (HasValue bank) (replicate n None)
none_bound bank zero = All-nil (HasValue bank)
none_bound bank (suc n) = All-cons (HasValue bank) None (replicate n None) tt (none_bound bank n)

-- where nothing is bound nothing leads to itself
nothing_ordered : (bank : Nodes) (t : Table) (n : ℕ) → t.bound ≡ nones n → IsOrdered bank t
nothing_ordered bank t n e =
    record {
      rank = λ x. 0;
      falls = λ x at b y o.
          let c : None ≡ Some at = sym (ap (λ os. slice_index_or os x None) e ∙ look_none n x) ∙ b in absurd (cc (c));
    }

-- the cells at the start
pub cells_bound : (n l : ℕ) → map (λ (c : Cell). c.to) (replicate n (record { to = None; level = l })) ≡ nones n
cells_bound zero l = refl
cells_bound (suc n) l = ap (λ os. None ∷ os) (cells_bound n l)

pub cells_levels : (n l : ℕ) → map (λ (c : Cell). c.level) (replicate n (record { to = None; level = l })) ≡ replicate n l
cells_levels zero l = refl
cells_levels (suc n) l = ap (λ ls. l ∷ ls) (cells_levels n l)

-- the clauses of the entries at the start
started_has : (P : FormAt → Type 0) (n : ℕ) (cs : List Clause) → All (λ (c : Clause). P c.form) cs
    → All (λ (e : Entry FormAt). P e.clause) (entries_from n (pairs cs))
started_has P n [] h = All-nil (λ (e : Entry FormAt). P e.clause)
started_has P n (c ∷ cs) h =
    All-cons (λ (e : Entry FormAt). P e.clause) _ (entries_from (suc n) (pairs cs)) (All-head (λ (c : Clause). P c.form) c cs h)
    (started_has P (suc n) cs (All-tail (λ (c : Clause). P c.form) c cs h))

clauses_sorted : (names : ℕ) (ms : List ModuleTree) (bank : Nodes) (more : Allowed) (cs : List Clause) → Grows (given ms 0) more
    → AreClauses names ms [] (map (clause_tree bank) cs)
    → All (λ (c : Clause). IsFormula more ClauseSide [] (form_tree bank c.form.0)) cs
clauses_sorted names ms bank more [] g h = All-nil (λ (c : Clause). IsFormula more ClauseSide [] (form_tree bank c.form.0))
clauses_sorted names ms bank more (c ∷ cs) g h =
    All-cons (λ (c : Clause). IsFormula more ClauseSide [] (form_tree bank c.form.0)) c cs
    (formula-more (given ms 0) more ClauseSide (form_tree bank c.form.0) g h.0)
    (clauses_sorted names ms bank more cs g h.2)

pub starts : (p : ProblemTree) (m : Parts) (goal : FormAt) (cs : List Clause) (n : ℕ) → IsValid p → m.problem ≡ p → form_tree m.bank goal.0 ≡ p.goal
    → HasForm m.bank goal.0
    → map (clause_tree m.bank) cs ≡ p.clauses → HasClauses m.bank cs → n ≡ length p.asked → m.bound ≡ replicate n None → m.levels ≡ replicate n 0
    → m.resources ≡ started (pairs cs) → ShowsItems m.agenda m.top (closed_goal goal ∷ []) → m.left ≡ p.bound → m.eigens ≡ 0
    → AllInTerms m.bank m.terms → term_trees m.bank m.terms ≡ vars_from 0 n → m.steps ≡ []
    → HasModules m.bank m.modules → map (module_tree m.bank) m.modules ≡ p.modules → IsStart p m
starts p m goal cs n v ep eg hg ec hc en eb el ex it left eigens inside vars es hm em =
    let bank = m.bank in let bound = m.bound in let xs : List (Kind × FormAt) = pairs cs in
    let r : m.resources ≡ started xs = ex in
    let reads : (x : ℕ) → reading bank bound x ≡ Var x = λ x. ap (λ bs. reading bank bs x) eb
    ∙ followed-free bank (nones n) (length (nones n)) x (look_none n x) in
    let count : length m.levels ≡ n = ap (λ (ls : List ℕ). length ls) el ∙ length-replicate n 0 in
    let many : length xs ≡ length p.clauses =
    length-map cs pair_of ∙ (sym (length-map cs (clause_tree bank)) ∙ ap (λ (ks : List ClauseTree). length ks) ec) in
    let items : map (shown_item bank bound m.resources.kept) (items_of m) ≡ GoalOf p.goal ∷ [] =
    ap (λ ys. map (shown_item bank bound m.resources.kept) ys) it.list
    ∙ ap (λ f. GoalOf f ∷ []) (ap (sub_form (reading bank bound)) (form_empty [] (form_tree bank goal.0) refl) ∙ (form_as_is bank bound reads goal ∙ eg)) in
    let entries : map (shown_entry bank bound) m.resources.entries ≡ program_entries 0 p.clauses =
    ap (λ (s : Resources FormAt). map (shown_entry bank bound) s.entries) r ∙ (entries_as_are bank bound reads 0 cs ∙ ap (λ ks. program_entries 0 ks) ec) in
    let flag = ap (λ (s : Resources FormAt). s.flag) r in
    let levels : m.levels ≡ replicate (length p.asked) 0 = el ∙ ap (λ k. replicate k 0) en in
    let terms : map (read_term bank bound) m.terms ≡ vars_from 0 (length p.asked) =
    trees_read (reading bank bound) bank m.terms
    ∙ (ap (λ ts. map (sub (reading bank bound)) ts) vars ∙ (vars_as_are bank bound reads 0 n ∙ ap (λ k. vars_from 0 k) en)) in
    let label : m.resources.next ≡ length p.clauses = ap (λ (s : Resources FormAt). s.next) r ∙ many in
    let state : state_of m ≡ start_of p =
    state_is m
    ∙ (λ i. record {
      agenda = items i;
      context = entries i;
      flag = flag i;
      levels = levels i;
      eigens = eigens i;
      terms = terms i;
      label = label i;
      steps = es i;
    }) in
    let may : Allowed = record { modules = p.modules; variables = length m.levels; eigens = m.eigens; opens = true } in
    let a : may ≡ allowed m = ap (λ (q : ProblemTree). record { modules = q.modules; variables = length m.levels; eigens = m.eigens; opens = true }) (sym ep) in
    let cl : AreClauses (length p.names) p.modules [] (map (clause_tree bank) cs) =
    subst (λ (ks : List ClauseTree). AreClauses (length p.names) p.modules [] ks) (sym ec) v.clauses in
    let low : 0 ≤ length m.levels = omega arith in let grows : Grows (given p.modules 0) may = grows_given p.modules 0 (length m.levels) m.eigens low in
    let gl : IsFormula may GoalSide [] (form_tree bank goal.0) =
    subst (λ (f : Form). IsFormula may GoalSide [] f) (sym eg)
    (formula-more (given p.modules (length p.asked)) may GoalSide p.goal
    (grows_given p.modules (length p.asked) (length m.levels) m.eigens (omega (arith, count, en))) v.goal) in
    record {
      problem = ep;
      state = state;
      left = left;
      fits = record {
        valid = rw ep v;
        consistent = subst (λ (s : State). IsConsistent (setting m) s) (sym state)
            (subst (λ (q : ProblemTree). IsConsistent (setting_of q) (start_of p)) (sym ep) (starts_consistent p v));
        rests = subst (λ (s : State). RestsOn m.problem.clauses s) (sym state)
            (subst (λ (q : ProblemTree). RestsOn q.clauses (start_of p)) (sym ep) (start_rests p));
        count = ap (λ (bs : List (Option At)). length bs) eb ∙ (length-replicate n None ∙ sym count);
        bound = rw eb (none_bound bank n);
        ordered = nothing_ordered bank (table m) n eb;
        terms = inside;
        variables = vars ∙ ap (λ k. vars_from 0 k) (sym count);
        clauses = rw r (started_has (λ f. HasForm bank f.0) 0 cs hc);
        sorted_clauses =
            rw r
            (started_has (λ f. IsFormula (allowed m) ClauseSide [] (form_tree bank f.0)) 0 cs
            (subst (λ (k : Allowed). All (λ (c : Clause). IsFormula k ClauseSide [] (form_tree bank c.form.0)) cs) a
            (clauses_sorted (length p.names) p.modules bank may cs grows cl)));
        sorted_goals =
            rw it.list
            (All-cons (IsGoalIn (allowed m) bank) (closed_goal goal) [] (
              record { count = omega arith; end = omega arith },
              subst (λ (f : Form). IsFormula (allowed m) GoalSide [] f) (sym (form_empty [] (form_tree bank goal.0) refl))
                  (subst (λ (k : Allowed). IsFormula k GoalSide [] (form_tree bank goal.0)) a gl),
            )
            (All-nil (IsGoalIn (allowed m) bank)));
        has_modules = hm;
        modules = em ∙ ap (λ (q : ProblemTree). q.modules) (sym ep);
        top = it.inside;
        items = rw it.list (All-cons (HasItem bank (length m.resources.kept)) (closed_goal goal) [] hg (All-nil (HasItem bank (length m.resources.kept))));
        labels = let c : length p.clauses ≤ 16777216 = v.clause_count in let b = v.bound in omega (arith, label, left, c, b);
        eigens = let b = v.bound in omega (arith, eigens, left, b);
        keyed = rw r (record {
          keys = sym (keys-started bank (length m.problem.clauses) 0 xs
              (let w = ap (λ (q : ProblemTree). length q.clauses) ep in omega (arith, w, many)));
        });
      };
    }

-- ---- a bank with more places

pub starts_in : (p : ProblemTree) (b : Nodes) (m : Parts) (goal : FormAt) (cs : List Clause) (n : ℕ) → IsValid p → m.problem ≡ p → Extends b m.bank
    → form_tree b goal.0 ≡ p.goal
    → HasForm b goal.0 → map (clause_tree b) cs ≡ p.clauses → HasClauses b cs → n ≡ length p.asked → m.bound ≡ replicate n None → m.levels ≡ replicate n 0
    → m.resources ≡ started (pairs cs) → ShowsItems m.agenda m.top (closed_goal goal ∷ []) → m.left ≡ p.bound → m.eigens ≡ 0
    → AllInTerms m.bank m.terms → term_trees m.bank m.terms ≡ vars_from 0 n → m.steps ≡ []
    → (ms : List Module) → m.modules ≡ ms → HasModules b ms → map (module_tree b) ms ≡ p.modules → IsStart p m
starts_in p b m goal cs n v ep k eg hg ec hc en eb el ex it left eigens inside vars es ms sm hm em =
    starts p m goal cs n v ep (form_tree-extends k goal.0 hg ∙ eg) (HasForm-extends k goal.0 hg) (clauses_later b m.bank cs k hc ∙ ec)
    (All-weaker (λ (c : Clause). HasForm b c.form.0) (λ (c : Clause). HasForm m.bank c.form.0) (λ c h. HasForm-extends k c.form.0 h) cs hc) en eb el ex it left
    eigens inside vars es
    (rw sm (modules_has b m.bank ms k hm)) (ap (λ ds. map (module_tree m.bank) ds) sm ∙ (modules_later b m.bank ms k hm ∙ em))

-- one cell more
pub cells_push : (n m : ℕ) → m ≡ n + 1 → let c : Cell = record { to = None; level = 0 } in replicate m c ≡ replicate n c ++ c ∷ []
cells_push zero (suc zero) e = refl
cells_push zero zero e = absurd (omega (arith, e))
cells_push zero (suc (suc m)) e = absurd (omega (arith, e))
cells_push (suc n) zero e = absurd (omega (arith, e))
cells_push (suc n) (suc m) e = let c : Cell = record { to = None; level = 0 } in ap (λ cs. c ∷ cs) (cells_push n m (omega (arith, e)))
