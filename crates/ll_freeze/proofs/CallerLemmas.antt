-- The parts of a machine after a call that leaves most of them as they are, for the callers of this crate.
use Rattle.std.proofs.Common.{◌≡◌, ℕ, zero, suc, ◌+◌, ◌≤◌, ◌^◌, refl, ap, sym, ◌∙◌, subst, true, List, [], ◌∷◌, ◌++◌, map, length, arith, All, length-append}
use Rattle.std.specs.Prelude.{Option}
use Rattle.ll_bank.specs.declared.At.{At}
use Rattle.ll_bank.specs.declared.FormAt.{FormAt}
use Rattle.ll_bank.specs.Term.{Term, Var, sub}
use Rattle.ll_bank.specs.Form.{Form, Top, One, Atom, With, Tensor, Plus, Bang, Lolli, Imp, Forall, Exists, Use, Num, sub_form}
use Rattle.ll_bank.specs.Nodes.{Nodes, HasForm, term_tree, term_trees, form_tree, Extends}
use Rattle.std.proofs.lemmas.List.Elements.{All-head, All-tail, All-weaker}
use Rattle.ll_list_laws.proofs.CallerLemmas.{map_same}
use Rattle.ll_bank.proofs.CallerLemmas.{HasForm-extends, form_tree-extends}
use Rattle.ll_laws.specs.declared.Clause.{Clause}
use Rattle.ll_laws.specs.declared.Module.{Module}
use Rattle.ll_laws.specs.Shown.{clause_tree, module_tree, HasClauses, HasModules}
use Rattle.ll_laws.specs.declared.Step.{Step}
use Rattle.ll_laws.specs.State.{State}
use Rattle.ll_laws.specs.Settle.{Entry, Saved}
use Rattle.ll_laws.specs.Valid.{Allowed, IsFormula, ClauseSide}
use Rattle.ll_laws.specs.Consistent.{IsConsistent}
use Rattle.ll_laws.specs.Problem.{ProblemTree, setting_of}
use Rattle.ll_laws.specs.Attempt.{vars_from}
use Rattle.ll_laws.proofs.CallerLemmas.{sub_same}
use Rattle.ll_agenda.specs.Frames.{HasTop}
use Rattle.ll_resources.specs.Resources.{Resources}
use Rattle.ll_freeze.specs.Parts.{Parts}
use Rattle.ll_freeze.specs.declared.machine.Item.{Item}
use Rattle.ll_freeze.specs.declared.machine.Item.TheVariants.{Goal, LolliEnd, ImpEnd, Mid, WithEnd, BangEnd}
use Rattle.ll_freeze.specs.Reading.{read_term}
use Rattle.ll_freeze.specs.Shown.{shown_item, shown_entry, items_of, state_of}
use Rattle.ll_freeze.specs.Fits.{Fits, HasItem, IsGoalIn, allowed, setting}
use Rattle.ll_freeze.specs.Calls.{SameTerms}
use Rattle.ll_freeze.specs.Resting.{RestsOn}
use Rattle.ll_freeze.specs.Keyed.{AreKeyed}
-- ---- the keys of entries

-- with the same clauses and keys entries are still keyed
pub use Rattle.ll_freeze.proofs.KeyLemmas.{keyed-alike}
-- the clauses of entries
pub use Rattle.ll_freeze.proofs.KeyLemmas.{clauses_of}
-- other live marks leave the clauses
pub use Rattle.ll_freeze.proofs.KeyLemmas.{clauses-remark}
-- so does taking them away
pub use Rattle.ll_freeze.proofs.KeyLemmas.{clauses-unlive}
-- and picking
pub use Rattle.ll_freeze.proofs.KeyLemmas.{clauses-picked}
-- entries are keyed in a bank with more places too
pub use Rattle.ll_freeze.proofs.KeyLemmas.{keyed-later}
-- so they are with a clause that is loaded under its key
pub use Rattle.ll_freeze.proofs.KeyLemmas.{keyed-loaded}
-- and when the newest entry goes
pub use Rattle.ll_freeze.proofs.KeyLemmas.{keyed-tail}
-- and when all stay
pub use Rattle.ll_freeze.proofs.KeyLemmas.{keyed-stay}
-- ---- the program's entries, which a search leaves where they are

-- a state that rests on a program has it
pub use Rattle.ll_freeze.proofs.Resting.{has_program}
-- there are as many entries of the program as clauses
pub use Rattle.ll_freeze.proofs.Resting.{program-length}
-- an inference leaves the program's entries where they are
pub use Rattle.ll_freeze.proofs.Resting.{step_rests}
-- settling leaves the program's entries where they are
pub use Rattle.ll_freeze.proofs.Resting.{settle_rests}
-- ---- marks, and what keeps them

-- a store keeps its own marks
pub use Rattle.ll_freeze.proofs.Marks.{store_same}
-- marks that are kept twice are kept
pub use Rattle.ll_freeze.proofs.Marks.{store_then}
-- a context keeps its own marks
pub use Rattle.ll_freeze.proofs.Marks.{context_same}
-- a machine is later than itself
pub use Rattle.ll_freeze.proofs.Marks.{later_same}
-- what is later than a later machine is later than the first
pub use Rattle.ll_freeze.proofs.Marks.{later_then}
-- what only has more keeps each good mark
pub use Rattle.ll_freeze.proofs.Marks.{keeps}

-- the state that parts show
abbrev pub state_by : Nodes → List (Option At) → Resources FormAt → List Item → List ℕ → ℕ → List At → List Step → State
state_by bank bound r items levels eigens terms steps =
    record {
      agenda = map (shown_item bank bound r.kept) items;
      context = map (shown_entry bank bound) r.entries;
      flag = r.flag;
      levels = levels;
      eigens = eigens;
      terms = map (read_term bank bound) terms;
      label = r.next;
      steps = steps;
    }

pub state_is : (m : Parts) → state_of m ≡ state_by m.bank m.bound m.resources (items_of m) m.levels m.eigens m.terms m.steps
unfolding state_of
state_is m = refl

-- with the same terms and eigenvariables formulas may mention the same
pub same_allowed : (m n : Parts) → SameTerms m n → n.eigens ≡ m.eigens → allowed n ≡ allowed m
same_allowed m n s e =
    let make : ProblemTree → List ℕ → ℕ → Allowed = λ p ls k. record { modules = p.modules; variables = length ls; eigens = k; opens = true } in
    ap (λ p. make p n.levels n.eigens) s.problem ∙ (ap (λ ls. make m.problem ls n.eigens) s.levels ∙ ap (λ k. make m.problem m.levels k) e)

pub clauses_moved : (may more : Allowed) (bank other : Nodes) (es : List (Entry FormAt)) → may ≡ more → bank ≡ other
    → All (λ e. IsFormula may ClauseSide [] (form_tree bank e.clause.0)) es → All (λ e. IsFormula more ClauseSide [] (form_tree other e.clause.0)) es
clauses_moved may more bank other es p q h =
    subst (λ (b : Nodes). All (λ (e : Entry FormAt). IsFormula more ClauseSide [] (form_tree b e.clause.0)) es) q
    (subst (λ (k : Allowed). All (λ (e : Entry FormAt). IsFormula k ClauseSide [] (form_tree bank e.clause.0)) es) p h)

pub goals_moved : (may more : Allowed) (bank other : Nodes) (xs : List Item) → may ≡ more → bank ≡ other → All (IsGoalIn may bank) xs
    → All (IsGoalIn more other) xs
goals_moved may more bank other xs p q h =
    subst (λ (b : Nodes). All (IsGoalIn more b) xs) q (subst (λ (k : Allowed). All (IsGoalIn k bank) xs) p h)

pub fits_kept : (m n : Parts) → SameTerms m n → Fits m → IsConsistent (setting m) (state_of n) → RestsOn m.problem.clauses (state_of n) → n.eigens ≡ m.eigens
    → All (λ e. HasForm m.bank e.clause.0) n.resources.entries
    → All (λ e. IsFormula (allowed m) ClauseSide [] (form_tree m.bank e.clause.0)) n.resources.entries
    → HasTop n.agenda n.top → All (HasItem m.bank (length n.resources.kept)) (items_of n) → All (IsGoalIn (allowed m) m.bank) (items_of n)
    → n.resources.next + n.left ≤ 2 ^ 25 → n.eigens + n.left ≤ 2 ^ 20 → AreKeyed m.bank (length m.problem.clauses) n.resources → Fits n
fits_kept m n s f h y x c d t i g l e q =
    let a : allowed m ≡ allowed n = sym (same_allowed m n s x) in
    record {
      valid = rw s.problem f.valid;
      consistent = subst (λ (p : ProblemTree). IsConsistent (setting_of p) (state_of n)) (sym s.problem) h;
      rests = subst (λ (p : ProblemTree). RestsOn p.clauses (state_of n)) (sym s.problem) y;
      count = rw (s.bound, s.levels) f.count;
      bound = rw (s.bank, s.bound) f.bound;
      ordered = rw (s.bank, s.bound, s.levels) f.ordered;
      terms = rw (s.bank, s.terms) f.terms;
      variables = rw (s.bank, s.terms, s.levels) f.variables;
      clauses = rw s.bank c;
      sorted_clauses = clauses_moved (allowed m) (allowed n) m.bank n.bank n.resources.entries a (sym s.bank) d;
      sorted_goals = goals_moved (allowed m) (allowed n) m.bank n.bank (items_of n) a (sym s.bank) g;
      has_modules = rw (s.bank, s.modules) f.has_modules;
      modules = rw (s.problem, s.bank, s.modules) f.modules;
      top = t;
      items = rw s.bank i;
      labels = l;
      eigens = e;
      keyed = rw (s.bank, s.problem) q;
    }

-- more was kept
pub more_kept : (bank : Nodes) (n k : ℕ) (i : Item) → n ≤ k → HasItem bank n i → HasItem bank k i
more_kept bank n k (Goal g e) l h = h
more_kept bank n k (LolliEnd b) l h = tt
more_kept bank n k ImpEnd l h = tt
more_kept bank n k (Mid a) l h = omega (arith, l, h)
more_kept bank n k (WithEnd a b) l h = let x = h.0 in let y = h.1 in (omega (arith, l, x), omega (arith, l, y))
more_kept bank n k (BangEnd a) l h = omega (arith, l, h)

pub one_more : (xs : List Saved) (x : Saved) → length (xs ++ x ∷ []) ≡ suc (length xs)
one_more xs x = length-append xs (x ∷ []) ∙ omega arith

-- ---- clauses and modules in a bank with more places

pub clauses_later : (old new : Nodes) (cs : List Clause) → Extends old new → HasClauses old cs → map (clause_tree new) cs ≡ map (clause_tree old) cs
clauses_later old new [] k h = refl
clauses_later old new (c ∷ cs) k h =
    let e = form_tree-extends k c.form.0 (All-head (λ (d : Clause). HasForm old d.form.0) c cs h) in
    λ i. record { kind = c.kind; form = e i } ∷ clauses_later old new cs k (All-tail (λ (d : Clause). HasForm old d.form.0) c cs h) i

pub modules_later : (old new : Nodes) (ms : List Module) → Extends old new → HasModules old ms → map (module_tree new) ms ≡ map (module_tree old) ms
modules_later old new [] k h = refl
modules_later old new (m ∷ ms) k h =
    let e = clauses_later old new m.clauses.items k (All-head (λ (d : Module). HasClauses old d.clauses.items) m ms h) in
    λ i. record { name = m.name; params = m.params; locals = m.locals; clauses = e i }
    ∷ modules_later old new ms k (All-tail (λ (d : Module). HasClauses old d.clauses.items) m ms h) i

pub modules_has : (old new : Nodes) (ms : List Module) → Extends old new → HasModules old ms → HasModules new ms
modules_has old new ms k h =
    All-weaker (λ (d : Module). HasClauses old d.clauses.items) (λ (d : Module). HasClauses new d.clauses.items)
    (λ d g. All-weaker (λ (c : Clause). HasForm old c.form.0) (λ (c : Clause). HasForm new c.form.0) (λ c f. HasForm-extends k c.form.0 f) d.clauses.items g) ms
    h

-- ---- readings

-- two substitutions that agree make one formula
pub form_same : (f g : ℕ → Term) → ((x : ℕ) → f x ≡ g x) → (r : Form) → sub_form f r ≡ sub_form g r
form_same f g h Top = refl
form_same f g h One = refl
form_same f g h (Atom t) = ap Atom (sub_same f g h t)
form_same f g h (With a b) = λ i. With (form_same f g h a i) (form_same f g h b i)
form_same f g h (Tensor a b) = λ i. Tensor (form_same f g h a i) (form_same f g h b i)
form_same f g h (Plus a b) = λ i. Plus (form_same f g h a i) (form_same f g h b i)
form_same f g h (Bang a) = ap Bang (form_same f g h a)
form_same f g h (Lolli a b) = λ i. Lolli (form_same f g h a i) (form_same f g h b i)
form_same f g h (Imp a b) = λ i. Imp (form_same f g h a i) (form_same f g h b i)
form_same f g h (Forall a) = ap Forall (form_same f g h a)
form_same f g h (Exists a) = ap Exists (form_same f g h a)
form_same f g h (Use m ts a) = λ i. Use m (map_same (sub f) (sub g) (sub_same f g h) ts i) (form_same f g h a i)
form_same f g h (Num r t u) = λ i. Num r (sub_same f g h t i) (sub_same f g h u i)

-- terms as they are read, one by one
pub trees_read : (s : ℕ → Term) (bank : Nodes) (ats : List At) → map (λ (a : At). sub s (term_tree bank a.0)) ats ≡ map (sub s) (term_trees bank ats)
trees_read s bank [] = refl
trees_read s bank (a ∷ ats) = ap (λ ts. sub s (term_tree bank a.0) ∷ ts) (trees_read s bank ats)

pub vars_more : (a n b : ℕ) → b ≡ a + n → vars_from a (suc n) ≡ vars_from a n ++ Var b ∷ []
vars_more a zero b e = ap (λ c. Var c ∷ []) (let q : a ≡ b = omega (arith, e) in q)
vars_more a (suc n) b e = ap (λ ts. Var a ∷ ts) (vars_more (suc a) n b (omega (arith, e)))
