-- What the checker asks of a valid problem, and its verdict.
use Rattle.std.proofs.Common.{◌≡◌, ℕ, refl, sym, ◌∙◌, subst, Bool, true, false, List, [], ◌∷◌, length, arith, Some}
use Rattle.std.specs.Prelude.{nat_eq, if◌then◌else◌, All}
use Rattle.std.proofs.lemmas.Bool.{eqb-true, eq-eqb}
use Rattle.std.proofs.lemmas.List.Elements.{All-nil, All-cons}
use Rattle.ll_bank.specs.Form.{Form}
use Rattle.ll_laws.specs.Module.{ModuleTree, ClauseTree}
use Rattle.ll_laws.specs.Problem.{ProblemTree, setting_of}
use Rattle.ll_laws.specs.Valid.{Side, GoalSide, ClauseSide, Scope, Allowed, IsFormula, given, AreClauses, AreModules, module_scope, IsValid}
use Rattle.ll_laws.specs.Line.{DerivationLines, IsWhole, trees_of}
use Rattle.ll_laws.specs.Shows.{Tree}
use Rattle.ll_laws.specs.Fault.{Checked, Fits, Fault, fault}
use Rattle.ll_laws.specs.Verdict.{first_fault, root_free, root_bounded, instantiated_goal}
use Rattle.ll_laws.proofs.CallerLemmas.{Grows, widens-refl, fits_of_formula, formula_of_fits, fits-more, no-fault-shows, shown-no-fault}
use Rattle.ll_sequent.specs.declared.Verdict.{Verdict}
use Rattle.ll_sequent.specs.declared.Verdict.TheVariants.{Yes, No}
use Rattle.ll_sequent.specs.Sequents.{IsSound}
use Rattle.ll_sequent.specs.Judging.{AreModulesSound}
use Rattle.ll_sequent.specs.Starting.{AreSound}
use Rattle.ll_sequent.specs.Told.{Tells, IsVerdict}

-- ---- a valid problem

formula_sound : (modules : List ModuleTree) (variables : ℕ) (side : Side) (scope : Scope) (f : Form) → IsFormula (given modules variables) side scope f
    → IsSound modules side scope f
formula_sound modules variables side scope f h =
    let more : Allowed = record { modules = modules; variables = variables; eigens = 0; opens = true } in
    let g : Grows (given modules variables) more = record { modules = refl; variables = omega arith; eigens = omega arith; opens = λ e. refl } in
    let m = formula_of_fits more side scope f (fits-more (given modules variables) more side scope scope f g (widens-refl scope)
    (fits_of_formula (given modules variables) side scope f h)) in
    record { closed = m.closed; heads = m.heads; loads = m.loads }

clauses_sound : (names : ℕ) (modules : List ModuleTree) (scope : Scope) (cs : List ClauseTree) → AreClauses names modules scope cs
    → All (λ (c : ClauseTree). IsSound modules ClauseSide scope c.form) cs
clauses_sound names modules scope [] h = All-nil (λ (c : ClauseTree). IsSound modules ClauseSide scope c.form)
clauses_sound names modules scope (c ∷ cs) h =
    All-cons (λ (c : ClauseTree). IsSound modules ClauseSide scope c.form) c cs (formula_sound modules 0 ClauseSide scope c.form h.0)
    (clauses_sound names modules scope cs h.2)

modules_sound : (names : ℕ) (modules ms : List ModuleTree) → AreModules names modules ms
    → All (λ (m : ModuleTree). All (λ (c : ClauseTree). IsSound modules ClauseSide (module_scope m) c.form) m.clauses) ms
modules_sound names modules [] h = All-nil (λ (m : ModuleTree). All (λ (c : ClauseTree). IsSound modules ClauseSide (module_scope m) c.form) m.clauses)
modules_sound names modules (m ∷ ms) h =
    All-cons (λ (m : ModuleTree). All (λ (c : ClauseTree). IsSound modules ClauseSide (module_scope m) c.form) m.clauses) m ms
    (clauses_sound names modules (module_scope m) m.clauses h.0)
    (modules_sound names modules ms h.2)

pub valid_modules : (p : ProblemTree) → IsValid p → AreModulesSound p.modules
valid_modules p h = modules_sound (length p.names) p.modules p.modules h.modules

pub valid_root : (p : ProblemTree) → IsValid p → AreSound p.modules p.clauses p.goal
valid_root p h = record {
  asked = formula_sound p.modules (length p.asked) GoalSide [] p.goal h.goal;
  program = clauses_sound (length p.names) p.modules [] p.clauses h.clauses;
}

pub sound_along : (modules : List ModuleTree) (cs ds : List ClauseTree) (f g : Form) → cs ≡ ds → f ≡ g → AreSound modules ds g → AreSound modules cs f
sound_along modules cs ds f g d e h =
    let P : List ClauseTree → Type 0 = λ x. AreSound modules x g in let Q : Form → Type 0 = λ x. AreSound modules cs x in subst Q (sym e) (subst P (sym d) h)

-- ---- the verdict

-- another number of terms than the query has variables
pub other_number : (p : ProblemTree) (d : DerivationLines) → (length d.asked ≡ length p.asked → ⊥) → IsVerdict p d (No 0 11)
other_number p d h = (
  λ s. h s.count,
  λ x t. fails (nat_eq (length d.asked) (length p.asked)) refl
      (fault (setting_of p) 1 x (root_free p) (root_bounded p) (instantiated_goal p d.asked)),
)
  where
    fails : (b : Bool) → nat_eq (length d.asked) (length p.asked) ≡ b → (c : Checked) → (if b then c else Fault 0 11) ≡ Fault 0 11
    fails true e c = absurd (h (eqb-true (length d.asked) (length p.asked) e))
    fails false e c = refl

-- what a check tells
pub verdict_told : (p : ProblemTree) (d : DerivationLines) (v : Verdict) → IsWhole d → length d.asked ≡ length p.asked
    → ((x : Tree) → trees_of d.nodes ≡ Some (x ∷ []) → Tells v (fault (setting_of p) 1 x (root_free p) (root_bounded p) (instantiated_goal p d.asked)))
    → IsVerdict p d v
verdict_told p d Yes w n h = let t = h w.tree w.is_tree in no-fault-shows p d w.tree t.0 w.nodes w.is_tree (counted p d w.tree n ∙ t.1)
  where
    counted : (p : ProblemTree) (d : DerivationLines) (x : Tree) → length d.asked ≡ length p.asked
        → first_fault p d x ≡ fault (setting_of p) 1 x (root_free p) (root_bounded p) (instantiated_goal p d.asked)
    counted p d x n = rw (eq-eqb (length d.asked) (length p.asked) n) refl
verdict_told p d (No k r) w n h = (λ s. clash (sym (shown-no-fault p d w.tree w.is_tree s) ∙ faulty w.tree w.is_tree), faulty)
  where
    faulty : (x : Tree) → trees_of d.nodes ≡ Some (x ∷ []) → first_fault p d x ≡ Fault k r
    faulty x e = rw (eq-eqb (length d.asked) (length p.asked) n) (h x e)

    clash : {m : ℕ} → Fits m ≡ Fault k r → ⊥
    clash e = cc
