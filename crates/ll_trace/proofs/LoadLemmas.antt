-- The clauses of a load.
use Rattle.std.proofs.Common.{◌≡◌, ℕ, zero, suc, ◌<◌, ◌≤◌, refl, ap, sym, subst, ◌∙◌, arith, List, [], ◌∷◌, map, length, slice_index_or}
use Rattle.std.specs.Prelude.{Option, Some, None, slice_get}
use Rattle.ll_bank.specs.Nodes.{Nodes, HasForm}
use Rattle.ll_laws.specs.declared.Clause.{Clause}
use Rattle.ll_laws.specs.declared.Module.{Module}
use Rattle.ll_laws.specs.Module.{ClauseTree}
use Rattle.ll_laws.specs.Shown.{clause_tree, HasClauses, HasModules}
use Rattle.ll_trace.specs.Goals.{clauses_of}
use Rattle.ll_trace.specs.Walker.{trees}

module _ (forms : Nodes) where
  pub clauses_at : (ms : List Module) (k : ℕ) (d : Module) → k < length ms → d ≡ slice_index_or ms k d
      → clauses_of (slice_get (trees forms ms) k) ≡ map (clause_tree forms) d.clauses.items
  clauses_at [] k d l e = absurd (omega (arith, l))
  clauses_at (m ∷ ms) zero d l e = ap (λ (x : Module). map (clause_tree forms) x.clauses.items) (sym e)
  clauses_at (m ∷ ms) (suc k) d l e = clauses_at ms k d (omega (arith, l)) e

  pub clause_got : (cs : List Clause) (k : ℕ) (d : Clause) → k < length cs → d ≡ slice_index_or cs k d
      → slice_get (map (clause_tree forms) cs) k ≡ Some (clause_tree forms d)
  clause_got [] k d l e = absurd (omega (arith, l))
  clause_got (x ∷ cs) zero d l e = ap (λ (y : Clause). let o : Option ClauseTree = Some (clause_tree forms y) in o) (sym e)
  clause_got (x ∷ cs) (suc k) d l e = clause_got cs k d (omega (arith, l)) e

  pub clause_past : (cs : List Clause) (k : ℕ) → length cs ≤ k → slice_get (map (clause_tree forms) cs) k ≡ None
  clause_past [] k l = refl
  clause_past (x ∷ cs) zero l = absurd (omega (arith, l))
  clause_past (x ∷ cs) (suc k) l = clause_past cs k (omega (arith, l))

  pub has_clause : (ms : List Module) (k : ℕ) (d : Module) (j : ℕ) (x : Clause) → HasModules forms ms → k < length ms → d ≡ slice_index_or ms k d
      → j < length d.clauses.items → x ≡ slice_index_or d.clauses.items j x → HasForm forms x.form.0
  has_clause ms k d j x h l e n f =
      let a : HasClauses forms d.clauses.items = subst (λ (m : Module). HasClauses forms m.clauses.items) (sym e) (h k d l) in
      subst (λ (y : Clause). HasForm forms y.form.0) (sym f) (a j x n)

-- the clause x of module k is the next of a load, which has taken j of them
pub record IsNextClause (forms : Nodes) (ms : List Module) (k j : ℕ) (x : Clause) : Type 0 where
  pub got : slice_get (clauses_of (slice_get (trees forms ms) k)) j ≡ Some (clause_tree forms x)
  pub has : HasForm forms x.form.0

-- the clauses of module k were read
module _ (forms : Nodes) (ms : List Module) (k j : ℕ) {d : Module} {read : List Clause} (low : k < length ms) (there : d ≡ slice_index_or ms k d)
    (is : read ≡ (slice_index_or ms k d).clauses.items) where
  same : read ≡ d.clauses.items
  same = is ∙ ap (λ (m : Module). m.clauses.items) (sym there)

  pub load_end : length read ≤ j → slice_get (clauses_of (slice_get (trees forms ms) k)) j ≡ None
  load_end past = ap (λ cs. slice_get cs j) (clauses_at forms ms k d low there)
      ∙ clause_past forms d.clauses.items j (subst (λ (cs : List Clause). length cs ≤ j) same past)

  pub load_next : {x : Clause} → HasModules forms ms → j < length read → x ≡ slice_index_or read j x → IsNextClause forms ms k j x
  load_next {x} modules less e =
      let less' : j < length d.clauses.items = subst (λ (cs : List Clause). j < length cs) same less in
      let e' : x ≡ slice_index_or d.clauses.items j x = e ∙ ap (λ (cs : List Clause). slice_index_or cs j x) same in
      record {
        got = ap (λ cs. slice_get cs j) (clauses_at forms ms k d low there) ∙ clause_got forms d.clauses.items j x less' e';
        has = has_clause forms ms k d j x modules low there less' e';
      }
