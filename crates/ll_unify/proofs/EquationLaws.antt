-- Laws of equations that are cited above.
use Rattle.std.proofs.Common.{◌≡◌, ℕ, List, map, refl, ◌∙◌}
use Rattle.std.specs.Prelude.{Option, Some, None, option_map}
use Rattle.ll_bank.specs.Term.{Term, Var, sub}
use Rattle.ll_bank.specs.Nodes.{Nodes}
use Rattle.ll_laws.specs.Unify.{Solved, mgu}
use Rattle.ll_laws.proofs.CallerLemmas.{subs_id}
use Rattle.ll_unify.specs.Bindings.{Table, cell, found}
use Rattle.ll_unify.proofs.Readings.{found-free}
use Rattle.ll_unify.specs.Solving.{along, wanted}

-- Laws of unification for the crates above.

-- where nothing is bound, what unifies the lists as they stand
pub wanted-start : (nodes : Nodes) (t : Table) (ls rs : List Term) → ((x : ℕ) → cell t x ≡ None) → wanted nodes t ls rs ≡ mgu ls rs t.levels
wanted-start nodes t ls rs h =
    (λ i. option_map (along (free i)) (mgu (map (sub (free i)) ls) (map (sub (free i)) rs) t.levels))
    ∙ ((λ i. option_map (along Var) (mgu (subs_id ls i) (subs_id rs i) t.levels)) ∙ same (mgu ls rs t.levels))
  where
    free : found nodes t ≡ Var
    free = λ i x. found-free nodes t x (h x) i

    same : (o : Option Solved) → option_map (along Var) o ≡ o
    same None = refl
    same (Some v) = refl
