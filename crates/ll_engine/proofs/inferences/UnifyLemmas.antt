-- What unification on the cells of a store finds.
use Rattle.std.proofs.Common.{◌≡◌, List, [], ◌∷◌, ap, sym, subst, Bool, true, false, Option, Some, None}
use Rattle.std.specs.Prelude.{option_map}
use Rattle.ll_bank.specs.declared.At.{At}
use Rattle.ll_bank.specs.declared.Head.{Head}
use Rattle.ll_bank.specs.declared.environment.Environment.{Environment}
use Rattle.ll_bank.specs.Environments.{values_in}
use Rattle.ll_bank.specs.Term.{Term, app, close, sub}
use Rattle.ll_bank.specs.Nodes.{Nodes, term_tree, term_trees}
use Rattle.ll_store.specs.declared.store.Store.{Store}
use Rattle.ll_store.specs.Tables.{table_of}
use Rattle.ll_laws.specs.Unify.{Solved, mgu}
use Rattle.ll_unify.specs.Bindings.{Table, found}
use Rattle.ll_unify.specs.Solving.{along, wanted, IsSolved}
use Rattle.ll_engine.specs.Taking.{Unifies}

solved_by : (first nodes : Nodes) (old new : Table) (o : Option Solved) (answer : Bool) → IsSolved nodes old new (option_map (along (found first old)) o) answer
    → Unifies first nodes old new o answer
solved_by first nodes old new (Some v) true h =
    let same : along (found first old) v ≡ record { subst = found nodes new; levels = new.levels } = cc in
    record {
      levels_are = sym (ap (λ (s : Solved). s.levels) same);
      table = h.table;
      same_count = h.same_count;
      reads = λ x. sym (ap (λ (s : Solved). s.subst x) same);
    }
solved_by first nodes old new None true h = let e = h.is in absurd (cc (e))
solved_by first nodes old new (Some v) false h = absurd (cc (h))
solved_by first nodes old new None false h = tt

-- two terms, read under the bindings
pub unifies : (first nodes : Nodes) (old new : Table) (l r : Term) (answer : Bool) → IsSolved nodes old new (wanted first old (l ∷ []) (r ∷ [])) answer
    → Unifies first nodes old new (mgu (sub (found first old) l ∷ []) (sub (found first old) r ∷ []) old.levels) answer
unifies first nodes old new l r answer h = solved_by first nodes old new (mgu (sub (found first old) l ∷ []) (sub (found first old) r ∷ []) old.levels) answer h

-- an atom, told by its sign and the places of its arguments, which were lent, and a head closed by its own environment
pub tells : (s : Store) (last : Nodes) (after : Table) (sign : Head) (args lent : List At) (own : Environment) (head : At) (ok : Bool) → lent ≡ args
    → IsSolved last (table_of s.cells.cells) after (wanted s.bank (table_of s.cells.cells) (app sign (term_trees s.bank lent) ∷ [])
    (close (values_in own) (term_tree s.bank head.0) ∷ [])) ok
    → Unifies s.bank last (table_of s.cells.cells) after (mgu (sub (found s.bank (table_of s.cells.cells)) (app sign (term_trees s.bank args)) ∷ [])
    (sub (found s.bank (table_of s.cells.cells)) (close (values_in own) (term_tree s.bank head.0)) ∷ []) (table_of s.cells.cells).levels) ok
tells s last after sign args lent own head ok e h =
    let t = table_of s.cells.cells in
    unifies s.bank last t after (app sign (term_trees s.bank args)) (close (values_in own) (term_tree s.bank head.0)) ok
    (subst (λ xs. IsSolved last t after (wanted s.bank t (app sign (term_trees s.bank xs) ∷ []) (close (values_in own) (term_tree s.bank head.0) ∷ [])) ok) e h)
