-- Laws of a store's cells for the crates above.
use Rattle.std.proofs.Common.{◌≡◌, List, [], ◌∷◌, length, map, drop, refl, ap, arith}
use Rattle.std.specs.Prelude.{None, slice_index_or}
use Rattle.ll_store.specs.declared.cells.Cell.{Cell}
use Rattle.ll_store.specs.Stored.{State}
use Rattle.ll_store.specs.Tables.{table_of}
-- marks of a store are kept as its bank grows
pub use Rattle.ll_store.proofs.MarkLemmas.{marks-extend}
-- marks of a store are kept as cells are added
pub use Rattle.ll_store.proofs.MarkLemmas.{marks-grow}

-- cells of which tables say the same
same_cells : (cs ds : List Cell) → map (λ (c : Cell). c.to) cs ≡ map (λ (c : Cell). c.to) ds → map (λ (c : Cell). c.level) cs ≡ map (λ (c : Cell). c.level) ds
    → cs ≡ ds
same_cells [] [] p q = refl
same_cells [] (d ∷ ds) p q = absurd (let l = ap length p in omega (arith, l))
same_cells (c ∷ cs) [] p q = absurd (let l = ap length p in omega (arith, l))
same_cells (c ∷ cs) (d ∷ ds) p q =
    λ i. (let e : Cell = record { to = slice_index_or (p i) 0 None; level = slice_index_or (q i) 0 0 } in e)
    ∷ same_cells cs ds (ap (drop 1) p) (ap (drop 1) q) i

-- states in which terms are read alike
pub same_states : (s t : State) → s.nodes ≡ t.nodes → (table_of s.cells).bound ≡ (table_of t.cells).bound
    → (table_of s.cells).levels ≡ (table_of t.cells).levels → s ≡ t
same_states s t n p q = let c = same_cells s.cells t.cells p q in λ i. record { nodes = n i; cells = c i }
