-- The cells of a store as a table of bindings.
use Rattle.std.specs.Prelude.{◌≡◌, ◌++◌, List, [], ◌∷◌, map}
use Rattle.std.proofs.Common.{refl, ap, sym, ◌∙◌, append_assoc}
use Rattle.std.proofs.lemmas.List.{append-nil}
use Rattle.ll_store.specs.declared.cells.Cell.{Cell}
use Rattle.ll_store.specs.declared.cells.Change.{Change}
use Rattle.ll_store.specs.Cells.{taken_back, before}
use Rattle.ll_store.specs.Trails.{Trailed, Grows}
use Rattle.ll_unify.specs.Bindings.{Table}

-- what the cells are bound to, and their levels
abbrev pub table_of : List Cell → Table
table_of cells = record { bound = map (λ c. c.to) cells; levels = map (λ c. c.level) cells }

-- later changes are taken back first
pub before-append : (cs ds : List Change) (cells : List Cell) → before (cs ++ ds) cells ≡ before cs (before ds cells)
before-append [] ds cells = refl
before-append (c ∷ cs) ds cells = ap (taken_back c) (before-append cs ds cells)

-- cells that stay as they are
pub grows-same : (s : Trailed) → Grows s s
grows-same s = record { more = []; changes = sym (append-nil s.changes); back = refl }

-- cells that grew twice
pub grows-again : (s t u : Trailed) → Grows s t → Grows t u → Grows s u
grows-again s t u h k = record {
  more = h.more ++ k.more;
  changes = k.changes ∙ (ap (λ cs. cs ++ k.more) h.changes ∙ append_assoc s.changes h.more k.more);
  back = before-append h.more k.more u.cells ∙ (ap (before h.more) k.back ∙ h.back);
}
