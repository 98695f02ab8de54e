-- Terms read under bindings, as a bank and its cells grow.
use Rattle.std.proofs.Common.{◌≡◌, ℕ, zero, suc, ◌≤◌, List, [], ◌∷◌, ◌++◌, length, replicate, All, get_or, refl, ap, sym, subst, ◌∙◌, arith, Option, Some}
use Rattle.std.proofs.Common.{None, append_assoc}
use Rattle.std.specs.Prelude.{slice_index_or}
use Rattle.std.proofs.lemmas.List.{append-nil}
use Rattle.std.proofs.lemmas.List.Elements.{All-nil, All-cons, All-head, All-tail}
use Rattle.ll_bank.specs.declared.At.{At}
use Rattle.ll_bank.specs.Term.{Term, Var, sub}
use Rattle.ll_bank.specs.Nodes.{Nodes, HasTerm, term_tree, term_trees, Extends}
use Rattle.ll_bank.proofs.CallerLemmas.{term_tree-extends, HasTerm-extends, length-term_trees}
use Rattle.ll_laws.specs.Attempt.{vars_from}
use Rattle.ll_laws.proofs.CallerLemmas.{length-vars, sub_same}
use Rattle.ll_unify.specs.Bindings.{Table, shown, followed, IsTable, IsOrdered}
use Rattle.ll_unify.proofs.CallerLemmas.{followed-free, table-extends, table-fresh, found-fresh}
use Rattle.ll_store.specs.declared.cells.Cell.{Cell}
use Rattle.ll_store.specs.Tables.{table_of}
use Rattle.ll_freeze.specs.Parts.{Parts, table}
use Rattle.ll_freeze.specs.Reading.{reading, HasValue}
use Rattle.ll_freeze.specs.Fits.{Fits}

-- what an entry shows stays
shown_same : (old new : Nodes) → Extends old new → (x : ℕ) (o : Option At) → HasValue old o → shown new x o ≡ shown old x o
shown_same old new e x None h = refl
shown_same old new e x (Some at) h = term_tree-extends e at.0 h

entry_has : (nodes : Nodes) (bound : List (Option At)) → All (HasValue nodes) bound → (x : ℕ) → HasValue nodes (slice_index_or bound x None)
entry_has nodes [] h x = tt
entry_has nodes (o ∷ bound) h zero = All-head (HasValue nodes) o bound h
entry_has nodes (o ∷ bound) h (suc x) = entry_has nodes bound (All-tail (HasValue nodes) o bound h) x

followed_same : (old new : Nodes) → Extends old new → (bound : List (Option At)) → All (HasValue old) bound → (n x : ℕ)
    → followed new bound n x ≡ followed old bound n x
followed_same old new e bound h zero x = refl
followed_same old new e bound h (suc n) x =
    let o = slice_index_or bound x None in
    ap (sub (followed new bound n)) (shown_same old new e x o (entry_has old bound h x))
    ∙ sub_same (followed new bound n) (followed old bound n) (followed_same old new e bound h n) (shown old x o)

-- and so does every variable's reading
pub reading_same : (old new : Nodes) → Extends old new → (bound : List (Option At)) → All (HasValue old) bound → (x : ℕ)
    → reading new bound x ≡ reading old bound x
reading_same old new e bound h x = followed_same old new e bound h (length bound) x

-- and every term's
pub read_same : (old new : Nodes) → Extends old new → (bound : List (Option At)) → All (HasValue old) bound → (at : ℕ) → HasTerm old at
    → sub (reading new bound) (term_tree new at) ≡ sub (reading old bound) (term_tree old at)
read_same old new e bound h at l = ap (sub (reading new bound)) (term_tree-extends e at l)
    ∙ sub_same (reading new bound) (reading old bound) (reading_same old new e bound h) (term_tree old at)

-- entries stay in the bank
pub values_extend : (old new : Nodes) → Extends old new → (bound : List (Option At)) → All (HasValue old) bound → All (HasValue new) bound
values_extend old new e bound h k d l = go (get_or bound k d) (h k d l)
  where
    go : (o : Option At) → HasValue old o → HasValue new o
    go None v = tt
    go (Some at) v = HasTerm-extends e at.0 v

-- a variable past all entries stands for itself
entry_past : (bound : List (Option At)) (x : ℕ) → length bound ≤ x → slice_index_or bound x None ≡ None
entry_past [] x l = refl
entry_past (o ∷ bound) zero l = absurd (omega arith)
entry_past (o ∷ bound) (suc x) l = entry_past bound x (omega arith)

pub reading_past : (nodes : Nodes) (bound : List (Option At)) (x : ℕ) → length bound ≤ x → reading nodes bound x ≡ Var x
reading_past nodes bound x l = followed-free nodes bound (length bound) x (entry_past bound x l)

-- ---- tables

-- the entries of a table are places of the bank
pub table_values : (nodes : Nodes) (bound : List (Option At)) → ((x : ℕ) (at : At) → slice_index_or bound x None ≡ Some at → HasTerm nodes at.0)
    → All (HasValue nodes) bound
table_values nodes [] h = All-nil (HasValue nodes)
table_values nodes (o ∷ bound) h = All-cons (HasValue nodes) o bound (one o (h 0)) (table_values nodes bound (λ x at e. h (suc x) at e))
  where
    one : (p : Option At) → ((at : At) → p ≡ Some at → HasTerm nodes at.0) → HasValue nodes p
    one None k = tt
    one (Some at) k = k at refl

value_at : (nodes : Nodes) (bound : List (Option At)) → All (HasValue nodes) bound → (x : ℕ) (at : At) → slice_index_or bound x None ≡ Some at
    → HasTerm nodes at.0
value_at nodes bound h x at e = subst (HasValue nodes) e (entry_has nodes bound h x)

-- the bindings of a machine are a table
pub fits_table : (m : Parts) → Fits m → IsTable m.bank (table m)
fits_table m f = record { bound = f.count; places = value_at m.bank m.bound f.bound; ordered = f.ordered }

-- so they are as the bank grows
pub ordered_extends : (m : Parts) (bank : Nodes) → Fits m → Extends m.bank bank → IsOrdered bank (table m)
ordered_extends m bank f e = (table-extends m.bank bank (table m) (fits_table m f) e).ordered

-- ---- more cells

-- with so many unbound cells more
abbrev pub with_cells : Table → ℕ → ℕ → Table
with_cells t n l = record { bound = t.bound ++ replicate n None; levels = t.levels ++ replicate n l }

pub same_table : (t : Table) (bound : List (Option At)) (levels : List ℕ) → bound ≡ t.bound → levels ≡ t.levels → record { bound = bound; levels = levels } ≡ t
same_table t bound levels p q = λ i. record { bound = p i; levels = q i }

none_more : (t : Table) (l : ℕ) → with_cells t 0 l ≡ t
none_more t l = same_table t (t.bound ++ []) (t.levels ++ []) (append-nil t.bound) (append-nil t.levels)

one_more : (t : Table) (n l : ℕ) → with_cells t (suc n) l ≡ with_cells (with_cells t 1 l) n l
one_more t n l = λ i. record {
  bound = sym (append_assoc t.bound (None ∷ []) (replicate n None)) i;
  levels =
      sym (append_assoc t.levels (l ∷ []) (replicate n l)) i;
}

pub table_more : (nodes : Nodes) (t : Table) (n l : ℕ) → IsTable nodes t → IsTable nodes (with_cells t n l)
table_more nodes t zero l h = subst (IsTable nodes) (sym (none_more t l)) h
table_more nodes t (suc n) l h = subst (IsTable nodes) (sym (one_more t n l)) (table_more nodes (with_cells t 1 l) n l (table-fresh nodes t l h))

pub reads_more : (nodes : Nodes) (t : Table) (n l : ℕ) → IsTable nodes t → (x : ℕ) → reading nodes (t.bound ++ replicate n None) x ≡ reading nodes t.bound x
reads_more nodes t zero l h x = ap (λ bs. reading nodes bs x) (append-nil t.bound)
reads_more nodes t (suc n) l h x =
    ap (λ bs. reading nodes bs x) (sym (append_assoc t.bound (None ∷ []) (replicate n None)))
    ∙ (reads_more nodes (with_cells t 1 l) n l (table-fresh nodes t l h) x ∙ found-fresh nodes t l h x)

-- the cells of a store with more
pub bound_more : (cells : List Cell) (n l : ℕ) → (table_of (cells ++ replicate n (record { to = None; level = l }))).bound ≡ (table_of cells).bound
    ++ replicate n None
bound_more [] zero l = refl
bound_more [] (suc n) l = ap (λ bs. None ∷ bs) (bound_more [] n l)
bound_more (c ∷ cells) n l = ap (λ bs. c.to ∷ bs) (bound_more cells n l)

pub levels_more : (cells : List Cell) (n l : ℕ) → (table_of (cells ++ replicate n (record { to = None; level = l }))).levels ≡ (table_of cells).levels
    ++ replicate n l
levels_more [] zero l = refl
levels_more [] (suc n) l = ap (λ ls. l ∷ ls) (levels_more [] n l)
levels_more (c ∷ cells) n l = ap (λ ls. c.level ∷ ls) (levels_more cells n l)

pub cells_bound : (old new : List Cell) (n count l : ℕ) → new ≡ old ++ replicate n (record { to = None; level = l }) → n ≡ count
    → (table_of new).bound ≡ (table_of old).bound ++ replicate count None
cells_bound old new n count l e s = ap (λ cs. (table_of cs).bound) e ∙ (bound_more old n l ∙ ap (λ k. (table_of old).bound ++ replicate k None) s)

pub cells_levels : (old new : List Cell) (n count l : ℕ) → new ≡ old ++ replicate n (record { to = None; level = l }) → n ≡ count
    → (table_of new).levels ≡ (table_of old).levels ++ replicate count l
cells_levels old new n count l e s = ap (λ cs. (table_of cs).levels) e ∙ (levels_more old n l ∙ ap (λ k. (table_of old).levels ++ replicate k l) s)

-- ---- lists of terms

-- as many terms as variables
pub length_variables : (nodes : Nodes) (ats : List At) (n : ℕ) → term_trees nodes ats ≡ vars_from 0 n → length ats ≡ n
length_variables nodes ats n e = sym (length-term_trees nodes ats) ∙ (ap (λ (ts : List Term). length ts) e ∙ length-vars 0 n)
