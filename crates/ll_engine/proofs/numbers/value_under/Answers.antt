use Rattle.std.proofs.Common.{◌≡◌, ℕ, zero, suc, ◌<◌, List, [], ◌∷◌, length, get_or, IfOk, refl, sym, ap, subst, ◌∙◌, arith}
use Rattle.ll_bank.specs.Term.{Term}
use Rattle.ll_bank.specs.Nodes.{Nodes, term_tree, term_trees, HasTerm}
use Rattle.ll_bank.specs.declared.At.{At}
use Rattle.ll_unify.specs.Bindings.{IsPlaceOf}
use Rattle.ll_store.specs.Tables.{table_of}
use Rattle.ll_laws.specs.Number.{operators_of, value_of}
use Rattle.std.proofs.lemmas.Result.{IfOk-from_err}
use Rattle.ll_engine.proofs.numbers.value_under.Goals as goal

pub read_all-requires-clause-table : goal.read_all-requires-clause-table
read_all-requires-clause-table c = c.requires.table

pub returns-in_err-read-clause-value : goal.returns-in_err-read-clause-value
returns-in_err-read-clause-value c = IfOk-from_err c.from_residual.result _ c.from_residual.ensures.0

pub returns-in_err-read-clause-keeps : goal.returns-in_err-read-clause-keeps
returns-in_err-read-clause-keeps c = c.read_all.ensures.keeps

pub returns-in_err-read-clause-cells : goal.returns-in_err-read-clause-cells
returns-in_err-read-clause-cells c = refl

pub returns-clause-keeps : goal.returns-clause-keeps
returns-clause-keeps c = c.read_all.ensures.keeps

pub returns-clause-cells : goal.returns-clause-cells
returns-clause-cells c = refl

one_place : (P : ℕ → Type 0) (x : At) → P x.0 → (k : ℕ) (d : At) → k < 1 → P (get_or (x ∷ []) k d).0
one_place P x p zero d l = p
one_place P x p (suc k) d l = absurd (omega arith)

-- what was read of one place stands alone
some_read : (bank : Nodes) (xs : List At) {t : Term} → term_trees bank xs ≡ t ∷ [] → 0 < length xs
some_read bank [] e = cc
some_read bank (x ∷ xs) e = omega arith

first_read : (bank : Nodes) (xs : List At) {t : Term} (at : At) → term_trees bank xs ≡ t ∷ [] → at ≡ get_or xs 0 at → term_tree bank at.0 ≡ t
first_read bank [] at e h = cc
first_read bank (x ∷ xs) at e h = ap (λ (a : At). term_tree bank a.0) h ∙ cc

pub slice_bounds-read_all-end : goal.slice_bounds-read_all-end
slice_bounds-read_all-end c = refl

pub read_all-requires-clause-places : goal.read_all-requires-clause-places
read_all-requires-clause-places c =
    one_place (IsPlaceOf c.args.store.now.bank (table_of c.args.store.now.cells.cells)) c.args.expression c.requires.place

pub index-requires : goal.index-requires
index-requires c =
    subst (λ n. 0 < n) (sym c.in_ok-read.read.ok.0) (some_read c.read_all.new.bank c.in_ok-read.read.items c.in_ok-read.ensures.shows)

pub value-requires : goal.value-requires
value-requires c =
    let some = some_read c.read_all.new.bank c.in_ok-read.read.items c.in_ok-read.ensures.shows in
    subst (λ (a : At). HasTerm c.read_all.new.bank a.0) (sym c.index.ensures) (c.in_ok-read.ensures.inside 0 c.index.result.now some)

pub returns-clause-value : goal.returns-clause-value
returns-clause-value c =
    subst (λ (t : Term). IfOk c.value.result (λ found. found ≡ value_of (operators_of c.args.names.now) t))
    (first_read c.read_all.new.bank c.in_ok-read.read.items c.index.result.now c.in_ok-read.ensures.shows c.index.ensures) c.value.ensures
