use Rattle.std.proofs.Common.{[], ◌∷◌, refl, sym, subst}
use Rattle.std.proofs.lemmas.Result.{IfOk-weaker}
use Rattle.ll_bank.specs.Term.{Term, Var}
use Rattle.ll_bank.specs.Nodes.{term_tree}
use Rattle.ll_bank.proofs.CallerLemmas.{Extends-refl, term_tree-extends}
use Rattle.ll_unify.specs.Fresh.{AreFresh, LeavesFresh}
use Rattle.ll_unify.specs.Solving.{Settles}
use Rattle.ll_unify.proofs.CallerLemmas.{table-extends, var-below}
use Rattle.ll_store.specs.declared.store.Store.{Store}
use Rattle.ll_store.specs.Stored.{stored}
use Rattle.ll_store.specs.Tables.{table_of}
use Rattle.ll_bind.proofs.Heads.{end_more, fresh_more, marks_bank, marks_more, marks_then}
use Rattle.ll_bind.proofs.Building.{settles-shown}
use Rattle.ll_bind.proofs.head.meet_variable.Goals as goal

pub is_new-requires-clause-below : goal.is_new-requires-clause-below
is_new-requires-clause-below c =
    let s = c.args.store.now in var-below s.bank (table_of s.cells.cells) c.args.var (Var c.args.var) c.requires.vars refl

pub bind_new-requires-clause-below : goal.bind_new-requires-clause-below
bind_new-requires-clause-below c =
    let s = c.args.store.now in var-below s.bank (table_of s.cells.cells) c.args.var (Var c.args.var) c.requires.vars refl

pub value_of-requires-clause-below : goal.value_of-requires-clause-below
value_of-requires-clause-below c =
    let s = c.args.store.now in var-below s.bank (table_of s.cells.cells) c.args.var (Var c.args.var) c.requires.vars refl

pub returns-in_err-bind_new-clause-keeps : goal.returns-in_err-bind_new-clause-keeps
returns-in_err-bind_new-clause-keeps c = Extends-refl c.args.store.now.bank

pub returns-in_err-bind_new-clause-marks : goal.returns-in_err-bind_new-clause-marks
returns-in_err-bind_new-clause-marks c =
    let new : Store = record { bank = c.args.store.now.bank; cells = c.bind_new.new.table } in
    marks_more c.args.store.now new (Extends-refl c.args.store.now.bank) c.bind_new.ensures.grows

pub returns-then-is_new-clause-keeps : goal.returns-then-is_new-clause-keeps
returns-then-is_new-clause-keeps c = Extends-refl c.args.store.now.bank

pub returns-then-is_new-clause-marks : goal.returns-then-is_new-clause-marks
returns-then-is_new-clause-marks c =
    let new : Store = record { bank = c.args.store.now.bank; cells = c.bind_new.new.table } in
    marks_more c.args.store.now new (Extends-refl c.args.store.now.bank) c.bind_new.ensures.grows

pub returns-in_err-right-clause-marks : goal.returns-in_err-right-clause-marks
returns-in_err-right-clause-marks c = marks_bank c.args.store.now c.value_of.new.store c.value_of.ensures.keeps c.value_of.ensures.cells

pub returns-clause-marks : goal.returns-clause-marks
returns-clause-marks c =
    let old = c.args.store.now in let made = c.value_of.new.store in
    marks_then (stored old) (stored made) (stored c.meet.new.store) (marks_bank old made c.value_of.ensures.keeps c.value_of.ensures.cells)
    c.meet.ensures.marks

pub meet-requires-clause-store : goal.meet-requires-clause-store
meet-requires-clause-store c =
    let s = c.args.store.now in
    rw c.value_of.ensures.cells (table-extends s.bank c.value_of.new.store.bank (table_of s.cells.cells) c.requires.store c.value_of.ensures.keeps)

pub meet-requires-clause-left : goal.meet-requires-clause-left
meet-requires-clause-left c =
    let s = c.args.store.now in
    rw c.value_of.ensures.cells
    (end_more s.bank c.value_of.new.store.bank (table_of s.cells.cells) c.args.place.0 c.requires.store c.value_of.ensures.keeps c.requires.place)

pub meet-requires-clause-right : goal.meet-requires-clause-right
meet-requires-clause-right c = rw c.value_of.ensures.cells c.in_ok-right.ensures.same.place

pub meet-requires-clause-fresh : goal.meet-requires-clause-fresh
meet-requires-clause-fresh c =
    let s = c.args.store.now in
    rw c.value_of.ensures.cells
    (subst (λ (u : Term). AreFresh c.value_of.new.store.bank (table_of s.cells.cells) c.args.fresh.now (u ∷ []))
    (sym (term_tree-extends c.value_of.ensures.keeps c.args.place.0 c.requires.place.place.inside))
    (fresh_more s.bank c.value_of.new.store.bank (table_of s.cells.cells) c.requires.store c.value_of.ensures.keeps c.args.fresh.now
    (term_tree s.bank c.args.place.0 ∷ []) c.requires.fresh))

pub returns-clause-settles : goal.returns-clause-settles
returns-clause-settles c =
    let s = c.args.store.now in
    IfOk-weaker c.meet.result _ _
    (λ good h. rw c.meet.ensures.bank (settles-shown s.bank c.value_of.new.store.bank (table_of s.cells.cells) (table_of c.meet.new.store.cells.cells)
    c.args.place.0 c.in_ok-right.right.0 (Var c.args.var) good c.requires.store c.value_of.ensures.keeps c.requires.place.place.inside
    c.in_ok-right.ensures.same
    (subst (λ cs. Settles c.value_of.new.store.bank (table_of cs.cells) (table_of c.meet.new.store.cells.cells)
    (term_tree c.value_of.new.store.bank c.args.place.0 ∷ []) (term_tree c.value_of.new.store.bank c.in_ok-right.right.0 ∷ []) good)
    c.value_of.ensures.cells h))) c.meet.ensures.settles

pub returns-clause-fresh : goal.returns-clause-fresh
returns-clause-fresh c =
    let s = c.args.store.now in
    IfOk-weaker c.meet.result _ _
    (λ good h e. rw c.meet.ensures.bank
    (subst (λ (u : Term). LeavesFresh c.value_of.new.store.bank (table_of s.cells.cells) (table_of c.meet.new.store.cells.cells) c.args.fresh.now
    c.meet.new.fresh (u ∷ []) []) (term_tree-extends c.value_of.ensures.keeps c.args.place.0 c.requires.place.place.inside)
    (subst (λ cs. LeavesFresh c.value_of.new.store.bank (table_of cs.cells) (table_of c.meet.new.store.cells.cells) c.args.fresh.now c.meet.new.fresh
    (term_tree c.value_of.new.store.bank c.args.place.0 ∷ []) []) c.value_of.ensures.cells (h e)))) c.meet.ensures.fresh
