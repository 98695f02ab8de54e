use Rattle.std.proofs.Common.{◌∷◌, [], sym, subst}
use Rattle.std.proofs.lemmas.Result.{IfOk-weaker}
use Rattle.ll_bank.specs.Term.{Term, close}
use Rattle.ll_bank.specs.Nodes.{term_tree}
use Rattle.ll_bank.proofs.CallerLemmas.{Extends-refl, term_tree-extends}
use Rattle.ll_unify.specs.Fresh.{AreFresh, LeavesFresh}
use Rattle.ll_unify.specs.Solving.{Settles}
use Rattle.ll_unify.proofs.CallerLemmas.{table-extends}
use Rattle.ll_bank.specs.Environments.{values_in}
use Rattle.ll_store.specs.Tables.{table_of}
use Rattle.ll_bind.proofs.Heads.{end_more, fresh_more}
use Rattle.ll_bind.proofs.Building.{settles-shown}
use Rattle.ll_bind.proofs.head.meet_pattern.Goals as goal

pub meet-requires-in-Unbuilt-clause-store : goal.meet-requires-in-Unbuilt-clause-store
meet-requires-in-Unbuilt-clause-store c =
    let s = c.args.store.now in
    rw c.build.ensures.cells (table-extends s.bank c.build.new.store.bank (table_of s.cells.cells) c.requires.store c.build.ensures.keeps)

pub meet-requires-in-Unbuilt-clause-left : goal.meet-requires-in-Unbuilt-clause-left
meet-requires-in-Unbuilt-clause-left c =
    let s = c.args.store.now in
    rw c.build.ensures.cells
    (end_more s.bank c.build.new.store.bank (table_of s.cells.cells) c.args.equation.place.0 c.requires.store c.build.ensures.keeps c.requires.place)

pub meet-requires-in-Unbuilt-clause-right : goal.meet-requires-in-Unbuilt-clause-right
meet-requires-in-Unbuilt-clause-right c = rw c.build.ensures.cells c.in_ok-right-in-Unbuilt.ensures.same.place

pub meet-requires-in-Unbuilt-clause-fresh : goal.meet-requires-in-Unbuilt-clause-fresh
meet-requires-in-Unbuilt-clause-fresh c =
    let s = c.args.store.now in
    rw c.build.ensures.cells
    (subst (λ (u : Term). AreFresh c.build.new.store.bank (table_of s.cells.cells) c.args.fresh.now (u ∷ []))
    (sym (term_tree-extends c.build.ensures.keeps c.args.equation.place.0 c.requires.place.place.inside))
    (fresh_more s.bank c.build.new.store.bank (table_of s.cells.cells) c.requires.store c.build.ensures.keeps c.args.fresh.now
    (term_tree s.bank c.args.equation.place.0 ∷ []) c.requires.fresh))

pub returns-in_ok-right-in-Unbuilt-clause-settles : goal.returns-in_ok-right-in-Unbuilt-clause-settles
returns-in_ok-right-in-Unbuilt-clause-settles c =
    let s = c.args.store.now in let b = c.build.new.store.bank in let after = table_of c.meet-in-Unbuilt.new.store.cells.cells in
    IfOk-weaker c.meet-in-Unbuilt.result _ _
    (λ good h. rw c.meet-in-Unbuilt.ensures.bank (settles-shown s.bank b (table_of s.cells.cells) after c.args.equation.place.0
    c.in_ok-right-in-Unbuilt.right.0 (close (values_in c.args.environment) (term_tree s.bank c.args.equation.pattern.0)) good c.requires.store
    c.build.ensures.keeps c.requires.place.place.inside c.in_ok-right-in-Unbuilt.ensures.same
    (subst (λ cs. Settles b (table_of cs.cells) after (term_tree b c.args.equation.place.0 ∷ []) (term_tree b c.in_ok-right-in-Unbuilt.right.0 ∷ []) good)
    c.build.ensures.cells h))) c.meet-in-Unbuilt.ensures.settles

pub returns-in_ok-right-in-Unbuilt-clause-fresh : goal.returns-in_ok-right-in-Unbuilt-clause-fresh
returns-in_ok-right-in-Unbuilt-clause-fresh c =
    let s = c.args.store.now in let b = c.build.new.store.bank in let after = table_of c.meet-in-Unbuilt.new.store.cells.cells in
    let g = c.meet-in-Unbuilt.new.fresh in
    IfOk-weaker c.meet-in-Unbuilt.result _ _
    (λ good h e. rw c.meet-in-Unbuilt.ensures.bank
    (subst (λ (u : Term). LeavesFresh b (table_of s.cells.cells) after c.args.fresh.now g (u ∷ []) [])
    (term_tree-extends c.build.ensures.keeps c.args.equation.place.0 c.requires.place.place.inside)
    (subst (λ cs. LeavesFresh b (table_of cs.cells) after c.args.fresh.now g (term_tree b c.args.equation.place.0 ∷ []) []) c.build.ensures.cells
    (h e)))) c.meet-in-Unbuilt.ensures.fresh

pub returns-in-Place-clause-keeps : goal.returns-in-Place-clause-keeps
returns-in-Place-clause-keeps c = rw c.meet.ensures.bank (Extends-refl c.args.store.now.bank)

pub returns-in-Place-clause-fresh : goal.returns-in-Place-clause-fresh
returns-in-Place-clause-fresh c = IfOk-weaker c.meet.result _ _ (λ good h e. rw c.meet.ensures.bank (h e)) c.meet.ensures.fresh
