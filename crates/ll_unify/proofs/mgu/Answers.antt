use Rattle.std.proofs.Common.{◌≡◌, length, refl, subst, sym, ap, ◌∙◌}
use Rattle.std.specs.Prelude.{Some, None}
use Rattle.ll_bank.specs.Nodes.{term_trees}
use Rattle.ll_bank.proofs.CallerLemmas.{Extends-refl}
use Rattle.ll_laws.specs.Unify.{mgu}
use Rattle.ll_unify.specs.Bindings.{count}
use Rattle.ll_unify.specs.Solving.{IsAnswer, IsSolved, wanted}
use Rattle.ll_unify.specs.Copied.{AreFinal}
use Rattle.ll_unify.specs.declared.Subst.{Subst}
use Rattle.ll_unify.specs.Tables.{table_of}
use Rattle.ll_unify.specs.Unifies.{solved_of}
use Rattle.ll_unify.proofs.Answer.{start-table, start-bound, start-places, start-wanted, answer-exact, answer-entries, exact-best}
use Rattle.ll_unify.proofs.mgu.Goals as goal
use Rattle.ll_unify.proofs.mgu.Goals.{In_ok-bound}

-- the bindings are what is asked for
solved : (c : In_ok-bound) → IsAnswer c.args.bank.now (table_of c.in_ok-table.table) (table_of c.unify.new.table)
    (wanted c.args.bank.now (table_of c.in_ok-table.table) (term_trees c.args.bank.now c.args.left.now) (term_trees c.args.bank.now c.args.right.now))
solved c =
    subst (IsSolved c.args.bank.now (table_of c.in_ok-table.table) (table_of c.unify.new.table)
    (wanted c.args.bank.now (table_of c.in_ok-table.table) (term_trees c.args.bank.now c.args.left.now) (term_trees c.args.bank.now c.args.right.now)))
    c.if-not-branch.false c.in_ok-unify.ensures.solved

-- the answer
abbrev answer : In_ok-bound → Subst
answer c = record { bound = c.in_ok-bound.bound; levels = c.unify.new.table.levels }

-- as many cells are copied as there are levels
sized : (c : In_ok-bound) → count (table_of c.unify.new.table) ≡ length c.args.levels.now
sized c = (solved c).same_count ∙ ap length c.in_ok-table.ensures.levels

final : (c : In_ok-bound) → AreFinal c.args.bank.now c.read_cells.new.bank (table_of c.unify.new.table) (count (table_of c.unify.new.table))
    c.in_ok-bound.bound.items
final c = subst (λ n. AreFinal c.args.bank.now c.read_cells.new.bank (table_of c.unify.new.table) n c.in_ok-bound.bound.items) (sym (sized c))
    c.in_ok-bound.ensures.cells

-- it is the one that is asked for
exact : (c : In_ok-bound) → Some (solved_of c.read_cells.new.bank (answer c))
    ≡ mgu (term_trees c.args.bank.now c.args.left.now) (term_trees c.args.bank.now c.args.right.now) c.args.levels.now
exact c =
    answer-exact c.args.bank.now c.read_cells.new.bank (table_of c.in_ok-table.table) (table_of c.unify.new.table) (answer c)
    (wanted c.args.bank.now (table_of c.in_ok-table.table) (term_trees c.args.bank.now c.args.left.now) (term_trees c.args.bank.now c.args.right.now))
    (solved c) (final c) refl ∙ start-wanted c.args.bank.now c.in_ok-table.table c.args.levels.now
    (term_trees c.args.bank.now c.args.left.now) (term_trees c.args.bank.now c.args.right.now) c.in_ok-table.ensures

pub unify-requires-clause-table : goal.unify-requires-clause-table
unify-requires-clause-table c =
    start-table c.args.bank.now c.in_ok-table.table c.args.levels.now c.in_ok-table.ensures

pub unify-requires-clause-left : goal.unify-requires-clause-left
unify-requires-clause-left c =
    start-places c.args.bank.now c.in_ok-table.table c.args.levels.now c.args.left.now c.in_ok-table.ensures c.requires.left c.requires.left_levels

pub unify-requires-clause-right : goal.unify-requires-clause-right
unify-requires-clause-right c =
    start-places c.args.bank.now c.in_ok-table.table c.args.levels.now c.args.right.now c.in_ok-table.ensures c.requires.right c.requires.right_levels

pub returns-in_err-table-clause-keeps : goal.returns-in_err-table-clause-keeps
returns-in_err-table-clause-keeps c =
    Extends-refl c.args.bank.now

pub returns-in_err-unify-clause-keeps : goal.returns-in_err-unify-clause-keeps
returns-in_err-unify-clause-keeps c =
    Extends-refl c.args.bank.now

pub returns-then-not-branch-clause-keeps : goal.returns-then-not-branch-clause-keeps
returns-then-not-branch-clause-keeps c =
    Extends-refl c.args.bank.now

pub returns-then-not-branch-clause-exact : goal.returns-then-not-branch-clause-exact
returns-then-not-branch-clause-exact c =
    sym (subst (IsSolved c.args.bank.now (table_of c.in_ok-table.table) (table_of c.unify.new.table)
    (wanted c.args.bank.now (table_of c.in_ok-table.table) (term_trees c.args.bank.now c.args.left.now) (term_trees c.args.bank.now c.args.right.now)))
    c.if-not-branch.true c.in_ok-unify.ensures.solved) ∙ start-wanted c.args.bank.now c.in_ok-table.table c.args.levels.now
    (term_trees c.args.bank.now c.args.left.now) (term_trees c.args.bank.now c.args.right.now) c.in_ok-table.ensures

pub returns-then-not-branch-clause-best : goal.returns-then-not-branch-clause-best
returns-then-not-branch-clause-best c =
    exact-best (term_trees c.args.bank.now c.args.left.now) (term_trees c.args.bank.now c.args.right.now) c.args.levels.now None c.requires.left_levels
    c.requires.right_levels
    (sym (subst (IsSolved c.args.bank.now (table_of c.in_ok-table.table) (table_of c.unify.new.table)
    (wanted c.args.bank.now (table_of c.in_ok-table.table) (term_trees c.args.bank.now c.args.left.now) (term_trees c.args.bank.now c.args.right.now)))
    c.if-not-branch.true c.in_ok-unify.ensures.solved) ∙ start-wanted c.args.bank.now c.in_ok-table.table c.args.levels.now
    (term_trees c.args.bank.now c.args.left.now) (term_trees c.args.bank.now c.args.right.now) c.in_ok-table.ensures)

pub read_cells-requires-clause-places : goal.read_cells-requires-clause-places
read_cells-requires-clause-places c =
    (c.in_ok-unify.ensures.cells c.if-not-branch.false).bound (start-bound c.args.bank.now c.in_ok-table.table c.args.levels.now c.in_ok-table.ensures)

pub returns-clause-exact : goal.returns-clause-exact
returns-clause-exact c = exact (goal.at.returns-clause-exact c).In_ok-bound

pub returns-clause-entries : goal.returns-clause-entries
returns-clause-entries c =
    let b = (goal.at.returns-clause-entries c).In_ok-bound in
    answer-entries c.args.bank.now c.read_cells.new.bank (table_of c.unify.new.table) (answer b) (length c.args.levels.now) (solved b).table
    (sized b) (final b)

pub returns-clause-best : goal.returns-clause-best
returns-clause-best c =
    let b = (goal.at.returns-clause-best c).In_ok-bound in
    exact-best (term_trees c.args.bank.now c.args.left.now) (term_trees c.args.bank.now c.args.right.now) c.args.levels.now
    (Some (solved_of c.read_cells.new.bank (answer b))) c.requires.left_levels c.requires.right_levels (exact b)
