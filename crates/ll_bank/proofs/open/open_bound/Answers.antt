use Rattle.std.proofs.Common.{◌≡◌, sym, subst, arith, true, ℕ, ◌<◌, ◌≤◌}
use Rattle.std.specs.Prelude.{IfOk}
use Rattle.ll_bank.specs.Term.{apply, applies_heads}
use Rattle.ll_bank.specs.Nodes.{term_tree, term_trees, ShowsTerm}
use Rattle.ll_bank.proofs.OpenLemmas.{head_here, head_inside, head_outside}
use Rattle.ll_bank.proofs.open.open_bound.Goals as goal

not_equal : (k n : ℕ) → (k ≡ n → ⊥) → k ≤ n → k < n
not_equal k n f l = omega arith

pub put_value-requires-clause-heads : goal.put_value-requires-clause-heads
put_value-requires-clause-heads c =
    subst (λ u. applies_heads (apply u (term_trees c.args.bank.now c.args.args.now)) ≡ true)
    (head_here (term_tree c.args.bank.now c.args.value.0) c.args.level c.args.bound c.if-bound-level.true) c.requires.heads

pub returns-then-bound-level-clause-shows : goal.returns-then-bound-level-clause-shows
returns-then-bound-level-clause-shows c =
    subst (λ u. IfOk c.put_value.result (λ image. ShowsTerm c.put_value.new.bank image.0 (apply u (term_trees c.args.bank.now c.args.args.now))))
    (sym (head_here (term_tree c.args.bank.now c.args.value.0) c.args.level c.args.bound c.if-bound-level.true)) c.put_value.ensures.shows

pub returns-then-bound-level-2-clause-shows : goal.returns-then-bound-level-2-clause-shows
returns-then-bound-level-2-clause-shows c =
    subst (λ u. IfOk c.app.result (λ image. ShowsTerm c.app.new.self image.0 (apply u (term_trees c.args.bank.now c.args.args.now))))
    (sym (head_outside (term_tree c.args.bank.now c.args.value.0) c.args.level c.args.bound c.if-bound-level-2.true)) c.app.ensures.shows

pub returns-else-bound-level-2-clause-shows : goal.returns-else-bound-level-2-clause-shows
returns-else-bound-level-2-clause-shows c =
    subst (λ u. IfOk c.share_term.result (λ image. ShowsTerm c.share_term.new.bank image.0 (apply u (term_trees c.args.bank.now c.args.args.now))))
    (sym (head_inside (term_tree c.args.bank.now c.args.value.0) c.args.level c.args.bound
    (not_equal c.args.bound c.args.level c.if-bound-level.false c.if-bound-level-2.false))) c.share_term.ensures.shows
