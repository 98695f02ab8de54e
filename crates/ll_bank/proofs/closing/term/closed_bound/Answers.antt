use Rattle.std.proofs.Common.{◌≡◌, ◌-◌, ◌≤◌, ℕ, length, ap, sym, subst, arith, ◌∙◌}
use Rattle.std.specs.Prelude.{IfOk, IfSome, IfNone}
use Rattle.ll_bank.specs.declared.At.{At}
use Rattle.ll_bank.specs.declared.Head.TheVariants.{Bound}
use Rattle.ll_bank.specs.declared.closing.values.Values.{Values}
use Rattle.ll_bank.specs.Term.{Con, apply, applies_heads, place}
use Rattle.ll_bank.specs.Nodes.{Nodes, term_tree, term_trees, ShowsTerm}
use Rattle.ll_bank.specs.Closing.{env_in, under}
use Rattle.ll_bank.proofs.Trees.{term_trees-extends}
use Rattle.ll_bank.proofs.closes.Values.{head_low, head_out, head_past}
use Rattle.ll_bank.proofs.closing.term.closed_bound.Goals as goal

pub returns-then-number-level-clause-shows : goal.returns-then-number-level-clause-shows
returns-then-number-level-clause-shows c =
    subst (λ u. IfOk c.share_term.result (λ image. ShowsTerm c.share_term.new.bank image.0 (apply u (term_trees c.args.bank.now c.args.args.now))))
    (sym (head_low (env_in c.args.bank.now c.args.values) c.args.level c.args.bound (omega arith))) c.share_term.ensures.shows

-- a place that shows the value of a bound place shows what stands for it under the quantifiers that were passed
headed : (bank new : Nodes) (values : Values) (level bound at : ℕ) → level ≤ bound → ShowsTerm new at (place (env_in bank values) (bound - level) level)
    → term_tree new at ≡ place (under (env_in bank values) level) bound 0
headed bank new values level bound at l s = s.tree ∙ sym (head_out (env_in bank values) level bound l)

pub put_value-requires-clause-value : goal.put_value-requires-clause-value
put_value-requires-clause-value c =
    let env = env_in c.args.bank.now c.args.values in
    (subst (λ f. IfSome f (λ (at : At). ShowsTerm c.value.new.bank at.0 (place env (c.args.bound - c.args.level) c.args.level))) c.in-Some.is
    (c.in_ok-value.ensures.shows c.args.level)).inside

pub put_value-requires-clause-heads : goal.put_value-requires-clause-heads
put_value-requires-clause-heads c =
    let bank = c.args.bank.now in let new = c.value.new.bank in let env = env_in bank c.args.values in
    let shown = subst (λ f. IfSome f (λ (at : At). ShowsTerm new at.0 (place env (c.args.bound - c.args.level) c.args.level))) c.in-Some.is
    (c.in_ok-value.ensures.shows c.args.level) in
    let head = headed bank new c.args.values c.args.level c.args.bound c.in-Some.value.0 (let l = c.if-number-level.false in omega (arith, l)) shown in
    let trees = term_trees-extends c.value.ensures.keeps c.args.args.now c.requires.places in
    (λ i. applies_heads (apply (head i) (trees i))) ∙ c.requires.heads

pub returns-in-Some-clause-shows : goal.returns-in-Some-clause-shows
returns-in-Some-clause-shows c =
    let bank = c.args.bank.now in let new = c.value.new.bank in let env = env_in bank c.args.values in
    let shown = subst (λ f. IfSome f (λ (at : At). ShowsTerm new at.0 (place env (c.args.bound - c.args.level) c.args.level))) c.in-Some.is
    (c.in_ok-value.ensures.shows c.args.level) in
    let head = headed bank new c.args.values c.args.level c.args.bound c.in-Some.value.0 (let l = c.if-number-level.false in omega (arith, l)) shown in
    let trees = term_trees-extends c.value.ensures.keeps c.args.args.now c.requires.places in
    subst (λ u. IfOk c.put_value.result (λ image. ShowsTerm c.put_value.new.bank image.0 u)) (λ i. apply (head i) (trees i)) c.put_value.ensures.shows

pub returns-in-None-clause-shows : goal.returns-in-None-clause-shows
returns-in-None-clause-shows c =
    let bank = c.args.bank.now in let env = env_in bank c.args.values in
    let past = subst (λ f. IfNone f (length env ≤ c.args.bound - c.args.level)) c.in-None.is c.in_ok-value.ensures.none in
    let head = ap (λ j. Con (Bound (c.args.bound - j))) (c.count.ensures bank)
    ∙ sym (head_past bank c.args.values c.args.level c.args.bound (let l = c.if-number-level.false in omega (arith, l)) past) in
    let trees = term_trees-extends c.value.ensures.keeps c.args.args.now c.requires.places in
    subst (λ u. IfOk c.app.result (λ image. ShowsTerm c.app.new.self image.0 u)) (λ i. apply (head i) (trees i)) c.app.ensures.shows
