use Rattle.std.proofs.Common.{◌≡◌, ℕ, List, [], length, map, ap, sym, subst, ◌∙◌, inr, arith}
use Rattle.std.specs.Prelude.{Any}
use Rattle.std.proofs.lemmas.List.{length-map}
use Rattle.std.proofs.Math.ListN.{get_or-map}
use Rattle.ll_list_laws.proofs.CallerLemmas.{take-front}
use Rattle.ll_bank.specs.declared.At.{At}
use Rattle.ll_bank.specs.declared.Head.{Head}
use Rattle.ll_bank.specs.declared.closing.values.Values.{Values}
use Rattle.ll_bank.specs.declared.TermView.TheVariants.{App as AppView}
use Rattle.ll_bank.specs.Term.{app, apply, applies_heads, close, close_head}
use Rattle.ll_bank.specs.Nodes.{Nodes, term_tree, term_trees, ShowsTerm, node_of_term}
use Rattle.ll_bank.specs.Opened.{Spot, term_parts, term_parts_at}
use Rattle.ll_bank.specs.Closing.{env_in, under}
use Rattle.ll_bank.proofs.Trees.{Extends-refl}
use Rattle.ll_bank.proofs.PartLemmas.{node_seen, opened_app}
use Rattle.ll_bank.proofs.closes.Values.{values_extends}
use Rattle.ll_bank.proofs.closing.term.closed_shallow.Goals as goal

pub returns-then-count-gt-FEW-clause-keeps : goal.returns-then-count-gt-FEW-clause-keeps
returns-then-count-gt-FEW-clause-keeps c = Extends-refl c.args.bank.now

pub returns-in-Var-clause-keeps : goal.returns-in-Var-clause-keeps
returns-in-Var-clause-keeps c = Extends-refl c.args.bank.now

pub returns-in-Int-clause-keeps : goal.returns-in-Int-clause-keeps
returns-in-Int-clause-keeps c = Extends-refl c.args.bank.now

-- the image of an application, over the images of its arguments in a bank that has grown
opens : (bank now : Nodes) (values : Values) (level at : ℕ) (h : Head) (args us : List At) → env_in now values ≡ env_in bank values
    → term_tree bank at ≡ app h (term_trees bank args) → term_trees now us ≡ map (close (under (env_in bank values) level)) (term_trees bank args)
    → close (under (env_in bank values) level) (term_tree bank at) ≡ apply (close_head (under (env_in now values) level) h) (term_trees now us)
opens bank now values level at h args us same e f =
    opened_app (under (env_in bank values) level) (term_tree bank at) h (term_trees bank args) (term_trees now us) e f
    ∙ ap (λ env. apply (close_head (under env level) h) (term_trees now us)) (sym same)

pub closed_head-requires-clause-heads : goal.closed_head-requires-clause-heads
closed_head-requires-clause-heads c =
    let bank = c.args.bank.now in let now = c.close_each.new.bank in let values = c.args.values in let level = c.args.level in
    let n = length c.in-App.args.now in let done = c.in_ok-close_each-in-App.ensures in let copied = c.copy_from_slice.ensures.after in
    let front = take-front c.copy_from_slice.new.self _ n (ap (λ xs. length xs) copied) ∙ copied in
    let many = done.count ∙ ap (λ xs. length xs) front in
    let images = ap (term_trees now) (take-front c.close_each.new.terms _ n many)
    ∙ (done.shows c.if-branch.true ∙ ap (λ xs. map (close (under (env_in bank values) level)) (term_trees bank xs)) front) in
    sym (ap applies_heads (opens bank now values level c.args.at.0 c.in-App.head c.in-App.args.now _
    (values_extends bank now done.keeps values c.requires.values) c.in-App.ensures.shown.0 images)) ∙ c.requires.heads

pub returns-in_ok-image-in-App-clause-shows : goal.returns-in_ok-image-in-App-clause-shows
returns-in_ok-image-in-App-clause-shows c =
    let bank = c.args.bank.now in let now = c.close_each.new.bank in let values = c.args.values in let level = c.args.level in
    let n = length c.in-App.args.now in let done = c.in_ok-close_each-in-App.ensures in let copied = c.copy_from_slice.ensures.after in
    let front = take-front c.copy_from_slice.new.self _ n (ap (λ xs. length xs) copied) ∙ copied in
    let many = done.count ∙ ap (λ xs. length xs) front in
    let images = ap (term_trees now) (take-front c.close_each.new.terms _ n many)
    ∙ (done.shows c.if-branch.true ∙ ap (λ xs. map (close (under (env_in bank values) level)) (term_trees bank xs)) front) in
    subst (ShowsTerm c.closed_head.new.bank c.in_ok-image-in-App.image.0)
    (sym (opens bank now values level c.args.at.0 c.in-App.head c.in-App.args.now _
    (values_extends bank now done.keeps values c.requires.values) c.in-App.ensures.shown.0 images)) c.in_ok-image-in-App.ensures.shows

-- what holds of the image of an element holds of one among the images
any-map : {X Y : Type 0} (f : X → Y) (P : Y → Type 0) (xs : List X) → Any (λ x. P (f x)) xs → Any P (map f xs)
any-map f P xs (i, x, l, e, p) = (i, f x, (let q = length-map xs f in omega (arith, l, q)), get_or-map f xs i x ∙ ap f e, p)

pub returns-else-branch-clause-none : goal.returns-else-branch-clause-none
returns-else-branch-clause-none c =
    let bank = c.args.bank.now in let level = c.args.level in
    let n = length c.in-App.args.now in let done = c.in_ok-close_each-in-App.ensures in let copied = c.copy_from_slice.ensures.after in
    let front = take-front c.copy_from_slice.new.self _ n (ap (λ xs. length xs) copied) ∙ copied in
    let parts = ap (λ node. term_parts node level) (node_seen bank c.args.at.0 (node_of_term (AppView c.in-App.head c.in-App.args)) c.in-App.ensures.node) in
    let some : Spot → Type 0 = λ k. (term_parts_at bank k ≡ []) → ⊥ in
    let place : At → ℕ = λ a. a.0 in let spot : ℕ → Spot = λ a. (a, level) in
    inr (subst (Any some) (sym parts) (any-map spot some (map place c.in-App.args.now) (any-map place (λ a. some (spot a)) c.in-App.args.now
    (subst (Any (λ (a : At). some (a.0, level))) front (done.other c.if-branch.false)))))
