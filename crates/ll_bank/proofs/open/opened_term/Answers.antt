use Rattle.std.proofs.lemmas.Result.{IfOk-from_err}
use Rattle.std.proofs.Common.{ap, sym, subst, ◌∙◌, ℕ}
use Rattle.std.specs.Prelude.{IfOk}
use Rattle.std.specs.BTreeMap.{get}
use Rattle.ll_bank.specs.Term.{applies_heads}
use Rattle.ll_bank.specs.Nodes.{term_tree, term_trees, ShowsTerm, places, AllInTerms, AppNode}
use Rattle.ll_bank.specs.Instantiated.{by_spot, opened, IsIn, IsKnown}
use Rattle.ll_bank.specs.Opened.{term_parts}
use Rattle.ll_bank.proofs.Trees.{Extends-refl}
use Rattle.ll_bank.proofs.PartLemmas.{node_seen, opened_app}
use Rattle.ll_bank.proofs.OpenLemmas.{known_args, args_shown}
use Rattle.ll_bank.proofs.open.opened_term.Goals as goal

pub term_images-requires : goal.term_images-requires
term_images-requires c =
    known_args (get by_spot c.args.images.now) c.args.task.level c.in-App.args.now
    (subst (λ node. (k : ℕ × ℕ) → IsIn k (term_parts node c.args.task.level)
    → IsKnown (get by_spot c.args.images.now) k) (node_seen c.args.bank.now c.args.task.place (AppNode c.in-App.head (places c.in-App.args.now))
    c.in-App.ensures.node) c.requires.parts)

pub returns-in_err-args-in-App-clause-keeps : goal.returns-in_err-args-in-App-clause-keeps
returns-in_err-args-in-App-clause-keeps c =
    Extends-refl c.args.bank.now

pub open_head-requires-clause-places : goal.open_head-requires-clause-places
open_head-requires-clause-places c =
    subst (AllInTerms c.args.bank.now) (sym c.deref.ensures.value)
    (args_shown c.args.bank.now (term_tree c.args.bank.now c.args.value.0) (get by_spot c.args.images.now) c.args.task.level c.in-App.args.now
    c.in_ok-args-in-App.args.items c.requires.images (known_args (get by_spot c.args.images.now) c.args.task.level c.in-App.args.now
    (subst (λ node. (k : ℕ × ℕ) → IsIn k (term_parts node c.args.task.level)
    → IsKnown (get by_spot c.args.images.now) k) (node_seen c.args.bank.now c.args.task.place (AppNode c.in-App.head (places c.in-App.args.now))
    c.in-App.ensures.node) c.requires.parts)) c.in_ok-args-in-App.ensures).0

pub open_head-requires-clause-heads : goal.open_head-requires-clause-heads
open_head-requires-clause-heads c =
    sym (ap applies_heads (opened_app (opened (term_tree c.args.bank.now c.args.value.0) c.args.task.level) (term_tree c.args.bank.now c.args.task.place)
    c.in-App.head (term_trees c.args.bank.now c.in-App.args.now) (term_trees c.args.bank.now c.deref.result.now) c.in-App.ensures.shown.0
    (ap (term_trees c.args.bank.now) c.deref.ensures.value
    ∙ (args_shown c.args.bank.now (term_tree c.args.bank.now c.args.value.0) (get by_spot c.args.images.now) c.args.task.level c.in-App.args.now
    c.in_ok-args-in-App.args.items c.requires.images (known_args (get by_spot c.args.images.now) c.args.task.level c.in-App.args.now
    (subst (λ node. (k : ℕ × ℕ) → IsIn k (term_parts node c.args.task.level)
    → IsKnown (get by_spot c.args.images.now) k) (node_seen c.args.bank.now c.args.task.place (AppNode c.in-App.head (places c.in-App.args.now))
    c.in-App.ensures.node) c.requires.parts)) c.in_ok-args-in-App.ensures).1))) ∙ c.requires.heads

pub returns-in-Var-clause-keeps : goal.returns-in-Var-clause-keeps
returns-in-Var-clause-keeps c =
    Extends-refl c.args.bank.now

pub returns-in-Int-clause-keeps : goal.returns-in-Int-clause-keeps
returns-in-Int-clause-keeps c =
    Extends-refl c.args.bank.now

pub returns-in_ok-args-in-App-clause-shows : goal.returns-in_ok-args-in-App-clause-shows
returns-in_ok-args-in-App-clause-shows c =
    subst (λ t. IfOk c.open_head.result (λ image. ShowsTerm c.open_head.new.bank image.0 t))
    (sym (opened_app (opened (term_tree c.args.bank.now c.args.value.0) c.args.task.level) (term_tree c.args.bank.now c.args.task.place) c.in-App.head
    (term_trees c.args.bank.now c.in-App.args.now) (term_trees c.args.bank.now c.deref.result.now) c.in-App.ensures.shown.0
    (ap (term_trees c.args.bank.now) c.deref.ensures.value
    ∙ (args_shown c.args.bank.now (term_tree c.args.bank.now c.args.value.0) (get by_spot c.args.images.now) c.args.task.level c.in-App.args.now
    c.in_ok-args-in-App.args.items c.requires.images (known_args (get by_spot c.args.images.now) c.args.task.level c.in-App.args.now
    (subst (λ node. (k : ℕ × ℕ) → IsIn k (term_parts node c.args.task.level)
    → IsKnown (get by_spot c.args.images.now) k) (node_seen c.args.bank.now c.args.task.place (AppNode c.in-App.head (places c.in-App.args.now))
    c.in-App.ensures.node) c.requires.parts)) c.in_ok-args-in-App.ensures).1))) c.open_head.ensures.shows

pub returns-in_err-args-in-App-clause-shows : goal.returns-in_err-args-in-App-clause-shows
returns-in_err-args-in-App-clause-shows c = IfOk-from_err c.from_residual.result _ c.from_residual.ensures.0
