use Rattle.std.proofs.Common.{refl, ◌∙◌, ap, arith, length}
use Rattle.ll_bank.specs.Nodes.{AppNode, places}
use Rattle.ll_bank.proofs.Trees.{Extends-same}
use Rattle.ll_bank.proofs.BankLemmas.{kept_more, term_extends, term_shown, depths_count, below_places, build_app, depth_of_app}
use Rattle.ll_bank.proofs.bank.Bank.app.Goals as goal

pub deepest-requires : goal.deepest-requires
deepest-requires c =
    let e = depths_count c.self.inside.flat.nodes c.self.inside.flat.depths c.self.invariant in let v = ap (λ n. length n.terms) c.self.view_is in
    λ k d l. let h = c.requires k d l in omega arith

pub returns-in_err-depth-clause-keeps : goal.returns-in_err-depth-clause-keeps
returns-in_err-depth-clause-keeps c = Extends-same _ _ refl

pub returns-in_err-push_app-clause-keeps : goal.returns-in_err-push_app-clause-keeps
returns-in_err-push_app-clause-keeps c = Extends-same _ _ (ap (λ f. f.nodes) c.in_err-push_app.ensures.refused ∙ c.self.view_is)

pub invariant_of-self-2 : goal.invariant_of-self-2
invariant_of-self-2 c =
    kept_more c.self.inside.flat.nodes c.args.self.now c.self.view_is c.self.inside.flat.depths c.self.invariant c.push_app.new.self.nodes
    (AppNode c.args.head (places c.args.args.now))
    (ap (λ f. f.nodes) c.in_ok-push_app.ensures.added) c.in_ok-depth.depth c.push_app.new.self.depths (ap (λ f. f.depths) c.in_ok-push_app.ensures.added)
    (below_places _ c.args.args.now c.requires)
    (depth_of_app c.self.inside.flat.nodes c.args.self.now c.self.view_is c.self.inside.flat.depths c.self.invariant c.args.head c.args.args.now
    c.in_ok-depth.depth (c.in_ok-depth.ensures ∙ c.deepest.ensures))

pub returns-clause-shows : goal.returns-clause-shows
returns-clause-shows c =
    term_shown c.self.inside.flat.nodes c.args.self.now c.self.view_is c.self.inside.flat.depths c.self.invariant c.push_app.new.self.nodes
    (AppNode c.args.head (places c.args.args.now))
    (ap (λ f. f.nodes) c.in_ok-push_app.ensures.added) c.count.result _ c.count.ensures (build_app c.args.self.now c.args.head c.args.args.now)

pub returns-clause-keeps : goal.returns-clause-keeps
returns-clause-keeps c =
    term_extends c.self.inside.flat.nodes c.args.self.now c.self.view_is c.self.inside.flat.depths c.self.invariant c.push_app.new.self.nodes
    (AppNode c.args.head (places c.args.args.now))
    (ap (λ f. f.nodes) c.in_ok-push_app.ensures.added)
