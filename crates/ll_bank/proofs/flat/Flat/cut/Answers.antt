use Rattle.std.proofs.Common.{ap, ◌∙◌}
use Rattle.ll_bank.specs.Kept.{deep_front}
use Rattle.ll_bank.proofs.FlatLemmas.{stored_cut, cut_nodes, front_of}
use Rattle.ll_bank.proofs.flat.Flat.cut.Goals as goal

pub invariant_of-self : goal.invariant_of-self
invariant_of-self c =
    let f = c.self.inside in
    stored_cut f.arguments.items f.load_arguments.items f.terms.items f.forms.items c.self.invariant c.args.size
    (front_of _ c.args.self.now c.self.view_is c.args.size c.requires)
    c.truncate-3.new.self.items c.truncate-4.new.self.items c.truncate.new.self.items c.truncate-2.new.self.items c.truncate-3.ensures.items
    c.truncate-4.ensures.items
    c.truncate.ensures.items c.truncate-2.ensures.items

pub returns : goal.returns
returns c =
    let f = c.self.inside in
    cut_nodes f.arguments.items f.load_arguments.items f.terms.items f.forms.items c.self.invariant c.args.size
    (front_of _ c.args.self.now c.self.view_is c.args.size c.requires)
    c.truncate-3.new.self.items c.truncate-4.new.self.items c.truncate.new.self.items c.truncate-2.new.self.items c.truncate-3.ensures.items
    c.truncate-4.ensures.items
    c.truncate.ensures.items c.truncate-2.ensures.items
    ∙ ap (λ n. deep_front n c.args.size) c.self.view_is
