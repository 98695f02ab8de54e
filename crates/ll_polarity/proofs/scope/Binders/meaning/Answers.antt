use Rattle.std.proofs.Common.{◌≡◌, length, reverse, sym, ◌∙◌, arith, rules}
use Rattle.std.proofs.lemmas.List.{length-reverse}
use Rattle.ll_polarity.proofs.naming.Binders.{depth-shown, found-means, none-means}
use Rattle.ll_polarity.proofs.scope.Binders.meaning.Goals as goal

pub overflow_sub-len : goal.overflow_sub-len
overflow_sub-len c =
    let d = depth-shown c.self.inside.names.now c.self.inside.innermost.items (reverse c.self.inside.rows.items) c.self.invariant c.args.self.now c.self.view_is
    c.args.name c.index.result.now c.in-Some.found c.requires c.index.ensures c.in-Some.is in
    let l = length-reverse c.self.inside.rows.items in
    let n : c.len.result ≡ length c.self.inside.rows.items = search rules in
    omega arith

pub returns-in-Some : goal.returns-in-Some
returns-in-Some c =
    let l = length-reverse c.self.inside.rows.items in
    let n : c.len.result ≡ length c.self.inside.rows.items = search rules in
    found-means c.self.inside.names.now c.self.inside.innermost.items (reverse c.self.inside.rows.items) c.self.invariant c.args.self.now c.self.view_is
    c.args.name c.index.result.now c.in-Some.found c.len.result _ c.requires
    c.index.ensures c.in-Some.is (n ∙ sym l) c.bound_by.ensures

pub returns-in-None : goal.returns-in-None
returns-in-None c =
    none-means c.self.inside.names.now c.self.inside.innermost.items (reverse c.self.inside.rows.items) c.self.invariant c.args.self.now c.self.view_is
    c.args.name c.index.result.now c.text.result.now _ c.requires c.index.ensures c.in-None.is
    c.text.ensures c.unbound.ensures
