use Rattle.std.proofs.Common.{◌≡◌, sym, ap, length, ◌∙◌, vec_len, arith}
use Rattle.std.proofs.lemmas.List.{length-map}
use Rattle.ll_laws.specs.ShownLines.{line_of}
use Rattle.ll_laws.specs.Line.{DerivationLines}
use Rattle.ll_top.proofs.checks.checking.node_count.Goals as goal

pub returns : goal.returns
returns c =
    let all : vec_len c.derivation.inside.nodes ≡ length c.derivation.inside.nodes.items = omega (arith, c.derivation.inside.nodes.ok.0) in
    let same = length-map c.derivation.inside.nodes.items (line_of c.derivation.inside.bank) in
    c.len.ensures ∙ (all ∙ (sym same ∙ ap (λ (d : DerivationLines). length d.nodes) c.derivation.view_is))
