use Rattle.std.proofs.Common.{◌++◌, ap, ◌∙◌}
use Rattle.ll_list_laws.proofs.CallerLemmas.{OnOk-weaker as on_ok}
use Rattle.ll_prooftext.proofs.writing.ShortLines.{plain_node}
use Rattle.ll_prooftext.proofs.short.write_plain_node.Goals as goal

pub returns : goal.returns
returns c =
    on_ok c.write_node.result (λ e show. e ∙ ap (λ t. c.args.out.now.items ++ t)
    (plain_node c.args.names.now c.args.bank.now show c.args.node.now c.requires.plain)) c.write_node.ensures.text
