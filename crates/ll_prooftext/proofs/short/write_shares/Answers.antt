use Rattle.std.proofs.lemmas.Result.{IfOk-from_err}
use Rattle.std.proofs.Common.{List, ◌++◌, ◌<◌, length, get_or, All, arith, ap, sym, subst, ◌∙◌}
use Rattle.std.specs.List.{flat_map}
use Rattle.ll_bank.specs.declared.At.{At}
use Rattle.ll_bank.specs.Nodes.{term_tree, term_trees}
use Rattle.ll_prooftext.specs.ProofText2.{share_line}
use Rattle.ll_prooftext.proofs.writing.Writing.{parts_on, parts_whole, flat_map-map}
use Rattle.ll_prooftext.proofs.tabling.TableSteps.{argument_numbered}
use Rattle.ll_prooftext.proofs.short.write_shares.Goals as goal

pub loop-i-preserved : goal.loop-i-preserved
loop-i-preserved c =
    let bank = c.args.bank.now in
    let rows = term_trees bank c.args.table.now.rows.items in
    parts_on (λ (a : At). share_line c.args.names.now rows (term_tree bank a.0)) c.as_slice-rows.result.now c.loop-i.i (record { 0 = 0 }) c.args.out.now.items
    c.loop-i.out.items c.write_share.new.out.items
    c.loop-i.invariant (omega arith) c.in_ok-write_share.ensures

pub returns : goal.returns
returns c =
    let bank = c.args.bank.now in
    let rows = term_trees bank c.args.table.now.rows.items in
    parts_whole (λ (a : At). share_line c.args.names.now rows (term_tree bank a.0)) c.as_slice-rows.result.now c.loop-i.i (record { 0 = 0 })
    c.args.out.now.items c.loop-i.out.items c.loop-i.out.items
    c.loop-i.invariant (omega arith)
    ∙ ap (λ t. c.args.out.now.items ++ t)
    (flat_map-map (λ (a : At). term_tree bank a.0) (share_line c.args.names.now rows) c.as_slice-rows.result.now
    ∙ ap (λ (ps : List At). flat_map (share_line c.args.names.now rows) (term_trees bank ps)) c.as_slice-rows.ensures.value)

pub write_share-requires : goal.write_share-requires
write_share-requires c =
    let bank = c.args.bank.now in
    let t = c.args.table.now in
    let each = subst (λ (ps : List At). All (λ (a : At). a.0 < length t.classes.numbers.items) ps) (sym c.as_slice-rows.ensures.value) c.requires.inside in
    let low = each c.loop-i.i (record { 0 = 0 }) (omega arith) in
    record {
      table = c.requires;
      inside = let w = c.requires.classes.numbers.inside in omega (arith, low, w);
      numbered = argument_numbered bank t (term_trees bank t.rows.items) c.requires (get_or c.as_slice-rows.result.now c.loop-i.i (record { 0 = 0 })).0 low;
    }

pub returns-in_err-write_share : goal.returns-in_err-write_share
returns-in_err-write_share c = IfOk-from_err c.from_residual.result _ c.from_residual.ensures.0
