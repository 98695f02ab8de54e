use Rattle.std.proofs.Common.{◌++◌, map, flat_map, ap, sym, refl, ◌∙◌}
use Rattle.std.proofs.lemmas.List.{append-nil}
use Rattle.ll_bank.specs.declared.FormAt.{FormAt}
use Rattle.ll_bank.specs.Nodes.{HasForm}
use Rattle.ll_laws.specs.Settle.{Entry}
use Rattle.ll_resources.specs.Seen.{resource}
use Rattle.ll_engine.specs.Leaves.{open_tries, standing_entry}
use Rattle.ll_engine.specs.Matches.{head_fits, HeadsHaveCells, all_found}
use Rattle.ll_engine.proofs.matching.KeyedLemmas.{coming_first, keyed_tries}
use Rattle.ll_engine.proofs.candidates.add_loaded.Goals as goal

pub add_entry-requires-clause-inside : goal.add_entry-requires-clause-inside
add_entry-requires-clause-inside c =
    coming_first (λ (e : Entry FormAt). HasForm c.args.store.now.bank e.clause.0) c.loop-entry.keyed c.in-Some.older (resource c.in-Some.entry)
    c.args.context.now.present c.in-Some.ensures.some c.requires.inside

pub add_entry-requires-clause-cells : goal.add_entry-requires-clause-cells
add_entry-requires-clause-cells c =
    coming_first (λ (e : Entry FormAt). HeadsHaveCells c.args.store.now e.clause) c.loop-entry.keyed c.in-Some.older (resource c.in-Some.entry)
    c.args.context.now.present c.in-Some.ensures.some c.requires.cells

pub returns : goal.returns
returns c count k =
    let s = c.args.store.now in let test = head_fits s c.args.asked in
    let none = c.in_default.ensures.none.0 refl in
    sym (append-nil (all_found c.loop-entry.found))
    ∙ (ap (λ es. all_found c.loop-entry.found ++ flat_map (open_tries test) (map (standing_entry s.bank) es)) (sym none)
    ∙ (c.loop-entry.invariant.so_far
    ∙ ap (λ cs. all_found c.args.found.now ++ cs) (keyed_tries s c.args.asked count c.args.context.now.present k)))
