use Rattle.std.proofs.Common.{◌≡◌, ◌++◌, flat_map, take, map, length, sym, subst}
use Rattle.std.specs.Prelude.{OnOk}
use Rattle.std.proofs.lemmas.List.{append-nil}
use Rattle.ll_freeze.specs.Parts.{parts_of}
use Rattle.ll_engine.specs.Leaves.{open_tries, standing_entry}
use Rattle.ll_engine.specs.Matches.{all_found, head_fits}
use Rattle.ll_engine.proofs.inferences.AtomLemmas.{heads_below}
use Rattle.ll_engine.proofs.machine.ReadLemmas.{fits_table}
use Rattle.ll_engine.proofs.candidates.add_newer.Goals as goal

pub add_loaded-requires-clause-table : goal.add_loaded-requires-clause-table
add_loaded-requires-clause-table c = fits_table (parts_of c.args.machine.now) c.requires.fits

pub add_loaded-requires-clause-inside : goal.add_loaded-requires-clause-inside
add_loaded-requires-clause-inside c = c.requires.fits.clauses

pub add_loaded-requires-clause-cells : goal.add_loaded-requires-clause-cells
add_loaded-requires-clause-cells c = heads_below (parts_of c.args.machine.now) c.requires.fits

pub returns-then-loaded-eq0 : goal.returns-then-loaded-eq0
returns-then-loaded-eq0 c =
    let k = c.args.machine.now in
    subst (λ j. all_found c.args.found.now ≡ all_found c.args.found.now
    ++ flat_map (open_tries (head_fits k.store c.args.asked)) (map (standing_entry k.store.bank) (take j k.context.present.entries)))
    (sym c.if-loaded-eq0.true) (sym (append-nil (all_found c.args.found.now)))

pub returns : goal.returns
returns c =
    let k = c.args.machine.now in
    subst (λ j. OnOk c.add_loaded.result (all_found c.add_loaded.new.found ≡ all_found c.args.found.now
    ++ flat_map (open_tries (head_fits k.store c.args.asked)) (map (standing_entry k.store.bank) (take j k.context.present.entries))))
    c.requires.count (c.add_loaded.ensures (length (parts_of k).problem.clauses) c.requires.fits.keyed)
