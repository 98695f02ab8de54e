use Rattle.std.proofs.Common.{length, refl, ap, ◌∙◌, arith, ◌-◌}
use Rattle.std.proofs.lemmas.List.{length-map}
use Rattle.std.proofs.lemmas.Result.{IfOk-from_err}
use Rattle.ll_laws.specs.Shown.{clause_tree}
use Rattle.ll_freeze.specs.Parts.{parts_of}
use Rattle.ll_engine.specs.Matches.{all_found}
use Rattle.ll_engine.proofs.inferences.AtomLemmas.{atom_front, read_atom, splits, name_read, arity_read, all_matches, loaded_match}
use Rattle.ll_engine.proofs.machine.ReadLemmas.{fits_table}
use Rattle.ll_engine.proofs.candidates.atom_candidates.Goals as goal
use Rattle.ll_engine.proofs.candidates.atom_candidates.Goals.{in-Name+in_ok-add_program, in_default}

pub asked_by-requires-clause-within : goal.asked_by-requires-clause-within
asked_by-requires-clause-within c = (atom_front (parts_of c.args.machine.now) c.args.atom c.args.environment c.requires.fits c.requires.front).within

pub asked_by-requires-clause-begins : goal.asked_by-requires-clause-begins
asked_by-requires-clause-begins c = (atom_front (parts_of c.args.machine.now) c.args.atom c.args.environment c.requires.fits c.requires.front).begins

pub asked_by-requires-clause-cells : goal.asked_by-requires-clause-cells
asked_by-requires-clause-cells c = (atom_front (parts_of c.args.machine.now) c.args.atom c.args.environment c.requires.fits c.requires.front).variables

pub asked_by-requires-clause-heads : goal.asked_by-requires-clause-heads
asked_by-requires-clause-heads c = (atom_front (parts_of c.args.machine.now) c.args.atom c.args.environment c.requires.fits c.requires.front).heads

pub asked_by-requires-clause-table : goal.asked_by-requires-clause-table
asked_by-requires-clause-table c = fits_table (parts_of c.args.machine.now) c.requires.fits

pub asked_by-requires-clause-inside : goal.asked_by-requires-clause-inside
asked_by-requires-clause-inside c = c.requires.front.1.seen.parts

pub returns-in_err-asked : goal.returns-in_err-asked
returns-in_err-asked c = IfOk-from_err c.from_residual.result _ c.from_residual.ensures.0

pub add_newer-requires-clause-fits : goal.add_newer-requires-clause-fits
add_newer-requires-clause-fits c = c.requires.fits

pub add_newer-requires-clause-count : goal.add_newer-requires-clause-count
add_newer-requires-clause-count c =
    let clauses = ap (λ p. length p.clauses) c.problem.view_is in
    let map = length-map c.problem.inside.clauses.items (clause_tree c.problem.inside.bank) in
    let a = c.len.ensures in let b = c.len-2.ensures in let d = c.problem.inside.clauses.ok.0 in omega arith

pub returns-in_err-add_newer : goal.returns-in_err-add_newer
returns-in_err-add_newer c = IfOk-from_err c.from_residual-in_err-add_newer.result _ c.from_residual-in_err-add_newer.ensures.0

pub add_program-requires-clause-index : goal.add_program-requires-clause-index
add_program-requires-clause-index c = c.requires.index

pub returns-in_err-add_program : goal.returns-in_err-add_program
returns-in_err-add_program c = IfOk-from_err c.from_residual-in_err-add_program.result _ c.from_residual-in_err-add_program.ensures.0

pub overflow_sub-loaded : goal.overflow_sub-loaded
overflow_sub-loaded c =
    let w = splits (parts_of c.args.machine.now) _ c.requires.fits refl in
    let clauses = ap (λ p. length p.clauses) c.problem.view_is in
    let map = length-map c.problem.inside.clauses.items (clause_tree c.problem.inside.bank) in
    let enough = w.enough in let a = c.len.ensures in let b = c.len-2.ensures in let d = c.problem.inside.clauses.ok.0 in omega arith

pub add_program-requires-clause-program : goal.add_program-requires-clause-program
add_program-requires-clause-program c =
    let clauses = ap (λ p. length p.clauses) c.problem.view_is in
    let map = length-map c.problem.inside.clauses.items (clause_tree c.problem.inside.bank) in
    let a = c.len.ensures in let b = c.len-2.ensures in let d = c.problem.inside.clauses.ok.0 in
    (splits (parts_of c.args.machine.now) (c.len.result - c.len-2.result) c.requires.fits (omega arith)).of

pub returns : goal.returns
returns c =
    let k = c.args.machine.now in let f = c.requires.fits in let w = atom_front (parts_of k) c.args.atom c.args.environment f c.requires.front in
    let n = c.len.result - c.len-2.result in
    let asked = c.in_ok-asked.asked in let asks = c.in_ok-asked.ensures in
    let clauses = ap (λ p. length p.clauses) c.problem.view_is in
    let map = length-map c.problem.inside.clauses.items (clause_tree c.problem.inside.bank) in
    let a = c.len.ensures in let b = c.len-2.ensures in let d = c.problem.inside.clauses.ok.0 in
    let added = c.in_ok-add_newer.ensures in
    elim c.match-asked.branch [
      | in-Name+in_ok-add_program v ↦ all_matches k c.args.atom c.args.environment asked f w asks n (all_found c.none-found.result)
          (all_found c.add_newer.new.found)
          (all_found c.match-asked.found) c.none-found.ensures added
          (ap all_found v.found-is
          ∙ v.in_ok-add_program.ensures (read_atom (parts_of k) c.args.environment c.args.atom)
          (name_read k c.args.atom c.args.environment asked f w asks v.in-Name.name v.in-Name.is)
          (arity_read k c.args.atom c.args.environment asked f w asks))
      | in_default v ↦ loaded_match k c.args.atom c.args.environment asked f w asks n (all_found c.none-found.result) (all_found c.add_newer.new.found)
          (all_found c.match-asked.found) (splits (parts_of k) n f (omega arith)).of v.in_default.not-Name
          c.none-found.ensures added (ap all_found v.found-is)
    ]
