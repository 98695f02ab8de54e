use Rattle.std.proofs.Common.{◌≡◌, ◌++◌, map, filter, length, drop}
use Rattle.std.specs.Prelude.{Some, flat_map}
use Rattle.ll_bank.specs.declared.Head.TheVariants.{Name}
use Rattle.ll_bank.specs.Term.{Term, head_of, arity}
use Rattle.ll_index.specs.First.{entry_matches}
use Rattle.ll_index.specs.Context.{is_open_at}
use Rattle.ll_index.specs.Index.{left}
use Rattle.ll_freeze.specs.Parts.{parts_of}
use Rattle.ll_engine.specs.Matches.{all_found, shown_context}
use Rattle.ll_engine.proofs.candidates.add_program.Given as goal

abbrev pub invariant-loop-leaf : goal.invariant-loop-leaf
invariant-loop-leaf l =
    (atom : Term) → head_of atom ≡ Some (Name l.name) → arity atom ≡ l.fn.asked.predicate.arity
    → all_found l.found ++ filter (λ c. is_open_at (drop l.loaded (shown_context (parts_of l.machine))) c.label)
    (map (λ x. x.candidate) (left l.index l.cursor))
    ≡ all_found l.initial.found ++ flat_map (entry_matches l.fn.asked.first atom) (drop l.loaded (shown_context (parts_of l.machine)))

abbrev pub decreases-loop-leaf : goal.decreases-loop-leaf
decreases-loop-leaf l = length (left l.index l.cursor)
