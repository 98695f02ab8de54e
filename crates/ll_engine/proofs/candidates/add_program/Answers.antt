use Rattle.std.proofs.Common.{sym, ◌∙◌, drop, arith}
use Rattle.ll_resources.specs.Seen.{resource}
use Rattle.ll_index.specs.Index.{left}
use Rattle.ll_freeze.specs.Parts.{parts_of}
use Rattle.ll_engine.specs.Matches.{all_found, shown_context}
use Rattle.ll_engine.proofs.matching.ProgramLemmas.{program_begins, program_found, program_passed, leaf_entry, leaf_open}
use Rattle.ll_engine.proofs.candidates.add_program.Goals as goal

pub loop-leaf-init : goal.loop-leaf-init
loop-leaf-init c atom head count =
    let is = c.requires.index in
    program_begins c.args.asked.first atom c.args.machine.now.problem.now.clauses (drop c.args.loaded (shown_context (parts_of c.args.machine.now)))
    (all_found c.args.found.now) _ c.requires.program
    (c.candidates-cursor.ensures is.0 c.args.machine.now.problem.now.clauses atom is.1 head (count ∙ sym c.in_ok-arity.ensures))

pub entry-entry-requires : goal.entry-entry-requires
entry-entry-requires c = leaf_entry (parts_of c.args.machine.now) c.args.loaded c.requires.program c.args.index.now c.in-Some.leaf c.requires.index
    c.in-Some.ensures.leaf

pub overflow_add-loaded : goal.overflow_add-loaded
overflow_add-loaded c =
    let l = leaf_entry (parts_of c.args.machine.now) c.args.loaded c.requires.program c.args.index.now c.in-Some.leaf c.requires.index c.in-Some.ensures.leaf in
    let r = c.requires.room in omega arith

pub loop-leaf-preserved-in_ok-push : goal.loop-leaf-preserved-in_ok-push
loop-leaf-preserved-in_ok-push c atom head count =
    let m = parts_of c.args.machine.now in let x = c.args.index.now in
    program_found (drop c.args.loaded (shown_context m)) _ (all_found c.loop-leaf.found) c.in-Some.leaf (left x c.loop-leaf.cursor) (left x c.in-Some.next)
    c.in-Some.ensures.some (c.loop-leaf.invariant atom head count) (all_found c.push.new.self)
    (leaf_open m c.args.loaded c.requires.program c.in-Some.leaf.candidate.label (resource c.entry-entry.result) c.entry-entry.ensures
    ∙ (sym c.is_open.ensures ∙ c.if-is_open.true)) c.in_ok-push.ensures

pub loop-leaf-preserved : goal.loop-leaf-preserved
loop-leaf-preserved c atom head count =
    let m = parts_of c.args.machine.now in let x = c.args.index.now in
    program_passed (drop c.args.loaded (shown_context m)) _ (all_found c.loop-leaf.found) c.in-Some.leaf (left x c.loop-leaf.cursor) (left x c.in-Some.next)
    c.in-Some.ensures.some (c.loop-leaf.invariant atom head count)
    (leaf_open m c.args.loaded c.requires.program c.in-Some.leaf.candidate.label (resource c.entry-entry.result) c.entry-entry.ensures
    ∙ (sym c.is_open.ensures ∙ c.if-is_open.false))
