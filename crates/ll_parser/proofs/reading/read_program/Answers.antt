use Rattle.std.proofs.Common.{sym, subst, arith}
use Rattle.ll_parser.specs.declared.texts.Phase.TheVariants as phase
use Rattle.ll_parser.specs.Tokens.{toks_of}
use Rattle.ll_parser.specs.Text.{programs}
use Rattle.ll_parser.specs.Reads.{HasFault}
use Rattle.ll_parser.specs.FlatText.{FlatProgram, program_start, program_step, program_final}
use Rattle.ll_parser.specs.Drafts.{whole_view, draft_view}
use Rattle.ll_parser.proofs.machines.Programs.{decides-programs}
use Rattle.ll_parser.proofs.spelling.Spelled.{whole-read}
use Rattle.ll_parser.proofs.stored.Drafting.{idle-none, draft-none, program-none, closed-program, no-boundary}
use Rattle.ll_parser.proofs.machines.Running.{running-none, bad-token-at, too-many-at, turn, reads, ends-early-at}
use Rattle.ll_parser.proofs.reading.read_program.Goals as goal

pub loop-i-init : goal.loop-i-init
loop-i-init c = (
  draft-none c.args.draft.now c.requires.draft.clauses c.requires.draft.modules c.requires.draft.current,
  idle-none c.args.draft.now.waiting c.requires.draft.waiting.forms c.requires.draft.waiting.args c.requires.draft.waiting.frames,
  running-none programs FlatProgram program_start program_step program_final decides-programs c.args.tokens.now c.args.names.now
      (λ texts. draft_view texts c.args.draft.now phase.Boundary) c.requires.names
      (program-none c.args.draft.now c.requires.draft.clauses c.requires.draft.modules c.requires.draft.current),
)

pub returns-in_default-clause-read : goal.returns-in_default-clause-read
returns-in_default-clause-read c =
    bad-token-at programs FlatProgram program_start program_step program_final decides-programs c.args.tokens.now c.loop-i.i c.loop-i.names
    (λ texts. draft_view texts c.loop-i.draft c.loop-i.phase) c.loop-i.depth c.loop-i.invariant.2
    c.symbol_at.new.names c.in_ok-symbol.ensures.names c.in_ok-symbol.symbol c.in_ok-symbol.ensures.token c.get.result c.get.ensures.token
    (rw c.in_default.is at c.in_ok-next.ensures)

pub returns-in_default-opened-clause-read : goal.returns-in_default-opened-clause-read
returns-in_default-opened-clause-read c =
    too-many-at programs FlatProgram program_start program_step program_final decides-programs c.args.tokens.now c.loop-i.i c.loop-i.names
    (λ texts. draft_view texts c.loop-i.draft c.loop-i.phase) c.loop-i.depth c.loop-i.invariant.2
    c.symbol_at.new.names c.in_ok-symbol.ensures.names c.in_ok-symbol.symbol c.in_ok-symbol.ensures.token
    (λ texts. draft_view texts c.step.new.self c.in-Some.next) (rw c.in-Some.is at c.in_ok-next.ensures).2 c.get.result c.get.ensures.token
    c.in_default-opened.ensures

pub loop-i-preserved : goal.loop-i-preserved
loop-i-preserved c = (
  (rw c.in-Some.is at c.in_ok-next.ensures).0,
  (rw c.in-Some.is at c.in_ok-next.ensures).1,
  turn programs FlatProgram program_start program_step program_final decides-programs c.args.tokens.now c.loop-i.i c.loop-i.names
      (λ texts. draft_view texts c.loop-i.draft c.loop-i.phase) c.loop-i.depth c.loop-i.invariant.2
      c.symbol_at.new.names c.in_ok-symbol.ensures.names c.in_ok-symbol.symbol c.in_ok-symbol.ensures.token
      (λ texts. draft_view texts c.step.new.self c.in-Some.next) (rw c.in-Some.is at c.in_ok-next.ensures).2 c.in-Some-opened.now_depth
      c.in-Some-opened.ensures,
)

pub returns-in_ok-close_module-in-Boundary-clause-read : goal.returns-in_ok-close_module-in-Boundary-clause-read
returns-in_ok-close_module-in-Boundary-clause-read c =
    reads programs FlatProgram program_start program_step program_final decides-programs c.args.tokens.now c.loop-i.i (let h = c.loop-i-test.false in
    omega arith) c.loop-i.names (λ texts. draft_view texts c.loop-i.draft c.loop-i.phase) c.loop-i.depth c.loop-i.invariant.2
    (λ texts. whole_view texts c.close_module.new.self) (closed-program c.loop-i.draft c.close_module.new.self c.loop-i.phase c.in-Boundary.is
    c.in_ok-close_module-in-Boundary.ensures)

pub returns-in_ok-close_module-in-Boundary-clause-whole : goal.returns-in_ok-close_module-in-Boundary-clause-whole
returns-in_ok-close_module-in-Boundary-clause-whole c =
    whole-read programs c.args.tokens.now (whole_view c.loop-i.names c.close_module.new.self) c.len-i-end.ensures.lexed (let f = c.len-i-end.ensures.few in
    let r = c.requires.text in omega arith)
    (reads programs FlatProgram program_start program_step program_final decides-programs c.args.tokens.now c.loop-i.i (let h = c.loop-i-test.false in
    omega arith) c.loop-i.names (λ texts. draft_view texts c.loop-i.draft c.loop-i.phase) c.loop-i.depth c.loop-i.invariant.2
    (λ texts. whole_view texts c.close_module.new.self) (closed-program c.loop-i.draft c.close_module.new.self c.loop-i.phase c.in-Boundary.is
    c.in_ok-close_module-in-Boundary.ensures))

pub returns-in_default-phase-clause-read : goal.returns-in_default-phase-clause-read
returns-in_default-phase-clause-read c =
    subst (λ at. HasFault programs 1000 (toks_of c.args.tokens.now) c.args.tokens.now.end (record { at = at; kind = 5 })) (sym c.end.ensures)
    (ends-early-at programs FlatProgram program_start program_step program_final decides-programs c.args.tokens.now c.loop-i.i (let h = c.loop-i-test.false in
    omega arith) c.loop-i.names (λ texts. draft_view texts c.loop-i.draft c.loop-i.phase) c.loop-i.depth c.loop-i.invariant.2
    (no-boundary c.loop-i.draft c.loop-i.phase c.in_default-phase.not-Boundary))
