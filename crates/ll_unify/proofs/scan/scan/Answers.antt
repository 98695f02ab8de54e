use Rattle.std.proofs.lemmas.Result.{IfOk-from_err, IfOk-weaker}
use Rattle.std.proofs.Common.{◌≡◌, inr, [], ◌∷◌, ◌++◌, length, refl, arith}
use Rattle.ll_bank.specs.Term.{sub}
use Rattle.ll_bank.specs.Nodes.{term_tree}
use Rattle.ll_unify.specs.declared.frame.Frame.{Frame}
use Rattle.ll_unify.specs.Bindings.{found}
use Rattle.ll_unify.specs.Scanned.{IsScanned}
use Rattle.ll_unify.proofs.Scans.{scan-starts, scan-done, passed-ends}
use Rattle.ll_unify.proofs.scan.scan.Goals as goal

pub frames-init : goal.frames-init
frames-init g c =
    rw (c.new-frames.ensures.items, c.requires.places, c.requires.vars)
    (scan-starts c.args.bank.now (g.T.Bindings.table c.args.table.now) c.args.var c.args.level c.args.start c.requires.start)

pub returns-in_err-pass : goal.returns-in_err-pass
returns-in_err-pass g c = IfOk-from_err c.from_residual.result _ c.from_residual.ensures.0

pub pass-requires-clause-table : goal.pass-requires-clause-table
pass-requires-clause-table g c = c.requires.table

pub returns-then-is_empty : goal.returns-then-is_empty
returns-then-is_empty g c =
    let t = g.T.Bindings.table c.args.table.now in
    let nodes = c.args.bank.now in
    let whole = sub (found nodes t) (term_tree nodes c.args.start.0) in
    let frame : Frame = record { at = c.args.start; next = 0 } in
    let none : length c.arguments.result.now ≡ 0 = let h = c.is_empty.ensures in let k = c.if-is_empty.true in grind arith in
    let starts : IsScanned nodes t c.args.var c.args.level c.args.seen.now.places.items c.args.seen.now.vars.items whole ([] ++ frame ∷ []) =
    rw (c.requires.places, c.requires.vars) (scan-starts nodes t c.args.var c.args.level c.args.start c.requires.start) in
    IfOk-weaker c.look.result _ _ (λ b look.
    passed-ends nodes t c.args.var c.args.level c.look.new.self.places.items c.look.new.self.vars.items whole b
    (scan-done nodes t c.args.var c.args.level c.args.seen.now.places.items c.look.new.self.places.items c.args.seen.now.vars.items
    c.look.new.self.vars.items whole ([] ++ frame ∷ []) [] frame b c.requires.table starts refl (let n = c.arguments.ensures.count in omega arith) look
    (λ _. inr c.look.ensures.places))) c.look.ensures.look
