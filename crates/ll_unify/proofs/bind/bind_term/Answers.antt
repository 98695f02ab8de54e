use Rattle.std.proofs.Common.{◌≡◌, ◌<◌, ℕ, Bool, List, length, All, None, refl, ap, sym, subst, ◌∙◌, false, true}
use Rattle.std.specs.Prelude.{Option, Some, slice_set, slice_index, slice_index_or}
use Rattle.ll_bank.specs.declared.At.{At}
use Rattle.ll_bank.specs.Term.{sub, Var, occurs, eigens_below}
use Rattle.ll_bank.specs.Nodes.{term_tree}
use Rattle.ll_unify.specs.Bindings.{found, IsLowered}
use Rattle.ll_unify.specs.Scanned.{IsScan, is_among}
use Rattle.ll_unify.proofs.Binding.{binds-bad, binds-good, scan-level}
use Rattle.std.proofs.Common.{true≢false}
use Rattle.std.proofs.lemmas.Result.{IfOk-from_err}
use Rattle.ll_unify.proofs.bind.bind_term.Goals as goal

not-true : (b d : Bool) → (b ≡ true → d ≡ true) → d ≡ false → b ≡ false
not-true true d f e = absurd (true≢false (sym (f refl) ∙ e))
not-true false d f e = refl

pub returns-then-not-branch-clause-binds : goal.returns-then-not-branch-clause-binds
returns-then-not-branch-clause-binds g c =
    let old = g.T.Bindings.table c.args.table.now in
    binds-bad c.args.bank.now old _ (Var c.args.var) (term_tree c.args.bank.now c.args.to.0) c.args.var c.args.to c.requires.no_var
    (scan-level old c.args.var c.level-level.result c.scan.new.seen.vars.items (sub (found c.args.bank.now old) (term_tree c.args.bank.now c.args.to.0)) _ false
    (sym c.level-level.ensures) c.if-not-branch.true c.in_ok-scan.ensures)

pub returns-clause-binds : goal.returns-clause-binds
returns-clause-binds g c =
    let old = g.T.Bindings.table c.args.table.now in
    let x = c.args.var in
    let f = c.in_ok-lower.ensures.falls in
    let s = c.in_ok-set.ensures.set in
    let vars = c.scan.new.seen.vars.items in
    let level : c.level-level.result ≡ slice_index old.levels x = sym c.level-level.ensures in
    binds-good c.args.bank.now old (g.T.Bindings.table c.set.new.self) x c.args.to vars c.requires.table c.requires.below c.requires.free c.requires.to
    c.requires.no_var
    (scan-level old x c.level-level.result vars (sub (found c.args.bank.now old) (term_tree c.args.bank.now c.args.to.0)) _ true
    level c.if-not-branch.false c.in_ok-scan.ensures)
    (subst (λ (ls : List ℕ). IsLowered old.levels vars (slice_index old.levels x) ls) (sym s.levels)
    (subst (λ (l : ℕ). IsLowered old.levels vars l (g.T.Bindings.table c.lower.new.table).levels) level
    (subst (λ (vs : List ℕ). IsLowered old.levels vs c.level-level.result (g.T.Bindings.table c.lower.new.table).levels) c.deref.ensures f.levels)))
    (s.bound ∙ ap (λ (os : List (Option At)). slice_set os x (Some c.args.to)) f.bound)

pub returns-clause-grows : goal.returns-clause-grows
returns-clause-grows g c = g.met.T.Bindings.again c.args.table.now c.lower.new.table c.set.new.self c.lower.ensures.grows c.set.ensures.grows

pub level-level-requires : goal.level-level-requires
level-level-requires g c = c.requires.below

pub scan-requires-clause-table : goal.scan-requires-clause-table
scan-requires-clause-table g c = c.requires.table

pub scan-requires-clause-start : goal.scan-requires-clause-start
scan-requires-clause-start g c = c.requires.to

pub scan-requires-clause-places : goal.scan-requires-clause-places
scan-requires-clause-places g c = c.clear.ensures.places

pub scan-requires-clause-vars : goal.scan-requires-clause-vars
scan-requires-clause-vars g c = c.clear.ensures.vars

pub returns-in_err-scan-clause-grows : goal.returns-in_err-scan-clause-grows
returns-in_err-scan-clause-grows g c = g.met.T.Bindings.stays c.args.table.now

pub returns-in_err-scan-clause-binds : goal.returns-in_err-scan-clause-binds
returns-in_err-scan-clause-binds g c = IfOk-from_err c.from_residual.result _ c.from_residual.ensures.0

pub returns-in_err-scan-clause-left : goal.returns-in_err-scan-clause-left
returns-in_err-scan-clause-left g c = IfOk-from_err c.from_residual.result _ c.from_residual.ensures.0

pub returns-then-not-branch-clause-grows : goal.returns-then-not-branch-clause-grows
returns-then-not-branch-clause-grows g c = g.met.T.Bindings.stays c.args.table.now

pub returns-then-not-branch-clause-left : goal.returns-then-not-branch-clause-left
returns-then-not-branch-clause-left g c = λ e. absurd (true≢false (sym e))

pub returns-in_err-set-clause-binds : goal.returns-in_err-set-clause-binds
returns-in_err-set-clause-binds g c = IfOk-from_err c.from_residual-in_err-set.result _ c.from_residual-in_err-set.ensures.0

pub returns-in_err-set-clause-left : goal.returns-in_err-set-clause-left
returns-in_err-set-clause-left g c = IfOk-from_err c.from_residual-in_err-set.result _ c.from_residual-in_err-set.ensures.0

pub lower-requires : goal.lower-requires
lower-requires g c =
    let old = g.T.Bindings.table c.args.table.now in
    let u = sub (found c.args.bank.now old) (term_tree c.args.bank.now c.args.to.0) in
    let s : IsScan old c.args.var c.level-level.result c.scan.new.seen.vars.items u true = subst
    (IsScan old c.args.var c.level-level.result c.scan.new.seen.vars.items u) c.if-not-branch.false c.in_ok-scan.ensures in
    subst (All (λ (x : ℕ). x < length old.levels)) (sym c.deref.ensures) s.1.below

pub set-requires-clause-below : goal.set-requires-clause-below
set-requires-clause-below g c =
    subst (λ (os : List (Option At)). c.args.var < length os) (sym c.in_ok-lower.ensures.falls.bound)
    (subst (λ n. c.args.var < n) (sym c.requires.table.bound) c.requires.below)

pub set-requires-clause-free : goal.set-requires-clause-free
set-requires-clause-free g c =
    subst (λ (os : List (Option At)). slice_index_or os c.args.var None ≡ None) (sym c.in_ok-lower.ensures.falls.bound) c.requires.free

pub returns-clause-left : goal.returns-clause-left
returns-clause-left g c = λ e x h.
    let old = g.T.Bindings.table c.args.table.now in
    let u = sub (found c.args.bank.now old) (term_tree c.args.bank.now c.args.to.0) in
    let s : IsScan old c.args.var c.level-level.result c.scan.new.seen.vars.items u true = subst
    (IsScan old c.args.var c.level-level.result c.scan.new.seen.vars.items u) c.if-not-branch.false c.in_ok-scan.ensures in
    let o = c.meet.ensures x (c.meet_all.ensures.was x h) in
    record {
      was = o.was;
      other = o.other;
      absent = not-true (occurs x u) (is_among c.scan.new.seen.vars.items x) (s.0.noted x)
          (subst (λ (vs : List ℕ). is_among vs x ≡ false) c.deref-2.ensures (c.meet_all.ensures.other x h));
      eigens = subst (λ l. eigens_below l u ≡ true) (sym c.level-level.ensures) s.0.eigens;
    }
