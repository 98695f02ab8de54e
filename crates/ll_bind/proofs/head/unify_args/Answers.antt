use Rattle.std.proofs.Common.{ℕ, List, ◌<◌, ◌∙◌, [], ◌∷◌, ap, refl, sym, subst}
use Rattle.std.specs.Prelude.{reverse, Option}
use Rattle.ll_bank.specs.Term.{app, close}
use Rattle.ll_bank.specs.Nodes.{term_tree, term_trees}
use Rattle.ll_bank.proofs.CallerLemmas.{Extends-refl, Extends-trans}
use Rattle.ll_unify.specs.Solving.{wanted, Settles}
use Rattle.ll_bank.specs.Environments.{values_in, IsWithin}
use Rattle.ll_store.specs.Stored.{stored}
use Rattle.ll_store.specs.Tables.{table_of}
use Rattle.ll_bind.specs.declared.head.Equation.{Equation}
use Rattle.ll_bind.specs.Heads.{AreOpened, IsPaired, IsOpened, pending}
use Rattle.ll_bind.proofs.Heads.{IsMatching, matching_top, matching_over, matching_begins, matching_apart, matching_opens, matching_clashes}
use Rattle.ll_bind.proofs.Heads.{matching_refused, matching_meets, matching_ends, meets_heads, meets_vars, meets_fresh}
use Rattle.ll_bind.proofs.Heads.{patterns_weight, weight_opens, weight_meets, marks_then, marks_same, popped, cells_given}
use Rattle.ll_bind.proofs.head.unify_args.Goals as goal

pub returns-in_err-first-clause-keeps : goal.returns-in_err-first-clause-keeps
returns-in_err-first-clause-keeps c = Extends-refl c.args.store.now.bank

pub returns-in-Apart-clause-keeps : goal.returns-in-Apart-clause-keeps
returns-in-Apart-clause-keeps c = Extends-refl c.args.store.now.bank

pub returns-in-Apart-clause-solved : goal.returns-in-Apart-clause-solved
returns-in-Apart-clause-solved c =
    let s = c.args.store.now in let u = app c.args.sign (term_trees s.bank c.args.args.now) in let v = term_tree s.bank c.args.head.0 in
    matching_apart s.bank (table_of s.cells.cells) (values_in c.args.environment) u v c.requires.store
    (subst (IsPaired s.bank u v c.new-equations.result.items c.begin.new.equations.items) c.in-Apart.is c.in_ok-first.ensures)

pub loop-next-init : goal.loop-next-init
loop-next-init c =
    let s = c.args.store.now in let t = table_of s.cells.cells in let u = app c.args.sign (term_trees s.bank c.args.args.now) in
    let v = term_tree s.bank c.args.head.0 in let new = c.begin.new.equations.items in
    record {
      matching = matching_begins s.bank t (values_in c.args.environment) u v c.requires.store c.from-fresh.result new c.in-Same.first
          (subst (λ old. AreOpened s.bank u v old new c.in-Same.first) c.new-equations.ensures.items
          (subst (IsPaired s.bank u v c.new-equations.result.items new) c.in-Same.is c.in_ok-first.ensures))
          (cells_given s.bank t c.args.sign c.args.args.now c.requires.args) c.requires.heads c.requires.vars
          (λ x f b. c.requires.new x (c.from-fresh.ensures x f) b);
      marks = marks_same (stored s);
    }

pub walk-equation-requires-clause-table : goal.walk-equation-requires-clause-table
walk-equation-requires-clause-table c = c.loop-next.invariant.matching.table

pub walk-equation-requires-clause-place : goal.walk-equation-requires-clause-place
walk-equation-requires-clause-place c =
    (matching_top c.loop-next.equations.items c.loop-next.next c.in-Some.equation c.in-Some.is c.loop-next.invariant.matching).equations.0.place

pub open-requires-clause-pattern : goal.open-requires-clause-pattern
open-requires-clause-pattern c =
    (matching_top c.loop-next.equations.items c.loop-next.next c.in-Some.equation c.in-Some.is c.loop-next.invariant.matching).equations.0.inside

pub returns-in_err-more-clause-keeps : goal.returns-in_err-more-clause-keeps
returns-in_err-more-clause-keeps c = c.loop-next.invariant.matching.extends

pub returns-in_err-more-clause-marks : goal.returns-in_err-more-clause-marks
returns-in_err-more-clause-marks c = c.loop-next.invariant.marks

pub loop-next-smaller-in-Open : goal.loop-next-smaller-in-Open
loop-next-smaller-in-Open c =
    let q : Equation = record { place = c.walk-equation.result; pattern = c.in-Some.equation.pattern } in
    subst (λ (n : ℕ). patterns_weight c.loop-next.store.bank (pending c.in-Open.more c.open.new.equations.items) < n)
    (ap (λ (o : Option Equation). patterns_weight c.loop-next.store.bank (pending o c.loop-next.equations.items)) (sym c.in-Some.is))
    (weight_opens c.loop-next.store.bank (term_tree c.loop-next.store.bank q.place.0) c.in-Some.equation c.loop-next.equations.items
    c.open.new.equations.items c.in-Open.more
    (subst (IsOpened c.loop-next.store.bank (values_in c.args.environment) q c.loop-next.equations.items c.open.new.equations.items)
    c.in-Open.is c.in_ok-more.ensures))

pub loop-next-preserved-in-Open : goal.loop-next-preserved-in-Open
loop-next-preserved-in-Open c =
    let q : Equation = record { place = c.walk-equation.result; pattern = c.in-Some.equation.pattern } in
    let m = matching_top c.loop-next.equations.items c.loop-next.next c.in-Some.equation c.in-Some.is c.loop-next.invariant.matching in
    record {
      matching = matching_opens m q.place c.walk-equation.ensures.end c.walk-equation.ensures.same c.loop-next.equations.items c.open.new.equations.items
          c.in-Open.more
          (subst (IsOpened c.loop-next.store.bank (values_in c.args.environment) q c.loop-next.equations.items c.open.new.equations.items)
          c.in-Open.is c.in_ok-more.ensures) refl;
      marks = c.loop-next.invariant.marks;
    }

pub returns-in-Clash-clause-solved : goal.returns-in-Clash-clause-solved
returns-in-Clash-clause-solved c =
    let q : Equation = record { place = c.walk-equation.result; pattern = c.in-Some.equation.pattern } in
    let m = matching_top c.loop-next.equations.items c.loop-next.next c.in-Some.equation c.in-Some.is c.loop-next.invariant.matching in
    matching_clashes m q.place c.walk-equation.ensures.end c.walk-equation.ensures.same
    (subst (IsOpened c.loop-next.store.bank (values_in c.args.environment) q c.loop-next.equations.items c.open.new.equations.items)
    c.in-Clash.is c.in_ok-more.ensures)

pub returns-in-Clash-clause-keeps : goal.returns-in-Clash-clause-keeps
returns-in-Clash-clause-keeps c = c.loop-next.invariant.matching.extends

pub returns-in-Clash-clause-marks : goal.returns-in-Clash-clause-marks
returns-in-Clash-clause-marks c = c.loop-next.invariant.marks

pub meet_pattern-requires-clause-store : goal.meet_pattern-requires-clause-store
meet_pattern-requires-clause-store c = c.loop-next.invariant.matching.table

pub meet_pattern-requires-clause-within : goal.meet_pattern-requires-clause-within
meet_pattern-requires-clause-within c =
    subst (λ (n : ℕ). IsWithin n c.args.environment) (sym c.loop-next.invariant.matching.same_count) c.requires.within

pub meet_pattern-requires-clause-pattern : goal.meet_pattern-requires-clause-pattern
meet_pattern-requires-clause-pattern c =
    (matching_top c.loop-next.equations.items c.loop-next.next c.in-Some.equation c.in-Some.is c.loop-next.invariant.matching).equations.0.inside

pub meet_pattern-requires-clause-closed : goal.meet_pattern-requires-clause-closed
meet_pattern-requires-clause-closed c =
    let q : Equation = record { place = c.walk-equation.result; pattern = c.in-Some.equation.pattern } in
    (subst (IsOpened c.loop-next.store.bank (values_in c.args.environment) q c.loop-next.equations.items c.open.new.equations.items)
    c.in-Shut.is c.in_ok-more.ensures).1

pub meet_pattern-requires-clause-heads : goal.meet_pattern-requires-clause-heads
meet_pattern-requires-clause-heads c =
    let m = matching_top c.loop-next.equations.items c.loop-next.next c.in-Some.equation c.in-Some.is c.loop-next.invariant.matching in
    meets_heads m c.walk-equation.result c.walk-equation.ensures.end c.walk-equation.ensures.same

pub meet_pattern-requires-clause-vars : goal.meet_pattern-requires-clause-vars
meet_pattern-requires-clause-vars c =
    let m = matching_top c.loop-next.equations.items c.loop-next.next c.in-Some.equation c.in-Some.is c.loop-next.invariant.matching in
    meets_vars m c.walk-equation.result c.walk-equation.ensures.end c.walk-equation.ensures.same

pub meet_pattern-requires-clause-fresh : goal.meet_pattern-requires-clause-fresh
meet_pattern-requires-clause-fresh c =
    let m = matching_top c.loop-next.equations.items c.loop-next.next c.in-Some.equation c.in-Some.is c.loop-next.invariant.matching in
    meets_fresh m c.walk-equation.result c.walk-equation.ensures.end c.walk-equation.ensures.same

pub returns-in_err-meet_pattern-in-Shut-clause-keeps : goal.returns-in_err-meet_pattern-in-Shut-clause-keeps
returns-in_err-meet_pattern-in-Shut-clause-keeps c =
    Extends-trans c.loop-next.invariant.matching.extends c.meet_pattern.ensures.keeps

pub returns-in_err-meet_pattern-in-Shut-clause-marks : goal.returns-in_err-meet_pattern-in-Shut-clause-marks
returns-in_err-meet_pattern-in-Shut-clause-marks c =
    marks_then (stored c.args.store.now) (stored c.loop-next.store) (stored c.meet_pattern.new.store) c.loop-next.invariant.marks
    c.meet_pattern.ensures.marks

pub returns-then-not-branch-clause-solved : goal.returns-then-not-branch-clause-solved
returns-then-not-branch-clause-solved c =
    let after = c.meet_pattern.new.store in
    let m = matching_top c.loop-next.equations.items c.loop-next.next c.in-Some.equation c.in-Some.is c.loop-next.invariant.matching in
    matching_refused m c.walk-equation.result c.walk-equation.ensures.end c.walk-equation.ensures.same after.bank (table_of after.cells.cells)
    c.meet_pattern.ensures.keeps
    (subst (Settles c.meet_pattern.new.store.bank (table_of c.loop-next.store.cells.cells) (table_of after.cells.cells)
    (term_tree c.loop-next.store.bank c.walk-equation.result.0 ∷ [])
    (close (values_in c.args.environment) (term_tree c.loop-next.store.bank c.in-Some.equation.pattern.0) ∷ [])) c.if-not-branch.true
    c.in_ok-meet_pattern-in-Shut.ensures.settles)

pub returns-then-not-branch-clause-keeps : goal.returns-then-not-branch-clause-keeps
returns-then-not-branch-clause-keeps c =
    Extends-trans c.loop-next.invariant.matching.extends c.meet_pattern.ensures.keeps

pub returns-then-not-branch-clause-marks : goal.returns-then-not-branch-clause-marks
returns-then-not-branch-clause-marks c =
    marks_then (stored c.args.store.now) (stored c.loop-next.store) (stored c.meet_pattern.new.store) c.loop-next.invariant.marks
    c.meet_pattern.ensures.marks

pub loop-next-smaller : goal.loop-next-smaller
loop-next-smaller c =
    let q : Equation = record { place = c.walk-equation.result; pattern = c.in-Some.equation.pattern } in
    let m = matching_top c.loop-next.equations.items c.loop-next.next c.in-Some.equation c.in-Some.is c.loop-next.invariant.matching in
    subst (λ (n : ℕ). patterns_weight c.meet_pattern.new.store.bank (pending c.pop-next.result c.pop-next.new.self.items) < n)
    (ap (λ (o : Option Equation). patterns_weight c.loop-next.store.bank (pending o c.loop-next.equations.items)) (sym c.in-Some.is))
    (subst (λ (es : List Equation). patterns_weight c.meet_pattern.new.store.bank es < patterns_weight c.loop-next.store.bank
    (c.in-Some.equation ∷ reverse c.loop-next.equations.items))
    (sym (popped c.pop-next.result c.open.new.equations.items c.pop-next.new.self.items c.pop-next.ensures.items c.pop-next.ensures.variant.1
    ∙ ap reverse (subst (IsOpened c.loop-next.store.bank (values_in c.args.environment) q c.loop-next.equations.items c.open.new.equations.items)
    c.in-Shut.is c.in_ok-more.ensures).0))
    (weight_meets c.loop-next.store.bank c.meet_pattern.new.store.bank (table_of c.loop-next.store.cells.cells) (values_in c.args.environment)
    c.in-Some.equation (reverse c.loop-next.equations.items) c.meet_pattern.ensures.keeps m.equations.1))

pub loop-next-preserved : goal.loop-next-preserved
loop-next-preserved c =
    let q : Equation = record { place = c.walk-equation.result; pattern = c.in-Some.equation.pattern } in
    let s = c.args.store.now in let after = c.meet_pattern.new.store in
    let m = matching_top c.loop-next.equations.items c.loop-next.next c.in-Some.equation c.in-Some.is c.loop-next.invariant.matching in
    record {
      matching = subst (IsMatching s.bank after.bank (table_of s.cells.cells) (table_of after.cells.cells) (wanted s.bank (table_of s.cells.cells)
          (app c.args.sign (term_trees s.bank c.args.args.now) ∷ []) (close (values_in c.args.environment) (term_tree s.bank c.args.head.0) ∷ []))
          c.meet_pattern.new.fresh (values_in c.args.environment))
          (sym (popped c.pop-next.result c.open.new.equations.items c.pop-next.new.self.items c.pop-next.ensures.items c.pop-next.ensures.variant.1
          ∙ ap reverse (subst (IsOpened c.loop-next.store.bank (values_in c.args.environment) q c.loop-next.equations.items c.open.new.equations.items)
          c.in-Shut.is c.in_ok-more.ensures).0))
          (matching_meets m q.place c.walk-equation.ensures.end c.walk-equation.ensures.same after.bank (table_of after.cells.cells)
          c.meet_pattern.ensures.keeps c.meet_pattern.new.fresh
          (subst (Settles c.meet_pattern.new.store.bank (table_of c.loop-next.store.cells.cells) (table_of after.cells.cells)
          (term_tree c.loop-next.store.bank c.walk-equation.result.0 ∷ [])
          (close (values_in c.args.environment) (term_tree c.loop-next.store.bank c.in-Some.equation.pattern.0) ∷ [])) c.if-not-branch.false
          c.in_ok-meet_pattern-in-Shut.ensures.settles)
          (c.in_ok-meet_pattern-in-Shut.ensures.fresh c.if-not-branch.false));
      marks = marks_then (stored s) (stored c.loop-next.store) (stored after) c.loop-next.invariant.marks c.meet_pattern.ensures.marks;
    }

pub returns-clause-solved : goal.returns-clause-solved
returns-clause-solved c =
    matching_ends
    (matching_over c.loop-next.equations.items c.loop-next.next c.in_default.is c.loop-next.invariant.matching)

pub returns-clause-keeps : goal.returns-clause-keeps
returns-clause-keeps c = c.loop-next.invariant.matching.extends

pub returns-clause-marks : goal.returns-clause-marks
returns-clause-marks c = c.loop-next.invariant.marks
