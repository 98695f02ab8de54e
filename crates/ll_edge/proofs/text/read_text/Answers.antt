use Rattle.std.proofs.Common.{◌≡◌, ◌≤◌, ℕ, ◌+◌, [], ◌++◌, length, take, Ok, Err, refl, sym, subst, ◌∙◌, arith, length-take}
use Rattle.std.specs.Prelude.{IsErrOf}
use Rattle.std.proofs.lemmas.Result.{IfOk-from_err, err_from_is_err_and}
use Rattle.ll_edge.specs.declared.text.ReadFault.{ReadFault}
use Rattle.ll_edge.specs.declared.text.ReadFault.TheVariants.{Absent, Failed, TooLong}
use Rattle.ll_edge.specs.Log.{Hands, handed_none, Reads, Handed, NoText, Unreadable}
use Rattle.ll_edge.proofs.Logs.{hands_more, reads_last, reads_end, fits_told, told_whole, told_absent, told_longer}
use Rattle.ll_edge.proofs.Kept.{kept_none, kept_call}
use Rattle.ll_edge.proofs.text.read_text.Goals as goal

none-within : {n : ℕ} (limit : ℕ) → n ≡ 0 → n ≤ limit
none-within limit e = omega arith

-- no answer is two at once
ok-or-err : {T E P : Type 0} {text : T} {fault : E} → IsErrOf (Ok text) fault → P
ok-or-err e = absurd (let no : ⊥ = cc in no)

long-absent : {T P : Type 0} → IsErrOf {T = T} {E = ReadFault} (Err TooLong) Absent → P
long-absent e = absurd (let no : ⊥ = cc in no)

long-failed : {T P : Type 0} → IsErrOf {T = T} {E = ReadFault} (Err TooLong) Failed → P
long-failed e = absurd (let no : ⊥ = cc in no)

pub loop-chunk-preserved : goal.loop-chunk-preserved
loop-chunk-preserved g c =
    let before = c.loop-chunk.invariant in
    let answer = c.in-Bytes.ensures in
    let added = c.in_ok-extend_from_slice-in-Bytes.ensures in
    record {
      chunk = before.chunk;
      within = omega (arith, added.len, c.read.auto.buf, length-take c.min-room.result c.deref_mut.result.now, length-take c.in-Bytes.n c.read.new.buf);
      kept = kept_call _ _ _ before.kept answer.same_texts answer.faults_kept answer.absences_kept answer.logs;
      no_fault = answer.no_fault ∙ before.no_fault;
      no_absence = answer.no_absence ∙ before.no_absence;
      hands = hands_more (g.F.Shelf.log c.read.new.self) c.extend_from_slice.new.self.items (take c.in-Bytes.n c.read.new.buf) _ c.loop-chunk.invariant.hands
          (c.len-in-loop-chunk-3.ensures ∙ c.loop-chunk.text.ok.0) c.in-Bytes.ensures.logs added.items
          (omega (arith, c.in-Bytes.n-test, c.in-Bytes.ensures.fits, length-take c.in-Bytes.n c.read.new.buf));
    }

pub loop-chunk-init : goal.loop-chunk-init
loop-chunk-init g c = record {
  chunk = let e = c.in_ok-chunk.ensures in omega (arith, e);
  within = none-within (c.args.limit + 1) c.new-text.ensures.len;
  kept = kept_none;
  no_fault = refl;
  no_absence = refl;
  hands = subst (λ bytes. Hands c.args.name.now (g.F.Shelf.log c.args.shelf.now) (g.F.Shelf.log c.args.shelf.now) bytes)
      (sym c.new-text.ensures.items) handed_none;
}

pub returns-in_err-chunk-clause-no_fault : goal.returns-in_err-chunk-clause-no_fault
returns-in_err-chunk-clause-no_fault g c = IfOk-from_err c.from_residual.result _ c.from_residual.ensures.0

pub returns-in_err-chunk-clause-no_absence : goal.returns-in_err-chunk-clause-no_absence
returns-in_err-chunk-clause-no_absence g c = IfOk-from_err c.from_residual.result _ c.from_residual.ensures.0

pub returns-in_err-chunk-clause-within_limit : goal.returns-in_err-chunk-clause-within_limit
returns-in_err-chunk-clause-within_limit g c = IfOk-from_err c.from_residual.result _ c.from_residual.ensures.0

pub returns-in_err-chunk-clause-whole : goal.returns-in_err-chunk-clause-whole
returns-in_err-chunk-clause-whole g c = IfOk-from_err c.from_residual.result _ c.from_residual.ensures.0

pub returns-in-Bytes-eq0-clause-no_fault : goal.returns-in-Bytes-eq0-clause-no_fault
returns-in-Bytes-eq0-clause-no_fault g c = c.in-Bytes-eq0.ensures.no_fault ∙ c.loop-chunk.invariant.no_fault

pub returns-in-Bytes-eq0-clause-no_absence : goal.returns-in-Bytes-eq0-clause-no_absence
returns-in-Bytes-eq0-clause-no_absence g c = c.in-Bytes-eq0.ensures.no_absence ∙ c.loop-chunk.invariant.no_absence

pub returns-in-Bytes-eq0-clause-within_limit : goal.returns-in-Bytes-eq0-clause-within_limit
returns-in-Bytes-eq0-clause-within_limit g c = subst (λ n. n ≤ c.args.limit) c.len.ensures c.loop-chunk-test.true

at_end : (g : _) (c : goal.After-drop-chunk g) → Reads c.args.name.now (g.F.Shelf.log c.args.shelf.now)
    (g.F.Shelf.log c.read.new.self) c.loop-chunk.text.items (Handed [])
at_end g c = reads_end (g.F.Shelf.log c.read.new.self) _ _ c.read.new.buf c.loop-chunk.invariant.hands
    (c.len-in-loop-chunk-3.ensures ∙ c.loop-chunk.text.ok.0) c.in-Bytes-eq0.field-0-test c.in-Bytes-eq0.ensures.logs

pub returns-in-Bytes-eq0-clause-reading : goal.returns-in-Bytes-eq0-clause-reading
returns-in-Bytes-eq0-clause-reading g c = at_end g c

pub returns-in-Bytes-eq0-clause-whole : goal.returns-in-Bytes-eq0-clause-whole
returns-in-Bytes-eq0-clause-whole g c =
    told_whole (g.F.Shelf.texts c.args.shelf.now)
    (fits_told (g.F.Shelf.texts c.args.shelf.now) (g.F.Shelf.texts c.read.new.self) (g.F.Shelf.log c.args.shelf.now) (g.F.Shelf.log c.read.new.self)
    (c.in-Bytes-eq0.ensures.same_texts ∙ c.loop-chunk.invariant.kept.same_texts) (g.met.F.Shelf.told c.read.new.self)) (at_end g c)

pub returns-in-Bytes-eq0-clause-absent : goal.returns-in-Bytes-eq0-clause-absent
returns-in-Bytes-eq0-clause-absent g c = λ e. ok-or-err e

pub returns-in-Bytes-eq0-clause-failed : goal.returns-in-Bytes-eq0-clause-failed
returns-in-Bytes-eq0-clause-failed g c = λ e. ok-or-err e

pub returns-in-Bytes-eq0-clause-told_absent : goal.returns-in-Bytes-eq0-clause-told_absent
returns-in-Bytes-eq0-clause-told_absent g c = λ e. ok-or-err e

pub returns-in-Bytes-eq0-clause-too_long : goal.returns-in-Bytes-eq0-clause-too_long
returns-in-Bytes-eq0-clause-too_long g c = λ e. ok-or-err e

pub returns-in_err-extend_from_slice-in-Bytes-clause-no_fault : goal.returns-in_err-extend_from_slice-in-Bytes-clause-no_fault
returns-in_err-extend_from_slice-in-Bytes-clause-no_fault g c =
    IfOk-from_err c.from_residual-in_err-extend_from_slice-in-Bytes.result _ c.from_residual-in_err-extend_from_slice-in-Bytes.ensures.0

pub returns-in_err-extend_from_slice-in-Bytes-clause-no_absence : goal.returns-in_err-extend_from_slice-in-Bytes-clause-no_absence
returns-in_err-extend_from_slice-in-Bytes-clause-no_absence g c =
    IfOk-from_err c.from_residual-in_err-extend_from_slice-in-Bytes.result _ c.from_residual-in_err-extend_from_slice-in-Bytes.ensures.0

pub returns-in_err-extend_from_slice-in-Bytes-clause-within_limit : goal.returns-in_err-extend_from_slice-in-Bytes-clause-within_limit
returns-in_err-extend_from_slice-in-Bytes-clause-within_limit g c =
    IfOk-from_err c.from_residual-in_err-extend_from_slice-in-Bytes.result _ c.from_residual-in_err-extend_from_slice-in-Bytes.ensures.0

pub returns-in_err-extend_from_slice-in-Bytes-clause-whole : goal.returns-in_err-extend_from_slice-in-Bytes-clause-whole
returns-in_err-extend_from_slice-in-Bytes-clause-whole g c =
    IfOk-from_err c.from_residual-in_err-extend_from_slice-in-Bytes.result _ c.from_residual-in_err-extend_from_slice-in-Bytes.ensures.0

pub returns-in-Failed-clause-no_fault : goal.returns-in-Failed-clause-no_fault
returns-in-Failed-clause-no_fault g c = _

pub returns-in-Failed-clause-no_absence : goal.returns-in-Failed-clause-no_absence
returns-in-Failed-clause-no_absence g c = _

pub returns-in-Failed-clause-within_limit : goal.returns-in-Failed-clause-within_limit
returns-in-Failed-clause-within_limit g c = _

pub returns-in-Failed-clause-whole : goal.returns-in-Failed-clause-whole
returns-in-Failed-clause-whole g c = _

pub returns-clause-no_fault : goal.returns-clause-no_fault
returns-clause-no_fault g c = _

pub returns-clause-no_absence : goal.returns-clause-no_absence
returns-clause-no_absence g c = _

pub returns-clause-within_limit : goal.returns-clause-within_limit
returns-clause-within_limit g c = _

pub returns-clause-whole : goal.returns-clause-whole
returns-clause-whole g c = _

pub returns-clause-absent : goal.returns-clause-absent
returns-clause-absent g c = λ e. long-absent e

pub returns-clause-failed : goal.returns-clause-failed
returns-clause-failed g c = λ e. long-failed e

pub returns-clause-told_absent : goal.returns-clause-told_absent
returns-clause-told_absent g c = λ e. long-absent e

one_past : (g : _) (c : goal.After-drop-text-2 g) → length c.loop-chunk.text.items ≡ c.args.limit + 1
one_past g c = omega (arith, c.loop-chunk.invariant.within, c.loop-chunk-test.false, c.len.ensures, c.loop-chunk.text.ok.0)

pub returns-clause-reading : goal.returns-clause-reading
returns-clause-reading g c = (c.loop-chunk.text.items, c.loop-chunk.invariant.hands, one_past g c)

pub returns-clause-too_long : goal.returns-clause-too_long
returns-clause-too_long g c = λ e.
    told_longer (g.F.Shelf.texts c.args.shelf.now) c.args.limit
    (fits_told (g.F.Shelf.texts c.args.shelf.now) (g.F.Shelf.texts c.loop-chunk.shelf) (g.F.Shelf.log c.args.shelf.now) (g.F.Shelf.log c.loop-chunk.shelf)
    c.loop-chunk.invariant.kept.same_texts (g.met.F.Shelf.told c.loop-chunk.shelf)) c.loop-chunk.invariant.hands (one_past g c)

pub returns-in-Absent-clause-reading : goal.returns-in-Absent-clause-reading
returns-in-Absent-clause-reading g c = (
  c.loop-chunk.text.items,
  reads_last (g.F.Shelf.log c.read.new.self) _ NoText c.loop-chunk.invariant.hands
      (c.len-in-loop-chunk-3.ensures ∙ c.loop-chunk.text.ok.0) c.in-Absent.ensures.logs,
)

pub returns-in-Absent-clause-told_absent : goal.returns-in-Absent-clause-told_absent
returns-in-Absent-clause-told_absent g c = λ e.
    told_absent (g.F.Shelf.texts c.args.shelf.now)
    (fits_told (g.F.Shelf.texts c.args.shelf.now) (g.F.Shelf.texts c.read.new.self) (g.F.Shelf.log c.args.shelf.now) (g.F.Shelf.log c.read.new.self)
    (c.in-Absent.ensures.same_texts ∙ c.loop-chunk.invariant.kept.same_texts) (g.met.F.Shelf.told c.read.new.self))
    (reads_last (g.F.Shelf.log c.read.new.self) _ NoText c.loop-chunk.invariant.hands
    (c.len-in-loop-chunk-3.ensures ∙ c.loop-chunk.text.ok.0) c.in-Absent.ensures.logs)

pub returns-in-Failed-clause-reading : goal.returns-in-Failed-clause-reading
returns-in-Failed-clause-reading g c = (
  c.loop-chunk.text.items,
  reads_last (g.F.Shelf.log c.read.new.self) _ Unreadable c.loop-chunk.invariant.hands
      (c.len-in-loop-chunk-3.ensures ∙ c.loop-chunk.text.ok.0) c.in-Failed.ensures.logs,
)

pub returns-in_err-chunk-clause-reading : goal.returns-in_err-chunk-clause-reading
returns-in_err-chunk-clause-reading g c =
    let p = err_from_is_err_and c.from_residual.result c.from_residual.ensures.1 in rw (p.1, p.2) ([], handed_none)

pub returns-in_err-extend_from_slice-in-Bytes-clause-reading : goal.returns-in_err-extend_from_slice-in-Bytes-clause-reading
returns-in_err-extend_from_slice-in-Bytes-clause-reading g c =
    let p = err_from_is_err_and c.from_residual-in_err-extend_from_slice-in-Bytes.result c.from_residual-in_err-extend_from_slice-in-Bytes.ensures.1 in
    rw (p.1, p.2) (
      c.loop-chunk.text.items ++ take c.in-Bytes.n c.read.new.buf,
      hands_more (g.F.Shelf.log c.read.new.self) (c.loop-chunk.text.items ++ take c.in-Bytes.n c.read.new.buf) (take c.in-Bytes.n c.read.new.buf)
          _ c.loop-chunk.invariant.hands
          (c.len-in-loop-chunk-3.ensures ∙ c.loop-chunk.text.ok.0) c.in-Bytes.ensures.logs refl
          (omega (arith, c.in-Bytes.n-test, c.in-Bytes.ensures.fits, length-take c.in-Bytes.n c.read.new.buf)),
    )

pub overflow_sub-limit : goal.overflow_sub-limit
overflow_sub-limit g c = subst (λ n. n ≤ c.args.limit + 1) (sym c.len-in-loop-chunk-2.ensures) c.loop-chunk.invariant.within

pub returns-in-Bytes-eq0-clause-kept : goal.returns-in-Bytes-eq0-clause-kept
returns-in-Bytes-eq0-clause-kept g c =
    let answer = c.in-Bytes-eq0.ensures in kept_call _ _ _ c.loop-chunk.invariant.kept answer.same_texts answer.faults_kept answer.absences_kept answer.logs

pub returns-in_err-extend_from_slice-in-Bytes-clause-kept : goal.returns-in_err-extend_from_slice-in-Bytes-clause-kept
returns-in_err-extend_from_slice-in-Bytes-clause-kept g c =
    let answer = c.in-Bytes.ensures in kept_call _ _ _ c.loop-chunk.invariant.kept answer.same_texts answer.faults_kept answer.absences_kept answer.logs

pub returns-in-Failed-clause-kept : goal.returns-in-Failed-clause-kept
returns-in-Failed-clause-kept g c =
    let answer = c.in-Failed.ensures in kept_call _ _ _ c.loop-chunk.invariant.kept answer.same_texts answer.faults_kept answer.absences_kept answer.logs

pub returns-in-Absent-clause-kept : goal.returns-in-Absent-clause-kept
returns-in-Absent-clause-kept g c =
    let answer = c.in-Absent.ensures in kept_call _ _ _ c.loop-chunk.invariant.kept answer.same_texts answer.faults_kept answer.absences_kept answer.logs

pub returns-in_err-chunk-clause-kept : goal.returns-in_err-chunk-clause-kept
returns-in_err-chunk-clause-kept g c = kept_none

pub returns-clause-kept : goal.returns-clause-kept
returns-clause-kept g c = c.loop-chunk.invariant.kept
