use Rattle.std.proofs.Common.{◌≡◌, ◌≢◌, ℕ, ◌+◌, ◌<◌, ◌≤◌, List, length, get_or, Some, inl, inr, true≢false, refl, ap, sym, subst, ◌∙◌, arith}
use Rattle.std.specs.List.{slice_get}
use Rattle.std.proofs.Math.Nat.{eq-or-lt_of_le}
use Rattle.std.proofs.lemmas.Option.{get_or_from_slice_get, slice_get-get_or}
use Rattle.ll_bank.specs.declared.At.{At}
use Rattle.ll_prooftext.specs.declared.table.Table.{Table}
use Rattle.ll_prooftext.specs.SharedReader.{AreInPlace, IsFirstOff}
use Rattle.ll_prooftext.specs.Tables.{row_at}
use Rattle.ll_prooftext.proofs.shared_reader.first_off.Goals as goal

module _ (t : Table) (rows : List At) (i : ℕ) (d : At) (before : AreInPlace t rows i) where
  -- one row more is in its place
  place_more : row_at t (get_or rows i d).0 ≡ Some i → AreInPlace t rows (i + 1)
  place_more here j a l e = elim (eq-or-lt_of_le (let h : j ≤ i = omega arith in h)) [
    | inl p ↦ ap (λ (x : At). row_at t x.0) (sym (get_or_from_slice_get rows i a d (subst (λ k. slice_get rows k ≡ Some a) p e)))
        ∙ (here ∙ ap Some (sym p))
    | inr q ↦ before j a q e
  ]

  -- or is the first that is not
  first_off_here : i < length rows → row_at t (get_or rows i d).0 ≢ Some i → IsFirstOff t rows i
  first_off_here l off = record { at = get_or rows i d; is = slice_get-get_or rows i d l; before = before; off = off }

pub returns-then-not-is_in_place : goal.returns-then-not-is_in_place
returns-then-not-is_in_place c =
    first_off_here c.args.table.now c.args.rows.now c.loop-row.row (record { 0 = 0 }) c.loop-row.invariant c.loop-row-test.true
    (λ e. true≢false (sym (c.if-not-is_in_place.ensures.1 e)))

pub loop-row-preserved : goal.loop-row-preserved
loop-row-preserved c =
    place_more c.args.table.now c.args.rows.now c.loop-row.row (record { 0 = 0 }) c.loop-row.invariant (c.if-not-is_in_place.ensures.0 refl)

pub returns : goal.returns
returns c = λ j a l e. c.loop-row.invariant j a (let h = c.loop-row-test.false in omega arith) e
