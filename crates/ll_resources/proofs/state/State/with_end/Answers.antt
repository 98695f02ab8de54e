use Rattle.std.proofs.Common.{rules, ◌≡◌, ◌++◌, ◌||◌, ◌&&◌, ◌∙◌, ap, arith, reverse, get_or, false}
use Rattle.std.proofs.lemmas.Result.{IfOk-from_err}
use Rattle.ll_list_laws.proofs.CallerLemmas.{OnErr-always}
use Rattle.ll_resources.specs.declared.saves.SavedMarks.{SavedMarks}
use Rattle.ll_resources.specs.declared.state.Change.TheVariants.{Remarked}
use Rattle.ll_resources.specs.declared.state.State.{State}
use Rattle.ll_laws.specs.Settle.{both_live}
use Rattle.ll_resources.specs.Raw.{raw, kept_under, block_later}
use Rattle.ll_resources.specs.Saves.{block_of}
use Rattle.ll_resources.specs.Seen.{filled}
use Rattle.ll_resources.specs.Changes.{taken_back}
use Rattle.ll_resources.proofs.ChangeLemmas.{back-remarked}
use Rattle.ll_resources.proofs.state.State.with_end.Goals as goal

pub returns-in_err-from-clause-joins : goal.returns-in_err-from-clause-joins
returns-in_err-from-clause-joins g c = IfOk-from_err c.from_residual.result _ c.from_residual.ensures.0

pub returns-in_err-from-clause-agrees : goal.returns-in_err-from-clause-agrees
returns-in_err-from-clause-agrees g c = IfOk-from_err c.from_residual.result _ c.from_residual.ensures.0

pub returns-in_err-from-clause-leads : goal.returns-in_err-from-clause-leads
returns-in_err-from-clause-leads g c = IfOk-from_err c.from_residual.result _ c.from_residual.ensures.0

pub returns-in_err-from-clause-same : goal.returns-in_err-from-clause-same
returns-in_err-from-clause-same g c = IfOk-from_err c.from_residual.result _ c.from_residual.ensures.0

pub returns-in_err-from-clause-refused : goal.returns-in_err-from-clause-refused
returns-in_err-from-clause-refused g c =
    let new : State g.row.C.Denot = record c.args.self.now { saves = c.note.new.self } in
    let same : raw new ≡ raw c.args.self.now =
    λ i. record (raw c.args.self.now) { marks = c.in_err-from.ensures.refused i; kept = c.in_err-from.ensures.kept i } in
    OnErr-always c.from_residual.result same

pub returns-clause-joins : goal.returns-clause-joins
returns-clause-joins g c =
    let old = c.args.self.now in
    let marks : c.note.new.self.marks.items ≡ old.saves.marks.items ++ old.live.items =
    c.in_ok-from.ensures.marks ∙ ap (λ ms. old.saves.marks.items ++ ms) c.as_slice-2.ensures.value in
    let none : SavedMarks = record { count = 0; next = 0; from = 0; to = 0; flag = false; skips = false } in
    let first : c.live.result.now ≡ block_later c.args.half (raw old) =
    c.live.ensures none ∙ (λ i. block_of (marks i) (get_or (c.in_ok-from.ensures.kept i) c.args.half none)) in
    let flag : c.if-flag.self ≡ ((kept_under c.args.number (raw old)).flag || ((kept_under c.args.half (raw old)).flag && old.flag)) = search rules in
    record {
      state = λ i. record (raw old) { live = c.keep_both.new.second.items; flag = flag i; marks = marks i; kept = c.in_ok-from.ensures.kept i };
      both = λ n. c.keep_both.ensures.both n ∙ ap (λ bs. both_live (filled n (reverse bs)) (filled n (reverse old.live.items))) first;
    }

pub returns-clause-leads : goal.returns-clause-leads
returns-clause-leads g c =
    let old = c.args.self.now in
    let marks : c.note.new.self.marks.items ≡ old.saves.marks.items ++ old.live.items =
    c.in_ok-from.ensures.marks ∙ ap (λ ms. old.saves.marks.items ++ ms) c.as_slice-2.ensures.value in
    record {
      back = (λ i. taken_back (Remarked (c.in_ok-from.ensures.from i) old.flag old.skips)
          (record (raw old) { live = c.keep_both.new.second.items; flag = c.if-flag.self; marks = marks i; kept = c.in_ok-from.ensures.kept i }))
          ∙ back-remarked c.keep_both.new.second.items c.if-flag.self (raw old);
      room = record { entries = omega arith; live = omega (arith, c.keep_both.ensures.room); keys = omega arith };
    }
