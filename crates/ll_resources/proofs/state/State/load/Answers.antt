use Rattle.std.proofs.lemmas.Result.{IfOk-from_err}
use Rattle.std.proofs.Common.{◌≡◌, ℕ, suc, ◌+◌, false, nat_eq, [], ◌∷◌, ◌++◌, length, ap, sym, subst, ◌∙◌, arith, length-append, rules}
use Rattle.std.specs.Prelude.{Some, if◌then◌else◌}
use Rattle.ll_laws.specs.Attempt.{is_linear}
use Rattle.ll_resources.specs.declared.state.Change.TheVariants.{Loaded}
use Rattle.ll_resources.specs.Chains.{IsNewestOpen, Loads, IsChained}
use Rattle.ll_resources.specs.Changes.{taken_back}
use Rattle.ll_resources.proofs.ChangeLemmas.{back-loaded}
use Rattle.ll_list_laws.proofs.CallerLemmas.{OnErr-always}
use Rattle.ll_resources.specs.declared.state.State.{State}
use Rattle.ll_resources.specs.Raw.{Raw, raw, top_in, with_top, chained}
use Rattle.std.proofs.Math.Nat.{le_refl, le_trans}
use Rattle.ll_resources.proofs.RoomLemmas.{le-same, lt-one_more, fits-32, fits-more}
use Rattle.ll_resources.proofs.state.State.load.Goals as goal

pub returns-in_err-reserve-clause-loaded : goal.returns-in_err-reserve-clause-loaded
returns-in_err-reserve-clause-loaded g c = IfOk-from_err c.from_residual.result _ c.from_residual.ensures.0

pub returns-in_err-reserve-clause-leads : goal.returns-in_err-reserve-clause-leads
returns-in_err-reserve-clause-leads g c = IfOk-from_err c.from_residual.result _ c.from_residual.ensures.0

pub returns-in_err-reserve-2-clause-loaded : goal.returns-in_err-reserve-2-clause-loaded
returns-in_err-reserve-2-clause-loaded g c = IfOk-from_err c.from_residual-in_err-reserve-2.result _ c.from_residual-in_err-reserve-2.ensures.0

pub returns-in_err-reserve-2-clause-leads : goal.returns-in_err-reserve-2-clause-leads
returns-in_err-reserve-2-clause-leads g c = IfOk-from_err c.from_residual-in_err-reserve-2.result _ c.from_residual-in_err-reserve-2.ensures.0

pub returns-in_err-reserve-clause-refused : goal.returns-in_err-reserve-clause-refused
returns-in_err-reserve-clause-refused g c =
    let new : State g.row.C.Denot = record c.args.self.now { entries = c.reserve.new.self } in
    let same : raw new ≡ raw c.args.self.now = λ i. record (raw c.args.self.now) { entries = c.in_err-reserve.ensures.items i } in
    OnErr-always c.from_residual.result same

pub returns-in_err-reserve-clause-room : goal.returns-in_err-reserve-clause-room
returns-in_err-reserve-clause-room g c = record { entries = c.reserve.ensures.capacity; live = le_refl _; keys = le_refl _ }

pub returns-in_err-reserve-2-clause-refused : goal.returns-in_err-reserve-2-clause-refused
returns-in_err-reserve-2-clause-refused g c =
    let new : State g.row.C.Denot = record c.args.self.now { entries = c.reserve.new.self; live = c.reserve-2.new.self } in
    let same : raw new ≡ raw c.args.self.now =
    λ i. record (raw c.args.self.now) { entries = c.in_ok-reserve.ensures.items i; live = c.in_err-reserve-2.ensures.items i } in
    OnErr-always c.from_residual-in_err-reserve-2.result same

pub returns-in_err-reserve-2-clause-room : goal.returns-in_err-reserve-2-clause-room
returns-in_err-reserve-2-clause-room g c = record { entries = c.reserve.ensures.capacity; live = c.reserve-2.ensures.capacity; keys = le_refl _ }

pub overflow_cast-label : goal.overflow_cast-label
overflow_cast-label g c = fits-32 c.requires.few

pub push_reserved-requires : goal.push_reserved-requires
push_reserved-requires g c = lt-one_more c.in_ok-reserve.ensures.ok

pub push_reserved-requires-2 : goal.push_reserved-requires-2
push_reserved-requires-2 g c = lt-one_more c.in_ok-reserve-2.ensures.ok

pub returns-clause-room : goal.returns-clause-room
returns-clause-room g c = record {
  entries = le_trans c.reserve.ensures.capacity (le-same c.push_reserved.ensures.capacity);
  live = le_trans c.reserve-2.ensures.capacity (le-same c.push_reserved-2.ensures.capacity);
  keys = le_trans c.in_ok-add_key.ensures.room (le-same c.set_top.ensures.room);
}

pub returns-in_err-add_key-clause-loaded : goal.returns-in_err-add_key-clause-loaded
returns-in_err-add_key-clause-loaded g c = IfOk-from_err c.from_residual-in_err-add_key.result _ c.from_residual-in_err-add_key.ensures.0

pub returns-in_err-add_key-clause-leads : goal.returns-in_err-add_key-clause-leads
returns-in_err-add_key-clause-leads g c = IfOk-from_err c.from_residual-in_err-add_key.result _ c.from_residual-in_err-add_key.ensures.0

pub returns-in_err-add_key-clause-room : goal.returns-in_err-add_key-clause-room
returns-in_err-add_key-clause-room g c = record {
  entries = c.reserve.ensures.capacity;
  live = c.reserve-2.ensures.capacity;
  keys = c.in_err-add_key.ensures.room;
}

pub returns-in_err-add_key-clause-refused : goal.returns-in_err-add_key-clause-refused
returns-in_err-add_key-clause-refused g c =
    let new : State g.row.C.Denot = record c.args.self.now { entries = c.reserve.new.self; live = c.reserve-2.new.self; tops = c.add_key.new.tops } in
    let same : raw new ≡ raw c.args.self.now = λ i. record (raw c.args.self.now) {
      entries = c.in_ok-reserve.ensures.items i;
      live = c.in_ok-reserve-2.ensures.items i;
      tops = λ k. c.in_err-add_key.ensures.same k i;
    } in
    OnErr-always c.from_residual-in_err-add_key.result same

pub returns-clause-loaded : goal.returns-clause-loaded
returns-clause-loaded g c =
    let old = c.args.self.now in
    let s : State g.row.C.Denot = record old { entries = c.reserve.new.self; live = c.reserve-2.new.self; tops = c.add_key.new.tops } in
    let same : raw s ≡ raw old = λ i. record (raw old) {
      entries = c.in_ok-reserve.ensures.items i;
      live = c.in_ok-reserve-2.ensures.items i;
      tops = λ k. c.in_ok-add_key.ensures.same k i;
    } in
    let key = c.args.key in
    let under : c.top_of-under.result ≡ top_in old.tops.items key =
    c.top_of-under.ensures ∙ (ap (λ ts. top_in ts key) c.as_slice.ensures.value ∙ c.in_ok-add_key.ensures.same key) in
    let at = c.open_before-past.result in
    let newest : IsNewestOpen (raw old) key (top_in old.tops.items key) at =
    subst (λ (r : Raw g.row.C.Denot). IsNewestOpen r key (top_in old.tops.items key) at) same
    (subst (λ n. IsNewestOpen (raw s) key n at) under c.open_before-past.ensures) in
    let entries : c.push_reserved.new.self.items ≡ old.entries.items ++ chained old.next c.args.kind c.args.clause key at (top_in old.tops.items key) ∷ [] =
    c.push_reserved.ensures.items
    ∙ (λ i. c.in_ok-reserve.ensures.items i ++ chained old.next c.args.kind c.args.clause key at (under i) ∷ []) in
    let live : c.push_reserved-2.new.self.items ≡ old.live.items ++ is_linear c.args.kind ∷ [] =
    c.push_reserved-2.ensures.items ∙ (λ i. c.in_ok-reserve-2.ensures.items i ++ c.is_bounded-linear.ensures i ∷ []) in
    let flag : c.if-not-linear.self ≡ (if is_linear c.args.kind then false else old.flag) = search rules in
    let count : c.len.result ≡ suc (length old.entries.items) =
    (let a = ap length entries in
    let b = length-append old.entries.items (chained old.next c.args.kind c.args.clause key at (top_in old.tops.items key) ∷ []) in
    omega (arith, c.len.ensures, c.push_reserved.new.self.ok.0, a, b)) in
    let next : old.next + 1 ≡ suc old.next = omega arith in
    let tops : (k : ℕ) → top_in c.set_top.new.tops.items k ≡ with_top (Some key) (suc (length old.entries.items)) (top_in old.tops.items) k =
    λ k. c.set_top.ensures.top k ∙ (λ i. if nat_eq k key then count i else c.in_ok-add_key.ensures.same k i) in
    record {
      at = at;
      newest = newest;
      state = λ i. record (raw old) { entries = entries i; live = live i; flag = flag i; next = next i; tops = λ k. tops k i };
    }

pub returns-clause-leads : goal.returns-clause-leads
returns-clause-leads g c =
    let old = c.args.self.now in
    let new : State g.row.C.Denot = record {
      entries = c.push_reserved.new.self;
      live = c.push_reserved-2.new.self;
      flag = c.if-not-linear.self;
      next = old.next + 1;
      saves = old.saves;
      tops = c.set_top.new.tops;
      skips = old.skips;
    } in
    let l : Loads c.args.kind c.args.clause c.args.key (raw old) (raw new) = returns-clause-loaded g c in
    record {
      back = ap (taken_back (Loaded old.next old.flag)) l.state ∙ back-loaded c.args.kind c.args.clause c.args.key l.at (raw old);
      room = returns-clause-room g c;
    }

pub open_before-past-requires : goal.open_before-past-requires
open_before-past-requires g c =
    let old = c.args.self.now in
    let s : State g.row.C.Denot = record old { entries = c.reserve.new.self; live = c.reserve-2.new.self; tops = c.add_key.new.tops } in
    let same : raw s ≡ raw old = λ i. record (raw old) {
      entries = c.in_ok-reserve.ensures.items i;
      live = c.in_ok-reserve-2.ensures.items i;
      tops = λ k. c.in_ok-add_key.ensures.same k i;
    } in
    subst (λ (r : Raw g.row.C.Denot). IsChained r) (sym same) c.requires.chained

pub returns-clause-refused : goal.returns-clause-refused
returns-clause-refused g c = _

pub overflow_add-self : goal.overflow_add-self
overflow_add-self g c = fits-more c.requires.few
