use Rattle.std.proofs.Common.{[], ◌∷◌, ◌++◌, refl, ◌≡◌, ◌-◌, ◌≤◌, length, take, drop, ap, sym, subst, ◌∙◌}
use Rattle.std.specs.Vec.{vec_capacity}
use Rattle.ll_resources.specs.declared.state.Change.{Change}
use Rattle.ll_resources.specs.Raw.{Raw, raw, front, uncovered}
use Rattle.ll_resources.proofs.ChangeLemmas.{room-trans}
use Rattle.ll_resources.proofs.ChainLemmas.{is-listed}
use Rattle.ll_resources.specs.Chains.{room_of, IsSound}
use Rattle.ll_resources.specs.Changes.{with_last, taken_back}
use Rattle.std.proofs.Math.Nat.{le_refl}
use Rattle.ll_resources.proofs.RoomLemmas.{le-same, lt-longer}
use Rattle.ll_resources.proofs.state.State.take_one_back.Goals as goal

pub put_marks-requires : goal.put_marks-requires
put_marks-requires g c =
    let sound = subst (λ (d : Change g.row.C.Denot). IsSound (room_of c.args.self.now)
    (taken_back d (raw c.args.self.now))) c.in-Remarked.is c.requires.sound in
    subst (λ bs. length bs ≤ vec_capacity c.args.self.now.live) (sym c.from.ensures) sound.live_fit

pub forget_last-requires : goal.forget_last-requires
forget_last-requires g c =
    subst (λ (d : Change g.row.C.Denot). IsSound (room_of c.args.self.now)
    (taken_back d (raw c.args.self.now))) c.in-SavedMarks.is c.requires.sound

pub push_reserved-requires : goal.push_reserved-requires
push_reserved-requires g c =
    let sound = subst (λ (d : Change g.row.C.Denot). IsSound (room_of c.args.self.now)
    (taken_back d (raw c.args.self.now))) c.in-Closed.is c.requires.sound in
    lt-longer c.args.self.now.entries.items c.in-Closed.entry c.args.self.now.entries.ok.0 sound.entries_fit

pub push_reserved-requires-in-Some : goal.push_reserved-requires-in-Some
push_reserved-requires-in-Some g c =
    let sound = subst (λ (d : Change g.row.C.Denot). IsSound (room_of c.args.self.now)
    (taken_back d (raw c.args.self.now))) c.in-Closed.is c.requires.sound in
    lt-longer c.args.self.now.live.items c.in-Some.mark c.args.self.now.live.ok.0
    (subst (λ o. length (with_last c.args.self.now.live.items o) ≤ vec_capacity c.args.self.now.live) c.in-Some.is sound.live_fit)

pub returns-in-Loaded-clause-state : goal.returns-in-Loaded-clause-state
returns-in-Loaded-clause-state g c =
    let old = c.args.self.now in
    let up = c.uncover.ensures.state in
    let live : c.pop.new.self.items ≡ front old.live.items =
    c.pop.ensures.rest ∙ (ap (λ n. take (n - 1) c.uncover.new.self.live.items) c.uncover.new.self.live.ok.0
    ∙ ap (λ (r : Raw g.row.C.Denot). front r.live) up) in
    ap (λ (r : Raw g.row.C.Denot). let s : Raw g.row.C.Denot = record r {
      live = c.pop.new.self.items;
      flag = c.in-Loaded.flag;
      next = c.in-Loaded.label;
    } in s) up
    ∙ ((λ i. record (uncovered (raw old)) { live = live i; flag = c.in-Loaded.flag; next = c.in-Loaded.label })
    ∙ sym (ap (λ (d : Change g.row.C.Denot). taken_back d (raw old)) c.in-Loaded.is))

pub returns-in-Remarked-clause-state : goal.returns-in-Remarked-clause-state
returns-in-Remarked-clause-state g c =
    let old = c.args.self.now in
    let live : c.put_marks.new.live.items ≡ drop c.in-Remarked.from old.saves.marks.items = c.put_marks.ensures.marks ∙ c.from.ensures in
    (λ i. record (raw old) {
      live = live i;
      flag = c.in-Remarked.flag;
      skips = c.in-Remarked.skips;
      marks = c.cut.ensures.marks i;
      kept = c.cut.ensures.kept i;
    })
    ∙ sym (ap (λ (d : Change g.row.C.Denot). taken_back d (raw old)) c.in-Remarked.is)

pub returns-in-Loaded-clause-room : goal.returns-in-Loaded-clause-room
returns-in-Loaded-clause-room g c = room-trans c.uncover.ensures.room (record {
  entries = le_refl _;
  live = le-same c.pop.ensures.capacity;
  keys = le_refl _;
})

pub set_top-requires : goal.set_top-requires
set_top-requires g c =
    let sound = subst (λ (d : Change g.row.C.Denot). IsSound (room_of c.args.self.now) (taken_back d (raw c.args.self.now)))
    c.in-Closed.is c.requires.sound in
    is-listed (c.args.self.now.entries.items ++ c.in-Closed.entry ∷ []) c.args.self.now.entries.items c.in-Closed.entry c.args.self.now.tops.items refl
    sound.keys_fit

pub returns-in-Picked-clause-room : goal.returns-in-Picked-clause-room
returns-in-Picked-clause-room g c = record { entries = le_refl _; live = le-same c.set_mark.ensures.room; keys = le_refl _ }

pub returns-in-Erased-clause-room : goal.returns-in-Erased-clause-room
returns-in-Erased-clause-room g c = record { entries = le_refl _; live = le_refl _; keys = le_refl _ }

pub returns-in-SavedMarks-clause-room : goal.returns-in-SavedMarks-clause-room
returns-in-SavedMarks-clause-room g c = c.forget_last.ensures.room

pub returns-in-Remarked-clause-room : goal.returns-in-Remarked-clause-room
returns-in-Remarked-clause-room g c = record { entries = le_refl _; live = c.put_marks.ensures.room; keys = le_refl _ }

pub returns-in-Picked-clause-state : goal.returns-in-Picked-clause-state
returns-in-Picked-clause-state g c =
    (λ i. record (raw c.args.self.now) { live = c.set_mark.ensures.mark i })
    ∙ sym (ap (λ (d : Change g.row.C.Denot). taken_back d (raw c.args.self.now)) c.in-Picked.is)

pub returns-in-SavedMarks-clause-state : goal.returns-in-SavedMarks-clause-state
returns-in-SavedMarks-clause-state g c =
    c.forget_last.ensures.state ∙ sym (ap (λ (d : Change g.row.C.Denot). taken_back d (raw c.args.self.now)) c.in-SavedMarks.is)
