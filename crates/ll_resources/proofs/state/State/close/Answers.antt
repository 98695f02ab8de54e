use Rattle.std.proofs.Common.{◌≡◌, ℕ, ◌-◌, Bool, true, false, ◌||◌, ◌&&◌, not, List, [], ◌∷◌, ◌++◌, Some, None, length, get_or, take, sym, ap, refl, ◌∙◌}
use Rattle.std.specs.Prelude.{Option, option_to_list, reverse, if◌then◌else◌}
use Rattle.std.proofs.lemmas.List.{append-nil}
use Rattle.ll_resources.specs.declared.state.Change.TheVariants.{Closed}
use Rattle.ll_laws.specs.Attempt.{is_linear}
use Rattle.ll_resources.specs.declared.state.Stored.{Stored}
use Rattle.ll_resources.specs.Raw.{raw, front, top_in, top_of, tops_under, newest_linear}
use Rattle.ll_resources.proofs.ChainLemmas.{is-listed, tops-closed}
use Rattle.ll_resources.proofs.RawLemmas.{newest-is}
use Rattle.ll_resources.proofs.SeenLemmas.{front-last}
use Rattle.ll_resources.specs.Changes.{with_last, taken_back}
use Rattle.ll_resources.proofs.ChangeLemmas.{back-closed}
use Rattle.ll_resources.proofs.RoomLemmas.{le-same}
use Rattle.ll_resources.proofs.state.State.close.Goals as goal

flag_after : (linear saved flag : Bool) → ((linear && saved) || flag) ≡ (if linear then saved || flag else flag)
flag_after true saved flag = refl
flag_after false saved flag = refl

goes_on : (linear mark flag : Bool) → ((linear && mark) && not flag) ≡ false → (linear && (mark && not flag)) ≡ false
goes_on true mark flag h = h
goes_on false mark flag h = refl

with_last-list : (bs : List Bool) (last : Option Bool) → with_last bs last ≡ bs ++ option_to_list last
with_last-list bs None = sym (append-nil bs)
with_last-list bs (Some b) = refl

pub returns-clause-leads : goal.returns-clause-leads
returns-clause-leads g c =
    let old = c.args.self.now in
    let last : c.index-entry.result.now ≡ get_or old.entries.items (length old.entries.items - 1) c.index-entry.result.now =
    c.index-entry.ensures ∙ ap (λ n. get_or old.entries.items (n - 1) c.index-entry.result.now) (c.len.ensures ∙ old.entries.ok.0) in
    let entries : c.pop.new.self.items ≡ front old.entries.items =
    c.pop.ensures.rest ∙ ap (λ n. take (n - 1) old.entries.items) old.entries.ok.0 in
    let live : c.pop-live.new.self.items ≡ front old.live.items =
    c.pop-live.ensures.rest ∙ ap (λ n. take (n - 1) old.live.items) old.live.ok.0 in
    let marks : with_last (front old.live.items) c.pop-live.result ≡ old.live.items =
    with_last-list (front old.live.items) c.pop-live.result
    ∙ (ap (λ bs. bs ++ option_to_list c.pop-live.result) (sym live) ∙ sym c.pop-live.ensures.items) in
    let d = c.index-entry.result.now in
    let tops : (k : ℕ) → top_in c.set_top.new.tops.items k ≡ tops_under (reverse old.entries.items) (top_in old.tops.items) k =
    λ k. c.set_top.ensures.top k ∙ tops-closed old.entries.items d (top_in old.tops.items) k c.requires.some last in
    record {
      back = (λ i. taken_back (Closed d c.pop-live.result old.flag c.top_of-top.result)
          (record (raw old) { entries = entries i; live = live i; tops = λ k. tops k i }))
          ∙ back-closed d c.pop-live.result old.flag c.top_of-top.result (raw old) c.requires.some last marks
          (c.top_of-top.ensures ∙ ap (λ ts. top_of d.key (top_in ts)) c.as_slice-2.ensures.value);
      room = record {
        entries = le-same c.pop.ensures.capacity;
        live = le-same c.pop-live.ensures.capacity;
        keys = le-same c.set_top.ensures.room;
      };
    }

pub set_top-requires : goal.set_top-requires
set_top-requires g c =
    let old = c.args.self.now in
    let d = c.index-entry.result.now in
    let last : d ≡ get_or old.entries.items (length old.entries.items - 1) d =
    c.index-entry.ensures ∙ ap (λ n. get_or old.entries.items (n - 1) d) (c.len.ensures ∙ old.entries.ok.0) in
    is-listed old.entries.items (front old.entries.items) d old.tops.items
    (sym (ap (λ x. front old.entries.items ++ x ∷ []) last ∙ front-last old.entries.items d c.requires.some)) c.requires.sound.keys_fit

pub returns-clause-closes : goal.returns-clause-closes
returns-clause-closes g c =
    let old = c.args.self.now in
    let d = c.index-entry.result.now in
    let last : d ≡ get_or old.entries.items (length old.entries.items - 1) d =
    c.index-entry.ensures ∙ ap (λ n. get_or old.entries.items (n - 1) d) (c.len.ensures ∙ old.entries.ok.0) in
    let entries : c.pop.new.self.items ≡ front old.entries.items =
    c.pop.ensures.rest ∙ ap (λ n. take (n - 1) old.entries.items) old.entries.ok.0 in
    let live : c.pop-live.new.self.items ≡ front old.live.items =
    c.pop-live.ensures.rest ∙ ap (λ n. take (n - 1) old.live.items) old.live.ok.0 in
    let tops : (k : ℕ) → top_in c.set_top.new.tops.items k ≡ tops_under (reverse old.entries.items) (top_in old.tops.items) k =
    λ k. c.set_top.ensures.top k ∙ tops-closed old.entries.items d (top_in old.tops.items) k c.requires.some last in
    let linear : c.is_bounded-linear.result ≡ newest_linear (reverse old.entries.items) =
    c.is_bounded-linear.ensures
    ∙ (ap (λ (s : Stored g.row.C.Denot). is_linear s.kind) last ∙ sym (newest-is (raw old) d c.requires.some)) in
    let mark : c.mark_at.result ≡ get_or (reverse old.live.items) 0 false =
    c.mark_at.ensures ∙ ap (λ bs. get_or (reverse bs) 0 false) c.as_slice.ensures.value in
    record {
      goes = sym (λ i. linear i && (mark i && not old.flag)) ∙ goes_on c.is_bounded-linear.result c.mark_at.result old.flag c.if-linear-mark_at.false;
      state = λ i. record (raw old) {
        entries = entries i;
        live = live i;
        tops = λ k. tops k i;
        flag = (flag_after c.is_bounded-linear.result c.args.saved old.flag ∙ ap (λ b. if b then c.args.saved || old.flag else old.flag) linear) i;
      };
    }
