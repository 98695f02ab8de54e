-- Changes taken back one after another, and what a context has kept before them.
use Rattle.std.proofs.Common.{◌≡◌, ℕ, zero, suc, ◌+◌, ◌-◌, ◌<◌, ◌≤◌, Bool, false, List, [], ◌∷◌, ◌++◌, length, get_or, take, drop, set, refl, ap, sym, subst}
use Rattle.std.proofs.Common.{◌∙◌, inl, inr, arith, length-append}
use Rattle.std.proofs.Math.Nat.{le_trans}
use Rattle.std.proofs.lemmas.Bool.{cases_lt}
use Rattle.std.proofs.lemmas.List.{length-map, drop_all, drop_more, drop-append-le, take-append-drop, length-take-le, get_or-take, get_or_push}
use Rattle.std.proofs.Math.Seq.{take-append_seam, drop-append_seam, take-length}
use Rattle.std.specs.Prelude.{Option, Some, reverse}
use Rattle.ll_laws.specs.declared.Kind.{Kind}
use Rattle.ll_laws.specs.Attempt.{is_linear}
use Rattle.ll_resources.specs.declared.context.Saved.{Saved as Handle}
use Rattle.ll_resources.specs.declared.context.ContextMark.{ContextMark}
use Rattle.ll_resources.specs.declared.saves.SavedMarks.{SavedMarks as KeptRange}
use Rattle.ll_resources.specs.declared.state.Change.{Change}
use Rattle.ll_resources.specs.declared.state.Change.TheVariants.{Loaded, Closed, Picked, Erased, SavedMarks, Remarked}
use Rattle.ll_resources.specs.declared.state.State.{State}
use Rattle.ll_resources.specs.declared.state.Stored.{Stored}
use Rattle.ll_resources.specs.Saves.{block_of, kept_marks}
use Rattle.ll_resources.specs.Resources.{Resources, saved_at, KeepsSaved, SavedFits, after_save, after_with_mid}
use Rattle.ll_resources.specs.Raw.{Raw, raw, shown, front, chained, raw_loaded, raw_picked, raw_closed, raw_kept, kept_now}
use Rattle.ll_resources.specs.Raw.{raw_remarked, kept_under, with_top, tops_under, top_of}
use Rattle.ll_resources.specs.Raw.{block_later, with_skips}
use Rattle.ll_resources.specs.Chains.{Room, room_of, IsSound, IsNoLess, HasNoLess}
use Rattle.ll_resources.specs.History.{History, begun, HasMark, state_at, KeepsMarks, KeepsMarksTo}
use Rattle.ll_resources.specs.Changes.{with_last, without_last, taken_back, before, states_before, history, AreSound, Leads}
use Rattle.ll_resources.proofs.SeenLemmas.{front-push, front-last, reverse-push, reverse-front}
use Rattle.ll_resources.proofs.ChainLemmas.{top-back, top-restored, top-listed}
use Rattle.ll_resources.proofs.KeptLemmas.{saved-cut}
use Rattle.ll_resources.proofs.RawLemmas.{HasWithin, IsWell, entries-count, shown-kept, shown-mid}

-- a range of no marks
pub none_kept : KeptRange
none_kept = record { count = 0; next = 0; from = 0; to = 0; flag = false; skips = false }

-- room that is no less than room that is no less
pub room-trans : {a b c : Room} → IsNoLess a b → IsNoLess b c → IsNoLess a c
room-trans h k = record { entries = le_trans h.entries k.entries; live = le_trans h.live k.live; keys = le_trans h.keys k.keys }

module _ {C : Type 0} where
  -- later changes are taken back first
  pub before-append : (cs ds : List (Change C)) (r : Raw C) → before (cs ++ ds) r ≡ before cs (before ds r)
  before-append [] ds r = refl
  before-append (c ∷ cs) ds r = ap (taken_back c) (before-append cs ds r)

  -- the first changes are taken back after the others
  pub before-split : (n : ℕ) (cs : List (Change C)) (r : Raw C) → before (take n cs) (before (drop n cs) r) ≡ before cs r
  before-split n cs r = sym (before-append (take n cs) (drop n cs) r) ∙ ap (λ ds. before ds r) (take-append-drop n cs)

  -- the state before the changes behind the first n is the n-th of the states before each
  pub state-before : (cs : List (Change C)) (n : ℕ) (r : Raw C) → get_or (states_before cs r) n (shown r) ≡ shown (before (drop n cs) r)
  state-before [] n r = ap (λ ds. shown (before ds r)) (sym (let e : drop n [] ≡ [] = drop_all n [] (omega arith) in e))
  state-before (c ∷ cs) zero r = refl
  state-before (c ∷ cs) (suc n) r = state-before cs n r

  -- there are as many of them as changes
  pub length-states : (cs : List (Change C)) (r : Raw C) → length (states_before cs r) ≡ length cs
  length-states [] r = refl
  length-states (c ∷ cs) r = ap suc (length-states cs r)

  -- after a change the state before it is the last of them
  pub states-more : (cs : List (Change C)) (c : Change C) (r s : Raw C) → taken_back c s ≡ r
      → states_before (cs ++ c ∷ []) s ≡ states_before cs r ++ shown r ∷ []
  states-more [] c r s e = ap (λ t. shown t ∷ []) e
  states-more (d ∷ cs) c r s e =
      let h = states-more cs c r s e in
      let k : before (cs ++ c ∷ []) s ≡ before cs r = before-append cs (c ∷ []) s ∙ ap (before cs) e in
      ap (λ t. shown (taken_back d t) ∷ states_before (cs ++ c ∷ []) s) k ∙ ap (λ ts. shown (taken_back d (before cs r)) ∷ ts) h

  -- where the changes behind the first n are taken back the states before the others stay
  pub states-take : (n : ℕ) (cs : List (Change C)) (r : Raw C) → states_before (take n cs) (before (drop n cs) r) ≡ take n (states_before cs r)
  states-take zero cs r = refl
  states-take (suc n) [] r = refl
  states-take (suc n) (c ∷ cs) r =
      ap (λ t. shown (taken_back c t) ∷ states_before (take n cs) (before (drop n cs) r)) (before-split n cs r)
      ∙ ap (λ ts. shown (before (c ∷ cs) r) ∷ ts) (states-take n cs r)

  -- one change more taken back
  pub one-back : (cs : List (Change C)) (i : ℕ) (d : Change C) (r : Raw C) → i < length cs
      → before (drop i cs) r ≡ taken_back (get_or cs i d) (before (drop (i + 1) cs) r)
  one-back cs i d r l = ap (λ ds. before ds r) (drop_more cs i d l)

  -- the last change but those that were taken back already
  pub back-next : (cs : List (Change C)) (m n : ℕ) (x : Change C) (r s : Raw C) → m < n → n ≤ length cs → x ≡ get_or cs (n - 1) x
      → s ≡ before (drop n cs) r
      → taken_back x s ≡ before (drop (n - 1) cs) r
  back-next cs m n x r s l w e h =
      let up : n ≡ (n - 1) + 1 = omega (arith, l) in
      let low : n - 1 < length cs = omega (arith, l, w) in
      ap (taken_back x) (h ∙ ap (λ k. before (drop k cs) r) up)
      ∙ (ap (λ c. taken_back c (before (drop ((n - 1) + 1) cs) r)) e ∙ sym (one-back cs (n - 1) x r low))

  -- room that is no less than room that is no less
  pub less-trans : (r s t : State C) → HasNoLess r s → HasNoLess s t → HasNoLess r t
  less-trans r s t a b = room-trans a b

  -- ---- sound states

  -- with more room
  pub sound-wider : (r : Raw C) (a b : Room) → IsNoLess a b → IsSound a r → IsSound b r
  sound-wider r a b h s = record {
    entries_fit = (let e = s.entries_fit in let l = h.entries in omega arith);
    live_fit = (let e = s.live_fit in let l = h.live in omega arith);
    keys_fit = (λ key i e. let f = s.keys_fit key i e in let l = h.keys in omega arith);
    within = s.within;
    chained =
        s.chained;
  }

  -- before the last change but those that were taken back already
  pub sound-next : (cs : List (Change C)) (m n : ℕ) (x : Change C) (r s : Raw C) (a b : Room) → m < n → n ≤ length cs → x ≡ get_or cs (n - 1) x
      → s ≡ before (drop n cs) r → IsNoLess a b → AreSound cs r a
      → IsSound b (taken_back x s)
  sound-next cs m n x r s a b low w e h l sound =
      subst (λ t. IsSound b t) (sym (back-next cs m n x r s low w e h)) (sound-wider (before (drop (n - 1) cs) r) a b l (sound (n - 1)))

  -- after it
  pub sound-there : (cs : List (Change C)) (n : ℕ) (r s : Raw C) (a b : Room) → s ≡ before (drop n cs) r → IsNoLess a b → AreSound cs r a → IsSound b s
  sound-there cs n r s a b h l sound = subst (λ t. IsSound b t) (sym h) (sound-wider (before (drop n cs) r) a b l (sound n))

  -- with no change, for the state alone
  pub sound-none : (r : Raw C) (a : Room) → IsSound a r → AreSound [] r a
  sound-none r a s i = subst (λ ds. IsSound a (before ds r)) (sym (let e : drop i [] ≡ [] = drop_all i [] (omega arith) in e)) s

  -- the present one
  pub sound-now : (cs : List (Change C)) (r : Raw C) (a : Room) → AreSound cs r a → IsSound a r
  sound-now cs r a h = subst (λ ds. IsSound a (before ds r)) (drop_all (length cs) cs (omega arith)) (h (length cs))

  -- in more room
  pub sound-alike : (cs ds : List (Change C)) (r s : Raw C) (a b : Room) → ds ≡ cs → s ≡ r → IsNoLess a b → AreSound cs r a → AreSound ds s b
  sound-alike cs ds r s a b e f l h i = rw (e, f) (sound-wider (before (drop i cs) r) a b l (h i))

  -- in the same room
  pub sound-same : (cs ds : List (Change C)) (r : Raw C) (a : Room) → ds ≡ cs → AreSound cs r a → AreSound ds r a
  sound-same cs ds r a e h = subst (λ xs. AreSound xs r a) (sym e) h

  -- after a change
  sound-more : (cs ds : List (Change C)) (c : Change C) (r s : Raw C) (a b : Room) → ds ≡ cs ++ c ∷ [] → taken_back c s ≡ r → IsNoLess a b → IsSound b s
      → AreSound cs r a → AreSound ds s b
  sound-more cs ds c r s a b e f w now h i = rw e (elim (cases_lt (length cs) i) [
    | inl more ↦
        let n = length-append cs (c ∷ []) in
        let all : drop i (cs ++ c ∷ []) ≡ [] = drop_all i (cs ++ c ∷ []) (omega arith) in
        subst (λ ds. IsSound b (before ds s)) (sym all) now
    | inr within ↦
        let same : before (drop i (cs ++ c ∷ [])) s ≡ before (drop i cs) r =
        ap (λ ds. before ds s) (drop-append-le i cs (c ∷ []) within) ∙ (before-append (drop i cs) (c ∷ []) s ∙ ap (before (drop i cs)) f) in
        subst (λ (t : Raw C). IsSound b t) (sym same) (sound-wider (before (drop i cs) r) a b w (h i))
  ])

  -- where the last changes are taken back
  pub sound-take : (j : ℕ) (cs ds : List (Change C)) (r s : Raw C) (a b : Room) → j ≤ length cs → ds ≡ take j cs → s ≡ before (drop j cs) r → IsNoLess a b
      → AreSound cs r a
      → AreSound ds s b
  sound-take j cs ds r s a b i0 e f w h i = rw (e, f) (elim (cases_lt j i) [
    | inl more ↦
        let t = length-take-le j cs i0 in
        let all : drop i (take j cs) ≡ [] = drop_all i (take j cs) (omega arith) in
        subst (λ ds. IsSound b (before ds (before (drop j cs) r))) (sym all) (sound-wider (before (drop j cs) r) a b w (h j))
    | inr within ↦
        let t = length-take-le j cs i0 in
        let same : before (drop i (take j cs)) (before (drop j cs) r) ≡ before (drop i cs) r =
        sym (before-append (drop i (take j cs)) (drop j cs) r)
        ∙ ap (λ ds. before ds r) (sym (drop-append-le i (take j cs) (drop j cs) (omega arith)) ∙ ap (drop i) (take-append-drop j cs)) in
        subst (λ (t : Raw C). IsSound b t) (sym same) (sound-wider (before (drop i cs) r) a b w (h i))
  ])

  -- a state whose ranges lie among its marks and whose chains are sound is sound as it lies
  pub sound-state : (s : State C) → IsWell (raw s) → IsSound (room_of s) (raw s)
  sound-state s w = record {
    entries_fit = omega (arith, s.entries.ok.0, s.entries.ok.1);
    live_fit = omega (arith, s.live.ok.0, s.live.ok.1);
    keys_fit = λ key i e. top-listed s.tops.items key i (w.chained.tops key i e);
    within = w.within;
    chained = w.chained;
  }

  -- all stay sound when a change is noted
  pub sound-noted : (cs bs ds : List (Change C)) (c : Change C) (old new : State C) → bs ≡ cs → ds ≡ bs ++ c ∷ [] → Leads c old new → IsWell (raw new)
      → AreSound cs (raw old) (room_of old) → AreSound ds (raw new) (room_of new)
  sound-noted cs bs ds c old new f e l w h =
      sound-more cs ds c (raw old) (raw new) (room_of old) (room_of new) (e ∙ ap (λ xs. xs ++ c ∷ []) f) l.back l.room (sound-state new w) h

  -- a state to which changes are taken back in a copy, alone
  pub sound-alone : (j : ℕ) (cs ds : List (Change C)) (old copy new : State C) → ds ≡ [] → raw new ≡ before (drop j cs) (raw old)
      → HasNoLess old copy → HasNoLess copy new
      → AreSound cs (raw old) (room_of old) → AreSound ds (raw new) (room_of new)
  sound-alone j cs ds old copy new e f a b h =
      sound-same [] ds (raw new) (room_of new) e
      (sound-none (raw new) (room_of new)
      (sound-there cs j (raw old) (raw new) (room_of old) (room_of new) f (room-trans a b) h))

  -- what a copy is taken back to
  pub back-copied : (j : ℕ) (cs ds : List (Change C)) (r s t : Raw C) → ds ≡ cs → s ≡ r → t ≡ before (drop j ds) s → t ≡ before (drop j cs) r
  back-copied j cs ds r s t e f g = g ∙ (ap (λ xs. before (drop j xs) s) e ∙ ap (before (drop j cs)) f)

  -- ---- what each change is taken back to

  pub back-loaded : (kind : Kind) (clause : C) (key at : ℕ) (r : Raw C) → taken_back (Loaded r.next r.flag) (raw_loaded kind clause key at r) ≡ r
  back-loaded kind clause key at r =
      let e : Stored C = chained r.next kind clause key at (r.tops key) in
      let over : ℕ → ℕ = with_top (Some key) (suc (length r.entries)) r.tops in
      let by : List (Stored C) → List (Stored C) → List Bool → Raw C = λ es ss bs. record r { entries = es; tops = tops_under ss over; live = bs } in
      ap (λ es. by es (reverse (r.entries ++ e ∷ [])) (front (r.live ++ is_linear kind ∷ []))) (front-push r.entries e)
      ∙ (ap (λ ss. by r.entries ss (front (r.live ++ is_linear kind ∷ []))) (reverse-push r.entries e)
      ∙ (ap (λ bs. by r.entries (e ∷ reverse r.entries) bs) (front-push r.live (is_linear kind))
      ∙ (λ i. record r { tops = λ k. top-back r.tops key (suc (length r.entries)) k i })))

  pub back-picked : (at : ℕ) (live : Bool) (r : Raw C) → (at < length r.live → live ≡ get_or r.live at false)
      → taken_back (Picked at live) (raw_picked at r) ≡ r
  back-picked at live r h = ap (λ bs. let s : Raw C = record r { live = bs } in s) (same r.live at live h)
    where
      same : (xs : List Bool) (i : ℕ) (v : Bool) → (i < length xs → v ≡ get_or xs i false) → set (set xs i false) i v ≡ xs
      same [] i v h = refl
      same (x ∷ xs) zero v h = ap (λ y. y ∷ xs) (h (omega arith))
      same (x ∷ xs) (suc i) v h = ap (λ ys. x ∷ ys) (same xs i v (λ l. h (omega (arith, l))))

  pub back-closed : (e : Stored C) (live : Option Bool) (flag : Bool) (top : ℕ) (r : Raw C) → 0 < length r.entries
      → e ≡ get_or r.entries (length r.entries - 1) e → with_last (front r.live) live ≡ r.live → top ≡ top_of e.key r.tops
      → taken_back (Closed e live r.flag top) (raw_closed flag r) ≡ r
  back-closed e live flag top r l h m t =
      let last : Stored C = get_or r.entries (length r.entries - 1) e in
      let by : List (Stored C) → List (Stored C) → ℕ → List Bool → Raw C =
      λ es ss n bs. record r { entries = es; tops = with_top e.key n (tops_under ss r.tops); live = bs } in
      let first : reverse r.entries ≡ e ∷ reverse (front r.entries) =
      reverse-front r.entries e l ∙ ap (λ x. x ∷ reverse (front r.entries)) (sym h) in
      ap (λ x. by (front r.entries ++ x ∷ []) (reverse r.entries) top (with_last (front r.live) live)) h
      ∙ (ap (λ es. by es (reverse r.entries) top (with_last (front r.live) live)) (front-last r.entries e l)
      ∙ (ap (λ ss. by r.entries ss top (with_last (front r.live) live)) first
      ∙ (ap (λ n. by r.entries (e ∷ reverse (front r.entries)) n (with_last (front r.live) live)) t
      ∙ (ap (λ bs. by r.entries (e ∷ reverse (front r.entries)) (top_of e.key r.tops) bs) m
      ∙ (λ i. record r { tops = λ k. top-restored r.tops e.key e.under k i })))))

  pub back-remarked : (live : List Bool) (flag : Bool) (r : Raw C) → taken_back (Remarked (length r.marks) r.flag r.skips) (raw_remarked live flag r) ≡ r
  back-remarked live flag r =
      ap (λ bs. let s : Raw C = record r { live = bs; marks = take (length r.marks) (r.marks ++ r.live) } in s) (drop-append_seam r.marks r.live)
      ∙ ap (λ ms. let s : Raw C = record r { marks = ms } in s) (take-append_seam r.marks r.live)

  pub back-kept : (live : List Bool) (r : Raw C) → taken_back SavedMarks (raw_kept live r) ≡ r
  back-kept live r =
      let n = length-append r.kept (kept_now r ∷ []) in
      let count : length (r.kept ++ kept_now r ∷ []) ≡ suc (length r.kept) = omega (arith, n) in
      let last : kept_under (length r.kept) (raw_kept live r) ≡ kept_now r = get_or_push r.kept (kept_now r) _ (length r.kept) refl in
      let block : block_of (r.marks ++ r.live) (kept_now r) ≡ r.live =
      ap (take (length r.marks + length r.live - length r.marks)) (drop-append_seam r.marks r.live)
      ∙ (ap (λ k. take k r.live) (let e : length r.marks + length r.live - length r.marks ≡ length r.live = omega arith in e) ∙ take-length r.live) in
      let by : KeptRange → List KeptRange → Raw C = λ k ks. record r {
        live = block_of (r.marks ++ r.live) k;
        flag = k.flag;
        skips = k.skips;
        marks =
            take k.from (r.marks ++ r.live);
        kept = ks;
      } in
      ap (λ m. without_last m (raw_kept live r)) count
      ∙ (ap (λ k. by k (take (length r.kept) (r.kept ++ kept_now r ∷ []))) last
      ∙ (ap (λ ks. by (kept_now r) ks) (take-append_seam r.kept (kept_now r ∷ []))
      ∙ (ap (λ bs. let s : Raw C = record r { live = bs; marks = take (length r.marks) (r.marks ++ r.live) } in s) block
      ∙ ap (λ ms. let s : Raw C = record r { marks = ms } in s) (take-append_seam r.marks r.live))))

  -- ---- marks

  -- the states up to the last are the same with one more behind
  same-states : (ps : List (Resources C)) (r s : Resources C) (n : ℕ) → n ≤ length ps → get_or (ps ++ r ∷ []) n s ≡ get_or ps n r
  same-states [] r s zero l = refl
  same-states [] r s (suc n) l = absurd (omega arith)
  same-states (p ∷ ps) r s zero l = refl
  same-states (p ∷ ps) r s (suc n) l = same-states ps r s n (omega arith)

  -- each good mark stays good when a change is noted
  pub marks-noted : (cs bs ds : List (Change C)) (c : Change C) (old new : State C) (h : History C) → bs ≡ cs → ds ≡ bs ++ c ∷ [] → Leads c old new
      → history cs (raw old) ≡ h
      → KeepsMarks h (history ds (raw new))
  marks-noted cs bs ds c old new h f e l v = subst (λ k. KeepsMarks k (history ds (raw new))) v (λ mark good.
      let more : states_before ds (raw new) ≡ states_before cs (raw old) ++ shown (raw old) ∷ [] =
      ap (λ xs. states_before xs (raw new)) (e ∙ ap (λ xs. xs ++ c ∷ []) f) ∙ states-more cs c (raw old) (raw new) l.back in
      record {
        good = let n = ap length more in let m = length-append (states_before cs (raw old)) (shown (raw old) ∷ []) in omega arith;
        state = ap (λ ss. get_or ss mark.changes (shown (raw new))) more
            ∙ same-states (states_before cs (raw old)) (shown (raw old)) (shown (raw new)) mark.changes good;
      })

  -- a context that is as before is seen as before
  pub history-alike : (cs ds : List (Change C)) (r s : Raw C) (h : History C) → ds ≡ cs → s ≡ r → history cs r ≡ h → history ds s ≡ h
  history-alike cs ds r s h e f v = ap (λ xs. history xs s) e ∙ (ap (history cs) f ∙ v)

  -- and keeps its marks
  pub marks-alike : (cs ds : List (Change C)) (r s : Raw C) (h : History C) → ds ≡ cs → s ≡ r → history cs r ≡ h → KeepsMarks h (history ds s)
  marks-alike cs ds r s h e f v = subst (λ k. KeepsMarks h k) (sym (history-alike cs ds r s h e f v)) (λ mark good. record { good = good; state = refl })

  -- a good mark is of one of the changes
  pub mark-within : (cs : List (Change C)) (r : Raw C) (h : History C) (mark : ContextMark) → history cs r ≡ h → HasMark mark h → mark.changes ≤ length cs
  mark-within cs r h mark v good = let n = length-states cs r in
      let m : length (states_before cs r) ≡ length h.past = ap (λ (k : History C). length k.past) v in omega arith

  pub mark-along : (cs ds : List (Change C)) (r : Raw C) (h : History C) (mark : ContextMark) → ds ≡ cs → history cs r ≡ h → HasMark mark h
      → mark.changes ≤ length ds
  mark-along cs ds r h mark e v good = subst (λ xs. mark.changes ≤ length xs) (sym e) (mark-within cs r h mark v good)

  -- the state at a mark is that before the changes past it
  pub state-marked : (cs : List (Change C)) (r : Raw C) (h : History C) (mark : ContextMark) → history cs r ≡ h
      → state_at mark h ≡ shown (before (drop mark.changes cs) r)
  state-marked cs r h mark v = ap (state_at mark) (sym v) ∙ state-before cs mark.changes r

  -- a context that came from no other state, in the state at a mark
  pub image-is : (cs ds : List (Change C)) (r s : Raw C) (h : History C) (mark : ContextMark) → history cs r ≡ h → ds ≡ []
      → s ≡ before (drop mark.changes cs) r → history ds s ≡ begun (state_at mark h)
  image-is cs ds r s h mark v e f = ap (λ xs. history xs s) e ∙ ap begun (ap (λ (t : Raw C). shown t) f ∙ sym (state-marked cs r h mark v))

  -- the first states of those from which a context came
  first-states : (ps : List (Resources C)) (r : Resources C) (n m : ℕ) → n ≤ m → n ≤ length ps → m ≤ length ps
      → get_or (take m ps) n (get_or ps m r) ≡ get_or ps n r
  first-states ps r n zero l i k = ap (λ j. get_or ps j r) (let e : zero ≡ n = omega arith in e)
  first-states [] r n (suc m) l i k = absurd (omega arith)
  first-states (p ∷ ps) r zero (suc m) l i k = refl
  first-states (p ∷ ps) r (suc n) (suc m) l i k = first-states ps r n m (omega arith) (omega arith) (omega arith)

  -- each good mark that is not past the one to which changes are taken back stays good
  pub marks-undone : (cs ds : List (Change C)) (r s : Raw C) (h : History C) (mark : ContextMark) → history cs r ≡ h → HasMark mark h
      → ds ≡ take mark.changes cs → s ≡ before (drop mark.changes cs) r → KeepsMarksTo mark h (history ds s)
  marks-undone cs ds r s h mark v good e f = subst (λ k. KeepsMarksTo mark k (history ds s)) v (λ m l i.
      let within = mark-within cs r h mark v good in
      let count = length-states cs r in
      let left : states_before ds s ≡ take mark.changes (states_before cs r) =
      ap (λ xs. states_before xs s) e ∙ (ap (states_before (take mark.changes cs)) f ∙ states-take mark.changes cs r) in
      let now : shown s ≡ get_or (states_before cs r) mark.changes (shown r) = ap (λ (t : Raw C). shown t) f ∙ sym (state-before cs mark.changes r) in
      record {
        good = let n = ap length left in let k = length-take-le mark.changes (states_before cs r) (omega arith) in omega arith;
        state = ap (λ ss. get_or ss m.changes (shown s)) left
            ∙ (ap (get_or (take mark.changes (states_before cs r)) m.changes) now
            ∙ first-states (states_before cs r) (shown r) m.changes mark.changes l i (omega arith));
      })

  -- ---- what was kept

  -- what is still kept is what was kept under the same numbers
  abbrev KeptWithin : Raw C → Raw C → Type 0
  KeptWithin r s = (n : Handle) → n.number < length s.kept → (n.number < length r.kept) × (saved_at (shown s).kept n ≡ saved_at (shown r).kept n)

  kept-last : (n : ℕ) (r : Raw C) → length r.kept ≡ n → HasWithin (without_last n r) → KeptWithin r (without_last n r)
  kept-last zero r e w h l = (l, refl)
  kept-last (suc n) r e w h l =
      let t = length-take-le n r.kept (omega arith) in
      let i : h.number < length r.kept = omega arith in
      (i, saved-cut r.marks (kept_under n r).from r.kept (take n r.kept) h none_kept l i (get_or-take n r.kept h.number none_kept (omega arith)) w)

  kept-back : (c : Change C) (r : Raw C) → HasWithin (taken_back c r) → KeptWithin r (taken_back c r)
  kept-back (Loaded label flag) r w h l = (l, refl)
  kept-back (Closed e live flag top) r w h l = (l, refl)
  kept-back (Picked at live) r w h l = (l, refl)
  kept-back (Erased flag) r w h l = (l, refl)
  kept-back SavedMarks r w h l = kept-last (length r.kept) r refl w h l
  kept-back (Remarked from flag skips) r w h l = (l, saved-cut r.marks from r.kept r.kept h none_kept l l refl w)

  kept-before : (cs : List (Change C)) (r : Raw C) → ((i : ℕ) → HasWithin (before (drop i cs) r)) → KeptWithin r (before cs r)
  kept-before [] r w h l = (l, refl)
  kept-before (c ∷ cs) r w h l =
      let k = kept-back c (before cs r) (w 0) h l in
      let i = kept-before cs r (λ j. w (suc j)) h k.0 in
      (i.0, k.1 ∙ i.1)

  drop-drop : (i j : ℕ) (cs : List (Change C)) → drop i (drop j cs) ≡ drop (j + i) cs
  drop-drop i zero cs = ap (λ n. drop n cs) (let e : i ≡ zero + i = omega arith in e)
  drop-drop i (suc j) [] = drop_all i [] (omega arith) ∙ sym (drop_all (suc j + i) [] (omega arith))
  drop-drop i (suc j) (c ∷ cs) = drop-drop i j cs ∙ ap (λ n. drop n (c ∷ cs)) (let e : suc (j + i) ≡ suc j + i = omega arith in e)

  -- what was kept at a mark means the same in the state at it
  pub saved-marked : (cs : List (Change C)) (r s : Raw C) (a : Room) (h : History C) (mark : ContextMark) → history cs r ≡ h
      → s ≡ before (drop mark.changes cs) r → AreSound cs r a
      → KeepsSaved (length (state_at mark h).kept) h.present (shown s)
  saved-marked cs r s a h mark v e sound k l =
      let t = before (drop mark.changes cs) r in
      let inside : k.number < length (shown t).kept = subst (λ (x : Resources C). k.number < length x.kept) (state-marked cs r h mark v) l in
      let count = length-map t.kept (kept_marks t.marks) in
      let within : (i : ℕ) → HasWithin (before (drop i (drop mark.changes cs)) r) =
      λ i. subst (λ ds. HasWithin (before ds r)) (sym (drop-drop i mark.changes cs)) (sound (mark.changes + i)).within in
      ap (λ (x : Raw C). saved_at (shown x).kept k) e
      ∙ ((kept-before (drop mark.changes cs) r within k (omega (arith, count, inside))).1 ∙ ap (λ (q : History C). saved_at q.present.kept k) v)

  -- a context's own state
  pub sound-own : (cs : List (Change C)) (s : State C) → AreSound cs (raw s) (room_of s) → IsSound (room_of s) (raw s)
  sound-own cs s h = sound-now cs (raw s) (room_of s) h

  pub well-now : (cs : List (Change C)) (s : State C) → AreSound cs (raw s) (room_of s) → IsWell (raw s)
  well-now cs s h = let n = sound-own cs s h in record { within = n.within; chained = n.chained }

  -- its ranges lie among its marks
  pub within-now : (cs : List (Change C)) (s : State C) → AreSound cs (raw s) (room_of s) → HasWithin (raw s)
  within-now cs s h = let n = sound-own cs s h in n.within

  pub well-along : (r s : Raw C) → s ≡ r → IsWell r → IsWell s
  well-along r s e w = subst (λ (t : Raw C). IsWell t) (sym e) w

  -- there is an entry to be let go
  pub entry-there : (cs : List (Change C)) (r : Raw C) (h : History C) → history cs r ≡ h → 0 < length h.present.entries → 0 < length r.entries
  entry-there cs r h v l = subst (λ n. 0 < n) (entries-count r) (subst (λ (k : History C). 0 < length k.present.entries) (sym v) l)

  -- ---- what contracts see of the changes that keep marks

  -- the next is kept under the number of all that are
  pub number-kept : (cs : List (Change C)) (r : Raw C) (h : History C) (n : ℕ) → history cs r ≡ h → n ≡ length r.kept → n ≡ length h.present.kept
  number-kept cs r h n v e = e ∙ (sym (length-map r.kept (kept_marks r.marks)) ∙ ap (λ (k : History C). length k.present.kept) v)

  pub seen-saved : (cs : List (Change C)) (r s : Raw C) (h : History C) → history cs r ≡ h → HasWithin r → s ≡ raw_kept r.live r
      → shown s ≡ after_save h.present
  seen-saved cs r s h v w e = ap (λ (t : Raw C). shown t) e ∙ (shown-kept r.live r w ∙ ap (λ (k : History C). after_save k.present) v)

  pub seen-mid : (saved : Handle) (cs : List (Change C)) (r s : Raw C) (h : History C) → history cs r ≡ h → HasWithin r → SavedFits saved h.present
      → s ≡ with_skips saved.number r (raw_kept (block_later saved.number r) r) → shown s ≡ after_with_mid saved h.present
  seen-mid saved cs r s h v w f e = ap (λ (t : Raw C). shown t) e
      ∙ (shown-mid saved r w (subst (λ (k : History C). SavedFits saved k.present) (sym v) f) ∙ ap (λ (k : History C). after_with_mid saved k.present) v)
