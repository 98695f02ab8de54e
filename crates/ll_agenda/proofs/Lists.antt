-- The lists of an agenda: they stay as it grows, and each frame's is its item in front of the list at its rest.
use Rattle.std.proofs.Common.{◌≡◌, ℕ, suc, ◌+◌, ◌<◌, ◌≤◌, true, false, List, [], ◌∷◌, ◌++◌, length, get_or, take, drop, refl, ap, sym, subst, ◌∙◌, arith}
use Rattle.std.proofs.Common.{append_assoc, length-append, inl, inr}
use Rattle.std.proofs.lemmas.Bool.{cases_lt}
use Rattle.std.proofs.Math.Seq.{get_or-append_seam, take-suc}
use Rattle.std.proofs.lemmas.List.{append-nil, take-append-drop, length-take-le, get_or-take, get_or_push, get_or_append_left}
use Rattle.ll_bank.specs.Nodes.{grow}
use Rattle.ll_bank.proofs.CallerLemmas.{grow-append, length-grow, get_or-grow}
use Rattle.ll_agenda.specs.declared.agenda.Top.{Top}
use Rattle.ll_agenda.specs.Frames.{Frames, list_of, items_at, HasTop, ShowsItems, BeginsWith, Extends, IsWellFounded}

module _ {T : Type 0} where
  -- the empty list is in every agenda
  pub ShowsItems-none : (frames : Frames T) (top : Top) → top.place ≡ 0 → ShowsItems frames top []
  unfolding items_at
  ShowsItems-none frames top e = record {
    inside = omega arith;
    list = rw e (get_or-grow list_of ([] ∷ []) frames 0 [] (omega arith));
  }

  -- frames behind others leave the lists of those
  items_at-append : (old more : Frames T) (top : Top) → HasTop old top → items_at (old ++ more) top ≡ items_at old top
  unfolding items_at
  items_at-append old more top h =
      rw grow-append (get_or-grow list_of (grow list_of ([] ∷ []) old) more top.place []
      (let e = length-grow list_of ([] ∷ []) old in omega arith))

  -- the last frame's list is its item in front of the list of its rest
  items_at-last : (old : Frames T) (frame : T × Top) (top : Top) → top.place ≡ length old + 1
      → items_at (old ++ frame ∷ []) top ≡ frame.0 ∷ items_at old frame.1
  unfolding items_at
  items_at-last old frame top is =
      rw grow-append (subst (λ k. get_or (grow list_of ([] ∷ []) old ++ list_of (grow list_of ([] ∷ []) old) frame ∷ []) k []
      ≡ list_of (grow list_of ([] ∷ []) old) frame) (let e = length-grow list_of ([] ∷ []) old in omega arith)
      (get_or-append_seam (grow list_of ([] ∷ []) old) (list_of (grow list_of ([] ∷ []) old) frame) [] []))

  -- ---- what callers know of an agenda that grows

  -- an agenda extends itself
  pub Extends-refl : (frames : Frames T) → Extends frames frames
  Extends-refl frames = record { more = []; frames = sym (append-nil frames); same_items = λ top h. refl }

  -- and what is equal to it
  pub Extends-same : (old new : Frames T) → new ≡ old → Extends old new
  Extends-same old new e = subst (Extends old) (sym e) (Extends-refl old)

  -- more frames extend it
  pub Extends-append : (old more new : Frames T) → new ≡ old ++ more → Extends old new
  Extends-append old more new e =
      subst (Extends old) (sym e) (record { more = more; frames = refl; same_items = items_at-append old more })

  -- an agenda extends what is left of it
  pub Extends-cut : (len : ℕ) (frames left old : Frames T) → left ≡ take len frames → frames ≡ old → Extends left old
  Extends-cut len frames left old e view =
      Extends-append left (drop len frames) old (sym view ∙ (sym (take-append-drop len frames) ∙ ap (λ fs. fs ++ drop len frames) (sym e)))

  -- a top of an agenda that was later cut at no fewer frames is one of what is left, with its list
  pub ShowsItems-cut : {first old left : Frames T} {top : Top} → HasTop first top → Extends first old → Extends left old → length first ≤ length left
      → ShowsItems left top (items_at first top)
  ShowsItems-cut {first} {old} {left} {top} h e cut l = record {
    inside = omega arith;
    list = sym (cut.same_items top (let i : HasTop left top = omega arith in i)) ∙ e.same_items top h;
  }

  module _ {old new : Frames T} (e : Extends old new) where
    -- a top stays one
    pub HasTop-extends : (top : Top) → HasTop old top → HasTop new top
    HasTop-extends top h = let p = ap length e.frames in let q = length-append old e.more in omega arith

    -- and keeps its list
    pub items_at-extends : (top : Top) → HasTop old top → items_at new top ≡ items_at old top
    items_at-extends = e.same_items

    -- what a top shows, it goes on showing
    pub ShowsItems-extends : {top : Top} {items : List T} → ShowsItems old top items → ShowsItems new top items
    ShowsItems-extends {top} s = record { inside = HasTop-extends top s.inside; list = items_at-extends top s.inside ∙ s.list }

  -- what extends an extension extends the first agenda
  pub Extends-trans : {old middle new : Frames T} → Extends old middle → Extends middle new → Extends old new
  Extends-trans {old} {middle} {new} p q = record {
    more = p.more ++ q.more;
    frames = q.frames ∙ (ap (λ frames. frames ++ q.more) p.frames ∙ append_assoc old p.more q.more);
    same_items = λ top h. q.same_items top (HasTop-extends p top h) ∙ p.same_items top h;
  }

  -- ---- what a push leaves, and what is read at a top

  -- the frames behind those inside are behind those that contracts see
  pub seen_append : (inside now new more : Frames T) → inside ≡ now → new ≡ inside ++ more → new ≡ now ++ more
  seen_append inside now new more view e = e ∙ ap (λ (frames : Frames T). frames ++ more) view

  -- the top of the new frame
  pub ShowsItems-push : (old new : Frames T) (item : T) (rest top : Top) → new ≡ old ++ (item, rest) ∷ [] → top.place ≡ length old + 1
      → ShowsItems new top (item ∷ items_at old rest)
  ShowsItems-push old new item rest top e is =
      subst (λ frames. ShowsItems frames top (item ∷ items_at old rest)) (sym e) (record {
        inside = let l = length-append old ((item, rest) ∷ []) in omega arith;
        list = items_at-last old (item, rest) top is;
      })

  -- the frames stay well founded with one more, the rest of which is a top of them
  pub IsWellFounded-push : (old now new : Frames T) (item : T) (rest : Top) → IsWellFounded old → old ≡ now → HasTop now rest → new ≡ old ++ (item, rest) ∷ []
      → IsWellFounded new
  IsWellFounded-push old now new item rest low view inside e = subst (λ (frames : Frames T). IsWellFounded frames) (sym e) more
    where
      more : IsWellFounded (old ++ (item, rest) ∷ [])
      more at d l = elim (cases_lt at (length old)) [
        | inl h ↦ subst (λ (f : T × Top). f.1.place ≤ at) (sym (get_or_append_left old ((item, rest) ∷ []) d at h)) (low at d h)
        | inr h ↦
            let n = length-append old ((item, rest) ∷ []) in let v = ap length view in
            let i : rest.place ≤ at = omega arith in
            subst (λ (f : T × Top). f.1.place ≤ at) (sym (get_or_push old (item, rest) d at (omega arith))) i
      ]

  -- and with fewer
  pub IsWellFounded-cut : (len : ℕ) (frames left : Frames T) → IsWellFounded frames → len ≤ length frames → left ≡ take len frames → IsWellFounded left
  IsWellFounded-cut len frames left low within e = subst (λ (fs : Frames T). IsWellFounded fs) (sym e) (λ at d l.
      let n = length-take-le len frames within in
      subst (λ (f : T × Top). f.1.place ≤ at) (sym (get_or-take len frames at d (omega arith))) (low at d (omega arith)))

  -- a frame's list is its item in front of the list of its rest
  items_at-frame : (frames : Frames T) (top : Top) (at : ℕ) (d : T × Top) → IsWellFounded frames → at < length frames → top.place ≡ at + 1
      → items_at frames top ≡ (get_or frames at d).0 ∷ items_at frames (get_or frames at d).1
  items_at-frame frames top at d low h is =
      earlier (suc at) top (omega arith) (omega arith)
      ∙ (ap (λ fs. items_at fs top) (take-suc frames at d h)
      ∙ (items_at-last (take at frames) (get_or frames at d) top (let l = length-take-le at frames (omega arith) in omega arith)
      ∙ ap (λ xs. (get_or frames at d).0 ∷ xs) (sym (earlier at (get_or frames at d).1 (omega arith) (low at d h)))))
    where
      earlier : (n : ℕ) (t : Top) → n ≤ length frames → t.place ≤ n → items_at frames t ≡ items_at (take n frames) t
      earlier n t within low_top =
          ap (λ fs. items_at fs t) (sym (take-append-drop n frames))
          ∙ items_at-append (take n frames) (drop n frames) t (let l = length-take-le n frames within in omega arith)

  -- the frame below a top has the top's first item and its rest
  pub BeginsWith-frame : (frames now : Frames T) (top : Top) (at : ℕ) (frame : T × Top) → IsWellFounded frames → frames ≡ now → HasTop now top
      → top.place ≡ at + 1 → frame ≡ get_or frames at frame → BeginsWith now top frame.0 frame.1
  BeginsWith-frame frames now top at frame low view inside is read = subst (λ fs. BeginsWith fs top frame.0 frame.1) view (record {
    list = subst (λ (f : T × Top). items_at frames top ≡ f.0 ∷ items_at frames f.1) (sym read) (items_at-frame frames top at frame low below is);
    inside = let l = behind in let b = below in omega arith;
    earlier = let l = behind in omega arith;
  })
    where
      below : at < length frames
      below = let e = ap length view in omega arith

      behind : frame.1.place ≤ at
      behind = subst (λ (f : T × Top). f.1.place ≤ at) (sym read) (low at frame below)

  -- so the list of such a top is not empty
  pub items_at-first : {frames : Frames T} {top rest : Top} {item : T} → BeginsWith frames top item rest → items_at frames top ≡ [] → true ≡ false
  items_at-first f e = let q = f.list in cc

  -- ---- a list that is built or read item by item

  -- one more item is in the agenda, which was the last of those before
  pub built_more : (old new : Frames T) (rest top : Top) (item : T) (before after all : List T) → before ≡ after ++ item ∷ []
      → before ++ items_at old rest ≡ all → length old ≡ length (items_at old rest) → length new ≡ length old + 1
      → ShowsItems new top (item ∷ items_at old rest)
      → (after ++ items_at new top ≡ all) × (length new ≡ length (items_at new top)) × HasTop new top
  built_more old new rest top item before after all last is count one_more shown = (
    ap (λ items. after ++ items) shown.list
        ∙ (sym (append_assoc after (item ∷ []) (items_at old rest)) ∙ (ap (λ items. items ++ items_at old rest) (sym last) ∙ is)),
    let n = ap length shown.list in omega arith,
    shown.inside,
  )

  -- one more item was read
  pub read_more : (frames : Frames T) (rest behind : Top) (item : T) (before after all : List T) → BeginsWith frames rest item behind
      → after ≡ before ++ item ∷ [] → before ++ items_at frames rest ≡ all → after ++ items_at frames behind ≡ all
  read_more frames rest behind item before after all first last is =
      ap (λ items. items ++ items_at frames behind) last
      ∙ (append_assoc before (item ∷ []) (items_at frames behind) ∙ (ap (λ items. before ++ items) (sym first.list) ∙ is))

-- for callers whose agenda grows
pub ruleset agenda_laws = (HasTop-extends, items_at-extends, ShowsItems-extends, Extends-trans, ShowsItems-cut)
