-- What the nodes, the arguments and the frames show stays when some are added, and what it is without the newest.
use Rattle.std.proofs.Common.{◌≡◌, ℕ, ◌+◌, ◌-◌, ◌<◌, ◌≤◌, List, [], ◌∷◌, ◌++◌, length, take, drop, reverse, All, refl, sym, subst, ◌∙◌, ap, arith}
use Rattle.std.proofs.Common.{length-append, length-drop}
use Rattle.std.proofs.Math.Seq.{take-append_seam, take-length}
use Rattle.std.proofs.lemmas.List.{take-append-le, drop-append-le, length-take-le, reverse-append}
use Rattle.std.proofs.lemmas.List.Elements.{All-take, All-drop, All-push}
use Rattle.ll_bank.proofs.CallerLemmas.{grow_kept, grow_last}
use Rattle.ll_lexer.specs.declared.Place.{Place}
use Rattle.ll_parser.specs.declared.Named.{Named}
use Rattle.ll_parser.specs.declared.RawAt.{RawAt}
use Rattle.ll_parser.specs.declared.waiting.Prefix.TheVariants as prefix
use Rattle.ll_parser.specs.declared.waiting.Frame.{Frame}
use Rattle.ll_parser.specs.declared.waiting.Frame.TheVariants as frame
use Rattle.ll_parser.specs.declared.waiting.Waiting.{Waiting}
use Rattle.ll_parser.specs.Raw.{Raw, truth, load, head, raws_then}
use Rattle.ll_parser.specs.Flat.{operand, loading, in_atom, in_argument, cell, multiplied, valuing, testing}
use Rattle.ll_parser.specs.Flat.{added as adding}
use Rattle.ll_parser.specs.Nodes.{Node, HeadNode, LoadNode, identifier, raw_in, raws_in, build_raw, raw_trees, raw_at}
use Rattle.ll_parser.specs.Seen.{places}
use Rattle.ll_parser.specs.Waiting.{known, word_view, args_view, frame_view, left, base, frames_view, pending, tree, args_from, waiting_below, FrameFits}
use Rattle.ll_parser.specs.Waiting.{FramesFit, FitsTo, FitsBelow, IsNode, CanWait, Added, Pushed, Dropped, HasMore, ShowsTree}
use Rattle.ll_parser.proofs.stored.StoredLemmas.{same_raws, places_below}

-- ---- trees of more nodes

module _ (texts : List (List ℕ)) (nodes : List Node) (n : Node) where
  pub raw_at-kept : (i : ℕ) → i < length nodes → raw_at texts (nodes ++ n ∷ []) i ≡ raw_at texts nodes i
  unfolding raw_trees
  raw_at-kept i h = grow_kept (build_raw texts) nodes (n ∷ []) i (truth (record { line = 1; column = 1 })) h

  pub raw_at-last : raw_at texts (nodes ++ n ∷ []) (length nodes) ≡ build_raw texts (raw_trees texts nodes) n
  unfolding raw_trees
  raw_at-last = grow_last (build_raw texts) nodes n (truth (record { line = 1; column = 1 }))

-- ---- trees that agree on places that are used

module _ (texts : List (List ℕ)) (ts us : List Raw) (n : ℕ) (same : (i : ℕ) → i < n → raw_in us i ≡ raw_in ts i) where
  args-kept : (args : List RawAt) → All (λ a. a.0 < n) args → args_view us args ≡ args_view ts args
  args-kept args h = same_raws us ts n same (places args) (places_below n args h)

  dropped : (from : ℕ) (args : List RawAt) → All (λ a. a.0 < n) args → args_view us (drop from args) ≡ args_view ts (drop from args)
  dropped from args h = args-kept (drop from args) (All-drop (λ (a : RawAt). a.0 < n) from args h)

  frame-kept : (k : ℕ) (args : List RawAt) → All (λ a. a.0 < n) args → (f : Frame) → FrameFits n k f → frame_view texts us args f ≡ frame_view texts ts args f
  frame-kept k args h (frame.Front (prefix.Operator o at l)) w = ap (operand o at) (same l.0 w)
  frame-kept k args h (frame.Front (prefix.Load at name from)) w = ap (loading at (identifier texts name)) (dropped from args h)
  frame-kept k args h (frame.Front (prefix.Quantifier q at name)) w = refl
  frame-kept k args h frame.Bracket w = refl
  frame-kept k args h (frame.Brace at) w = refl
  frame-kept k args h (frame.Atom x from) w = ap (in_atom (word_view texts x)) (dropped from args h)
  frame-kept k args h (frame.Application x from) w = ap (in_argument (word_view texts x)) (dropped from args h)
  frame-kept k args h frame.Group w = refl
  frame-kept k args h (frame.Cell at l) w = ap (cell at) (same l.0 w)
  frame-kept k args h (frame.Sum o at first) w = ap (adding o at) (same first.0 w)
  frame-kept k args h (frame.Product at first) w = ap (multiplied at) (same first.0 w)
  frame-kept k args h (frame.Is at first) w = ap (valuing at) (same first.0 w)
  frame-kept k args h (frame.Comparison o at first) w = ap (testing o at) (same first.0 w)
  frame-kept k args h frame.NumberGroup w = refl
  frame-kept k args h frame.LeadGroup w = refl

  left-below : (args : List RawAt) → All (λ a. a.0 < n) args → (f : Frame) → All (λ a. a.0 < n) (left args f)
  left-below args h (frame.Front (prefix.Operator o at l)) = h
  left-below args h (frame.Front (prefix.Load at name from)) = All-take (λ (a : RawAt). a.0 < n) from args h
  left-below args h (frame.Front (prefix.Quantifier q at name)) = h
  left-below args h frame.Bracket = h
  left-below args h (frame.Brace at) = h
  left-below args h (frame.Atom x from) = All-take (λ (a : RawAt). a.0 < n) from args h
  left-below args h (frame.Application x from) = All-take (λ (a : RawAt). a.0 < n) from args h
  left-below args h frame.Group = h
  left-below args h (frame.Cell at l) = h
  left-below args h (frame.Sum o at first) = h
  left-below args h (frame.Product at first) = h
  left-below args h (frame.Is at first) = h
  left-below args h (frame.Comparison o at first) = h
  left-below args h frame.NumberGroup = h
  left-below args h frame.LeadGroup = h

  frames-kept : (k : ℕ) (args : List RawAt) → All (λ a. a.0 < n) args → (fs : List Frame) → FramesFit n k fs
      → frames_view texts us args fs ≡ frames_view texts ts args fs
  frames-kept k args h [] w = refl
  frames-kept k args h (f ∷ fs) w =
      let e1 = frame-kept k args h f w.0 in let e2 = frames-kept (base k f) (left args f) (left-below args h f) fs w.1 in cc

-- what waits over more nodes
pending-kept : (texts : List (List ℕ)) (nodes : List Node) (n : Node) (k : ℕ) (args : List RawAt) (fs : List Frame) → All (λ a. a.0 < length nodes) args
    → FramesFit (length nodes) k (reverse fs)
    → pending texts (nodes ++ n ∷ []) args fs ≡ pending texts nodes args fs
unfolding pending
pending-kept texts nodes n k args fs h w =
    frames-kept texts (raw_trees texts nodes) (raw_trees texts (nodes ++ n ∷ [])) (length nodes) (λ i l. raw_at-kept texts nodes n i l) k args h (reverse fs) w

-- ---- frames fit over more nodes

frame-more : (n m k : ℕ) → n ≤ m → (f : Frame) → FrameFits n k f → FrameFits m k f
frame-more n m k le (frame.Front (prefix.Operator o at l)) w = omega arith
frame-more n m k le (frame.Front (prefix.Load at name from)) w = w
frame-more n m k le (frame.Front (prefix.Quantifier q at name)) w = tt
frame-more n m k le frame.Bracket w = tt
frame-more n m k le (frame.Brace at) w = tt
frame-more n m k le (frame.Atom x from) w = w
frame-more n m k le (frame.Application x from) w = w
frame-more n m k le frame.Group w = tt
frame-more n m k le (frame.Cell at l) w = omega arith
frame-more n m k le (frame.Sum o at first) w = omega arith
frame-more n m k le (frame.Product at first) w = omega arith
frame-more n m k le (frame.Is at first) w = omega arith
frame-more n m k le (frame.Comparison o at first) w = omega arith
frame-more n m k le frame.NumberGroup w = tt
frame-more n m k le frame.LeadGroup w = tt

frames-more : (n m k : ℕ) → n ≤ m → (fs : List Frame) → FramesFit n k fs → FramesFit m k fs
frames-more n m k le [] w = tt
frames-more n m k le (f ∷ fs) w = (frame-more n m k le f w.0, frames-more n m (base k f) le fs w.1)

fits-more : (n m k : ℕ) (args : List RawAt) (fs : List Frame) → n ≤ m → FitsTo n k args fs → FitsTo m k args fs
fits-more n m k args fs le w = record {
  args = λ i d h. let b = w.args i d h in omega arith;
  within = w.within;
  frames = frames-more n m k le (reverse fs) w.frames;
}

-- ---- a node was added

module _ (old new : Waiting) (n : Node) (forms : new.forms ≡ old.forms ++ n ∷ []) (args : new.args.items ≡ old.args.items)
    (frames : new.frames.items ≡ old.frames.items) where
  count : length new.forms ≡ length old.forms + 1
  count = ap length forms ∙ length-append old.forms (n ∷ [])

  add-fits : (k : ℕ) → FitsBelow old k → FitsBelow new k
  add-fits k w = rw (args, frames) (fits-more (length old.forms) (length new.forms) k old.args.items old.frames.items (omega (arith, count)) w)

  add-tree : (texts : List (List ℕ)) (i : RawAt) → IsNode old i → tree texts new i ≡ tree texts old i
  add-tree texts i h = rw forms (raw_at-kept texts old.forms n i.0 h)

  add-pending : (texts : List (List ℕ)) (k : ℕ) (ats : List RawAt) → All (λ a. a.0 < length old.forms) ats
      → FramesFit (length old.forms) k (reverse old.frames.items) → pending texts new.forms ats new.frames.items ≡ pending texts old.forms ats old.frames.items
  add-pending texts k ats h w = rw (forms, frames) (pending-kept texts old.forms n k ats old.frames.items h w)

  pub added : (at : RawAt) → at.0 ≡ length old.forms → Added old new at (λ texts. build_raw texts (raw_trees texts old.forms) n)
  added at e = record {
    inside = omega (arith, count);
    is = λ texts. ap (λ z. raw_at (known texts) z at.0) forms ∙ ap (raw_at (known texts) (old.forms ++ n ∷ [])) e ∙ raw_at-last (known texts) old.forms n;
    nodes = λ i h. omega (arith, count);
    trees = λ texts i h. add-tree (known texts) i h;
    fits = λ w. subst (λ z. FitsBelow new (length z)) (sym args) (add-fits (length old.args.items) w);
    fits_below = add-fits;
    waits = λ texts w. ap (λ z. pending (known texts) new.forms z new.frames.items) args
        ∙ add-pending (known texts) (length old.args.items) old.args.items w.args w.frames;
    waits_below = λ texts k w. ap (λ z. pending (known texts) new.forms (take k z) new.frames.items) args
        ∙ add-pending (known texts) k (take k old.args.items) (All-take (λ (a : RawAt). a.0 < length old.forms) k old.args.items w.args) w.frames;
    arguments = λ texts k w. ap (λ z. args_view (raw_trees (known texts) new.forms) (drop k z)) args
        ∙ dropped (known texts) (raw_trees (known texts) old.forms) (raw_trees (known texts) new.forms) (length old.forms)
        (λ i l. add-tree (known texts) (record { 0 = i }) l) k old.args.items w.args;
    args = args;
    frames = frames;
  }

-- ---- a frame was put on or taken off

reverse-snoc : (fs : List Frame) (f : Frame) → reverse (fs ++ f ∷ []) ≡ f ∷ reverse fs
reverse-snoc fs f = reverse-append fs (f ∷ [])

pub pending-snoc : (texts : List (List ℕ)) (nodes : List Node) (args : List RawAt) (fs : List Frame) (f : Frame)
    → pending texts nodes args (fs ++ f ∷ []) ≡ frame_view texts (raw_trees texts nodes) args f ∷ pending texts nodes (left args f) fs
unfolding pending
pending-snoc texts nodes args fs f = ap (frames_view texts (raw_trees texts nodes) args) (reverse-snoc fs f)

pub put : (old new : Waiting) (f : Frame) → new.forms ≡ old.forms → new.args.items ≡ old.args.items → new.frames.items ≡ old.frames.items ++ f ∷ []
    → CanWait old f → Pushed old new f
put old new f forms args frames can = record {
  fits = rw (forms, args, frames) (record {
    args = can.fits.args;
    within = omega arith;
    frames = rw reverse-snoc (can.frame, can.fits.frames);
  });
  forms = forms;
  waits = λ texts. rw (forms, args, frames) (pending-snoc (known texts) old.forms old.args.items old.frames.items f);
}

left-within : (n k : ℕ) (f : Frame) → FrameFits n k f → base k f ≤ k
left-within n k (frame.Front (prefix.Operator o at l)) w = omega arith
left-within n k (frame.Front (prefix.Load at name from)) w = w
left-within n k (frame.Front (prefix.Quantifier q at name)) w = omega arith
left-within n k frame.Bracket w = omega arith
left-within n k (frame.Brace at) w = omega arith
left-within n k (frame.Atom x from) w = w
left-within n k (frame.Application x from) w = w
left-within n k frame.Group w = omega arith
left-within n k (frame.Cell at l) w = omega arith
left-within n k (frame.Sum o at first) w = omega arith
left-within n k (frame.Product at first) w = omega arith
left-within n k (frame.Is at first) w = omega arith
left-within n k (frame.Comparison o at first) w = omega arith
left-within n k frame.NumberGroup w = omega arith
left-within n k frame.LeadGroup w = omega arith

pub cut : (old new : Waiting) (rest : List Frame) (f : Frame) → old.frames.items ≡ rest ++ f ∷ [] → new.forms ≡ old.forms → new.args.items ≡ old.args.items
    → (n : ℕ) → n ≡ length old.frames.items → new.frames.items ≡ take (n - 1) old.frames.items → Dropped old new f
cut old new rest f e forms args n size frames =
    let l : length old.frames.items ≡ length rest + 1 = ap length e ∙ length-append rest (f ∷ []) in
    let s : new.frames.items ≡ rest = frames ∙ ap (λ z. take (n - 1) z) e
    ∙ (let k : n - 1 ≡ length rest = omega arith in rw k (take-append_seam rest (f ∷ []))) in
    record {
      can = λ w.
          let fit : FramesFit (length old.forms) (length old.args.items) (f ∷ reverse rest) =
          subst (FramesFit (length old.forms) (length old.args.items)) (ap reverse e ∙ reverse-snoc rest f) w.frames in
          record {
            fits = rw (forms, args, s) (record { args = w.args; within = left-within (length old.forms) (length old.args.items) f fit.0; frames = fit.1 });
            frame = rw (forms, args) fit.0;
          };
      forms = forms;
      waits = λ texts. rw (forms, args, s) (ap (pending (known texts) old.forms old.args.items) e ∙ pending-snoc (known texts) old.forms old.args.items rest f);
      smaller = rw s (omega arith);
    }

-- ---- one more argument

raws_in-snoc : (ts : List Raw) (xs : List RawAt) (x : RawAt) → raws_in ts (places (xs ++ x ∷ [])) ≡ raws_then (raws_in ts (places xs)) (raw_in ts x.0)
raws_in-snoc ts [] x = refl
raws_in-snoc ts (y ∷ xs) x = let e = raws_in-snoc ts xs x in cc

pub one-more : (old new : Waiting) (x : RawAt) → IsNode old x → new.forms ≡ old.forms → new.args.items ≡ old.args.items ++ x ∷ []
    → new.frames.items ≡ old.frames.items
    → (from : ℕ) → FitsBelow old from → HasMore old new from (λ texts. tree texts old x)
one-more old new x inside forms args frames from w = record {
  fits = rw (forms, args, frames) (record {
    args = All-push (λ (a : RawAt). a.0 < length old.forms) old.args.items x w.args inside;
    within = simp length-append (omega (arith, w.within));
    frames = w.frames;
  });
  arguments = λ texts. rw (forms, args, drop-append-le from old.args.items (x ∷ []) w.within)
      (raws_in-snoc (raw_trees (known texts) old.forms) (drop from old.args.items) x);
  waits = λ texts. rw (forms, args, frames, take-append-le from old.args.items (x ∷ []) w.within) refl;
}

-- an argument of one node
pub more-after : (old mid new : Waiting) (x : RawAt) (raw : List (List ℕ) → Raw) → Added old mid x raw
    → ((from : ℕ) → FitsBelow mid from → HasMore mid new from (λ texts. tree texts mid x))
    → (from : ℕ) → FitsBelow old from → HasMore old new from raw
more-after old mid new x raw a h from w =
    let m = h from (a.fits_below from w) in
    record {
      fits = m.fits;
      arguments = λ texts. m.arguments texts ∙ (λ i. raws_then (a.arguments texts from w i) (a.is texts i));
      waits = λ texts. m.waits texts ∙ a.waits_below texts from w;
    }

-- ---- arguments were taken off, and a node was added

pub finished : (old new : Waiting) (n : Node) (at : RawAt) (from : ℕ) → FitsBelow old from → at.0 ≡ length old.forms → new.forms ≡ old.forms ++ n ∷ []
    → new.args.items ≡ take from old.args.items → new.frames.items ≡ old.frames.items
    → ShowsTree new at (λ texts. build_raw texts (raw_trees texts old.forms) n) (λ texts. waiting_below texts old from)
finished old new n at from w e forms args frames =
    let c : length new.forms ≡ length old.forms + 1 = ap length forms ∙ length-append old.forms (n ∷ []) in
    let l : length (take from old.args.items) ≡ from = length-take-le from old.args.items w.within in
    let all : All (λ (a : RawAt). a.0 < length old.forms) (take from old.args.items) =
    All-take (λ (a : RawAt). a.0 < length old.forms) from old.args.items w.args in
    record {
      fits = rw (args, frames) (fits-more (length old.forms) (length new.forms) (length (take from old.args.items)) (take from old.args.items) old.frames.items
          (omega (arith, c))
          (record { args = all; within = omega arith; frames = subst (λ k. FramesFit (length old.forms) k (reverse old.frames.items)) (sym l) w.frames }));
      inside = omega (arith, c);
      is = λ texts. ap (λ z. raw_at (known texts) z at.0) forms ∙ ap (raw_at (known texts) (old.forms ++ n ∷ [])) e ∙ raw_at-last (known texts) old.forms n;
      waits = λ texts. rw (forms, args, frames) (pending-kept (known texts) old.forms n from (take from old.args.items) old.frames.items all w.frames);
    }

-- the arguments from a place on are places of nodes
pub all-dropped : (n from : ℕ) (args : List RawAt) → All (λ a. a.0 < n) args → All (λ a. a.0 < n) (drop from args)
all-dropped n from args h = All-drop (λ (a : RawAt). a.0 < n) from args h

-- what is left of a slice from a place on
pub rest-of : (ys xs : List RawAt) (i : ℕ) → ys ≡ xs → take (length ys - i) (drop i ys) ≡ drop i xs
rest-of ys xs i e =
    let l : length ys - i ≡ length (drop i ys) = omega (arith, length-drop i ys) in
    rw l (take-length (drop i ys)) ∙ ap (drop i) e

pub finished-head : (old new : Waiting) (name : Named) (at : RawAt) (from : ℕ) (s : List RawAt) → s ≡ drop from old.args.items → FitsBelow old from
    → at.0 ≡ length old.forms → new.forms ≡ old.forms ++ HeadNode name (places s) ∷ [] → new.args.items ≡ take from old.args.items
    → new.frames.items ≡ old.frames.items
    → ShowsTree new at (λ texts. head (identifier texts name) (args_from texts old from)) (λ texts. waiting_below texts old from)
finished-head old new name at from s same w e forms args frames =
    finished old new (HeadNode name (places (drop from old.args.items))) at from w e (forms ∙ ap (λ z. old.forms ++ HeadNode name (places z) ∷ []) same) args
    frames

pub finished-load : (old new : Waiting) (place : Place) (name : Named) (goal at : RawAt) (from : ℕ) (s : List RawAt) → s ≡ drop from old.args.items
    → FitsBelow old from → at.0 ≡ length old.forms → new.forms ≡ old.forms ++ LoadNode place name (places s) goal.0 ∷ []
    → new.args.items ≡ take from old.args.items → new.frames.items ≡ old.frames.items
    → ShowsTree new at (λ texts. load place (identifier texts name) (args_from texts old from) (tree texts old goal)) (λ texts. waiting_below texts old from)
finished-load old new place name goal at from s same w e forms args frames =
    finished old new (LoadNode place name (places (drop from old.args.items)) goal.0) at from w e
    (forms ∙ ap (λ z. old.forms ++ LoadNode place name (places z) goal.0 ∷ []) same) args frames
