-- How terms are copied with all bindings applied.
use Rattle.std.proofs.Common.{◌≡◌, ℕ, zero, suc, ◌+◌, ◌-◌, ◌<◌, ◌≤◌, inl, inr, Bool, true, false, List, [], ◌∷◌, ◌++◌, length, map, get_or, take, drop}
use Rattle.std.proofs.Common.{All, refl, ap, sym, subst, ◌∙◌, arith, length-append, append_assoc, length-drop}
use Rattle.std.specs.Prelude.{Option, Some, None, ◌&&◌}
use Rattle.std.proofs.lemmas.Bool.{cases_lt}
use Rattle.std.proofs.lemmas.List.{append-nil, length-map, map-append, length-take-le, take_all, ext_get_or}
use Rattle.std.proofs.lemmas.List.Elements.{All-push}
use Rattle.std.proofs.Math.Seq.{take-suc, get_or-append_seam}
use Rattle.std.proofs.Math.ListN.{get_or-append}
use Rattle.ll_list_laws.proofs.CallerLemmas.{and_true_left as and_left, All-front as All-before, All-last}
use Rattle.ll_bank.specs.declared.Head.{Head}
use Rattle.ll_bank.specs.declared.At.{At}
use Rattle.ll_bank.specs.Term.{Term, Var, Int, Con, Ap, app, sub, head_of, is_spine, applies_heads}
use Rattle.ll_bank.specs.Nodes.{Nodes, HasTerm, term_tree, term_trees, AllInTerms, ShowsTerm, Extends}
use Rattle.ll_bank.proofs.CallerLemmas.{HasTerm-extends, term_tree-extends, AllInTerms-extends, term_trees-extends, ShowsTerm-extends, applies_heads-term_tree}
use Rattle.ll_bank.proofs.CallerLemmas.{head_of-app, sub-apply, apply-append}
use Rattle.ll_unify.specs.declared.frame.Frame.{Frame}
use Rattle.ll_unify.specs.Spines.{args_in, arg, ShowsArgument}
use Rattle.ll_unify.specs.Stacks.{lowest, is_empty, is_full}
use Rattle.ll_unify.specs.Bindings.{Table, found, cell, Reaches, IsPlaceOf, IsAmong, IsTable, IsFree, IsEnd, AreSame}
use Rattle.ll_unify.specs.Frames.{frame_tree}
use Rattle.ll_unify.specs.Copied.{HasCopy, AreCopies, AddsCopy, CopyArgs, Lacks, Held, IsCopying, IsCopied, IsChanged, IsBuilt, AreRead, IsCellCopy, IsFinal}
use Rattle.ll_unify.specs.Copied.{AreFinal}
use Rattle.ll_unify.proofs.Spines.{args_in-app, build_up}
use Rattle.ll_unify.proofs.Stacks.{opened, closed, no_item, an_item, split_last}
use Rattle.ll_unify.proofs.Readings.{Obeys-found}
use Rattle.ll_unify.proofs.Tables.{end-var, step-inside}
use Rattle.ll_unify.proofs.BindingLaws.{found-bound}
use Rattle.ll_unify.proofs.BindingLaws.{table-extends, sub-extends, reaches-after}

-- ---- a bank that grows

-- a place of the first bank where no bound variable stands, seen in the grown one
pub end-back : (old new : Nodes) (t : Table) (at : ℕ) → IsTable old t → Extends old new → HasTerm old at → IsEnd new t at → IsEnd old t at
end-back old new t at h e l p = record {
  place =
      record {
        inside = l;
        vars = λ y r. p.place.vars y (subst (Reaches new t y) (sym (term_tree-extends e at l))
            (reaches-after old new t y (term_tree old at) h e r));
      };
  free = subst (IsFree t) (term_tree-extends e at l) p.free;
}

copy-extends : (first old new : Nodes) (t : Table) (at : ℕ) (copy : At) → Extends old new → HasCopy first old t at copy → HasCopy first new t at copy
copy-extends first old new t at copy e c = record { inside = c.inside; shows = ShowsTerm-extends e c.shows }

-- copies stay copies
pub copies-extends : (first old new : Nodes) (t : Table) (known : ℕ → Option At) → Extends old new → AreCopies first old t known → AreCopies first new t known
copies-extends first old new t known e c = λ at copy k. copy-extends first old new t at copy e (c at copy k)

-- and are copies of what the grown bank shows
pub copies-rebase : (first base new : Nodes) (t : Table) (known : ℕ → Option At) → IsTable first t → Extends first base → AreCopies first new t known
    → AreCopies base new t known
copies-rebase first base new t known h e c = λ at copy k. let d = c at copy k in record {
  inside = HasTerm-extends e at d.inside;
  shows = subst (ShowsTerm new copy.0) (sym (sub-extends first base t at h e d.inside)) d.shows;
}

-- one more copy is known
pub copies-add : (first nodes : Nodes) (t : Table) (old new : ℕ → Option At) (at : ℕ) (copy : At) → AreCopies first nodes t old → HasCopy first nodes t at copy
    → AddsCopy old new at copy → AreCopies first nodes t new
copies-add first nodes t old new at copy c d a = λ place made k. elim (a place made k) [
  | inl e ↦ c place made e
  | inr e ↦ subst (λ p. HasCopy first nodes t p made) (sym e.0) (subst (HasCopy first nodes t at) (sym e.1) d)
]

-- two lists of places that are one
pub same-places : (ats bts : List At) → length ats ≡ length bts
    → ((k : ℕ) → k < length ats → (get_or ats k (record { 0 = 0 })).0 ≡ (get_or bts k (record { 0 = 0 })).0) → ats ≡ bts
same-places ats bts n h = ext_get_or (record { 0 = 0 }) ats bts n (λ k l. one (get_or ats k (record { 0 = 0 })) (get_or bts k (record { 0 = 0 })) (h k l))
  where
    one : (p q : At) → p.0 ≡ q.0 → p ≡ q
    one p q d = λ i. record { 0 = d i }

-- ---- building

-- a term is its head with its arguments
pub spine-is : (u : Term) (h : Head) → head_of u ≡ Some h → u ≡ app h (args_in u)
spine-is (Var x) h e = cc
spine-is (Int z) h e = cc
spine-is (Con k) h e = cc
spine-is (Ap f a) h e = ap (λ g. Ap g a) (spine-is f h e) ∙ sym (apply-append (Con h) (args_in f) (a ∷ []))

-- the copy needs its head
pub built-new : (old new : Nodes) (at : ℕ) (own : List At) (copy : At) (h : Head) → head_of (term_tree old at) ≡ Some h
    → ShowsTerm new copy.0 (app h (term_trees old own)) → IsBuilt old new at own copy.0
built-new old new at own copy h e k s args free = record {
  inside = k.inside;
  tree = k.tree ∙ (ap (app h) args ∙ (sym (sub-apply s (Con h) (args_in (term_tree old at))) ∙ ap (sub s) (sym (spine-is (term_tree old at) h e))));
}

same-arg : (s : ℕ → Term) (ts : List Term) → ts ≡ map (sub s) ts → (k : ℕ) → k < length ts → sub s (get_or ts k (Var 0)) ≡ get_or ts k (Var 0)
same-arg s [] e k l = absurd (omega arith)
same-arg s (u ∷ ts) e zero l = cc
same-arg s (u ∷ ts) e (suc k) l = let q : ts ≡ map (sub s) ts = cc in same-arg s ts q k (omega arith)

still : (s : ℕ → Term) (u : Term) → is_spine u ≡ true → args_in u ≡ map (sub s) (args_in u) → sub s u ≡ u
still s u h e =
    build_up (λ t. sub s t ≡ t) (λ f a p q. λ i. Ap (p i) (q i)) u h (λ k q. refl) (λ k l. same-arg s (args_in u) e k l)

-- the place itself serves
pub built-same : (old : Nodes) (at : At) (own : List At) → HasTerm old at.0 → IsChanged old at.0 own None → IsBuilt old old at.0 own at.0
built-same old at own l c s args free = record {
  inside = l;
  tree =
      sym (elim c [ inl h ↦ leaf (term_tree old at.0) (applies_heads-term_tree old at.0) h free | inr e ↦ step (is_spine (term_tree old at.0)) refl e ]);
}
  where
    leaf : (u : Term) → applies_heads u ≡ true → is_spine u ≡ false → ((x : ℕ) → u ≡ Var x → s x ≡ Var x) → sub s u ≡ u
    leaf (Var x) a h f = f x refl
    leaf (Int z) a h f = refl
    leaf (Con k) a h f = refl
    leaf (Ap g b) a h f = let q = and_left (is_spine g) (applies_heads g) (and_left (is_spine g && applies_heads g) (applies_heads b) a) in cc

    step : (b : Bool) → is_spine (term_tree old at.0) ≡ b → args_in (term_tree old at.0) ≡ term_trees old own → sub s (term_tree old at.0) ≡ term_tree old at.0
    step true h e = still s (term_tree old at.0) h (e ∙ args)
    step false h e = leaf (term_tree old at.0) (applies_heads-term_tree old at.0) h free

-- a variable or a number is no application
pub changed-leaf : (nodes : Nodes) (at : ℕ) (own : List At) (u : Term) → term_tree nodes at ≡ u → is_spine u ≡ false → IsChanged nodes at own None
changed-leaf nodes at own u e h = inl (ap is_spine e ∙ h)

pub changed-same : (nodes : Nodes) (at : ℕ) (h : Head) (args own : List At) → term_tree nodes at ≡ app h (term_trees nodes args) → args ≡ own
    → IsChanged nodes at own None
changed-same nodes at h args own e q = inr (ap args_in e ∙ (args_in-app h (term_trees nodes args) ∙ ap (term_trees nodes) q))

pub changed-head : (nodes : Nodes) (at : ℕ) (h : Head) (ts : List Term) → term_tree nodes at ≡ app h ts → head_of (term_tree nodes at) ≡ Some h
changed-head nodes at h ts e = ap head_of e ∙ head_of-app h ts

-- ---- the copies of arguments

args-none : (nodes : Nodes) (s : ℕ → Term) (u : Term) → CopyArgs nodes s u 0 []
args-none nodes s u = record { upto = omega arith; places = λ k d l. absurd (omega arith); trees = refl }

-- one more
args-more : (nodes : Nodes) (s : ℕ → Term) (u : Term) (n : ℕ) (own : List At) (copy : At) → CopyArgs nodes s u n own → n < length (args_in u)
    → ShowsTerm nodes copy.0 (sub s (arg u n)) → CopyArgs nodes s u (suc n) (own ++ copy ∷ [])
args-more nodes s u n own copy c l k = record {
  upto = omega arith;
  places = All-push (λ (a : At). a.0 < length nodes.terms) own copy c.places k.inside;
  trees =
      map-append (λ (a : At). term_tree nodes a.0) own (copy ∷ [])
      ∙ ((λ i. c.trees i ++ k.tree i ∷ [])
      ∙ (sym (map-append (sub s) (take n (args_in u)) (arg u n ∷ [])) ∙ ap (map (sub s)) (sym (take-suc (args_in u) n (Var 0) l))));
}

args-extends : (old new : Nodes) (s : ℕ → Term) (u : Term) (n : ℕ) (own : List At) → Extends old new → CopyArgs old s u n own → CopyArgs new s u n own
args-extends old new s u n own e c = record {
  upto = c.upto;
  places = AllInTerms-extends e own c.places;
  trees = term_trees-extends e own c.places ∙ c.trees;
}

-- there are as many as were asked for
args-count : (nodes : Nodes) (s : ℕ → Term) (u : Term) (n : ℕ) (own : List At) → CopyArgs nodes s u n own → length own ≡ n
args-count nodes s u n own c =
    sym (length-map own (λ (a : At). term_tree nodes a.0)) ∙
    (ap length c.trees ∙ (length-map (take n (args_in u)) (sub s) ∙ length-take-le n (args_in u) c.upto))

held-extends : (first old new : Nodes) (s : ℕ → Term) (fs : List Frame) (c : Term) (made : List At) → Extends old new → Held first old s fs c made
    → Held first new s fs c made
held-extends first old new s [] c made e h = h
held-extends first old new s (f ∷ fs) c made e h = (
  h.0,
  h.1,
  h.2,
  record {
    before = h.3.before;
    next = h.3.next;
    among = h.3.among;
    copies = args-extends old new s (frame_tree first f) h.3.before h.0 e h.3.copies;
    last = h.3.last;
  },
  held-extends first old new s fs c h.1 e h.4,
)

-- one more frame waits for c
held-push : (first nodes : Nodes) (s : ℕ → Term) (fs : List Frame) (f : Frame) (c : Term) (below own : List At)
    → Held first nodes s fs (frame_tree first f) below → Lacks nodes s (frame_tree first f) f c own
    → Held first nodes s (fs ++ f ∷ []) c (below ++ own)
held-push first nodes s [] f c below own h l = (own, [], ap (λ ms. ms ++ own) h ∙ sym (append-nil own), l, refl)
held-push first nodes s (g ∷ fs) f c below own h l = (
  h.0,
  h.1 ++ own,
  ap (λ ms. ms ++ own) h.2 ∙ append_assoc h.0 h.1 own,
  subst (λ u. Lacks nodes s (frame_tree first g) g u h.0) (sym (lowest-frame fs)) h.3,
  held-push first nodes s fs f c h.1 own h.4 l,
)
  where
    lowest-frame : (gs : List Frame) → lowest (frame_tree first) (gs ++ f ∷ []) c ≡ lowest (frame_tree first) gs (frame_tree first f)
    lowest-frame [] = refl
    lowest-frame (x ∷ gs) = refl

-- what the last frame has, and what the frames below have
pub record HeldLast (first nodes : Nodes) (s : ℕ → Term) (fs : List Frame) (f : Frame) (c : Term) (made : List At) : Type 0 where
  pub below : List At
  pub own : List At
  pub is : made ≡ below ++ own
  pub held : Held first nodes s fs (frame_tree first f) below
  pub lacks : Lacks nodes s (frame_tree first f) f c own

held-last : (first nodes : Nodes) (s : ℕ → Term) (fs : List Frame) (f : Frame) (c : Term) (made : List At) → Held first nodes s (fs ++ f ∷ []) c made
    → HeldLast first nodes s fs f c made
held-last first nodes s [] f c made h = record {
  below = [];
  own = made;
  is = refl;
  held = refl;
  lacks =
      subst (Lacks nodes s (frame_tree first f) f c) (sym (h.2 ∙ (ap (λ ms. h.0 ++ ms) h.4 ∙ append-nil h.0))) h.3;
}
held-last first nodes s (g ∷ fs) f c made h =
    let r = held-last first nodes s fs f c h.1 h.4 in record {
      below = h.0 ++ r.below;
      own = r.own;
      is = h.2 ∙ (ap (λ ms. h.0 ++ ms) r.is ∙ sym (append_assoc h.0 r.below r.own));
      held = (h.0, r.below, refl, subst (λ u. Lacks nodes s (frame_tree first g) g u h.0) (lowest-frame fs) h.3, r.held);
      lacks = r.lacks;
    }
  where
    lowest-frame : (gs : List Frame) → lowest (frame_tree first) (gs ++ f ∷ []) c ≡ lowest (frame_tree first) gs (frame_tree first f)
    lowest-frame [] = refl
    lowest-frame (x ∷ gs) = refl

-- a place that is reached from the next argument of a frame
pub record IsReached (first : Nodes) (t : Table) (f : Frame) (arg to : At) : Type 0 where
  pub argument : ShowsArgument first f.at.0 f.next arg.0
  pub end : IsEnd first t to.0
  pub same : sub (found first t) (term_tree first to.0) ≡ sub (found first t) (term_tree first arg.0)

-- ---- the stack of frames

module _ (first : Nodes) (t : Table) (whole : Term) (tb : IsTable first t) where
  pub copy-top : (nodes : Nodes) (made : List At) (last : At) (items fs : List Frame) (f : Frame) → IsCopied first nodes t whole made last items
      → items ≡ fs ++ f ∷ [] → IsCopying first nodes t whole made fs f
  copy-top nodes made last items fs f h e = opened (ShowsTerm nodes last.0 whole) (IsCopying first nodes t whole made) items fs f h e

  pub copy-ends : (nodes : Nodes) (made : List At) (last : At) (items : List Frame) → IsCopied first nodes t whole made last items → items ≡ []
      → ShowsTerm nodes last.0 whole
  copy-ends nodes made last items h e = closed (ShowsTerm nodes last.0 whole) (IsCopying first nodes t whole made) items h e

  -- an argument as the first bank shows it
  pub first-argument : (nodes : Nodes) (at k to : ℕ) → Extends first nodes → HasTerm first at → ShowsArgument nodes at k to → ShowsArgument first at k to
  first-argument nodes at k to e l a = record {
    among = subst (λ u. k < length (args_in u)) (term_tree-extends e at l) a.among;
    is = ap (λ u. arg u k) (sym (term_tree-extends e at l)) ∙ (a.is ∙ term_tree-extends e to (let b = a.below in omega arith));
    below = a.below;
  }

  -- a place that is reached from one of the first bank is one of it
  pub reached-inside : (at end : At) → IsPlaceOf first t at.0 → IsAmong t at end → HasTerm first end.0
  reached-inside at end p m = elim m [
    | inl e ↦ subst (λ (z : At). HasTerm first z.0) (sym e) p.inside
    | inr e ↦ tb.places e.0 end e.1
  ]

  -- an argument whose copy is known
  pub copy-known : (nodes : Nodes) (made : List At) (last : At) (items fs : List Frame) (f g : Frame) (to end copy : At)
      → IsCopied first nodes t whole made last items → items ≡ fs ++ f ∷ []
      → ShowsArgument first f.at.0 f.next to.0 → sub (found first t) (term_tree first end.0) ≡ sub (found first t) (term_tree first to.0)
      → ShowsTerm nodes copy.0 (sub (found first t) (term_tree first end.0))
      → g.at ≡ f.at → g.next ≡ f.next + 1 → IsCopied first nodes t whole (made ++ copy ∷ []) last (fs ++ g ∷ [])
  copy-known nodes made last items fs f g to end copy h e a same k ga gn =
      let p = copy-top nodes made last items fs f h e in
      let m : suc f.next ≡ g.next = omega arith in
      is_full fs g refl (subst (IsCopying first nodes t whole (made ++ copy ∷ []) fs) (λ i. record { at = sym ga i; next = m i }) (record {
        below = p.below;
        own = p.own ++ copy ∷ [];
        is = ap (λ ms. ms ++ copy ∷ []) p.is ∙ append_assoc p.below p.own (copy ∷ []);
        copies = args-more nodes (found first t) (frame_tree first f) f.next p.own copy p.copies a.among
            (subst (ShowsTerm nodes copy.0) (same ∙ ap (sub (found first t)) (sym a.is)) k);
        held = p.held;
        bottom = p.bottom;
        end = p.end;
        ends = p.ends;
      }))

  -- an argument that is still to be copied
  pub copy-opens : (nodes : Nodes) (made : List At) (last : At) (items fs : List Frame) (f g : Frame) (to end : At)
      → IsCopied first nodes t whole made last items → items ≡ fs ++ f ∷ []
      → ShowsArgument first f.at.0 f.next to.0 → sub (found first t) (term_tree first end.0) ≡ sub (found first t) (term_tree first to.0) → IsEnd first t end.0
      → g.at ≡ f.at → g.next ≡ f.next + 1 → IsCopied first nodes t whole made last ((fs ++ g ∷ []) ++ (record { at = end; next = 0 }) ∷ [])
  copy-opens nodes made last items fs f g to end h e a same en ga gn =
      let p = copy-top nodes made last items fs f h e in
      let m : suc f.next ≡ g.next = omega arith in
      subst (λ z. IsCopied first nodes t whole made last ((fs ++ z ∷ []) ++ (record { at = end; next = 0 }) ∷ [])) (λ i. record { at = sym ga i; next = m i })
      (is_full (fs ++ (record { at = f.at; next = suc f.next }) ∷ []) (record { at = end; next = 0 }) refl (record {
        below = made;
        own = [];
        is = sym (append-nil made);
        copies = args-none nodes (found first t) (term_tree first end.0);
        held = subst (Held first nodes (found first t) (fs ++ (record { at = f.at; next = suc f.next }) ∷ []) (term_tree first end.0)) (sym p.is)
            (held-push first nodes (found first t) fs (record { at = f.at; next = suc f.next }) (term_tree first end.0) p.below p.own p.held (record {
              before = f.next;
              next = refl;
              among = a.among;
              copies = p.copies;
              last = ap (sub (found first t)) a.is ∙ sym same;
            }));
        bottom = ap (sub (found first t)) (lowest-frame fs f) ∙ p.bottom;
        end = en;
        ends = All-push (λ (q : Frame). IsEnd first t q.at.0) fs (record { at = f.at; next = suc f.next }) p.ends p.end;
      }))
    where
      lowest-frame : (gs : List Frame) (f : Frame) → lowest (frame_tree first) (gs ++ (record { at = f.at; next = suc f.next }) ∷ []) (term_tree first end.0)
          ≡ lowest (frame_tree first) gs (frame_tree first f)
      lowest-frame [] f = refl
      lowest-frame (x ∷ gs) f = refl

  -- the frame on top is done
  pub copy-closes : (old new : Nodes) (made left : List At) (last copy : At) (items fs : List Frame) (f : Frame) → Extends old new
      → IsCopied first old t whole made last items → items ≡ fs ++ f ∷ []
      → left ≡ take (length made - f.next) made → ShowsTerm new copy.0 (sub (found first t) (frame_tree first f))
      → IsCopied first new t whole (left ++ copy ∷ []) copy fs
  copy-closes old new made left last copy items fs f e h i l k =
      let p = copy-top old made last items fs f h i in
      let n = args-count old (found first t) (frame_tree first f) f.next p.own p.copies in
      let b : left ≡ p.below = l ∙ cut made p.below p.own f.next p.is n in
      subst (λ ms. IsCopied first new t whole (ms ++ copy ∷ []) copy fs) (sym b)
      (under fs p.below (held-extends first old new (found first t) fs (frame_tree first f) p.below e p.held) p.bottom p.ends)
    where
      cut : (ms bs os : List At) (n : ℕ) → ms ≡ bs ++ os → length os ≡ n → take (length ms - n) ms ≡ bs
      cut ms bs os n e q =
          let w = length-append bs os in let v = ap length e in
          (λ i. take ((let z : length ms - n ≡ length bs = omega arith in z) i) (e i)) ∙ take-front bs os
        where
          take-front : (bs os : List At) → take (length bs) (bs ++ os) ≡ bs
          take-front [] os = refl
          take-front (b ∷ bs) os = ap (λ z. b ∷ z) (take-front bs os)

      under : (gs : List Frame) (below : List At) → Held first new (found first t) gs (frame_tree first f) below
          → sub (found first t) (lowest (frame_tree first) gs (frame_tree first f)) ≡ whole
          → All (λ (g : Frame). IsEnd first t g.at.0) gs → IsCopied first new t whole (below ++ copy ∷ []) copy gs
      under gs below h bottom ends = elim (split_last gs) [
        | no_item q ↦ is_empty q (subst (ShowsTerm new copy.0)
            (subst (λ hs. sub (found first t) (lowest (frame_tree first) hs (frame_tree first f)) ≡ whole) q bottom) k)
        | an_item hs g q ↦
            let w : Held first new (found first t) (hs ++ g ∷ []) (frame_tree first f) below =
            subst (λ z. Held first new (found first t) z (frame_tree first f) below) q h in
            let r = held-last first new (found first t) hs g (frame_tree first f) below w in
            let a : All (λ (z : Frame). IsEnd first t z.at.0) (hs ++ g ∷ []) = subst (All (λ (z : Frame). IsEnd first t z.at.0)) q ends in
            let b2 : sub (found first t) (lowest (frame_tree first) (hs ++ g ∷ []) (frame_tree first f)) ≡ whole =
            subst (λ z. sub (found first t) (lowest (frame_tree first) z (frame_tree first f)) ≡ whole) q bottom in
            is_full hs g q (record {
              below = r.below;
              own = r.own ++ copy ∷ [];
              is = ap (λ ms. ms ++ copy ∷ []) r.is ∙ append_assoc r.below r.own (copy ∷ []);
              copies = subst (λ n. CopyArgs new (found first t) (frame_tree first g) n (r.own ++ copy ∷ [])) (sym r.lacks.next)
                  (args-more new (found first t) (frame_tree first g) r.lacks.before r.own copy r.lacks.copies r.lacks.among
                  (subst (ShowsTerm new copy.0) (sym r.lacks.last) k));
              held = r.held;
              bottom = ap (sub (found first t)) (sym (lowest-frame hs g)) ∙ b2;
              end = All-last (λ (z : Frame). IsEnd first t z.at.0) hs g a;
              ends = All-before (λ (z : Frame). IsEnd first t z.at.0) hs g a;
            })
      ]
        where
          lowest-frame : (gs : List Frame) (g : Frame) → lowest (frame_tree first) (gs ++ g ∷ []) (frame_tree first f)
              ≡ lowest (frame_tree first) gs (frame_tree first g)
          lowest-frame [] g = refl
          lowest-frame (x ∷ gs) g = refl

  -- what the frame on top has is what its copy is built of
  pub copy-own : (nodes : Nodes) (made : List At) (last : At) (items fs : List Frame) (f : Frame) → IsCopied first nodes t whole made last items
      → items ≡ fs ++ f ∷ [] → length (args_in (frame_tree first f)) ≤ f.next
      → (f.next ≤ length made) × AllInTerms nodes (drop (length made - f.next) made)
      × (term_trees nodes (drop (length made - f.next) made) ≡ map (sub (found first t)) (args_in (frame_tree first f)))
  copy-own nodes made last items fs f h i l =
      let p = copy-top nodes made last items fs f h i in
      let n = args-count nodes (found first t) (frame_tree first f) f.next p.own p.copies in
      let b = behind made p.below p.own f.next p.is n in
      let w = length-append p.below p.own in let v = ap length p.is in (
        omega arith,
        subst (AllInTerms nodes) (sym b) p.copies.places,
        ap (term_trees nodes) b ∙ (p.copies.trees ∙ ap (map (sub (found first t))) (take_all f.next (args_in (frame_tree first f)) l)),
      )
    where
      behind : (ms bs os : List At) (n : ℕ) → ms ≡ bs ++ os → length os ≡ n → drop (length ms - n) ms ≡ os
      behind ms bs os n e q =
          let w = length-append bs os in let v = ap length e in
          (λ i. drop ((let z : length ms - n ≡ length bs = omega arith in z) i) (e i)) ∙ drop-front bs os
        where
          drop-front : (bs os : List At) → drop (length bs) (bs ++ os) ≡ os
          drop-front [] os = refl
          drop-front (b ∷ bs) os = drop-front bs os

  pub copy-starts : (nodes : Nodes) (at last : At) → IsEnd first t at.0 → sub (found first t) (term_tree first at.0) ≡ whole
      → IsCopied first nodes t whole [] last ([] ++ (record { at = at; next = 0 }) ∷ [])
  copy-starts nodes at last e w = is_full [] (record { at = at; next = 0 }) refl (record {
    below = [];
    own = [];
    is = refl;
    copies = args-none nodes (found first t) (term_tree first at.0);
    held = refl;
    bottom = w;
    end = e;
    ends = λ k d l. absurd (omega arith);
  })

  -- what is the same in the grown bank is the same in the first
  pub same-back : (nodes : Nodes) (a b : ℕ) → Extends first nodes → HasTerm first a → HasTerm first b → AreSame nodes t (term_tree nodes a) (term_tree nodes b)
      → sub (found first t) (term_tree first a) ≡ sub (found first t) (term_tree first b)
  same-back nodes a b e p q h =
      sym (sub-extends first nodes t a tb e p) ∙ (h (found nodes t) (Obeys-found nodes t (table-extends first nodes t tb e).ordered)
      ∙ sub-extends first nodes t b tb e q)

  -- the next argument of the frame on top
  pub copy-argument : (nodes : Nodes) (made : List At) (last : At) (items fs : List Frame) (f : Frame) (arg : At) → Extends first nodes
      → IsCopied first nodes t whole made last items → items ≡ fs ++ f ∷ [] → ShowsArgument nodes f.at.0 f.next arg.0
      → ShowsArgument first f.at.0 f.next arg.0 × IsPlaceOf first t arg.0
  copy-argument nodes made last items fs f arg e h i a =
      let p = copy-top nodes made last items fs f h i in
      let b = first-argument nodes f.at.0 f.next arg.0 e p.end.place.inside a in
      (b, step-inside first t f.at.0 f.next arg.0 p.end.place b)

  -- what is reached from it
  pub copy-reached : (nodes : Nodes) (made : List At) (last : At) (items fs : List Frame) (f : Frame) (arg end : At) → Extends first nodes
      → IsCopied first nodes t whole made last items → items ≡ fs ++ f ∷ [] → ShowsArgument nodes f.at.0 f.next arg.0
      → IsEnd nodes t end.0 → AreSame nodes t (term_tree nodes end.0) (term_tree nodes arg.0) → IsAmong t arg end → IsReached first t f arg end
  copy-reached nodes made last items fs f arg end e h i a n m o =
      let b = copy-argument nodes made last items fs f arg e h i a in
      let l = reached-inside arg end b.1 o in
      record { argument = b.0; end = end-back first nodes t end.0 tb e l n; same = same-back nodes end.0 arg.0 e l b.1.inside m }

  -- what was built is a copy of the frame on top
  pub built-copy : (old new : Nodes) (made : List At) (last copy : At) (items fs : List Frame) (f : Frame) → Extends first old
      → IsCopied first old t whole made last items → items ≡ fs ++ f ∷ []
      → length (args_in (term_tree old f.at.0)) ≤ f.next → IsBuilt old new f.at.0 (drop (length made - f.next) made) copy.0
      → ShowsTerm new copy.0 (sub (found first t) (frame_tree first f))
  built-copy old new made last copy items fs f e h i l b =
      let p = copy-top old made last items fs f h i in
      let q = term_tree-extends e f.at.0 p.end.place.inside in
      let l2 : length (args_in (frame_tree first f)) ≤ f.next = subst (λ u. length (args_in u) ≤ f.next) q l in
      let o = copy-own old made last items fs f h i l2 in
      subst (λ u. ShowsTerm new copy.0 (sub (found first t) u)) q
      (b (found first t) (o.2 ∙ ap (λ u. map (sub (found first t)) (args_in u)) (sym q)) (λ x v. end-var first t f.at.0 x tb p.end (sym q ∙ v)))

  pub done-first : (nodes : Nodes) (made : List At) (last : At) (items fs : List Frame) (f : Frame) → Extends first nodes
      → IsCopied first nodes t whole made last items → items ≡ fs ++ f ∷ []
      → length (args_in (term_tree nodes f.at.0)) ≤ f.next → length (args_in (frame_tree first f)) ≤ f.next
  done-first nodes made last items fs f e h i l =
      let p = copy-top nodes made last items fs f h i in subst (λ u. length (args_in u) ≤ f.next) (term_tree-extends e f.at.0 p.end.place.inside) l

-- the last part of a list, read as a range
pub rest-is : (xs ys : List At) (n m : ℕ) → n ≡ m → xs ≡ ys → take (length xs - n) (drop n xs) ≡ drop m ys
rest-is xs ys n m e q = take_all (length xs - n) (drop n xs) (let l = length-drop n xs in omega arith) ∙ (λ i. drop (e i) (q i))

-- no place is read yet
pub read-none : (first nodes : Nodes) (t : Table) → AreRead first nodes t [] []
read-none first nodes t = record { inside = λ k d l. absurd (omega arith); shows = refl }

-- one more place is read
pub carried-more : (first old new : Nodes) (t : Table) (n m : ℕ) (places made : List At) (d at copy : At) → Extends old new → n < length places → m ≡ n + 1
    → get_or places n d ≡ at
    → AreRead first old t (term_trees first (take n places)) made → ShowsTerm new copy.0 (sub (found first t) (term_tree first at.0))
    → AreRead first new t (term_trees first (take m places)) (made ++ copy ∷ [])
carried-more first old new t n m places made d at copy g l k q r c = record {
  inside = All-push (λ (a : At). HasTerm new a.0) made copy (AllInTerms-extends g made r.inside) c.inside;
  shows =
      map-append (λ (a : At). term_tree new a.0) made (copy ∷ [])
      ∙ ((λ j. (term_trees-extends g made r.inside ∙ r.shows) j ++ c.tree j ∷ [])
      ∙ (sym (map-append (sub (found first t)) (term_trees first (take n places)) (term_tree first at.0 ∷ []))
      ∙ ap (map (sub (found first t))) (sym (map-append (λ (a : At). term_tree first a.0) (take n places) (at ∷ [])) ∙ ap (term_trees first) (sym last))));
}
  where
    last : take m places ≡ take n places ++ at ∷ []
    last = ap (λ j. take j places) (let e : m ≡ suc n = omega arith in e) ∙ (take-suc places n d l ∙ ap (λ a. take n places ++ a ∷ []) q)

-- one more place is read in the same bank, which grows
pub read-more : (first base new : Nodes) (t : Table) (n m : ℕ) (places made : List At) (d at copy : At) → IsTable first t → Extends first base
    → Extends base new → n < length places → m ≡ n + 1 → get_or places n d ≡ at → HasTerm first at.0
    → AreRead first base t (term_trees first (take n places)) made → ShowsTerm new copy.0 (sub (found base t) (term_tree base at.0))
    → AreRead first new t (term_trees first (take m places)) (made ++ copy ∷ [])
read-more first base new t n m places made d at copy h e g l k q i r c =
    carried-more first base new t n m places made d at copy g l k q r (record { inside = c.inside; tree = c.tree ∙ sub-extends first base t at.0 h e i })

-- ---- the copies of all cells

pub final-none : (first : Nodes) (t : Table) → AreFinal first first t 0 []
final-none first t = record { size = refl; each = λ x l. absurd (omega arith) }

cell-final : (first base new : Nodes) (t : Table) (x : ℕ) (to o : Option At) → IsTable first t → Extends first base → cell t x ≡ to → IsCellCopy base new t to o
    → IsFinal new (found first t x) to o
cell-final first base new t x None None tb e c h = tt
cell-final first base new t x None (Some b) tb e c h = h
cell-final first base new t x (Some a) None tb e c h = h
cell-final first base new t x (Some a) (Some b) tb e c h = subst (ShowsTerm new b.0)
    (sub-extends first base t a.0 tb e (tb.places x a c) ∙ sym (found-bound first t x a tb c)) h

final-extends : (old new : Nodes) (u : Term) (to o : Option At) → Extends old new → IsFinal old u to o → IsFinal new u to o
final-extends old new u None None e h = tt
final-extends old new u None (Some b) e h = h
final-extends old new u (Some a) None e h = h
final-extends old new u (Some a) (Some b) e h = ShowsTerm-extends e h

-- one more cell is copied
pub final-more : (first base new : Nodes) (t : Table) (n m : ℕ) (cells : List (Option At)) (to o : Option At) → IsTable first t → Extends first base
    → Extends base new → m ≡ n + 1 → cell t n ≡ to
    → AreFinal first base t n cells → IsCellCopy base new t to o → AreFinal first new t m (cells ++ o ∷ [])
final-more first base new t n m cells to o tb e e2 me c h k = record {
  size = let q = length-append cells (o ∷ []) in let p = h.size in omega arith;
  each = λ x b. elim (cases_lt x n) [
    | inl d ↦ subst (IsFinal new (found first t x) (cell t x)) (sym (get_or-append cells (o ∷ []) None x (let p = h.size in omega arith)))
        (final-extends base new (found first t x) (cell t x) (get_or cells x None) e2 (h.each x d))
    | inr d ↦ subst (λ y. IsFinal new (found first t y) (cell t y) (get_or (cells ++ o ∷ []) y None)) (let z : n ≡ x = omega arith in z)
        (subst (λ w. IsFinal new (found first t n) w (get_or (cells ++ o ∷ []) n None)) (sym c)
        (subst (IsFinal new (found first t n) to) (sym (ap (λ y. get_or (cells ++ o ∷ []) y None) (sym h.size) ∙ get_or-append_seam cells o [] None))
        (cell-final first base new t n to o tb e c k)))
  ];
}
