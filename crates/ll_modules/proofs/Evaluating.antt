-- Expressions that are being evaluated: each step keeps the value that comes out in the end.
use Rattle.std.proofs.Common.{◌≡◌, ℕ, ◌+◌, ◌*◌, ◌<◌, ◌≤◌, List, [], ◌∷◌, ◌++◌, length, Option, Some, None, refl, sym, ap, subst, ◌∙◌, inl, inr, cond, arith, ℤ}
use Rattle.std.specs.BTreeMap.{is_at}
use Rattle.std.specs.Ordering.{nat_cmp}
use Rattle.std.proofs.lemmas.Bool.{cases_eq}
use Rattle.ll_bank.specs.declared.Head.{Head}
use Rattle.ll_bank.specs.declared.At.{At}
use Rattle.ll_bank.specs.Term.{Term, Con, Ap, apply, app}
use Rattle.ll_bank.specs.Nodes.{Nodes, term_tree, term_trees, HasTerm, AllInTerms}
use Rattle.std.specs.Prelude.{slice_index_or, All}
use Rattle.ll_bank.specs.Opened.{term_size}
use Rattle.ll_bank.proofs.CallerLemmas.{image_here, image_there}
use Rattle.ll_bank.proofs.CallerLemmas.{term_size-some}
use Rattle.ll_laws.specs.Number.{Operators, operator_of, value_of, combined, operated, exactly}
use Rattle.ll_modules.specs.declared.evaluate.Operator.{Operator as SeenOperator}
use Rattle.ll_modules.specs.declared.evaluate.Frame.{Frame}
use Rattle.ll_modules.specs.declared.evaluate.Frame.TheVariants.{Left, Right, Note}
use Rattle.ll_modules.specs.declared.evaluate.Todo.TheVariants.{Enter, Leave}
use Rattle.ll_modules.specs.Values.{shown_operator, framed, ended, frame_work, frames_work, IsInside, AreInside, IsNoted, AreNoted, AreKnown, IsNoting, noted}
use Rattle.ll_modules.specs.Values.{none, IsStep}

-- a head with a number of arguments other than two has no value
three_none : (ops : Operators) (f a b c : Term) (ts : List Term) → value_of ops (apply (Ap (Ap (Ap f a) b) c) ts) ≡ None
three_none ops f a b c [] = refl
three_none ops f a b c (t ∷ ts) = three_none ops (Ap f a) b c t ts

pub other_none : (ops : Operators) (h : Head) (bank : Nodes) (args : List At) → (length args ≡ 2 → ⊥) → value_of ops (app h (term_trees bank args)) ≡ None
other_none ops h bank [] n = refl
other_none ops h bank (x ∷ []) n = refl
other_none ops h bank (x ∷ y ∷ []) n = absurd (n refl)
other_none ops h bank (x ∷ y ∷ z ∷ args) n = three_none ops (Con h) (term_tree bank x.0) (term_tree bank y.0) (term_tree bank z.0) (term_trees bank args)

-- nor has one with two, if the head is no operator
pub two_none : (ops : Operators) (h : Head) (bank : Nodes) (args : List At) → length args ≡ 2 → operator_of ops (Con h) ≡ None
    → value_of ops (app h (term_trees bank args)) ≡ None
two_none ops h bank [] l e = refl
two_none ops h bank (x ∷ []) l e = refl
two_none ops h bank (x ∷ y ∷ []) l e = ap (λ o. combined o (value_of ops (term_tree bank x.0)) (value_of ops (term_tree bank y.0))) e
two_none ops h bank (x ∷ y ∷ z ∷ args) l e = absurd (omega (arith, l))

pub arguments_inside : (bank : Nodes) (at : ℕ) (args : List At) → HasTerm bank at → All (λ (a : At). a.0 < at) args → AllInTerms bank args
arguments_inside bank at args h below i d l = let q = below i d l in omega (arith, h)

module _ (ops : Operators) (bank : Nodes) where
  pub ended_last : (fs : List Frame) (f : Frame) (v : Option ℤ) → ended ops bank (fs ++ f ∷ []) v ≡ ended ops bank fs (framed ops bank f v)
  ended_last [] f v = refl
  ended_last (g ∷ fs) f v = ap (framed ops bank g) (ended_last fs f v)

  pub work_last : (fs : List Frame) (f : Frame) → frames_work bank (fs ++ f ∷ []) ≡ frames_work bank fs + frame_work bank f
  work_last [] f = omega arith
  work_last (g ∷ fs) f = let h = work_last fs f in omega arith

  pub inside_last : (fs : List Frame) (f : Frame) → AreInside bank fs → IsInside bank f → AreInside bank (fs ++ f ∷ [])
  inside_last [] f h i = (i, tt)
  inside_last (g ∷ fs) f h i = (h.0, inside_last fs f h.1 i)

  pub inside_front : (fs : List Frame) (f : Frame) → AreInside bank (fs ++ f ∷ []) → AreInside bank fs
  inside_front [] f h = tt
  inside_front (g ∷ fs) f h = (h.0, inside_front fs f h.1)

  pub inside_end : (fs : List Frame) (f : Frame) → AreInside bank (fs ++ f ∷ []) → IsInside bank f
  inside_end [] f h = h.0
  inside_end (g ∷ fs) f h = inside_end fs f h.1

  framed_none : (f : Frame) → framed ops bank f None ≡ None
  framed_none (Left o at) = refl
  framed_none (Right o z) = refl
  framed_none (Note at) = refl

  some_work : (f : Frame) → 0 < frame_work bank f
  some_work (Left o at) = omega arith
  some_work (Right o z) = omega arith
  some_work (Note at) = omega arith

  noted_last : (fs : List Frame) (f : Frame) (v : Option ℤ) → AreNoted ops bank (fs ++ f ∷ []) v
      → AreNoted ops bank fs (framed ops bank f v) × IsNoted ops bank f v
  noted_last [] f v h = (tt, h.0)
  noted_last (g ∷ fs) f v h = let r = noted_last fs f v h.1 in ((subst (IsNoted ops bank g) (ended_last fs f v) h.0, r.0), r.1)

  noted_onto : (fs : List Frame) (f : Frame) (v : Option ℤ) → AreNoted ops bank fs (framed ops bank f v) → IsNoted ops bank f v
      → AreNoted ops bank (fs ++ f ∷ []) v
  noted_onto [] f v h i = (i, tt)
  noted_onto (g ∷ fs) f v h i = (subst (IsNoted ops bank g) (sym (ended_last fs f v)) h.0, noted_onto fs f v h.1 i)

  pub leaves_nothing : (fs : List Frame) (f : Frame) (v : Option ℤ) → v ≡ None → AreInside bank (fs ++ f ∷ [])
      → IsStep ops bank (fs ++ f ∷ []) v 0 fs (Leave None)
  leaves_nothing fs f v e h = record {
    same = ap (ended ops bank fs) (sym (framed_none f)) ∙ (sym (ended_last fs f None) ∙ ap (ended ops bank (fs ++ f ∷ [])) (sym e));
    less = let w = work_last fs f in let s = some_work f in omega arith;
    inside = inside_front fs f h;
    next_inside = tt;
    noted = λ n. subst (AreNoted ops bank fs) (ap (framed ops bank f) e ∙ framed_none f) (noted_last fs f v n).0;
  }

  pub leaves_left : (fs new : List Frame) (f : Frame) (v : Option ℤ) (o : SeenOperator) (at : At) (z : ℤ) → f ≡ Left o at → v ≡ Some z
      → new ≡ fs ++ Right o z ∷ []
      → AreInside bank (fs ++ f ∷ []) → IsStep ops bank (fs ++ f ∷ []) v 0 new (Enter at)
  leaves_left fs new f v o at z ef ev en h = record {
    same = ap (λ x. ended ops bank x (value_of ops (term_tree bank at.0))) en ∙ (ended_last fs (Right o z) (value_of ops (term_tree bank at.0))
        ∙ (sym (ended_last fs (Left o at) (Some z)) ∙ (λ i. ended ops bank (fs ++ sym ef i ∷ []) (sym ev i))));
    less = let a = ap (frames_work bank) en in let w = work_last fs (Right o z) in let u = work_last fs f in let x = ap (frame_work bank) ef in omega arith;
    inside = subst (AreInside bank) (sym en) (inside_last fs (Right o z) (inside_front fs f h) tt);
    next_inside = subst (IsInside bank) ef (inside_end fs f h);
    noted = λ n. subst (λ x. AreNoted ops bank x (value_of ops (term_tree bank at.0))) (sym en)
        (noted_onto fs (Right o z) (value_of ops (term_tree bank at.0))
        (subst (AreNoted ops bank fs) (λ i. framed ops bank (ef i) (ev i)) (noted_last fs f v n).0) tt);
  }

  pub leaves_right : (fs : List Frame) (f : Frame) (v r : Option ℤ) (o : SeenOperator) (x z : ℤ) → f ≡ Right o x → v ≡ Some z
      → r ≡ exactly (operated (shown_operator o) x z)
      → AreInside bank (fs ++ f ∷ []) → IsStep ops bank (fs ++ f ∷ []) v 0 fs (Leave r)
  leaves_right fs f v r o x z ef ev er h = record {
    same = ap (ended ops bank fs) er ∙ (sym (ended_last fs (Right o x) (Some z)) ∙ (λ i. ended ops bank (fs ++ sym ef i ∷ []) (sym ev i)));
    less = let w = work_last fs f in let s = some_work f in omega arith;
    inside = inside_front fs f h;
    next_inside = tt;
    noted = λ n. subst (AreNoted ops bank fs) ((λ i. framed ops bank (ef i) (ev i)) ∙ sym er) (noted_last fs f v n).0;
  }

  -- a value that is to be noted goes on as it is
  pub leaves_note : (fs : List Frame) (f : Frame) (v : Option ℤ) (at : At) → f ≡ Note at → AreInside bank (fs ++ f ∷ [])
      → IsStep ops bank (fs ++ f ∷ []) v 0 fs (Leave v)
  leaves_note fs f v at ef h = record {
    same = sym (ended_last fs f v ∙ ap (λ g. ended ops bank fs (framed ops bank g v)) ef);
    less = let w = work_last fs f in let s = some_work f in omega arith;
    inside = inside_front fs f h;
    next_inside = tt;
    noted = λ n. subst (λ g. AreNoted ops bank fs (framed ops bank g v)) ef (noted_last fs f v n).0;
  }

  -- and is that of its term
  pub note_is : (fs : List Frame) (f : Frame) (v : Option ℤ) (at : At) (z : ℤ) → f ≡ Note at → v ≡ Some z → AreNoted ops bank (fs ++ f ∷ []) v
      → value_of ops (term_tree bank at.0) ≡ Some z
  note_is fs f v at z ef ev n = sym (subst (λ g. IsNoted ops bank g v) ef (noted_last fs f v n).1) ∙ ev

  -- a value that is known
  pub starts_known : (fs : List Frame) (t : Term) (z : ℤ) → value_of ops t ≡ Some z → AreInside bank fs
      → IsStep ops bank fs (value_of ops t) (2 * term_size t) fs (Leave (Some z))
  starts_known fs t z e h = record {
    same = ap (ended ops bank fs) (sym e);
    less = let s = term_size-some t in omega arith;
    inside = h;
    next_inside = tt;
    noted = λ n. subst (AreNoted ops bank fs) e n;
  }

  pub starts_nothing : (fs : List Frame) (t : Term) → value_of ops t ≡ None → AreInside bank fs
      → IsStep ops bank fs (value_of ops t) (2 * term_size t) fs (Leave None)
  starts_nothing fs t e h = record {
    same = ap (ended ops bank fs) (sym e);
    less = let s = term_size-some t in omega arith;
    inside = h;
    next_inside = tt;
    noted = λ n. subst (AreNoted ops bank fs) e n;
  }

  -- an operator behind those round it, whose value is noted or not
  module _ (fs mid new : List Frame) (at : At) (t : Term) (x y : At) (o : SeenOperator)
      (is : combined (Some (shown_operator o)) (value_of ops (term_tree bank x.0)) (value_of ops (term_tree bank y.0)) ≡ value_of ops t)
      (big : 4 + 2 * term_size (term_tree bank x.0) + 2 * term_size (term_tree bank y.0) ≤ 2 * term_size t) (en : new ≡ mid ++ Left o y ∷ [])
      (inside : AreInside bank fs) (ix : HasTerm bank x.0) (iy : HasTerm bank y.0) where
    left : Option ℤ
    left = value_of ops (term_tree bank x.0)

    starts_over : frames_work bank mid ≤ frames_work bank fs + 1 → AreInside bank mid → ended ops bank mid (value_of ops t) ≡ ended ops bank fs (value_of ops t)
        → (AreNoted ops bank fs (value_of ops t) → AreNoted ops bank mid (value_of ops t)) → IsStep ops bank fs (value_of ops t) (2 * term_size t) new (Enter x)
    unfolding left
    starts_over less im same notes = record {
      same = ap (λ l. ended ops bank l left) en ∙ (ended_last mid (Left o y) left ∙ (ap (ended ops bank mid) is ∙ same));
      less = let a = ap (frames_work bank) en in let w = work_last mid (Left o y) in omega arith;
      inside = subst (AreInside bank) (sym en) (inside_last mid (Left o y) im iy);
      next_inside = ix;
      noted = λ n. subst (λ l. AreNoted ops bank l left) (sym en) (noted_onto mid (Left o y) left (subst (AreNoted ops bank mid) (sym is) (notes n)) tt);
    }

    starts : t ≡ term_tree bank at.0 → IsNoting at fs mid → IsStep ops bank fs (value_of ops t) (2 * term_size t) new (Enter x)
    starts et (none e) = starts_over (let a = ap (frames_work bank) e in
        omega arith) (subst (AreInside bank) (sym e) inside) (ap (λ l. ended ops bank l (value_of ops t)) e)
        (λ n. subst (λ l. AreNoted ops bank l (value_of ops t)) (sym e) n)
    starts et (noted e) =
        starts_over (let a = ap (frames_work bank) e in let w = work_last fs (Note at) in
        omega arith) (subst (AreInside bank) (sym e) (inside_last fs (Note at) inside tt))
        (ap (λ l. ended ops bank l (value_of ops t)) e ∙ ended_last fs (Note at) (value_of ops t))
        (λ n. subst (λ l. AreNoted ops bank l (value_of ops t)) (sym e) (noted_onto fs (Note at) (value_of ops t) n (ap (value_of ops) et)))

  pub starts_operator : (fs mid new : List Frame) (at : At) (h : Head) (args : List At) (d : At) (o : SeenOperator)
      → term_tree bank at.0 ≡ app h (term_trees bank args) → length args ≡ 2
      → operator_of ops (Con h) ≡ Some (shown_operator o) → IsNoting at fs mid → new ≡ mid ++ Left o (slice_index_or args 1 d) ∷ [] → AreInside bank fs
      → AllInTerms bank args
      → IsStep ops bank fs (value_of ops (term_tree bank at.0)) (2 * term_size (term_tree bank at.0)) new (Enter (slice_index_or args 0 d))
  starts_operator fs mid new at h [] d o et l e i en inside all = absurd (omega (arith, l))
  starts_operator fs mid new at h (x ∷ []) d o et l e i en inside all = absurd (omega (arith, l))
  starts_operator fs mid new at h (x ∷ y ∷ []) d o et l e i en inside all =
      starts fs mid new at (term_tree bank at.0) x y o
      (ap (λ p. combined p (value_of ops (term_tree bank x.0)) (value_of ops (term_tree bank y.0))) (sym e) ∙ ap (value_of ops) (sym et))
      (let s = ap term_size et in omega arith) en inside (all 0 d (omega arith)) (all 1 d (omega arith)) refl i
  starts_operator fs mid new at h (x ∷ y ∷ z ∷ args) d o et l e i en inside all = absurd (omega (arith, l))

  -- a value more is known
  pub known_more : (old new : ℕ → Option ℤ) (p : ℕ) (z : ℤ) → AreKnown ops bank old → value_of ops (term_tree bank p) ≡ Some z
      → ((q : ℕ) → new q ≡ cond (is_at (nat_cmp p) q) (Some z) (old q)) → AreKnown ops bank new
  known_more old new p z k v h = λ q w e. elim (cases_eq p q) [
    | inl s ↦ subst (λ i. value_of ops (term_tree bank i) ≡ Some w) s (v ∙ (sym (image_here old new p z h) ∙ (ap new s ∙ e)))
    | inr ne ↦ k q w (sym (image_there old new p z h q ne) ∙ e)
  ]
