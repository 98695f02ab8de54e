-- The clauses of a derivation's node as entries of a run's context.
use Rattle.std.proofs.Common.{◌≡◌, ◌≤◌, ◌⊎◌, inl, inr, ℕ, suc, refl, ap, sym, subst, ◌∙◌, Bool, true, false, List, [], ◌∷◌, ◌++◌, map, nat_eq, arith}
use Rattle.std.specs.Prelude.{◌&&◌, ◌||◌, not, cond, filter, if◌then◌else◌, Some}
use Rattle.std.specs.List.{list_any, list_all}
use Rattle.std.proofs.lemmas.Bool.{eqb-true, eq-eqb, ne_eqb, eqb-false}
use Rattle.std.proofs.lemmas.List.Folds.{list_any-append}
use Rattle.ll_list_laws.proofs.CallerLemmas.{and_true_left as and_left, and_true_right as and_right}
use Rattle.ll_list_laws.proofs.CallerLemmas.{or_false_left as or_off_left, or_false_right as or_off_right}
use Rattle.ll_bank.specs.Term.{Term}
use Rattle.ll_bank.specs.Form.{Form, form_has_eigen}
use Rattle.ll_laws.specs.declared.Kind.TheVariants.{Linear, Unbounded}
use Rattle.ll_laws.specs.Module.{ModuleTree}
use Rattle.ll_laws.specs.Settle.{Entry, unlive}
use Rattle.ll_laws.specs.State.{State}
use Rattle.ll_laws.specs.Attempt.{is_linear, entry_at, picked}
use Rattle.ll_laws.specs.Derive.{IsNew}
use Rattle.ll_laws.specs.Valid.{ClauseSide}
use Rattle.ll_laws.specs.Shows.{Tree, Labelled, clauses, has_label, Found, Missing, Took, take_label, behind}
use Rattle.ll_laws.specs.Dealing.{uses}
use Rattle.ll_laws.proofs.search.AnswerRuns.{Among, among_either}
use Rattle.ll_laws.proofs.derivations.Dealing.{Distinct, taken_distinct, distinct_add}
use Rattle.ll_laws.proofs.derivations.Leftovers.{use_entry, used_up, Sound, sound_same, sound_used, sound_unlive, any_picked, sound_picked}
use Rattle.ll_laws.proofs.completeness.Moving.{Numbers, move_form, TameForm, form-more}
use Rattle.ll_laws.proofs.completeness.Numbering.{NumbersBelow, form-new, form-fresh, add_number, more-numbers, add-below}
use Rattle.ll_laws.proofs.search.RunEnds.{entry_label, entry_map, entry_behind, not_new, picked_other, picked_clauses, used_clauses, unlive_clauses}

-- ---- elements of maps

pub record Kept (p : Labelled → Bool) (d : List Labelled) (l : Labelled) : Type 0 where
  pub among : Among l d
  pub passes : p l ≡ true

pub in_filter : (p : Labelled → Bool) (d : List Labelled) (l : Labelled) → Among l (filter p d) → Kept p d l
in_filter p [] l h = absurd h
in_filter p (x ∷ d) l h = step (p x) refl (in_filter p d l) h
  where
    step : (b : Bool) → p x ≡ b → (Among l (filter p d) → Kept p d l) → Among l (cond b (x ∷ filter p d) (filter p d)) → Kept p (x ∷ d) l
    step true q go (inl e) = record { among = inl e; passes = subst (λ z. p z ≡ true) e q }
    step true q go (inr m) = let r = go m in record { among = inr r.among; passes = r.passes }
    step false q go m = let r = go m in record { among = inr r.among; passes = r.passes }

pub filter_in : (p : Labelled → Bool) (d : List Labelled) (l : Labelled) → Among l d → p l ≡ true → Among l (filter p d)
filter_in p [] l h k = absurd h
filter_in p (x ∷ d) l (inl e) k = step (p x) (ap p e ∙ k)
  where
    step : (b : Bool) → b ≡ true → Among l (cond b (x ∷ filter p d) (filter p d))
    step true q = inl e
    step false q = cc
filter_in p (x ∷ d) l (inr m) k = step (p x) (filter_in p d l m k)
  where
    step : (b : Bool) → Among l (filter p d) → Among l (cond b (x ∷ filter p d) (filter p d))
    step true r = inr r
    step false r = r

pub all_pass : (p : Labelled → Bool) (d : List Labelled) (l : Labelled) → list_all p d ≡ true → Among l d → p l ≡ true
all_pass p [] l h m = absurd m
all_pass p (x ∷ d) l h (inl e) = ap p (sym e) ∙ and_left (p x) (list_all p d) h
all_pass p (x ∷ d) l h (inr m) = all_pass p d l (and_right (p x) (list_all p d) h) m

pub other_label : (d : List Labelled) (n : ℕ) (l : Labelled) → has_label d n ≡ false → Among l d → nat_eq n l.label ≡ false
other_label [] n l h m = absurd m
other_label (x ∷ d) n l h (inl e) = ap (λ z. nat_eq n z.label) (sym e) ∙ or_off_left (nat_eq n x.label) (has_label d n) h
other_label (x ∷ d) n l h (inr m) = other_label d n l (or_off_right (nat_eq n x.label) (has_label d n) h) m

none_of : (t : Form → Bool) (d : List Labelled) (l : Labelled) → list_any t (clauses d) ≡ false → Among l d → t l.clause ≡ false
none_of t [] l h m = absurd m
none_of t (x ∷ d) l h (inl e) = ap (λ z. t z.clause) (sym e) ∙ or_off_left (t x.clause) (list_any t (clauses d)) h
none_of t (x ∷ d) l h (inr m) = none_of t d l (or_off_right (t x.clause) (list_any t (clauses d)) h) m

-- where a label was taken from, and what is left
pub record TakenFrom (n : ℕ) (d : List Labelled) (r : Form) (e : List Labelled) : Type 0 where
  pub one : Labelled
  pub among : Among one d
  pub clause : one.clause ≡ r
  pub same : one.label ≡ n
  pub left : (l : Labelled) → Among l e → Among l d
  pub either : (l : Labelled) → Among l d → (l.label ≡ n) ⊎ Among l e

pub taken_from_map : (n : ℕ) (d : List Labelled) (r : Form) (e : List Labelled) → take_label n d ≡ Took r e → TakenFrom n d r e
taken_from_map n [] r e h = cc
taken_from_map n (x ∷ d) r e h = step (nat_eq n x.label) refl (take_label n d) refl (taken_from_map n d) h
  where
    step : (b : Bool) → nat_eq n x.label ≡ b → (o : Found) → take_label n d ≡ o
        → ((r : Form) (e : List Labelled) → take_label n d ≡ Took r e → TakenFrom n d r e)
        → (if b then Took x.clause d else behind x o) ≡ Took r e → TakenFrom n (x ∷ d) r e
    step true q o w go h =
        let i : x.clause ≡ r = cc in let j : d ≡ e = cc in
        let s : x.label ≡ n = sym (eqb-true n x.label q) in
        record {
          one = x;
          among = inl refl;
          clause = i;
          same = s;
          left = λ l m. inr (subst (Among l) (sym j) m);
          either = λ l m. elim m [ inl k ↦ inl (ap (λ z. z.label) (sym k) ∙ s) | inr k ↦ inr (subst (Among l) j k) ];
        }
    step false q Missing w go h = cc
    step false q (Took s f) w go h =
        let i : s ≡ r = cc in let j : x ∷ f ≡ e = cc in
        let t = go s f w in
        record {
          one = t.one;
          among = inr t.among;
          clause = t.clause ∙ i;
          same = t.same;
          left = λ l m. back l t (subst (Among l) (sym j) m);
          either = λ l m. subst (λ z. (l.label ≡ n) ⊎ Among l z) j (forth l t m);
        }
      where
        back : (l : Labelled) → TakenFrom n d s f → Among l (x ∷ f) → Among l (x ∷ d)
        back l t (inl k) = inl k
        back l t (inr m) = inr (t.left l m)

        more : (l : Labelled) → (l.label ≡ n) ⊎ Among l f → (l.label ≡ n) ⊎ Among l (x ∷ f)
        more l (inl k) = inl k
        more l (inr m) = inr (inr m)

        forth : (l : Labelled) → TakenFrom n d s f → Among l (x ∷ d) → (l.label ≡ n) ⊎ Among l (x ∷ f)
        forth l t (inl k) = inr (inl k)
        forth l t (inr m) = more l (t.either l m)

-- ---- clauses as entries

-- a clause of the derivation is the clause of an entry: a live linear one, or an unbounded one
pub record Holds (to : Numbers) (name : Term → ℕ) (at : ℕ → ℕ) (linear : Bool) (es : List (Entry Form)) (l : Labelled) : Type 0 where
  pub entry : Entry Form
  pub finds : entry_at es (at l.label) ≡ Some entry
  pub kind : is_linear entry.kind ≡ linear
  pub live : linear ≡ true → entry.live ≡ true
  pub clause : entry.clause ≡ move_form to name l.clause

abbrev pub AllHold : Numbers → (Term → ℕ) → (ℕ → ℕ) → Bool → List (Entry Form) → List Labelled → Type 0
AllHold to name at linear es d = (l : Labelled) → Among l d → Holds to name at linear es l

abbrev pub AllTameIn : List ModuleTree → Numbers → List Labelled → Type 0
AllTameIn ms to d = (l : Labelled) → Among l d → TameForm ms to ClauseSide [] l.clause

-- The unbounded clauses c and the bounded clauses d of a node are entries of a run's context, under labels that `at` gives; and the context
-- mentions no later label and no later eigenvariable.
pub record Sits (ms : List ModuleTree) (to : Numbers) (name : Term → ℕ) (at : ℕ → ℕ) (s : State) (es : List (Entry Form)) (c d : List Labelled) : Type 0 where
  pub sound : Sound es
  pub fresh : (n : ℕ) → s.label ≤ n → list_any (λ e. nat_eq n e.label) es ≡ false
  pub new : (n : ℕ) → s.eigens ≤ n → list_any (form_has_eigen n) (map (λ e. e.clause) es) ≡ false
  pub below : NumbersBelow to s.eigens
  pub free : AllHold to name at false es c
  pub bounded : AllHold to name at true es d
  pub apart : (l k : Labelled) → Among l d → Among k d → at l.label ≡ at k.label → l.label ≡ k.label
  pub distinct : Distinct d
  pub tame_free : AllTameIn ms to c
  pub tame_bounded : AllTameIn ms to d

module _ {ms : List ModuleTree} {to : Numbers} {name : Term → ℕ} {at : ℕ → ℕ} {s : State} {es : List (Entry Form)} {c d : List Labelled} where
  -- a state further on
  pub later_sits : (n : State) → s.label ≤ n.label → s.eigens ≤ n.eigens → Sits ms to name at s es c d → Sits ms to name at n es c d
  later_sits n p q i = record {
    sound = i.sound;
    fresh = λ k h. i.fresh k (omega arith);
    new = λ k h. i.new k (omega arith);
    below = λ x j h. let l = i.below x j h in omega arith;
    free = i.free;
    bounded = i.bounded;
    apart = i.apart;
    distinct = i.distinct;
    tame_free = i.tame_free;
    tame_bounded = i.tame_bounded;
  }

  -- some of the bounded clauses
  pub some_sit : (e : List Labelled) → ((l : Labelled) → Among l e → Among l d) → Distinct e → Sits ms to name at s es c d → Sits ms to name at s es c e
  some_sit e sub dis i = record {
    sound = i.sound;
    fresh = i.fresh;
    new = i.new;
    below = i.below;
    free = i.free;
    bounded = λ l m. i.bounded l (sub l m);
    apart = λ l k m n. i.apart l k (sub l m) (sub k n);
    distinct = dis;
    tame_free = i.tame_free;
    tame_bounded = λ l m. i.tame_bounded l (sub l m);
  }

  -- what a tree leaves over of the context
  pub used_sits : (x : Tree) → ((l : Labelled) → Among l d → uses (at l.label) x ≡ false) → Sits ms to name at s es c d
      → Sits ms to name at s (used_up x es) c d
  used_sits x idle i = record {
    sound = sound_used x es i.sound;
    fresh = λ n h. sound_same (use_entry x) (λ e. refl) n es (i.fresh n h);
    new = λ n h. ap (list_any (form_has_eigen n)) (used_clauses x es) ∙ i.new n h;
    below = i.below;
    free = λ l m. let h = i.free l m in
        record {
          entry = use_entry x h.entry;
          finds = entry_map (use_entry x) (λ e. refl) es (at l.label) h.entry h.finds;
          kind = h.kind;
          live = λ q. cc;
          clause = h.clause;
        };
    bounded = λ l m. let h = i.bounded l m in
        let off : uses h.entry.label x ≡ false = ap (λ z. uses z x) (entry_label es (at l.label) h.entry h.finds) ∙ idle l m in
        record {
          entry = use_entry x h.entry;
          finds = entry_map (use_entry x) (λ e. refl) es (at l.label) h.entry h.finds;
          kind = h.kind;
          live = λ q. ap (λ z. h.entry.live && not z) off ∙ ap (λ z. z && true) (h.live refl);
          clause = h.clause;
        };
    apart = i.apart;
    distinct = i.distinct;
    tame_free = i.tame_free;
    tame_bounded = i.tame_bounded;
  }

  -- nothing bounded
  pub none_sits : Sits ms to name at s es c d → Sits ms to name at s (map unlive es) c []
  none_sits i = record {
    sound = sound_unlive es i.sound;
    fresh = λ n h. sound_same unlive (λ e. refl) n es (i.fresh n h);
    new = λ n h. ap (list_any (form_has_eigen n)) (unlive_clauses es) ∙ i.new n h;
    below = i.below;
    free = λ l m. let h = i.free l m in
        record {
          entry = unlive h.entry;
          finds = entry_map unlive (λ e. refl) es (at l.label) h.entry h.finds;
          kind = h.kind;
          live = λ q. cc;
          clause =
              h.clause;
        };
    bounded = λ l m. absurd m;
    apart = λ l k m n q. absurd m;
    distinct = tt;
    tame_free = i.tame_free;
    tame_bounded = λ l m. absurd m;
  }

  -- a linear clause that was picked
  pub picked_sits : (n : ℕ) (r : Form) (e : List Labelled) → take_label n d ≡ Took r e → Sits ms to name at s es c d
      → Sits ms to name at s (picked (at n) es) c e
  picked_sits n r e t i = record {
    sound = sound_picked (at n) es i.sound;
    fresh = λ k h. any_picked k (at n) es ∙ i.fresh k h;
    new = λ k h. ap (list_any (form_has_eigen k)) (picked_clauses (at n) es) ∙ i.new k h;
    below = i.below;
    free = λ l m. let h = i.free l m in
        record { entry = h.entry; finds = picked_other es (at n) (at l.label) (free-other l m) ∙ h.finds; kind = h.kind; live = h.live; clause = h.clause };
    bounded = λ l m. let h = i.bounded l (f.left l m) in
        record { entry = h.entry; finds = picked_other es (at n) (at l.label) (bounded-other l m) ∙ h.finds; kind = h.kind; live = h.live; clause = h.clause };
    apart = λ l k m w. i.apart l k (f.left l m) (f.left k w);
    distinct = (taken_distinct n d r e t i.distinct).distinct;
    tame_free = i.tame_free;
    tame_bounded = λ l m. i.tame_bounded l (f.left l m);
  }
    where
      f : TakenFrom n d r e
      f = taken_from_map n d r e t

      free-other : (l : Labelled) → Among l c → nat_eq (at n) (at l.label) ≡ false
      free-other l m = ne_eqb (at n) (at l.label) (λ q.
          let h = i.free l m in
          let k = i.bounded f.one f.among in
          let w : Some k.entry ≡ Some h.entry = sym k.finds ∙ (ap (λ z. entry_at es (at z)) f.same ∙ (ap (entry_at es) q ∙ h.finds)) in
          let x : k.entry ≡ h.entry = cc in
          let y : true ≡ false = sym k.kind ∙ (ap (λ z. is_linear z.kind) x ∙ h.kind) in cc)

      bounded-other : (l : Labelled) → Among l e → nat_eq (at n) (at l.label) ≡ false
      bounded-other l m = ne_eqb (at n) (at l.label) (λ q.
          let w : f.one.label ≡ l.label = i.apart f.one l f.among (f.left l m) (ap at f.same ∙ q) in
          let g = other_label e n l (taken_distinct n d r e t i.distinct).gone m in
          eqb-false n l.label g (sym f.same ∙ w))

  -- a new eigenvariable of the run for one that the clauses do not mention
  pub forall_sits : (k : ℕ) (g : Form) (u : State) → u.label ≡ s.label → u.eigens ≡ suc s.eigens → IsNew k (g ∷ (clauses c ++ clauses d))
      → Sits ms to name at s es c d → Sits ms (add_number to k s.eigens) name at u es c d
  forall_sits k g u a b w i = record {
    sound = i.sound;
    fresh = λ n h. i.fresh n (omega arith);
    new = λ n h. i.new n (omega arith);
    below = subst (NumbersBelow (add_number to k s.eigens)) (sym b) (add-below to k s.eigens i.below);
    free = λ l m. let h = i.free l m in record {
      entry = h.entry;
      finds = h.finds;
      kind = h.kind;
      live = h.live;
      clause =
          h.clause ∙ sym (form-fresh to k s.eigens name l.clause (none_of (form_has_eigen k) c l parts.0 m));
    };
    bounded = λ l m. let h = i.bounded l m in record {
      entry = h.entry;
      finds = h.finds;
      kind = h.kind;
      live = h.live;
      clause =
          h.clause ∙ sym (form-fresh to k s.eigens name l.clause (none_of (form_has_eigen k) d l parts.1 m));
    };
    apart = i.apart;
    distinct = i.distinct;
    tame_free = λ l m. form-more ms to (add_number to k s.eigens) ClauseSide [] l.clause (more-numbers to k s.eigens) (i.tame_free l m);
    tame_bounded = λ l m. form-more ms to (add_number to k s.eigens) ClauseSide [] l.clause (more-numbers to k s.eigens) (i.tame_bounded l m);
  }
    where
      both : list_any (form_has_eigen k) (clauses c) || list_any (form_has_eigen k) (clauses d) ≡ false
      both = sym (list_any-append (form_has_eigen k) (clauses c) (clauses d))
          ∙ or_off_right (form_has_eigen k g) (list_any (form_has_eigen k) (clauses c ++ clauses d)) w

      parts : (list_any (form_has_eigen k) (clauses c) ≡ false) × (list_any (form_has_eigen k) (clauses d) ≡ false)
      parts = (or_off_left _ (list_any (form_has_eigen k) (clauses d)) both, or_off_right (list_any (form_has_eigen k) (clauses c)) _ both)

-- ---- a clause that is loaded

-- label n of the derivation gets the label k of the run
abbrev pub add_label : (ℕ → ℕ) → ℕ → ℕ → ℕ → ℕ
add_label at n k m = if nat_eq m n then k else at m

pub own_label : (at : ℕ → ℕ) (n k : ℕ) → add_label at n k n ≡ k
own_label at n k = ap (λ b. if b then k else at n) (eq-eqb n n refl)

pub kept_label : (at : ℕ → ℕ) (n k m : ℕ) → nat_eq n m ≡ false → add_label at n k m ≡ at m
kept_label at n k m h = ap (λ b. if b then k else at m) (ne_eqb m n (λ e. eqb-false n m h (sym e)))

-- the entry of a clause that a run loads under its next label
abbrev pub new_entry : State → Bool → Form → Entry Form
new_entry s true r = record { label = s.label; kind = Linear; live = true; clause = r }
new_entry s false r = record { label = s.label; kind = Unbounded; live = false; clause = r }

module _ {ms : List ModuleTree} {to : Numbers} {name : Term → ℕ} {at : ℕ
    → ℕ} {s : State} {es : List (Entry Form)} {c d : List Labelled} (i : Sits ms to name at s es c d) (n : ℕ) (r : Form)
    (fc : has_label c n ≡ false) (fd : has_label d n ≡ false) (tame : TameForm ms to ClauseSide [] r) (u : State) (ul : u.label ≡ suc s.label)
    (ue : u.eigens ≡ s.eigens) where
  abbrev one : Labelled
  one = record { label = n; clause = r }

  fresh_now : list_any (λ e. nat_eq s.label e.label) es ≡ false
  fresh_now = i.fresh s.label (omega arith)

  -- an older clause, as before
  older : (b linear : Bool) (e : List Labelled) → has_label e n ≡ false → AllHold to name at linear es e
      → AllHold to name (add_label at n s.label) linear (new_entry s b (move_form to name r) ∷ es) e
  older true linear e f h l m =
      let k = h l m in
      let w : add_label at n s.label l.label ≡ at l.label = kept_label at n s.label l.label (other_label e n l f m) in
      record {
        entry = k.entry;
        finds = ap (entry_at (new_entry s true (move_form to name r) ∷ es)) w
            ∙ entry_behind es (new_entry s true (move_form to name r)) (at l.label) k.entry fresh_now k.finds;
        kind = k.kind;
        live = k.live;
        clause = k.clause;
      }
  older false linear e f h l m =
      let k = h l m in
      let w : add_label at n s.label l.label ≡ at l.label = kept_label at n s.label l.label (other_label e n l f m) in
      record {
        entry = k.entry;
        finds = ap (entry_at (new_entry s false (move_form to name r) ∷ es)) w
            ∙ entry_behind es (new_entry s false (move_form to name r)) (at l.label) k.entry fresh_now k.finds;
        kind = k.kind;
        live = k.live;
        clause = k.clause;
      }

  found_new : (e : Entry Form) → e.label ≡ s.label → entry_at (e ∷ es) (add_label at n s.label n) ≡ Some e
  found_new e q = ap (entry_at (e ∷ es)) (own_label at n s.label) ∙ ap (λ b. if b then Some e else entry_at es s.label) (eq-eqb e.label s.label q)

  fresh_then : (k : ℕ) → suc s.label ≤ k → nat_eq k s.label || list_any (λ e. nat_eq k e.label) es ≡ false
  fresh_then k h = ap (λ b. b || list_any (λ e. nat_eq k e.label) es) (ne_eqb k s.label (λ q. omega (arith, q, h))) ∙ i.fresh k (omega arith)

  new_then : (k : ℕ) → s.eigens ≤ k → form_has_eigen k (move_form to name r) || list_any (form_has_eigen k) (map (λ e. e.clause) es) ≡ false
  new_then k h = ap (λ b. b || list_any (form_has_eigen k) (map (λ e. e.clause) es)) (form-new to name k (λ x j q. let l = i.below x j q in omega arith) r)
      ∙ i.new k h

  -- an older label is none that is new
  old_not_new : (l : Labelled) → Among l d → add_label at n s.label l.label ≡ s.label → ⊥
  old_not_new l m q =
      let k = i.bounded l m in
      let w : at l.label ≡ s.label = sym (kept_label at n s.label l.label (other_label d n l fd m)) ∙ q in
      let x = not_new es s.label (at l.label) k.entry fresh_now k.finds in eqb-false s.label (at l.label) x (sym w)

  pub lolli_sits : Sits ms to name (add_label at n s.label) u (new_entry s true (move_form to name r) ∷ es) c (d ++ one ∷ [])
  lolli_sits = record {
    sound = (fresh_now, refl, i.sound);
    fresh = λ k h. fresh_then k (omega arith);
    new = λ k h. new_then k (omega arith);
    below = subst (NumbersBelow to) (sym ue) i.below;
    free = older true false c fc i.free;
    bounded = λ l m. here l (among_either l d (one ∷ []) m);
    apart = λ l k m w q. both l k (among_either l d (one ∷ []) m) (among_either k d (one ∷ []) w) q;
    distinct = distinct_add d n r i.distinct fd;
    tame_free = i.tame_free;
    tame_bounded = λ l m. gentle l (among_either l d (one ∷ []) m);
  }
    where
      is_one : (l : Labelled) → (one ≡ l) ⊎ ⊥ → Holds to name (add_label at n s.label) true (new_entry s true (move_form to name r) ∷ es) l
      is_one l (inl q) =
          subst (Holds to name (add_label at n s.label) true (new_entry s true (move_form to name r) ∷ es)) q
          (record {
            entry = new_entry s true (move_form to name r);
            finds = found_new (new_entry s true (move_form to name r)) refl;
            kind = refl;
            live =
                λ h. refl;
            clause = refl;
          })
      is_one l (inr h) = absurd h

      here : (l : Labelled) → Among l d ⊎ Among l (one ∷ []) → Holds to name (add_label at n s.label) true (new_entry s true (move_form to name r) ∷ es) l
      here l (inl m) = older true true d fd i.bounded l m
      here l (inr m) = is_one l m

      gentle : (l : Labelled) → Among l d ⊎ Among l (one ∷ []) → TameForm ms to ClauseSide [] l.clause
      gentle l (inl m) = i.tame_bounded l m
      gentle l (inr (inl q)) = subst (λ z. TameForm ms to ClauseSide [] z.clause) q tame
      gentle l (inr (inr h)) = absurd h

      both : (l k : Labelled) → Among l d ⊎ Among l (one ∷ []) → Among k d ⊎ Among k (one ∷ [])
          → add_label at n s.label l.label ≡ add_label at n s.label k.label → l.label ≡ k.label
      both l k (inl m) (inl w) q = i.apart l k m w (sym (kept_label at n s.label l.label (other_label d n l fd m))
          ∙ (q ∙ kept_label at n s.label k.label (other_label d n k fd w)))
      both l k (inl m) (inr (inl w)) q = absurd (old_not_new l m (q ∙ (ap (λ z. add_label at n s.label z.label) (sym w) ∙ own_label at n s.label)))
      both l k (inr (inl m)) (inl w) q = absurd (old_not_new k w (sym q ∙ (ap (λ z. add_label at n s.label z.label) (sym m) ∙ own_label at n s.label)))
      both l k (inr (inl m)) (inr (inl w)) q = ap (λ z. z.label) (sym m) ∙ ap (λ z. z.label) w
      both l k (inr (inr h)) x q = absurd h
      both l k x (inr (inr h)) q = absurd h

  pub imp_sits : Sits ms to name (add_label at n s.label) u (new_entry s false (move_form to name r) ∷ es) (one ∷ c) d
  imp_sits = record {
    sound = (fresh_now, refl, i.sound);
    fresh = λ k h. fresh_then k (omega arith);
    new = λ k h. new_then k (omega arith);
    below = subst (NumbersBelow to) (sym ue) i.below;
    free = λ l m. here l m;
    bounded = older false true d fd i.bounded;
    apart = λ l k m w q. i.apart l k m w (sym (kept_label at n s.label l.label (other_label d n l fd m))
        ∙ (q ∙ kept_label at n s.label k.label (other_label d n k fd w)));
    distinct = i.distinct;
    tame_free = λ l m. gentle l m;
    tame_bounded = i.tame_bounded;
  }
    where
      here : (l : Labelled) → Among l (one ∷ c) → Holds to name (add_label at n s.label) false (new_entry s false (move_form to name r) ∷ es) l
      here l (inl q) =
          subst (Holds to name (add_label at n s.label) false (new_entry s false (move_form to name r) ∷ es)) q
          (record {
            entry = new_entry s false (move_form to name r);
            finds = found_new (new_entry s false (move_form to name r)) refl;
            kind = refl;
            live =
                λ h. cc;
            clause = refl;
          })
      here l (inr m) = older false false c fc i.free l m

      gentle : (l : Labelled) → Among l (one ∷ c) → TameForm ms to ClauseSide [] l.clause
      gentle l (inl q) = subst (λ z. TameForm ms to ClauseSide [] z.clause) q tame
      gentle l (inr m) = i.tame_free l m
