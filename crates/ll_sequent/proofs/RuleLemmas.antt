-- What each rule makes of its sequent, by the view of its goal.
use Rattle.std.proofs.Common.{◌≡◌, ℕ, suc, refl, ap, sym, ◌∙◌, subst, Bool, true, false, cond, List, [], ◌∷◌, ◌++◌, map, take, reverse, length, ◌<◌, ◌≤◌, arith}
use Rattle.std.specs.Prelude.{◌&&◌, ◌||◌, not, filter, nat_eq, Result, IfOk}
use Rattle.std.specs.List.{list_any, list_all}
use Rattle.std.proofs.lemmas.List.Folds.{list_any-append}
use Rattle.std.proofs.lemmas.Bool.{and_parts}
use Rattle.std.proofs.lemmas.List.{append-nil, map-append, reverse-append, take_all}
use Rattle.std.proofs.lemmas.List.Elements.{All-nil, All-cons, All-push}
use Rattle.ll_list_laws.proofs.CallerLemmas.{IfOk-each}
use Rattle.ll_bank.specs.declared.FormAt.{FormAt}
use Rattle.ll_bank.specs.declared.FormNode.{FormNode}
use Rattle.ll_bank.specs.declared.FormNode.TheVariants.{Tensor as TensorView, With as WithView, Plus as PlusView, Lolli as LolliView, Imp as ImpView}
use Rattle.ll_bank.specs.Form.{Form, Tensor, With, Plus, Lolli, Imp}
use Rattle.ll_bank.specs.Nodes.{Nodes, form_tree, form_of, IsFormView}
use Rattle.ll_laws.specs.Number.{Operators}
use Rattle.ll_laws.specs.Module.{Setting, ModuleTree}
use Rattle.ll_laws.specs.Shows.{Labelled, has, has_label, one_of, all_in, part, splits}
use Rattle.ll_laws.specs.Line.{Line, TensorLine, WithLine, LeftLine, RightLine, LolliLine, ImpLine}
use Rattle.ll_laws.specs.Valid.{Side, GoalSide, ClauseSide, free_below, has_heads, loads_fit}
use Rattle.ll_sequent.specs.declared.sequents.Resource.{Resource}
use Rattle.ll_sequent.specs.declared.sequents.Sequent.{Sequent}
use Rattle.ll_sequent.specs.declared.sequents.Step.{Step}
use Rattle.ll_sequent.specs.declared.sequents.Step.TheVariants.{Refused, Leaves}
use Rattle.ll_sequent.specs.Sequents.{SequentTree, Adds, labelled_in, bounded_in, free_in, sequent_in, IsSound, IsHeld, AreHeld, IsSequent}
use Rattle.ll_sequent.specs.Steps.{Refuses, Asks, made, made_at, made_in, provided, AreLeft, IsLeft}
use Rattle.ll_sequent.specs.Named.{MakesBy, has_resource, deals, IsLeaving, Makes}
use Rattle.ll_sequent.specs.Judging.{Holds, beside, IsStep, Steps}

-- ---- labels

label_shown : (bank : Nodes) (n : ℕ) (rs : List Resource) → has_label (bounded_in bank rs) n ≡ has_resource rs n
label_shown bank n [] = refl
label_shown bank n (r ∷ rs) = ap (λ b. nat_eq n r.label || b) (label_shown bank n rs)

pub all_shown : (bank : Nodes) (rs : List Resource) (s : List ℕ) → all_in s (bounded_in bank rs) ≡ list_all (has_resource rs) s
all_shown bank rs [] = refl
all_shown bank rs (n ∷ s) = λ i. label_shown bank n rs i && all_shown bank rs s i

each_shown : (bank : Nodes) (s t : List ℕ) (rs : List Resource)
    → list_all (λ (l : Labelled). one_of (has s l.label) (has t l.label)) (bounded_in bank rs)
    ≡ list_all (λ (r : Resource). one_of (has s r.label) (has t r.label)) rs
each_shown bank s t [] = refl
each_shown bank s t (r ∷ rs) = ap (λ b. one_of (has s r.label) (has t r.label) && b) (each_shown bank s t rs)

pub splits_shown : (bank : Nodes) (s t : List ℕ) (rs : List Resource) → splits s t (bounded_in bank rs) ≡ deals s t rs
splits_shown bank s t rs = λ i. all_shown bank rs s i && all_shown bank rs t i && each_shown bank s t rs i

pub part_shown : (bank : Nodes) (s : List ℕ) (rs : List Resource) → part s (bounded_in bank rs) ≡ bounded_in bank (filter (λ (r : Resource). has s r.label) rs)
part_shown bank s [] = refl
part_shown bank s (r ∷ rs) = by_case (part_shown bank s rs) (has s r.label)
  where
    by_case : part s (bounded_in bank rs) ≡ bounded_in bank (filter (λ (r : Resource). has s r.label) rs) → (b : Bool)
        → cond b (labelled_in bank r ∷ part s (bounded_in bank rs)) (part s (bounded_in bank rs))
        ≡ bounded_in bank (cond b (r ∷ filter (λ (r : Resource). has s r.label) rs) (filter (λ (r : Resource). has s r.label) rs))
    by_case h true = ap (λ xs. labelled_in bank r ∷ xs) h
    by_case h false = h

-- the clauses of a part are held where all are
pub part_held : (modules : List ModuleTree) (bank : Nodes) (s : List ℕ) (rs : List Resource) → AreHeld modules bank rs
    → AreHeld modules bank (filter (λ (r : Resource). has s r.label) rs)
part_held modules bank s [] h = h
part_held modules bank s (r ∷ rs) h = by_case (part_held modules bank s rs (λ k d l. h (suc k) d (omega arith))) (h 0 r (omega arith)) (has s r.label)
  where
    by_case : AreHeld modules bank (filter (λ (r : Resource). has s r.label) rs) → IsHeld modules bank ClauseSide r.form.0 → (b : Bool)
        → AreHeld modules bank (cond b (r ∷ filter (λ (r : Resource). has s r.label) rs) (filter (λ (r : Resource). has s r.label) rs))
    by_case behind front true = All-cons (λ (r : Resource). IsHeld modules bank ClauseSide r.form.0) r (filter (λ (r : Resource). has s r.label) rs) front
        behind
    by_case behind front false = behind

-- ---- sound parts

both_sound : (modules : List ModuleTree) (side other : Side) (f g h : Form) → free_below 0 h ≡ free_below 0 f && free_below 0 g
    → has_heads true side [] h ≡ has_heads true other [] f && has_heads true side [] g → loads_fit modules h ≡ loads_fit modules f && loads_fit modules g
    → IsSound modules side [] h
    → IsSound modules other [] f × IsSound modules side [] g
both_sound modules side other f g h a b c s =
    let p = and_parts (free_below 0 f) (free_below 0 g) (sym a ∙ s.closed) in
    let q = and_parts (has_heads true other [] f) (has_heads true side [] g) (sym b ∙ s.heads) in
    let r = and_parts (loads_fit modules f) (loads_fit modules g) (sym c ∙ s.loads) in
    (record { closed = p.0; heads = q.0; loads = r.0 }, record { closed = p.1; heads = q.1; loads = r.1 })

-- ---- what is made

pub refused_makes : (bank : Nodes) (line : Line) (s : Sequent) (r : ℕ) (view : FormNode) → IsFormView bank s.goal.0 view
    → ((b : Setting) (c : List Labelled) → made b line c (bounded_in bank s.bounded.items) (form_of bank view) ≡ Refuses r) → Makes bank line s (Refused r)
refused_makes bank line s r view seen h =
    record {
      is = λ b free. sym (ap (made b line (free_in bank (take s.free free)) (bounded_in bank s.bounded.items)) seen.tree
          ∙ h b (free_in bank (take s.free free)));
      left = λ modules q. tt;
    }

pub leaves_makes : (bank : Nodes) (line : Line) (s : Sequent) (step : Step) (qs : List Sequent) (view : FormNode) → IsFormView bank s.goal.0 view
    → IsLeaving qs step
    → ((b : Setting) (free : List Resource) → made b line (sequent_in bank free s).free (bounded_in bank s.bounded.items) (form_of bank view)
    ≡ Asks (map (sequent_in bank free) qs))
    → ((modules : List ModuleTree) → IsSequent modules bank s → AreLeft modules bank s.free qs) → Makes bank line s step
leaves_makes bank line s (Refused r) qs view seen l h left = absurd l
leaves_makes bank line s (Leaves v) qs view seen l h left = record {
  is = λ b free. ap (λ xs. Asks (map (sequent_in bank free) xs)) l
      ∙ sym (ap (made b line (sequent_in bank free s).free (bounded_in bank s.bounded.items)) seen.tree ∙ h b free);
  left = λ modules q. let P : List Sequent → Type 0 = AreLeft modules bank s.free in subst P (sym l) (left modules q);
}

pub one_left : (modules : List ModuleTree) (bank : Nodes) (n : ℕ) (q : Sequent) → q.free ≡ n → IsSequent modules bank q → AreLeft modules bank n (q ∷ [])
one_left modules bank n q e h = record {
  each = All-cons (IsSequent modules bank) q [] h (All-nil (IsSequent modules bank));
  whole = All-cons (λ (q : Sequent). q.free ≡ n) q [] e (All-nil (λ (q : Sequent). q.free ≡ n));
}

pub two_left : (modules : List ModuleTree) (bank : Nodes) (n : ℕ) (p q : Sequent) → p.free ≡ n → q.free ≡ n → IsSequent modules bank p
    → IsSequent modules bank q → AreLeft modules bank n (p ∷ q ∷ [])
two_left modules bank n p q d e g h =
    let l = one_left modules bank n q e h in
    record { each = All-cons (IsSequent modules bank) p (q ∷ []) g l.each; whole = All-cons (λ (q : Sequent). q.free ≡ n) p (q ∷ []) d l.whole }

-- ---- the rules

module _ (bank : Nodes) (s : Sequent) where
  -- a sequent with the same unbounded clauses, these bounded ones and this goal
  pub record IsAfter (rs : List Resource) (at : FormAt) (q : Sequent) : Type 0 where
    pub same : q.free ≡ s.free
    pub has_bounded : q.bounded.items ≡ rs
    pub has_goal : q.goal ≡ at

  shown_after : (rs : List Resource) (at : FormAt) (q : Sequent) → IsAfter rs at q → (free : List Resource)
      → record { free = free_in bank (take s.free free); bounded = bounded_in bank rs; goal = form_tree bank at.0 } ≡ sequent_in bank free q
  shown_after rs at q h free =
      λ i. record {
        free = free_in bank (take (sym h.same i) free);
        bounded = bounded_in bank (sym h.has_bounded i);
        goal =
            form_tree bank (sym h.has_goal i).0;
      }

  after_is : (modules : List ModuleTree) (rs : List Resource) (at : FormAt) (q : Sequent) → IsAfter rs at q → AreHeld modules bank rs
      → IsHeld modules bank GoalSide at.0 → IsSequent modules bank q
  after_is modules rs at q h b g =
      let P : List Resource → Type 0 = AreHeld modules bank in
      let Q : FormAt → Type 0 = λ a. IsHeld modules bank GoalSide a.0 in
      record { goal = subst Q (sym h.has_goal) g; bounded = subst P (sym h.has_bounded) b }

  pub goal_sound : (modules : List ModuleTree) (view : FormNode) → IsFormView bank s.goal.0 view → IsSequent modules bank s
      → IsSound modules GoalSide [] (form_of bank view)
  goal_sound modules view seen h = let P : Form → Type 0 = IsSound modules GoalSide [] in subst P seen.tree h.goal.sound

  held_at : (modules : List ModuleTree) (f : FormAt) → f.0 < s.goal.0 → IsSequent modules bank s → IsSound modules GoalSide [] (form_tree bank f.0)
      → IsHeld modules bank GoalSide f.0
  held_at modules f l h sound = record { inside = let i = h.goal.inside in omega arith; sound = sound }

  pub tensor_refused : (f g : FormAt) (x y : List ℕ) → IsFormView bank s.goal.0 (TensorView f g) → deals x y s.bounded.items ≡ false
      → Makes bank (TensorLine x y) s (Refused 3)
  tensor_refused f g x y seen deals = record {
    is = λ b free. sym (ap (made b (TensorLine x y) (free_in bank (take s.free free)) (bounded_in bank s.bounded.items)) seen.tree
        ∙ (let ok = splits_shown bank x y s.bounded.items ∙ deals in
        λ i. provided (ok i) 3 (record { free = free_in bank (take s.free free); bounded = part x (bounded_in bank s.bounded.items); goal = form_tree bank f.0 }
        ∷ record { free = free_in bank (take s.free free); bounded = part y (bounded_in bank s.bounded.items); goal = form_tree bank g.0 } ∷ [])));
    left = λ modules q. tt;
  }

  pub tensor_makes : (f g : FormAt) (x y : List ℕ) (p q : Sequent) (step : Step) → IsFormView bank s.goal.0 (TensorView f g) → deals x y s.bounded.items ≡ true
      → IsAfter (filter (λ (r : Resource). has x r.label) s.bounded.items) f p → IsAfter (filter (λ (r : Resource). has y r.label) s.bounded.items) g q
      → IsLeaving (p ∷ q ∷ []) step
      → Makes bank (TensorLine x y) s step
  tensor_makes f g x y p q step seen deals ap_ aq leaving = leaves_makes bank (TensorLine x y) s step (p ∷ q ∷ []) (TensorView f g) seen leaving
      (λ b free.
      let ok = splits_shown bank x y s.bounded.items ∙ deals in
      let u = part_shown bank x s.bounded.items in
      let v = part_shown bank y s.bounded.items in
      (λ i. provided (ok i) 3 (record { free = free_in bank (take s.free free); bounded = u i; goal = form_tree bank f.0 }
      ∷ record { free = free_in bank (take s.free free); bounded = v i; goal = form_tree bank g.0 } ∷ []))
      ∙ (λ i. Asks (shown_after (filter (λ (r : Resource). has x r.label) s.bounded.items) f p ap_ free i
      ∷ shown_after (filter (λ (r : Resource). has y r.label) s.bounded.items) g q aq free i ∷ [])))
      (λ modules h.
      let both = both_sound modules GoalSide GoalSide (form_tree bank f.0) (form_tree bank g.0) (Tensor (form_tree bank f.0) (form_tree bank g.0)) refl refl
      refl (goal_sound modules (TensorView f g) seen h) in
      two_left modules bank s.free p q ap_.same aq.same
      (after_is modules (filter (λ (r : Resource). has x r.label) s.bounded.items) f p ap_ (part_held modules bank x s.bounded.items h.bounded)
      (held_at modules f seen.parts.0 h both.0))
      (after_is modules (filter (λ (r : Resource). has y r.label) s.bounded.items) g q aq (part_held modules bank y s.bounded.items h.bounded)
      (held_at modules g seen.parts.1 h both.1)))

  -- a rule that leaves the bounded clauses as they are, and one goal
  pub same_makes : (line : Line) (view : FormNode) (f : FormAt) (p : Sequent) (step : Step) → IsFormView bank s.goal.0 view → f.0 < s.goal.0
      → IsAfter s.bounded.items f p
      → ((b : Setting) (c : List Labelled) → made b line c (bounded_in bank s.bounded.items) (form_of bank view)
      ≡ Asks (record { free = c; bounded = bounded_in bank s.bounded.items; goal = form_tree bank f.0 } ∷ []))
      → ((modules : List ModuleTree) → IsSound modules GoalSide [] (form_of bank view) → IsSound modules GoalSide [] (form_tree bank f.0))
      → IsLeaving (p ∷ []) step
      → Makes bank line s step
  same_makes line view f p step seen low after asks sound leaving = leaves_makes bank line s step (p ∷ []) view seen leaving
      (λ b free. asks b (free_in bank (take s.free free)) ∙ (λ i. Asks (shown_after s.bounded.items f p after free i ∷ [])))
      (λ modules h.
      one_left modules bank s.free p after.same
      (after_is modules s.bounded.items f p after h.bounded (held_at modules f low h (sound modules (goal_sound modules view seen h)))))

  pub left_makes : (f g : FormAt) (p : Sequent) (step : Step) → IsFormView bank s.goal.0 (PlusView f g) → IsAfter s.bounded.items f p
      → IsLeaving (p ∷ []) step
      → Makes bank LeftLine s step
  left_makes f g p step seen after = same_makes LeftLine (PlusView f g) f p step seen seen.parts.0 after (λ b c. refl)
      (λ modules h.
      (both_sound modules GoalSide GoalSide (form_tree bank f.0) (form_tree bank g.0) (Plus (form_tree bank f.0) (form_tree bank g.0)) refl refl refl h).0)

  pub right_makes : (f g : FormAt) (p : Sequent) (step : Step) → IsFormView bank s.goal.0 (PlusView f g) → IsAfter s.bounded.items g p
      → IsLeaving (p ∷ []) step
      → Makes bank RightLine s step
  right_makes f g p step seen after = same_makes RightLine (PlusView f g) g p step seen seen.parts.1 after (λ b c. refl)
      (λ modules h.
      (both_sound modules GoalSide GoalSide (form_tree bank f.0) (form_tree bank g.0) (Plus (form_tree bank f.0) (form_tree bank g.0)) refl refl refl h).1)

  pub with_makes : (f g : FormAt) (p q : Sequent) (step : Step) → IsFormView bank s.goal.0 (WithView f g) → IsAfter s.bounded.items f p
      → IsAfter s.bounded.items g q
      → IsLeaving (p ∷ q ∷ []) step
      → Makes bank WithLine s step
  with_makes f g p q step seen ap_ aq leaving = leaves_makes bank WithLine s step (p ∷ q ∷ []) (WithView f g) seen leaving
      (λ b free. λ i. Asks (shown_after s.bounded.items f p ap_ free i ∷ shown_after s.bounded.items g q aq free i ∷ []))
      (λ modules h.
      let both = both_sound modules GoalSide GoalSide (form_tree bank f.0) (form_tree bank g.0) (With (form_tree bank f.0) (form_tree bank g.0)) refl refl
      refl (goal_sound modules (WithView f g) seen h) in
      two_left modules bank s.free p q ap_.same aq.same
      (after_is modules s.bounded.items f p ap_ h.bounded (held_at modules f seen.parts.0 h both.0))
      (after_is modules s.bounded.items g q aq h.bounded (held_at modules g seen.parts.1 h both.1)))

-- ---- steps, with the unbounded clauses

pub none_added : (rs : List Resource) → Adds rs rs
none_added rs = record { more = []; is = sym (append-nil rs) }

-- a rule that is blind to unbounded clauses
pub makes_step : (bank : Nodes) (line : Line) (s : Sequent) (step : Step) (free : List Resource) → Makes bank line s step
    → Steps line bank free s bank free step
makes_step bank line s step free m = λ ops modules h.
    let P : ℕ → Type 0 = λ n. IsLeft modules bank n step in
    record { made = m.is (beside ops modules) free; left = subst P h.all (m.left modules h.sequent); free = h.unbounded; adds = none_added free }

-- the same of a rule that looks at numbers
pub makes_step_by : (ops : Operators) (bank : Nodes) (line : Line) (s : Sequent) (step : Step) (free : List Resource) → MakesBy ops bank line s step
    → (modules : List ModuleTree) → Holds modules bank free s → IsStep ops modules line (sequent_in bank free s) bank free free step
makes_step_by ops bank line s step free m modules h =
    let P : ℕ → Type 0 = λ n. IsLeft modules bank n step in
    record { made = m.is modules free; left = subst P h.all (m.left modules h.sequent); free = h.unbounded; adds = none_added free }

-- the same of a rule that may run out of memory
pub made_step : {E : Type 0} (bank : Nodes) (line : Line) (s : Sequent) (r : Result Step E) (free : List Resource) → IfOk r (Makes bank line s)
    → (ops : Operators) (modules : List ModuleTree) → Holds modules bank free s
    → IfOk r (IsStep ops modules line (sequent_in bank free s) bank free free)
made_step bank line s r free m ops modules h = IfOk-each r _ _ (λ step made. makes_step bank line s step free made ops modules h) m

pub made_step_by : {E : Type 0} (ops : Operators) (bank : Nodes) (line : Line) (s : Sequent) (r : Result Step E) (free : List Resource)
    → IfOk r (MakesBy ops bank line s) → (modules : List ModuleTree) → Holds modules bank free s
    → IfOk r (IsStep ops modules line (sequent_in bank free s) bank free free)
made_step_by ops bank line s r free m modules h = IfOk-each r _ _ (λ step made. makes_step_by ops bank line s step free made modules h) m

-- a node that leaves one sequent
pub one_steps : (ops : Operators) (modules : List ModuleTree) (line : Line) (q : SequentTree) (bank : Nodes) (before after : List Resource) (p : Sequent)
    (step : Step) → IsLeaving (p ∷ []) step
    → made_at (beside ops modules) line q ≡ Asks (sequent_in bank after p ∷ []) → p.free ≡ length after → IsSequent modules bank p → AreHeld modules bank after
    → Adds before after
    → IsStep ops modules line q bank before after step
one_steps ops modules line q bank before after p (Refused r) l m n h held adds = absurd l
one_steps ops modules line q bank before after p (Leaves v) l m n h held adds =
    let P : List Sequent → Type 0 = AreLeft modules bank (length after) in
    record {
      made = ap (λ xs. Asks (map (sequent_in bank after) xs)) l ∙ sym m;
      left = subst P (sym l) (one_left modules bank (length after) p n h);
      free =
          held;
      adds = adds;
    }

-- ---- labels of unbounded clauses

pub any_reverse : (p : Labelled → Bool) (xs : List Labelled) → list_any p (reverse xs) ≡ list_any p xs
any_reverse p [] = refl
any_reverse p (x ∷ xs) =
    ap (list_any p) (reverse-append (x ∷ []) xs)
    ∙ (list_any-append p (reverse xs) (x ∷ [])
    ∙ (ap (λ b. b || (p x || false)) (any_reverse p xs) ∙ swapped (list_any p xs) (p x)))
  where
    swapped : (a b : Bool) → (a || (b || false)) ≡ (b || a)
    swapped true true = refl
    swapped true false = refl
    swapped false true = refl
    swapped false false = refl

label_free : (bank : Nodes) (n k : ℕ) (free : List Resource) → k ≡ length free → has_label (free_in bank (take k free)) n ≡ has_resource free n
label_free bank n k free e =
    let le : length free ≤ k = omega arith in
    ap (λ xs. has_label (free_in bank xs) n) (take_all k free le)
    ∙ (any_reverse (λ (l : Labelled). nat_eq n l.label) (map (labelled_in bank) free) ∙ label_shown bank n free)

new_shown : (bank : Nodes) (n k : ℕ) (free bounded : List Resource) → k ≡ length free
    → not (has_label (free_in bank (take k free)) n || has_label (bounded_in bank bounded) n) ≡ not (has_resource free n || has_resource bounded n)
new_shown bank n k free bounded e = λ i. not (label_free bank n k free e i || label_shown bank n bounded i)

-- ---- the loads

module _ (bank : Nodes) (free : List Resource) (s : Sequent) (f g : FormAt) (n : ℕ) where
  pub lolli_known : IsFormView bank s.goal.0 (LolliView f g) → not (has_resource free n || has_resource s.bounded.items n) ≡ false → (step : Step)
      → step ≡ Refused 9
      → Steps (LolliLine n) bank free s bank free step
  lolli_known seen old step e = λ ops modules q.
      let P : Step → Type 0 = λ t. IsLeft modules bank (length free) t in
      let ok = new_shown bank n s.free free s.bounded.items q.all ∙ old in
      record {
        made = ap (made_in bank free) e
            ∙ sym (ap (made (beside ops modules) (LolliLine n) (sequent_in bank free s).free (bounded_in bank s.bounded.items)) seen.tree
            ∙ (λ i. provided (ok i) 9 (record {
              free = free_in bank (take s.free free);
              bounded =
                  bounded_in bank s.bounded.items ++ record { label = n; clause = form_tree bank f.0 } ∷ [];
              goal = form_tree bank g.0;
            } ∷ [])));
        left = subst P (sym e) tt;
        free = q.unbounded;
        adds = none_added free;
      }

  pub imp_known : IsFormView bank s.goal.0 (ImpView f g) → not (has_resource free n || has_resource s.bounded.items n) ≡ false → (step : Step)
      → step ≡ Refused 9
      → Steps (ImpLine n) bank free s bank free step
  imp_known seen old step e = λ ops modules q.
      let P : Step → Type 0 = λ t. IsLeft modules bank (length free) t in
      let ok = new_shown bank n s.free free s.bounded.items q.all ∙ old in
      record {
        made = ap (made_in bank free) e
            ∙ sym (ap (made (beside ops modules) (ImpLine n) (sequent_in bank free s).free (bounded_in bank s.bounded.items)) seen.tree
            ∙ (λ i. provided (ok i) 9 (record {
              free = record { label = n; clause = form_tree bank f.0 } ∷ free_in bank (take s.free free);
              bounded =
                  bounded_in bank s.bounded.items;
              goal = form_tree bank g.0;
            } ∷ [])));
        left = subst P (sym e) tt;
        free = q.unbounded;
        adds = none_added free;
      }

  pub lolli_steps : (p : Sequent) (step : Step) → IsFormView bank s.goal.0 (LolliView f g) → not (has_resource free n || has_resource s.bounded.items n) ≡ true
      → IsAfter bank s (s.bounded.items ++ record { label = n; form = f } ∷ []) g p → IsLeaving (p ∷ []) step → Steps (LolliLine n) bank free s bank free step
  lolli_steps p step seen new_ after leaving = λ ops modules h.
      let r : Resource = record { label = n; form = f } in
      let ok = new_shown bank n s.free free s.bounded.items h.all ∙ new_ in
      let both = both_sound modules GoalSide ClauseSide (form_tree bank f.0) (form_tree bank g.0) (Lolli (form_tree bank f.0) (form_tree bank g.0)) refl refl
      refl (goal_sound bank s modules (LolliView f g) seen h.sequent) in
      let clause : IsHeld modules bank ClauseSide f.0 = record {
        inside = let i = h.sequent.goal.inside in let l = seen.parts.0 in
            omega arith;
        sound = both.0;
      } in
      let held = All-push (λ (r : Resource). IsHeld modules bank ClauseSide r.form.0) s.bounded.items r h.sequent.bounded clause in
      let m = map-append (labelled_in bank) s.bounded.items (r ∷ []) in
      one_steps ops modules (LolliLine n) (sequent_in bank free s) bank free free p step leaving
      (ap (made (beside ops modules) (LolliLine n) (sequent_in bank free s).free (bounded_in bank s.bounded.items)) seen.tree
      ∙ ((λ i. provided (ok i) 9 (record { free = free_in bank (take s.free free); bounded = sym m i; goal = form_tree bank g.0 } ∷ []))
      ∙ (λ i. Asks (shown_after bank s (s.bounded.items ++ r ∷ []) g p after free i ∷ []))))
      (after.same ∙ h.all) (after_is bank s modules (s.bounded.items ++ r ∷ []) g p after held (held_at bank s modules g seen.parts.1 h.sequent both.1))
      h.unbounded (none_added free)

  pub imp_steps : (after : List Resource) (p : Sequent) (step : Step) → IsFormView bank s.goal.0 (ImpView f g)
      → not (has_resource free n || has_resource s.bounded.items n) ≡ true
      → after ≡ free ++ record { label = n; form = f } ∷ [] → p.free ≡ length after → p.bounded.items ≡ s.bounded.items → p.goal ≡ g → IsLeaving (p ∷ []) step
      → Steps (ImpLine n) bank free s bank after step
  imp_steps after p step seen new_ more count bounded goal leaving = λ ops modules h.
      let r : Resource = record { label = n; form = f } in
      let ok = new_shown bank n s.free free s.bounded.items h.all ∙ new_ in
      let both = both_sound modules GoalSide ClauseSide (form_tree bank f.0) (form_tree bank g.0) (Imp (form_tree bank f.0) (form_tree bank g.0)) refl refl refl
      (goal_sound bank s modules (ImpView f g) seen h.sequent) in
      let clause : IsHeld modules bank ClauseSide f.0 = record {
        inside = let i = h.sequent.goal.inside in let l = seen.parts.0 in
            omega arith;
        sound = both.0;
      } in
      let P : List Resource → Type 0 = AreHeld modules bank in
      let held : P after = subst P (sym more) (All-push (λ (r : Resource). IsHeld modules bank ClauseSide r.form.0) free r h.unbounded clause) in
      let low : length free ≤ s.free = let e = h.all in omega arith in
      let high : length after ≤ p.free = omega arith in
      let shown : record { label = n; clause = form_tree bank f.0 } ∷ free_in bank (take s.free free) ≡ free_in bank (take p.free after) =
      ap (λ xs. record { label = n; clause = form_tree bank f.0 } ∷ free_in bank xs) (take_all s.free free low)
      ∙ sym (ap (free_in bank) (take_all p.free after high ∙ more)
      ∙ (ap reverse (map-append (labelled_in bank) free (r ∷ [])) ∙ reverse-append (map (labelled_in bank) free) (labelled_in bank r ∷ []))) in
      let G : FormAt → Type 0 = λ a. IsHeld modules bank GoalSide a.0 in
      let B : List Resource → Type 0 = AreHeld modules bank in
      one_steps ops modules (ImpLine n) (sequent_in bank free s) bank free after p step leaving
      (ap (made (beside ops modules) (ImpLine n) (sequent_in bank free s).free (bounded_in bank s.bounded.items)) seen.tree
      ∙ (λ i. provided (ok i) 9 (record { free = shown i; bounded = bounded_in bank (sym bounded i); goal = form_tree bank (sym goal i).0 } ∷ [])))
      count (record { goal = subst G (sym goal) (held_at bank s modules g seen.parts.1 h.sequent both.1); bounded = subst B (sym bounded) h.sequent.bounded })
      held (record { more = r ∷ []; is = more })
