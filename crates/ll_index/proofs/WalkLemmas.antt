-- The walk through a clause: its steps, and what stays as lists of premises grow.
use Rattle.std.proofs.Common.{◌≡◌, ◌<◌, ℕ, suc, ◌+◌, List, [], ◌∷◌, ◌++◌, length, map, refl, ap, sym, subst, ◌∙◌, arith, All, append_assoc, take, add-one}
use Rattle.std.specs.Prelude.{sum_by, slice_index_or}
use Rattle.std.proofs.lemmas.List.{append-nil, map-append, length-map, length-take-le}
use Rattle.std.proofs.Math.Seq.{take-suc}
use Rattle.std.proofs.lemmas.List.Sums.{sum_by-append}
use Rattle.std.proofs.lemmas.List.Elements.{All-head, All-tail, All-push, All-cons, All-append}
use Rattle.ll_list_laws.proofs.CallerLemmas.{All-front as All-before, All-last as All-last-of}
use Rattle.ll_bank.specs.declared.FormAt.{FormAt}
use Rattle.ll_bank.specs.Form.{With, Forall}
use Rattle.ll_bank.specs.Nodes.{Nodes, form_tree, term_tree, HasForm}
use Rattle.ll_agenda.specs.Frames.{Frames, items_at, HasTop, ShowsItems, Extends}
use Rattle.ll_agenda.proofs.CallerLemmas.{HasTop-extends, items_at-extends, Extends-refl, Extends-trans}
use Rattle.ll_laws.specs.declared.Clause.{Clause}
use Rattle.ll_laws.specs.Module.{ClauseTree}
use Rattle.ll_laws.specs.Shown.{clause_tree}
use Rattle.ll_index.specs.declared.leaves.Leaf.{Leaf}
use Rattle.ll_index.specs.declared.leaves.Premise.{Premise}
use Rattle.ll_index.specs.declared.leaves.Waiting.{Waiting}
use Rattle.ll_index.specs.declared.leaves.Walk.{Walk}
use Rattle.ll_index.specs.Standing.{StandingPremise, leaves_under, standing_leaves}
use Rattle.ll_index.specs.Listed.{Listed, numbered, program_leaves, shown_premises, listed, IsStored}
use Rattle.ll_index.specs.Walks.{IsPart, part_leaves, waiting_leaves, walk_size, waiting_size, AddsLeaves, TakesPart, PutsUnder}

-- ---- lists

All-become : {A : Type 0} (P Q : A → Type 0) → ((x : A) → P x → Q x) → (xs : List A) → All P xs → All Q xs
All-become P Q f xs h k d l = f _ (h k d l)

-- ---- parts that wait

waiting_leaves-last : (nodes : Nodes) (frames : Frames Premise) (ws : List Waiting) (w : Waiting)
    → waiting_leaves nodes frames (ws ++ w ∷ []) ≡ part_leaves nodes frames w ++ waiting_leaves nodes frames ws
waiting_leaves-last nodes frames [] w = sym (append-nil (part_leaves nodes frames w))
waiting_leaves-last nodes frames (v ∷ ws) w =
    ap (λ ls. ls ++ part_leaves nodes frames v) (waiting_leaves-last nodes frames ws w)
    ∙ append_assoc (part_leaves nodes frames w) (waiting_leaves nodes frames ws) (part_leaves nodes frames v)

waiting_size-last : (nodes : Nodes) (ws : List Waiting) (w : Waiting)
    → waiting_size nodes (ws ++ w ∷ []) ≡ waiting_size nodes ws + walk_size (form_tree nodes w.form.0)
waiting_size-last nodes ws w = let f : Waiting → ℕ = λ w. walk_size (form_tree nodes w.form.0) in let e = sum_by-append f ws (w ∷ []) in
    let z : sum_by f (w ∷ []) ≡ f w = one f w in omega arith
  where
    one : (f : Waiting → ℕ) (w : Waiting) → sum_by f (w ∷ []) ≡ f w
    one f w = omega arith

-- ---- what stays as lists of premises grow

module _ (nodes : Nodes) {old new : Frames Premise} (e : Extends old new) where
  part_leaves-grows : (w : Waiting) → IsPart nodes old w → part_leaves nodes new w ≡ part_leaves nodes old w
  part_leaves-grows w p = ap (λ ps. leaves_under w.quantifiers (shown_premises nodes ps) (form_tree nodes w.form.0)) (items_at-extends e w.premises p.top)

  waiting_leaves-grows : (ws : List Waiting) → All (IsPart nodes old) ws → waiting_leaves nodes new ws ≡ waiting_leaves nodes old ws
  waiting_leaves-grows [] h = refl
  waiting_leaves-grows (w ∷ ws) h =
      ap (λ ls. ls ++ part_leaves nodes new w) (waiting_leaves-grows ws (All-tail (IsPart nodes old) w ws h))
      ∙ ap (λ ls. waiting_leaves nodes old ws ++ ls) (part_leaves-grows w (All-head (IsPart nodes old) w ws h))

  IsPart-grows : (w : Waiting) → IsPart nodes old w → IsPart nodes new w
  IsPart-grows w p = record {
    form = p.form;
    top = HasTop-extends e w.premises p.top;
    premises = subst (All (λ q. HasForm nodes q.goal.0)) (sym (items_at-extends e w.premises p.top)) p.premises;
  }

  pub IsStored-grows : (l : Leaf) → IsStored nodes old l → IsStored nodes new l
  IsStored-grows l s = record {
    head = s.head;
    top = HasTop-extends e l.premises s.top;
    premises = subst (All (λ q. HasForm nodes q.goal.0)) (sym (items_at-extends e l.premises s.top)) s.premises;
  }

  pub listed-grows : (ls : List Leaf) → All (IsStored nodes old) ls → map (listed nodes new) ls ≡ map (listed nodes old) ls
  listed-grows [] h = refl
  listed-grows (l ∷ ls) h =
      let s = All-head (IsStored nodes old) l ls h in
      ap (λ ps. record {
        candidate = l.candidate;
        standing =
            record { premises = shown_premises nodes ps; quantifiers = l.quantifiers; head = term_tree nodes l.head.0 };
      } ∷ map (listed nodes new) ls)
      (items_at-extends e l.premises s.top)
      ∙ ap (λ xs. listed nodes old l ∷ xs) (listed-grows ls (All-tail (IsStored nodes old) l ls h))

-- ---- one part taken

module _ (nodes : Nodes) (label leaf : ℕ) (part : Waiting) (old new : Walk) (is : IsPart nodes old.premises part)
    (waits : All (IsPart nodes old.premises) old.waiting.items) where
  -- a part with the same leaves in its place
  pub takes-inner : (w : Waiting) → Extends old.premises new.premises → IsPart nodes new.premises w
      → part_leaves nodes new.premises w ≡ part_leaves nodes old.premises part
      → walk_size (form_tree nodes w.form.0) < walk_size (form_tree nodes part.form.0) → new.leaves.items ≡ old.leaves.items
      → new.waiting.items ≡ old.waiting.items ++ w ∷ []
      → TakesPart nodes label leaf part old new leaf
  takes-inner w grows isw leaves_are less leaves pushed =
      let size = waiting_size-last nodes old.waiting.items w in
      let new_size : waiting_size nodes new.waiting.items ≡ waiting_size nodes (old.waiting.items ++ w ∷ []) = ap (waiting_size nodes) pushed in
      record {
        frames = grows;
        more = [];
        added = leaves ∙ sym (append-nil old.leaves.items);
        stored = λ k d h. absurd (omega arith);
        waiting = subst (All (IsPart nodes new.premises)) (sym pushed)
            (All-push (IsPart nodes new.premises) old.waiting.items w (All-become _ _ (IsPart-grows nodes grows) old.waiting.items waits) isw);
        rest = ap (λ ws. numbered label leaf (waiting_leaves nodes new.premises ws)) pushed
            ∙ (ap (numbered label leaf) (waiting_leaves-last nodes new.premises old.waiting.items w)
            ∙ (ap (λ ls. numbered label leaf (ls ++ waiting_leaves nodes new.premises old.waiting.items)) leaves_are
            ∙ ap (λ ls. numbered label leaf (part_leaves nodes old.premises part ++ ls)) (waiting_leaves-grows nodes grows old.waiting.items waits)));
        smaller = omega arith;
      }

  -- two parts in its place, the left one last
  pub takes-both : (l r : FormAt) (v w : Waiting) (mid : List Waiting) → form_tree nodes part.form.0 ≡ With (form_tree nodes l.0) (form_tree nodes r.0)
      → HasForm nodes l.0 → HasForm nodes r.0
      → v ≡ record { form = l; quantifiers = part.quantifiers; premises = part.premises }
      → w ≡ record { form = r; quantifiers = part.quantifiers; premises = part.premises }
      → mid ≡ old.waiting.items ++ w ∷ [] → new.waiting.items ≡ mid ++ v ∷ [] → new.leaves.items ≡ old.leaves.items → new.premises ≡ old.premises
      → TakesPart nodes label leaf part old new leaf
  takes-both l r v w mid tree inl_ inr_ vis wis first second leaves frames =
      let grows : Extends old.premises new.premises = subst (Extends old.premises) (sym frames) (Extends-refl old.premises) in
      let a : Waiting = record { form = l; quantifiers = part.quantifiers; premises = part.premises } in
      let b : Waiting = record { form = r; quantifiers = part.quantifiers; premises = part.premises } in
      let pa : IsPart nodes new.premises a = IsPart-grows nodes grows a (record { form = inl_; top = is.top; premises = is.premises }) in
      let pb : IsPart nodes new.premises b = IsPart-grows nodes grows b (record { form = inr_; top = is.top; premises = is.premises }) in
      let pushed : new.waiting.items ≡ (old.waiting.items ++ b ∷ []) ++ a ∷ [] =
      second ∙ (ap (λ ws. ws ++ v ∷ []) (first ∙ ap (λ x. old.waiting.items ++ x ∷ []) wis) ∙ ap (λ x. (old.waiting.items ++ b ∷ []) ++ x ∷ []) vis) in
      let s1 = waiting_size-last nodes (old.waiting.items ++ b ∷ []) a in
      let s2 = waiting_size-last nodes old.waiting.items b in
      let s3 : waiting_size nodes new.waiting.items ≡ waiting_size nodes ((old.waiting.items ++ b ∷ []) ++ a ∷ []) = ap (waiting_size nodes) pushed in
      let s4 : walk_size (form_tree nodes part.form.0) ≡ suc (walk_size (form_tree nodes l.0) + walk_size (form_tree nodes r.0)) = ap walk_size tree in
      let ps = shown_premises nodes (items_at old.premises part.premises) in
      record {
        frames = grows;
        more = [];
        added = leaves ∙ sym (append-nil old.leaves.items);
        stored = λ k d h. absurd (omega arith);
        waiting = subst (All (IsPart nodes new.premises)) (sym pushed)
            (All-push (IsPart nodes new.premises) (old.waiting.items ++ b ∷ []) a
            (All-push (IsPart nodes new.premises) old.waiting.items b (All-become _ _ (IsPart-grows nodes grows) old.waiting.items waits) pb) pa);
        rest = ap (λ ws. numbered label leaf (waiting_leaves nodes new.premises ws)) pushed
            ∙ (ap (λ fs. numbered label leaf (waiting_leaves nodes fs ((old.waiting.items ++ b ∷ []) ++ a ∷ []))) frames
            ∙ (ap (numbered label leaf) (waiting_leaves-last nodes old.premises (old.waiting.items ++ b ∷ []) a
            ∙ (ap (λ ls. part_leaves nodes old.premises a ++ ls) (waiting_leaves-last nodes old.premises old.waiting.items b)
            ∙ sym (append_assoc (part_leaves nodes old.premises a) (part_leaves nodes old.premises b) (waiting_leaves nodes old.premises old.waiting.items))))
            ∙ ap (λ f. numbered label leaf (leaves_under part.quantifiers ps f ++ waiting_leaves nodes old.premises old.waiting.items)) (sym tree)));
        smaller = omega arith;
      }

  -- the body of a quantifier
  pub takes-forall : (r : FormAt) (w : Waiting) → form_tree nodes part.form.0 ≡ Forall (form_tree nodes r.0) → HasForm nodes r.0 → w.form ≡ r
      → w.quantifiers ≡ part.quantifiers + 1 → w.premises ≡ part.premises
      → new.leaves.items ≡ old.leaves.items → new.waiting.items ≡ old.waiting.items ++ w ∷ [] → new.premises ≡ old.premises
      → TakesPart nodes label leaf part old new leaf
  takes-forall r w tree inside form quantifiers premises leaves pushed frames =
      let grows : Extends old.premises new.premises = subst (Extends old.premises) (sym frames) (Extends-refl old.premises) in
      let count : w.quantifiers ≡ suc part.quantifiers = omega arith in
      let at : w.form.0 ≡ r.0 = ap (λ (f : FormAt). f.0) form in
      let s1 : walk_size (form_tree nodes w.form.0) ≡ walk_size (form_tree nodes r.0) = ap (λ f. walk_size (form_tree nodes f)) at in
      let s2 : walk_size (form_tree nodes part.form.0) ≡ suc (walk_size (form_tree nodes r.0)) = ap walk_size tree in
      takes-inner w grows
      (IsPart-grows nodes grows w (record {
        form = subst (HasForm nodes) (sym at) inside;
        top = subst (HasTop old.premises) (sym premises) is.top;
        premises = subst (λ t. All (λ q. HasForm nodes q.goal.0) (items_at old.premises t)) (sym premises) is.premises;
      }))
      (ap (λ fs. part_leaves nodes fs w) frames
      ∙ (ap (λ f. leaves_under w.quantifiers (shown_premises nodes (items_at old.premises w.premises)) (form_tree nodes f)) at
      ∙ (ap (λ t. leaves_under w.quantifiers (shown_premises nodes (items_at old.premises t)) (form_tree nodes r.0)) premises
      ∙ (ap (λ n. leaves_under n (shown_premises nodes (items_at old.premises part.premises)) (form_tree nodes r.0)) count
      ∙ ap (leaves_under part.quantifiers (shown_premises nodes (items_at old.premises part.premises))) (sym tree)))))
      (omega arith) leaves pushed

  -- what is left behind a premise
  pub takes-under : (premise : Premise) (rest : FormAt) → ((n : ℕ) (ps : List StandingPremise)
      → leaves_under n ps (form_tree nodes part.form.0) ≡ leaves_under n
      (record { goal = form_tree nodes premise.goal.0; kind = premise.kind; quantifiers = n } ∷ ps) (form_tree nodes rest.0))
      → walk_size (form_tree nodes rest.0) < walk_size (form_tree nodes part.form.0) → HasForm nodes premise.goal.0 → HasForm nodes rest.0
      → premise.quantifiers ≡ part.quantifiers
      → PutsUnder part premise rest old new → TakesPart nodes label leaf part old new leaf
  takes-under premise rest under less goal inside count put =
      let w = put.inner in
      let at : w.form.0 ≡ rest.0 = ap (λ (f : FormAt). f.0) put.form in
      let items : items_at new.premises w.premises ≡ premise ∷ items_at old.premises part.premises = put.premises.list in
      let s1 : walk_size (form_tree nodes w.form.0) ≡ walk_size (form_tree nodes rest.0) = ap (λ f. walk_size (form_tree nodes f)) at in
      let ps = shown_premises nodes (items_at old.premises part.premises) in
      takes-inner w put.frames
      (record {
        form = subst (HasForm nodes) (sym at) inside;
        top = put.premises.inside;
        premises = subst (All (λ q. HasForm nodes q.goal.0)) (sym items)
            (All-cons (λ (q : Premise). HasForm nodes q.goal.0) premise (items_at old.premises part.premises) goal is.premises);
      })
      (ap (λ f. leaves_under w.quantifiers (shown_premises nodes (items_at new.premises w.premises)) (form_tree nodes f)) at
      ∙ (ap (λ qs. leaves_under w.quantifiers (shown_premises nodes qs) (form_tree nodes rest.0)) items
      ∙ (ap (λ n. leaves_under n (shown_premises nodes (premise ∷ items_at old.premises part.premises)) (form_tree nodes rest.0)) put.quantifiers
      ∙ (ap (λ n. leaves_under part.quantifiers (record { goal = form_tree nodes premise.goal.0; kind = premise.kind; quantifiers = n } ∷ ps)
      (form_tree nodes rest.0)) count
      ∙ sym (under part.quantifiers ps)))))
      (omega arith) put.leaves put.waiting

-- ---- the walk through a clause

-- what a walk through a clause has found so far, and what is left of it
pub record Walked (nodes : Nodes) (label : ℕ) (goal : List Listed) (old now : Walk) (leaf : ℕ) : Type 0 where
  pub frames : Extends old.premises now.premises
  pub more : List Leaf
  pub added : now.leaves.items ≡ old.leaves.items ++ more
  pub stored : All (IsStored nodes now.premises) more
  pub waiting : All (IsPart nodes now.premises) now.waiting.items
  pub rest : map (listed nodes now.premises) more ++ numbered label leaf (waiting_leaves nodes now.premises now.waiting.items) ≡ goal

-- it begins with the whole clause
pub walk-begins : (nodes : Nodes) (label : ℕ) (old now : Walk) (w : Waiting) → HasForm nodes w.form.0 → ShowsItems old.premises w.premises []
    → w.quantifiers ≡ 0 → old.waiting.items ≡ [] → now.leaves.items ≡ old.leaves.items
    → now.premises ≡ old.premises → now.waiting.items ≡ old.waiting.items ++ w ∷ []
    → Walked nodes label (numbered label 0 (standing_leaves (form_tree nodes w.form.0))) old now 0
walk-begins nodes label old now w inside none zero_ idle leaves frames pushed =
    let only : now.waiting.items ≡ w ∷ [] = pushed ∙ ap (λ ws. ws ++ w ∷ []) idle in
    let isw : IsPart nodes now.premises w = record {
      form = inside;
      top = subst (λ fs. HasTop fs w.premises) (sym frames) none.inside;
      premises = subst (All (λ q. HasForm nodes q.goal.0)) (sym (ap (λ fs. items_at fs w.premises) frames ∙ none.list)) (λ k d h. absurd (omega arith));
    } in
    record {
      frames = subst (Extends old.premises) (sym frames) (Extends-refl old.premises);
      more = [];
      added = leaves ∙ sym (append-nil old.leaves.items);
      stored = λ k d h. absurd (omega arith);
      waiting = subst (All (IsPart nodes now.premises)) (sym only) (All-cons (IsPart nodes now.premises) w [] isw (λ k d h. absurd (omega arith)));
      rest = ap (λ ws. numbered label 0 (waiting_leaves nodes now.premises ws)) only
          ∙ (ap (λ fs. numbered label 0 (part_leaves nodes fs w)) frames
          ∙ (ap (λ ps. numbered label 0 (leaves_under w.quantifiers (shown_premises nodes ps) (form_tree nodes w.form.0))) none.list
          ∙ ap (λ n. numbered label 0 (leaves_under n [] (form_tree nodes w.form.0))) zero_));
    }

-- the last part that waits is taken apart
pub walk-part : (nodes : Nodes) (label : ℕ) (goal : List Listed) (old now popped next : Walk) (leaf number : ℕ) (w : Waiting)
    → Walked nodes label goal old now leaf → now.waiting.items ≡ popped.waiting.items ++ w ∷ []
    → popped.leaves.items ≡ now.leaves.items → popped.premises ≡ now.premises → TakesPart nodes label leaf w popped next number
    → Walked nodes label goal old next number
walk-part nodes label goal old now popped next leaf number w k last leaves frames t =
    let e : Extends now.premises next.premises = subst (λ fs. Extends fs next.premises) frames t.frames in
    record {
      frames = Extends-trans k.frames e;
      more = k.more ++ t.more;
      added = t.added ∙ (ap (λ ls. ls ++ t.more) (leaves ∙ k.added) ∙ append_assoc old.leaves.items k.more t.more);
      stored = All-append (IsStored nodes next.premises) k.more t.more (All-become _ _ (IsStored-grows nodes e) k.more k.stored) t.stored;
      waiting = t.waiting;
      rest = ap (λ ls. ls ++ numbered label number (waiting_leaves nodes next.premises next.waiting.items))
          (map-append (listed nodes next.premises) k.more t.more)
          ∙ (append_assoc (map (listed nodes next.premises) k.more) (map (listed nodes next.premises) t.more)
          (numbered label number (waiting_leaves nodes next.premises next.waiting.items))
          ∙ (ap (λ ls. map (listed nodes next.premises) k.more ++ ls) t.rest
          ∙ (ap (λ ls. ls ++ numbered label leaf (part_leaves nodes popped.premises w ++ waiting_leaves nodes popped.premises popped.waiting.items))
          (listed-grows nodes e k.more k.stored)
          ∙ (ap (λ fs. map (listed nodes now.premises) k.more ++ numbered label leaf (part_leaves nodes fs w ++ waiting_leaves nodes fs popped.waiting.items))
          frames
          ∙ (ap (λ ls. map (listed nodes now.premises) k.more ++ numbered label leaf ls) (sym (waiting_leaves-last nodes now.premises popped.waiting.items w))
          ∙ (ap (λ ws. map (listed nodes now.premises) k.more ++ numbered label leaf (waiting_leaves nodes now.premises ws)) (sym last) ∙ k.rest))))));
    }

-- the part that is taken is stored, and so are those that go on waiting
pub part-taken : (nodes : Nodes) (frames : Frames Premise) (now ws : List Waiting) (w : Waiting) → now ≡ ws ++ w ∷ [] → All (IsPart nodes frames) now
    → IsPart nodes frames w × All (IsPart nodes frames) ws
part-taken nodes frames now ws w e h = let g = subst (All (IsPart nodes frames)) e h in
    (All-last-of (IsPart nodes frames) ws w g, All-before (IsPart nodes frames) ws w g)

-- there is less to walk through
pub walk-smaller : (nodes : Nodes) (now ws : List Waiting) (w : Waiting) (m : ℕ) → now ≡ ws ++ w ∷ []
    → m < walk_size (form_tree nodes w.form.0) + waiting_size nodes ws → m < waiting_size nodes now
walk-smaller nodes now ws w m e h = let s = waiting_size-last nodes ws w in
    let z : waiting_size nodes now ≡ waiting_size nodes (ws ++ w ∷ []) = ap (waiting_size nodes) e in omega arith

-- ---- clause after clause

program_leaves-last : (n : ℕ) (cs : List ClauseTree) (c : ClauseTree)
    → program_leaves n (cs ++ c ∷ []) ≡ program_leaves n cs ++ numbered (n + length cs) 0 (standing_leaves c.form)
program_leaves-last n [] c = append-nil (numbered n 0 (standing_leaves c.form))
    ∙ ap (λ m. numbered m 0 (standing_leaves c.form)) (let e : n ≡ n + 0 = omega arith in e)
program_leaves-last n (d ∷ cs) c =
    ap (λ ls. numbered n 0 (standing_leaves d.form) ++ ls) (program_leaves-last (suc n) cs c)
    ∙ (sym (append_assoc (numbered n 0 (standing_leaves d.form)) (program_leaves (suc n) cs) (numbered (suc n + length cs) 0 (standing_leaves c.form)))
    ∙ ap (λ m. (numbered n 0 (standing_leaves d.form) ++ program_leaves (suc n) cs) ++ numbered m 0 (standing_leaves c.form))
    (let e : suc n + length cs ≡ n + suc (length cs) = omega arith in e))

-- the leaves of one clause more
module _ (nodes : Nodes) (clauses : List Clause) (place label : ℕ) (d : Clause) (old new : Walk) (inside : place < length clauses) (same : label ≡ place)
    (adds : AddsLeaves nodes old new (numbered label 0 (standing_leaves (form_tree nodes (slice_index_or clauses place d).form.0))))
    (stored : All (IsStored nodes old.premises) old.leaves.items) where
  pub clause-stored : All (IsStored nodes new.premises) new.leaves.items
  clause-stored =
      subst (All (IsStored nodes new.premises)) (sym adds.added)
      (All-append (IsStored nodes new.premises) old.leaves.items adds.more (All-become _ _ (IsStored-grows nodes adds.frames) old.leaves.items stored)
      adds.stored)

  pub clause-leaves : map (listed nodes old.premises) old.leaves.items ≡ program_leaves 0 (map (clause_tree nodes) (take place clauses))
      → map (listed nodes new.premises) new.leaves.items ≡ program_leaves 0 (map (clause_tree nodes) (take (place + 1) clauses))
  clause-leaves so_far =
      let c : Clause = slice_index_or clauses place d in
      let count : length (map (clause_tree nodes) (take place clauses)) ≡ place =
      length-map (take place clauses) (clause_tree nodes) ∙ length-take-le place clauses (omega arith) in
      ap (map (listed nodes new.premises)) adds.added
      ∙ (map-append (listed nodes new.premises) old.leaves.items adds.more
      ∙ (ap (λ ls. ls ++ map (listed nodes new.premises) adds.more) (listed-grows nodes adds.frames old.leaves.items stored ∙ so_far)
      ∙ (ap (λ ls. program_leaves 0 (map (clause_tree nodes) (take place clauses)) ++ ls) adds.is
      ∙ (ap (λ n. program_leaves 0 (map (clause_tree nodes) (take place clauses)) ++ numbered n 0 (standing_leaves (form_tree nodes c.form.0)))
      (let e : label ≡ 0 + length (map (clause_tree nodes) (take place clauses)) = omega arith in e)
      ∙ (sym (program_leaves-last 0 (map (clause_tree nodes) (take place clauses)) (clause_tree nodes c))
      ∙ (ap (program_leaves 0) (sym (map-append (clause_tree nodes) (take place clauses) (c ∷ [])))
      ∙ ap (λ cs. program_leaves 0 (map (clause_tree nodes) cs)) (sym (ap (λ k. take k clauses) (add-one place) ∙ take-suc clauses place d inside))))))))
