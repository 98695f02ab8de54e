-- The lines of events, and those that were given to an outlet one after the other.
use Rattle.std.proofs.Common.{◌≡◌, ◌≤◌, ℕ, suc, refl, ap, sym, subst, ◌∙◌, inl, inr, Bool, true, false, List, [], ◌∷◌, ◌++◌, arith}
use Rattle.std.specs.Prelude.{Result, Ok, Err, OnOk, OnErr, codes, decimal}
use Rattle.std.specs.Io.KnownBytes.{append_known}
use Rattle.ll_laws.proofs.CallerLemmas.{cut_count-suc}
use Rattle.ll_edge.specs.Counts.{Rose}
use Rattle.ll_edge.specs.Pieces.{AppendsFront}
use Rattle.ll_edge.proofs.CallerLemmas.{Rose-later}
use Rattle.ll_laws.specs.declared.Event.{Event}
use Rattle.ll_laws.specs.declared.Event.TheVariants.{Answer, Reached}
use Rattle.ll_laws.specs.Search.{cut_count}
use Rattle.ll_laws.specs.Problem.{ProblemTree}
use Rattle.ll_laws.specs.Output.{line, bindings_text, answer_text, answers_text}
use Rattle.ll_laws.specs.ProofText.{derivation_text, proved_answers_text}
use Rattle.ll_laws.specs.Dealt.{dealt}
use Rattle.ll_order.specs.Outlets.{Gives, Refuses}
use Rattle.ll_top.proofs.writing.GivenLemmas.{given-kept, refused-kept, given-written, front-given, refused-written}
use Rattle.ll_top.specs.lines.Running.{event_lines, all_lines, counted, OutletState, TellsFaults, SameOutlet, Writes, BreaksOff}

-- ---- counts that are cut

-- the text of answers does not change where the count of those before is cut
answers_text-cut : (p : ProblemTree) (k : ℕ) (es : List Event) → answers_text p (cut_count k) es ≡ answers_text p k es
answers_text-cut p k [] = refl
answers_text-cut p k (Answer a ∷ es) =
    let e = cut_count-suc k in
    let one : answer_text p (suc (cut_count k)) a ≡ answer_text p (suc k) a = ap (λ n. line (codes "answer " ++ decimal n) ++ bindings_text p a) e in
    let two = sym (answers_text-cut p (suc (cut_count k)) es) ∙ (ap (λ n. answers_text p n es) e ∙ answers_text-cut p (suc k) es) in cc
answers_text-cut p k (Reached ∷ es) = answers_text-cut p k es

-- ---- events

-- and so with proofs
proved_answers_text-cut : (p : ProblemTree) (k : ℕ) (es : List Event) → proved_answers_text p (cut_count k) es ≡ proved_answers_text p k es
proved_answers_text-cut p k [] = refl
proved_answers_text-cut p k (Answer a ∷ es) =
    let e = cut_count-suc k in
    let one : answer_text p (suc (cut_count k)) a ≡ answer_text p (suc k) a = ap (λ n. line (codes "answer " ++ decimal n) ++ bindings_text p a) e in
    let two = sym (proved_answers_text-cut p (suc (cut_count k)) es) ∙ (ap (λ n. proved_answers_text p n es) e ∙ proved_answers_text-cut p (suc k) es) in cc
proved_answers_text-cut p k (Reached ∷ es) = proved_answers_text-cut p k es

-- the lines of an event, and the text of the answers after it
pub event_then : (proofs : Bool) (p : ProblemTree) (k : ℕ) (e : Event) (es : List Event)
    → event_lines proofs p k e ++ all_lines proofs p (counted k e) es ≡ all_lines proofs p k (e ∷ es)
event_then false p k (Answer a) es = ap (λ xs. answer_text p (suc k) a ++ xs) (answers_text-cut p (suc k) es)
event_then true p k (Answer a) es =
    let proof = derivation_text p.names (dealt p a) in
    ap (λ xs. answer_text p (suc k) a ++ proof ++ xs) (proved_answers_text-cut p (suc k) es)
event_then false p k Reached es = refl
event_then true p k Reached es = refl

-- of no events there are none
pub no-lines : (proofs : Bool) (p : ProblemTree) (k : ℕ) → all_lines proofs p k [] ≡ []
no-lines false p k = refl
no-lines true p k = refl

-- ---- faults

-- what is told of the faults of two stretches is told of both
tells-on : (p : Bool) (a : ℕ) (q : Bool) (b : ℕ) (r : Bool) (c : ℕ) → a ≤ b → TellsFaults p a q b → TellsFaults q b r c → TellsFaults p a r c
tells-on p a q b r c more (inl (u, v)) (inl (s, t)) = inl (s ∙ u, t ∙ v)
tells-on p a q b r c more (inl (u, v)) (inr (s, t)) = inr (s, subst (λ n. Rose n c) v t)
tells-on p a q b r c more (inr (u, v)) (inl (s, t)) = inr (s ∙ u, subst (λ n. Rose a n) (sym t) v)
tells-on p a q b r c more (inr (u, v)) (inr (s, t)) = inr (s, Rose-later a b c more t)

-- ---- events that were given

module _ {W : Type 0} (takes breaks : W → Event → W → Type 0) (state : W → OutletState) (writes : (x : W) (e : Event) (y : W) → takes x e y
    → Writes (state x) e (state y))
    (breaks_off : (x : W) (e : Event) (y : W) → breaks x e y → BreaksOff (state x) e (state y)) where
  -- the lines of an event, and of events from this state on
  abbrev lines_of : W → Event → List ℕ
  lines_of x e = event_lines (state x).proofs (state x).problem (state x).answers e

  abbrev lines_from : W → List Event → List ℕ
  lines_from x es = all_lines (state x).proofs (state x).problem (state x).answers es

  -- the lines of the first event, and of those behind it
  pub lines-then : (x : W) (e : Event) (y : W) (es : List Event) → takes x e y → lines_of x e ++ lines_from y es ≡ lines_from x (e ∷ es)
  lines-then x e y es h =
      let w = writes x e y h in
      let s = state x in
      let t = state y in
      let same : lines_from y es ≡ all_lines s.proofs s.problem (counted s.answers e) es =
      ap (λ q. all_lines q t.problem t.answers es) w.same.proofs
      ∙ (ap (λ q. all_lines s.proofs q t.answers es) w.same.problem ∙ ap (λ k. all_lines s.proofs s.problem k es) w.answers) in
      ap (λ xs. lines_of x e ++ xs) same ∙ event_then s.proofs s.problem s.answers e es

  lines-begin : (x : W) (e : Event) (es : List Event) → (rest : List ℕ) × (lines_of x e ++ rest ≡ lines_from x (e ∷ es))
  lines-begin x e es = (
    all_lines (state x).proofs (state x).problem (counted (state x).answers e) es,
    event_then (state x).proofs (state x).problem (state x).answers e es,
  )

  pub same-on : (a b c : OutletState) → SameOutlet a b → SameOutlet b c → SameOutlet a c
  same-on a b c h k =
      record {
        problem = k.problem ∙ h.problem;
        proofs = k.proofs ∙ h.proofs;
        lent = k.lent ∙ h.lent;
        faults = let f = h.faults in let g = k.faults in
            omega arith;
        tells = tells-on a.failed a.faults b.failed b.faults c.failed c.faults h.faults h.tells k.tells;
      }

  same-self : (a : OutletState) → SameOutlet a a
  same-self a = record { problem = refl; proofs = refl; lent = refl; faults = omega arith; tells = inl (refl, refl) }

  took-same : (x : W) (e : Event) (y : W) → takes x e y → SameOutlet (state x) (state y)
  took-same x e y h = (writes x e y h).same

  broke-same : (x : W) (e : Event) (y : W) → breaks x e y → SameOutlet (state x) (state y)
  broke-same x e y h = (breaks_off x e y h).same

  abbrev Kept : W → W → Type 0
  Kept x y = SameOutlet (state x) (state y)

  -- all events were given
  pub events-same : (x y : W) (es : List Event) → Gives takes x es y → SameOutlet (state x) (state y)
  events-same x y es g = given-kept takes breaks Kept (λ z. same-self (state z)) (λ a b c. same-on (state a) (state b) (state c)) took-same broke-same x y es g

  -- with no fault
  pub events-quiet : (x y : W) (es : List Event) → Gives takes x es y → (state y).faults ≡ (state x).faults
  events-quiet x y [] g = ap (λ w. (state w).faults) g
  events-quiet x y (e ∷ es) (z, h, g) = events-quiet z y es g ∙ (writes x e z h).quiet

  pub events-written : (x y : W) (es : List Event) → Gives takes x es y → (state y).written ≡ append_known (state x).written (lines_from x es)
  events-written x y es g =
      given-written takes breaks (λ z. (state z).written) lines_of lines_from (λ z. no-lines (state z).proofs (state z).problem (state z).answers)
      (λ a e b h. (writes a e b h).written) lines-then lines-begin
      (λ a e b h. (breaks_off a e b h).written) x y es g

  -- only the first of them were
  pub front-written : (x y : W) (front back : List Event) (last : List ℕ) → Gives takes x front y
      → AppendsFront (state x).written (lines_from x (front ++ back) ++ last) (state y).written
  front-written x y front back last g =
      front-given takes breaks (λ z. (state z).written) lines_of lines_from (λ z. no-lines (state z).proofs (state z).problem (state z).answers)
      (λ a e b h. (writes a e b h).written) lines-then lines-begin
      (λ a e b h. (breaks_off a e b h).written) x y front back last g

  -- or one of them was refused
  pub refused-same : (x y : W) (es : List Event) → Refuses takes breaks x es y → SameOutlet (state x) (state y)
  refused-same x y es r = refused-kept takes breaks Kept (λ z. same-self (state z)) (λ a b c. same-on (state a) (state b) (state c)) took-same broke-same x
      y es r

  pub refused-lines : (x y : W) (es : List Event) (last : List ℕ) → Refuses takes breaks x es y
      → AppendsFront (state x).written (lines_from x es ++ last) (state y).written
  refused-lines x y es last r =
      refused-written takes breaks (λ z. (state z).written) lines_of lines_from (λ z. no-lines (state z).proofs (state z).problem (state z).answers)
      (λ a e b h. (writes a e b h).written) lines-then lines-begin
      (λ a e b h. (breaks_off a e b h).written) x y es last r

  -- all of the lines were written
  pub lines-written : (x y : W) (p : ProblemTree) (es : List Event) → (state x).problem ≡ p → (state x).answers ≡ 0 → Gives takes x es y
      → (state y).written ≡ append_known (state x).written (all_lines (state x).proofs p 0 es)
  lines-written x y p es e k g = events-written x y es g ∙ ap (append_known (state x).written)
      (ap (λ q. all_lines (state x).proofs q (state x).answers es) e ∙ ap (λ n. all_lines (state x).proofs p n es) k)

-- what follows of a fact for an answer, or for a refusal
pub on_ok_map : {T E : Type 0} (r : Result T E) (A B : Type 0) → OnOk r A → (A → B) → OnOk r B
on_ok_map (Ok x) A B h f = f h
on_ok_map (Err e) A B h f = tt

pub on_err_map : {T E : Type 0} (r : Result T E) (A B : Type 0) → OnErr r A → (A → B) → OnErr r B
on_err_map (Ok x) A B h f = tt
on_err_map (Err e) A B h f = f h

-- what follows of two facts for an answer
pub on_ok_both : {T E : Type 0} (r : Result T E) (A B C : Type 0) → OnOk r A → OnOk r B → (A → B → C) → OnOk r C
on_ok_both (Ok x) A B C h k f = f h k
on_ok_both (Err e) A B C h k f = tt
