-- The spans of trees, from those of their children.
use Rattle.std.proofs.Common.{◌≡◌, ℕ, ◌+◌, ◌≤◌, ◌<◌, refl, ap, sym, subst, ◌∙◌, List, [], ◌∷◌, length, set, drop, arith}
use Rattle.std.specs.Prelude.{Bool, true, false, ◌||◌, Some}
use Rattle.ll_laws.specs.Dealing.{erases, erases_part}
use Rattle.ll_laws.specs.Line.{PartLine, Labels, Free, Line, Cuts, cut_parts, put, trees_of}
use Rattle.ll_laws.specs.Shows.{Tree, Parts, nodes, part_nodes}
use Rattle.ll_trace.specs.declared.spans.Span.{Span}
use Rattle.ll_trace.specs.Spans.{span_or_none, SpansFit, HasSpan, ArePartSpan}
use Rattle.ll_trace.proofs.Making.{IsBinary, join, cut-step, cut-end, first-made, some-made, nodes-some}
use Rattle.std.proofs.Common.{get_or-set_other, get_or-set_same}
use Rattle.std.specs.Prelude.{nat_lt}
use Rattle.std.proofs.lemmas.Bool.{ltb-true, ltb-false}
use Rattle.std.proofs.lemmas.List.{drop_all}
use Rattle.ll_list_laws.proofs.CallerLemmas.{or_assoc as or_more}

-- the end of the first tree
end-first : (S : List Span) (first : ℕ) (span : Span) (x : Tree) (us : List Tree) → span ≡ span_or_none S first → SpansFit S first (x ∷ us)
    → span.end ≡ first + nodes x
end-first S first span x us e f = ap (λ (s : Span). s.end) (e ∙ f.0)

rest-first : (S : List Span) (first : ℕ) (span : Span) (x : Tree) (us : List Tree) → span ≡ span_or_none S first
    → SpansFit S first (x ∷ us) → SpansFit S span.end us
rest-first S first span x us e f = subst (λ n. SpansFit S n us) (sym (end-first S first span x us e f)) f.1

erases-first : (S : List Span) (first : ℕ) (span : Span) (x : Tree) (us : List Tree) → span ≡ span_or_none S first → SpansFit S first (x ∷ us)
    → span.erases ≡ erases x
erases-first S first span x us e f = ap (λ (s : Span). s.erases) (e ∙ f.0)

binary : (l : Line) (mk : Tree → Tree → Tree) (both : Bool → Bool → Bool) → IsBinary l mk → ((x y : Tree) → erases (mk x y) ≡ both (erases x) (erases y))
    → (S : List Span) (first : ℕ) (left right span : Span) (ts vs : List Tree) → left ≡ span_or_none S first → right ≡ span_or_none S left.end
    → span.end ≡ right.end → span.erases ≡ both left.erases right.erases
    → put l ts ≡ Some vs → SpansFit S first ts → HasSpan S first span vs
binary l mk both u er S first left right span [] vs e1 e2 e3 e4 h f = let n = u.none in cc
binary l mk both u er S first left right span (x ∷ []) vs e1 e2 e3 e4 h f = let n = u.one x in cc
binary l mk both u er S first left right span (x ∷ y ∷ us) vs e1 e2 e3 e4 h f =
    let s : Some (mk x y ∷ us) ≡ Some vs = sym (u.some x y us) ∙ h in let i : mk x y ∷ us ≡ vs = cc in
    let g = rest-first S first left x (y ∷ us) e1 f in
    let q1 = end-first S first left x (y ∷ us) e1 f in let q2 = end-first S left.end right y us e2 g in let n = u.nodes x y in
    subst (HasSpan S first span) i (record {
      end = omega (arith, q1, q2, e3, n);
      erases = e4 ∙ (ap (λ a. both a right.erases) (erases-first S first left x (y ∷ us) e1 f)
          ∙ (ap (both (erases x)) (erases-first S left.end right y us e2 g) ∙ sym (er x y)));
      rest = subst (λ n. SpansFit S n us) (sym e3) (rest-first S left.end right y us e2 g);
    })

-- ---- the premises of a clause node, one after the other

-- what is left of them behind a span
pub record PartsLeft (S : List Span) (first : ℕ) (span : Span) (ls : List PartLine) (ps : Parts) (us : List Tree) : Type 0 where
  pub trees : List Tree
  pub parts : Parts
  pub cut : cut_parts ls trees ≡ Cuts parts us
  pub fits : SpansFit S span.end trees
  pub end : span.end + part_nodes parts ≡ first + part_nodes ps
  pub erases : (span.erases || erases_part parts) ≡ erases_part ps

-- whether the span of one more premise erases
abbrev pub erases_more : PartLine → Bool → Bool → Bool
erases_more (Labels s) a b = a || b
erases_more Free a b = a

pub parts-start : (S : List Span) (first : ℕ) (ls : List PartLine) (ts us : List Tree) (ps : Parts) → cut_parts ls ts ≡ Cuts ps us → SpansFit S first ts
    → PartsLeft S first (record { end = first; erases = false }) ls ps us
parts-start S first ls ts us ps h f = record { trees = ts; parts = ps; cut = h; fits = f; end = refl; erases = refl }

pub parts-step : (p : PartLine) (ls : List PartLine) (S : List Span) (first : ℕ) (span next new : Span) (ps : Parts) (us : List Tree)
    → next ≡ span_or_none S span.end → new.end ≡ next.end → new.erases ≡ erases_more p span.erases next.erases
    → PartsLeft S first span (p ∷ ls) ps us → PartsLeft S first new ls ps us
parts-step p ls S first span next new ps us e1 e2 e3 w =
    let c = cut-step p ls w.trees w.parts us w.cut in let f = subst (SpansFit S span.end) c.is_trees w.fits in
    let q = end-first S span.end next c.first c.trees e1 f in
    record {
      trees = c.trees;
      parts = c.parts;
      cut = c.cut;
      fits = subst (λ n. SpansFit S n c.trees) (sym e2) (rest-first S span.end next c.first c.trees e1 f);
      end = let k = sized p c.first c.parts in let j = ap part_nodes c.is_parts in let i = w.end in omega (arith, k, j, i, q, e2);
      erases = erased p span.erases next.erases new.erases c.first c.parts e3 (erases-first S span.end next c.first c.trees e1 f)
          ∙ (ap (λ qs. span.erases || erases_part qs) (sym c.is_parts) ∙ w.erases);
    }
  where
    sized : (p : PartLine) (x : Tree) (qs : Parts) → part_nodes (join p x qs) ≡ nodes x + part_nodes qs
    sized (Labels s) x qs = refl
    sized Free x qs = refl

    erased : (p : PartLine) (a b c : Bool) (x : Tree) (qs : Parts) → c ≡ erases_more p a b → b ≡ erases x
        → (c || erases_part qs) ≡ (a || erases_part (join p x qs))
    erased (Labels s) a b c x qs e f = ap (λ z. z || erases_part qs) (e ∙ ap (λ z. a || z) f) ∙ or_more a (erases x) (erases_part qs)
    erased Free a b c x qs e f = ap (λ z. z || erases_part qs) e

pub parts-end : (S : List Span) (first : ℕ) (span : Span) (ps : Parts) (us : List Tree) → PartsLeft S first span [] ps us → ArePartSpan S first span ps us
parts-end S first span ps us w =
    let c = cut-end w.trees w.parts us w.cut in
    record {
      end = let j = ap part_nodes c.parts in let i = w.end in omega (arith, i, j);
      erases = sym (or_none span.erases) ∙ (ap (λ qs. span.erases || erases_part qs) (sym c.parts) ∙ w.erases);
      rest = subst (SpansFit S span.end) c.trees w.fits;
    }
  where
    or_none : (a : Bool) → (a || false) ≡ a
    or_none true = refl
    or_none false = refl

-- ---- the whole list, from its end

-- a write before the trees
fits-set : (S : List Span) (i : ℕ) (v : Span) (at : ℕ) (ts : List Tree) → i < at → SpansFit S at ts → SpansFit (set S i v) at ts
fits-set S i v at [] h f = tt
fits-set S i v at (x ∷ xs) h f = (
  get_or-set_other S i at v (record { end = at; erases = false }) (λ e. absurd (omega (arith, h, e))) ∙ f.0,
  fits-set S i v (at + nodes x) xs (omega (arith, h)) f.1,
)

-- past the last node there is no tree
pub fits-past : (S : List Span) (ls : List Line) (at : ℕ) (ts : List Tree) → length ls ≤ at → trees_of (drop at ls) ≡ Some ts → SpansFit S at ts
fits-past S ls at ts h e = let d = ap trees_of (drop_all at ls h) in let g : [] ≡ ts = cc in subst (SpansFit S at) g none
  where
    none : SpansFit S at []
    none = tt

is_span : (s : Span) (e : ℕ) (b : Bool) → s.end ≡ e → s.erases ≡ b → s ≡ record { end = e; erases = b }
is_span s e b p q = ap (λ n. record { end = n; erases = s.erases }) p ∙ ap (λ c. record { end = e; erases = c }) q

pub spans-step : (ls : List Line) (S T : List Span) (i : ℕ) (span : Span) (l : Line) → drop i ls ≡ l ∷ drop (i + 1) ls → T ≡ set S i span → i < length S
    → ((at : ℕ) (ts : List Tree) → i + 1 ≤ at → trees_of (drop at ls) ≡ Some ts → SpansFit S at ts)
    → ((ts vs : List Tree) → put l ts ≡ Some vs → SpansFit S (i + 1) ts → HasSpan S (i + 1) span vs)
    → (at : ℕ) (ts : List Tree) → i ≤ at → trees_of (drop at ls) ≡ Some ts → SpansFit T at ts
spans-step ls S T i span l d e lt below go at ts h k = subst (λ U. SpansFit U at ts) (sym e) (cases (nat_lt i at) refl)
  where
    here : (vs us : List Tree) → put l us ≡ Some vs → HasSpan S (i + 1) span vs → SpansFit (set S i span) i vs
    here [] us p s = absurd (some-made l us p)
    here (x ∷ vs) us p s =
        let q = s.end in let n = nodes-some x in (
          get_or-set_same S i span (record { end = i; erases = false }) lt ∙ is_span span (i + nodes x) (erases x) (omega (arith, q)) s.erases,
          fits-set S i span (i + nodes x) vs (omega (arith, n)) (let r : span.end ≡ i + nodes x = omega (arith, q) in subst (λ m. SpansFit S m vs) r s.rest),
        )

    now : trees_of (l ∷ drop (i + 1) ls) ≡ Some ts → SpansFit (set S i span) i ts
    now w = let m = first-made l (drop (i + 1) ls) ts w in here ts m.trees m.made (go m.trees ts m.made (below (i + 1) m.trees (omega arith) m.is))

    cases : (b : Bool) → nat_lt i at ≡ b → SpansFit (set S i span) at ts
    cases true c = let z = ltb-true i at c in fits-set S i span at ts z (below at ts (omega (arith, z)) k)
    cases false c = let z = ltb-false i at c in let y : i ≡ at = omega (arith, z, h) in
        subst (λ m. SpansFit (set S i span) m ts) y (now (sym (ap trees_of (sym (ap (λ m. drop m ls) y) ∙ d)) ∙ k))
