-- How shares of labels go on from node to node.
use Rattle.std.proofs.Common.{◌≡◌, ℕ, suc, ◌+◌, ◌<◌, refl, ap, sym, subst, ◌∙◌, List, [], ◌∷◌, ◌++◌, append_assoc, length, length-append, drop, map, reverse}
use Rattle.std.proofs.Common.{arith}
use Rattle.std.specs.Prelude.{Bool, filter, cond, not, Option, Some, None, IsSome, unwrap_or, option_to_list}
use Rattle.std.specs.List.{list_any}
use Rattle.std.proofs.lemmas.List.{append-nil, drop-drop, map-append, reverse-append, length-reverse}
use Rattle.ll_bank.specs.Nodes.{Nodes}
use Rattle.ll_bank.specs.Term.{Term}
use Rattle.ll_laws.specs.declared.Part.{Part}
use Rattle.ll_laws.specs.declared.Rule.{Rule}
use Rattle.ll_laws.specs.Dealing.{uses, uses_part, erases, deal, deal_parts, goes_to, without}
use Rattle.ll_laws.specs.Line.{PartLine, Labels, Free, Line, OneLine, EraseLine, WithLine, BangLine, LolliLine, TensorLine, ClauseLine, Cuts, cut_parts, put}
use Rattle.ll_laws.specs.Line.{trees_of, lines, lines_of_parts, part_lines, NumLine}
use Rattle.ll_laws.specs.Shows.{Tree, OneNode, EraseNode, TensorNode, WithNode, BangNode, LolliNode, ClauseNode, Parts, NoParts, BoundedPart, UnboundedPart}
use Rattle.ll_laws.specs.Shows.{nodes, part_nodes, NumNode}
use Rattle.ll_laws.specs.ShownLines.{line_of, part_line}
use Rattle.ll_trace.specs.declared.deal.Fork.{Fork}
use Rattle.ll_trace.specs.declared.deal.Outline.{Outline}
use Rattle.ll_trace.specs.declared.deal.Share.{Share}
use Rattle.ll_trace.specs.declared.picks.Pick.{Pick}
use Rattle.ll_trace.specs.declared.spans.Span.{Span}
use Rattle.ll_trace.specs.Picks.{picks_of, picks_of_parts, all_picks, is_pick, is_used_between}
use Rattle.ll_trace.specs.Spans.{span_or_none, SpansFit}
use Rattle.ll_trace.specs.Shares.{all_dealt, levels, goes_to_first, IsNodeStep, ArePartsDealt}
use Rattle.ll_bank.specs.Nodes.{term_tree}
use Rattle.ll_bank.specs.declared.At.{At}
use Rattle.ll_laws.specs.declared.Rule.TheVariants.{One, Erase, Tensor, With, Left, Right, Bang, Lolli, Imp, Forall, Exists, Use, Clause, Num}
use Rattle.ll_laws.specs.Shows.{LeftNode, RightNode, ImpNode, ForallNode, ExistsNode, UseNode}
use Rattle.std.proofs.Common.{Vec, Global, get_or, drop-cons, ◌≤◌}
use Rattle.std.specs.Prelude.{true, false}
use Rattle.std.proofs.lemmas.List.{drop_all, drop-map}
use Rattle.ll_list_laws.proofs.CallerLemmas.{reverse-push as newest}
use Rattle.ll_trace.specs.Shares.{GivesRule, GivesTensor, GivesAnywhere}
use Rattle.ll_trace.specs.Spans.{AreSpans}
use Rattle.ll_trace.proofs.Making.{IsPassing, left-passing, right-passing, use-passing, imp-passing, forall-passing, exists-passing, IsCutStep, cut-step}
use Rattle.ll_trace.proofs.Making.{IsCutEnd, cut-end, IsClauseMade, clause-made, first-made, made-some}
use Rattle.ll_trace.proofs.Picking.{picks-count, parts-count, picks-uses, parts-uses, used-here, drop-on}

filter-same : (f g : ℕ → Bool) → ((n : ℕ) → f n ≡ g n) → (d : List ℕ) → filter f d ≡ filter g d
filter-same f g h [] = refl
filter-same f g h (n ∷ ns) = ap (λ b. cond b (n ∷ filter f ns) (filter f ns)) (h n) ∙ ap (λ xs. cond (g n) (n ∷ xs) xs) (filter-same f g h ns)

-- a fork between what these two places pick
fork-goes : (picks here later more : List (Option Pick)) (fork : Fork) (n : ℕ) → drop fork.from picks ≡ here ++ (later ++ more)
    → fork.first.end ≡ fork.from + length here → fork.end ≡ fork.first.end + length later
    → goes_to_first picks fork n ≡ goes_to (list_any (is_pick n fork.level) here) (list_any (is_pick n fork.level) later) fork.first.erases
fork-goes picks here later more fork n h e k =
    ap (λ u. goes_to u (is_used_between picks n fork.level fork.first.end fork.end) fork.first.erases)
    (used-here n fork.level fork.from fork.first.end picks here (later ++ more) h e)
    ∙ ap (λ v. goes_to (list_any (is_pick n fork.level) here) v fork.first.erases)
    (used-here n fork.level fork.first.end fork.end picks later more (drop-on fork.from fork.first.end picks here (later ++ more) h e) k)

drop-next : (at : ℕ) (picks more : List (Option Pick)) (pick : Option Pick) → drop at picks ≡ pick ∷ more → drop (at + 1) picks ≡ more
drop-next at picks more pick h = sym (drop-drop 1 at picks) ∙ ap (drop 1) h

two_newest : (old mid new : List Share) (first second : Share) → mid ≡ old ++ second ∷ [] → new ≡ mid ++ first ∷ [] → reverse new ≡ first ∷ second ∷ reverse old
two_newest old mid new first second e f = ap reverse f ∙ (newest mid first ∙ ap (λ ss. first ∷ ss) (ap reverse e ∙ newest old second))

-- ---- one node

pub leaf-step : (outline : Outline) (at : ℕ) (share : Share) (old : List Share) (l : Line) (w : Tree) (us : List Tree)
    → lines (deal share.labels.items w) ≡ l ∷ [] → picks_of share.level w ≡ None ∷ []
    → drop at outline.uses ≡ all_picks (share.level ∷ levels (reverse old)) (w ∷ us) → IsNodeStep outline (at + 1) share old old l us (w ∷ us)
leaf-step outline at share old l w us h k d = record {
  same = ap (λ ls. ls ++ all_dealt (reverse old) us) h;
  picks = drop-next at outline.uses (all_picks (levels (reverse old)) us) None (d ∙ ap (λ ps. ps ++ all_picks (levels (reverse old)) us) k);
  count = λ c. omega (arith, c);
}

pub child-step : (outline : Outline) (at : ℕ) (share below : Share) (old new : List Share) (l : Line) (w x : Tree) (us : List Tree)
    → lines (deal share.labels.items w) ≡ l ∷ lines (deal below.labels.items x) → picks_of share.level w ≡ None ∷ picks_of below.level x
    → new ≡ old ++ below ∷ [] → drop at outline.uses ≡ all_picks (share.level ∷ levels (reverse old)) (w ∷ us)
    → IsNodeStep outline (at + 1) share old new l (x ∷ us) (w ∷ us)
child-step outline at share below old new l w x us h k e d =
    let r : reverse new ≡ below ∷ reverse old = ap reverse e ∙ newest old below in
    record {
      same = ap (λ ls. ls ++ all_dealt (reverse old) us) h ∙ ap (λ ss. l ∷ all_dealt ss (x ∷ us)) (sym r);
      picks = drop-next at outline.uses (picks_of below.level x ++ all_picks (levels (reverse old)) us) None
          (d ∙ ap (λ ps. ps ++ all_picks (levels (reverse old)) us) k) ∙ ap (λ ss. all_picks (levels ss) (x ∷ us)) (sym r);
      count = λ c. let i = ap length e in let j = length-append old (below ∷ []) in omega (arith, c, i, j);
    }

pub children-step : (outline : Outline) (at : ℕ) (share first second : Share) (old mid new : List Share) (l : Line) (w x y : Tree) (us : List Tree)
    → lines (deal share.labels.items w) ≡ l ∷ (lines (deal first.labels.items x) ++ lines (deal second.labels.items y))
    → picks_of share.level w ≡ None ∷ (picks_of first.level x ++ picks_of second.level y)
    → mid ≡ old ++ second ∷ [] → new ≡ mid ++ first ∷ [] → drop at outline.uses ≡ all_picks (share.level ∷ levels (reverse old)) (w ∷ us)
    → IsNodeStep outline (at + 1) share old new l (x ∷ y ∷ us) (w ∷ us)
children-step outline at share first second old mid new l w x y us h k e f d =
    let r = two_newest old mid new first second e f in
    record {
      same =
          ap (λ ls. ls ++ all_dealt (reverse old) us) h
          ∙ (ap (λ ls. l ∷ ls) (append_assoc (lines (deal first.labels.items x)) (lines (deal second.labels.items y)) (all_dealt (reverse old) us))
          ∙ ap (λ ss. l ∷ all_dealt ss (x ∷ y ∷ us)) (sym r));
      picks =
          drop-next at outline.uses ((picks_of first.level x ++ picks_of second.level y) ++ all_picks (levels (reverse old)) us) None
          (d ∙ ap (λ ps. ps ++ all_picks (levels (reverse old)) us) k)
          ∙ (append_assoc (picks_of first.level x) (picks_of second.level y) (all_picks (levels (reverse old)) us)
          ∙ ap (λ ss. all_picks (levels ss) (x ∷ y ∷ us)) (sym r));
      count = λ c. let i = ap length e in let j = length-append old (second ∷ []) in let m = ap length f in let n = length-append mid (first ∷ []) in
          omega (arith, c, i, j, m, n);
    }

pub one-step : (outline : Outline) (at : ℕ) (share : Share) (old : List Share) (ts vs : List Tree) → put OneLine ts ≡ Some vs
    → drop at outline.uses ≡ all_picks (share.level ∷ levels (reverse old)) vs → IsNodeStep outline (at + 1) share old old OneLine ts vs
one-step outline at share old ts vs h d =
    let e : OneNode ∷ ts ≡ vs = cc in
    subst (IsNodeStep outline (at + 1) share old old OneLine ts) e
    (leaf-step outline at share old OneLine OneNode ts refl refl (d ∙ ap (all_picks (share.level ∷ levels (reverse old))) (sym e)))

pub num-step : (outline : Outline) (at : ℕ) (share : Share) (old : List Share) (ts vs : List Tree) → put NumLine ts ≡ Some vs
    → drop at outline.uses ≡ all_picks (share.level ∷ levels (reverse old)) vs → IsNodeStep outline (at + 1) share old old NumLine ts vs
num-step outline at share old ts vs h d =
    let e : NumNode ∷ ts ≡ vs = cc in
    subst (IsNodeStep outline (at + 1) share old old NumLine ts) e
    (leaf-step outline at share old NumLine NumNode ts refl refl (d ∙ ap (all_picks (share.level ∷ levels (reverse old))) (sym e)))

pub erase-step : (outline : Outline) (at : ℕ) (share : Share) (old : List Share) (ts vs : List Tree) → put EraseLine ts ≡ Some vs
    → drop at outline.uses ≡ all_picks (share.level ∷ levels (reverse old)) vs → IsNodeStep outline (at + 1) share old old EraseLine ts vs
erase-step outline at share old ts vs h d =
    let e : EraseNode ∷ ts ≡ vs = cc in
    subst (IsNodeStep outline (at + 1) share old old EraseLine ts) e
    (leaf-step outline at share old EraseLine EraseNode ts refl refl (d ∙ ap (all_picks (share.level ∷ levels (reverse old))) (sym e)))

pub passing-step : (l : Line) (mk : Tree → Tree) → IsPassing l mk → (outline : Outline) (at : ℕ) (share : Share) (old new : List Share) (ts vs : List Tree)
    → new ≡ old ++ share ∷ [] → put l ts ≡ Some vs → drop at outline.uses ≡ all_picks (share.level ∷ levels (reverse old)) vs
    → IsNodeStep outline (at + 1) share old new l ts vs
passing-step l mk p outline at share old new [] vs n h d = let u = p.unary.none in cc
passing-step l mk p outline at share old new (x ∷ us) vs n h d =
    let s : Some (mk x ∷ us) ≡ Some vs = sym (p.unary.some x us) ∙ h in let e : mk x ∷ us ≡ vs = cc in
    subst (IsNodeStep outline (at + 1) share old new l (x ∷ us)) e
    (child-step outline at share share old new l (mk x) x us (p.lines share.labels.items x) (p.unary.picks share.level x) n
    (d ∙ ap (all_picks (share.level ∷ levels (reverse old))) (sym e)))

pub lolli-step : (n : ℕ) (outline : Outline) (at : ℕ) (share below : Share) (old new : List Share) (ts vs : List Tree)
    → below.labels.items ≡ share.labels.items ++ n ∷ [] → below.level ≡ share.level → new ≡ old ++ below ∷ [] → put (LolliLine n) ts ≡ Some vs
    → drop at outline.uses ≡ all_picks (share.level ∷ levels (reverse old)) vs → IsNodeStep outline (at + 1) share old new (LolliLine n) ts vs
lolli-step n outline at share below old new [] vs a b e h d = cc
lolli-step n outline at share below old new (x ∷ us) vs a b e h d =
    let i : LolliNode n x ∷ us ≡ vs = cc in
    subst (IsNodeStep outline (at + 1) share old new (LolliLine n) (x ∷ us)) i (child-step outline at share below old new (LolliLine n) (LolliNode n x) x us
    (ap (λ xs. LolliLine n ∷ lines (deal xs x)) (sym a)) (ap (λ m. None ∷ picks_of m x) (sym b)) e
    (d ∙ ap (all_picks (share.level ∷ levels (reverse old))) (sym i)))

pub bang-step : (outline : Outline) (at : ℕ) (share below : Share) (old new : List Share) (ts vs : List Tree) → below.labels.items ≡ []
    → below.level ≡ share.level + 1 → new ≡ old ++ below ∷ [] → put BangLine ts ≡ Some vs
    → drop at outline.uses ≡ all_picks (share.level ∷ levels (reverse old)) vs → IsNodeStep outline (at + 1) share old new BangLine ts vs
bang-step outline at share below old new [] vs a b e h d = cc
bang-step outline at share below old new (x ∷ us) vs a b e h d =
    let i : BangNode x ∷ us ≡ vs = cc in
    subst (IsNodeStep outline (at + 1) share old new BangLine (x ∷ us)) i (child-step outline at share below old new BangLine (BangNode x) x us
    (ap (λ xs. BangLine ∷ lines (deal xs x)) (sym a)) (ap (λ m. None ∷ picks_of m x) (sym b)) e
    (d ∙ ap (all_picks (share.level ∷ levels (reverse old))) (sym i)))

pub with-step : (outline : Outline) (at : ℕ) (share first second : Share) (old mid new : List Share) (ts vs : List Tree)
    → first.labels.items ≡ share.labels.items → first.level ≡ share.level → second.labels.items ≡ share.labels.items → second.level ≡ share.level
    → mid ≡ old ++ second ∷ [] → new ≡ mid ++ first ∷ [] → put WithLine ts ≡ Some vs → drop at outline.uses ≡ all_picks (share.level ∷ levels (reverse old)) vs
    → IsNodeStep outline (at + 1) share old new WithLine ts vs
with-step outline at share first second old mid new [] vs a b a2 b2 e f h d = cc
with-step outline at share first second old mid new (x ∷ []) vs a b a2 b2 e f h d = cc
with-step outline at share first second old mid new (x ∷ y ∷ us) vs a b a2 b2 e f h d =
    let i : WithNode x y ∷ us ≡ vs = cc in
    subst (IsNodeStep outline (at + 1) share old new WithLine (x ∷ y ∷ us)) i
    (children-step outline at share first second old mid new WithLine (WithNode x y) x y us
    (ap (λ xs. WithLine ∷ (lines (deal xs x) ++ lines (deal share.labels.items y))) (sym a)
    ∙ ap (λ xs. WithLine ∷ (lines (deal first.labels.items x) ++ lines (deal xs y))) (sym a2))
    (ap (λ m. None ∷ (picks_of m x ++ picks_of share.level y)) (sym b) ∙ ap (λ m. None ∷ (picks_of first.level x ++ picks_of m y)) (sym b2)) e f
    (d ∙ ap (all_picks (share.level ∷ levels (reverse old))) (sym i)))

-- the fork of a tensor node
pub record IsFork (outline : Outline) (at b : ℕ) (fork : Fork) : Type 0 where
  pub level : fork.level ≡ b
  pub from : fork.from ≡ at + 1
  pub first : fork.first ≡ span_or_none outline.spans.items (at + 1)
  pub end : fork.end ≡ (span_or_none outline.spans.items at).end

pub tensor-step : (outline : Outline) (at : ℕ) (share first second : Share) (fork : Fork) (old mid new : List Share) (s t : List ℕ) (ts vs : List Tree)
    → IsFork outline at share.level fork
    → first.labels.items ≡ filter (goes_to_first outline.uses fork) share.labels.items → first.level ≡ share.level
    → second.labels.items ≡ filter (λ n. not (goes_to_first outline.uses fork n)) share.labels.items → second.level ≡ share.level
    → mid ≡ old ++ second ∷ [] → new ≡ mid ++ first ∷ [] → put (TensorLine s t) ts ≡ Some vs → SpansFit outline.spans.items at vs
    → SpansFit outline.spans.items (at + 1) ts → drop at outline.uses ≡ all_picks (share.level ∷ levels (reverse old)) vs
    → IsNodeStep outline (at + 1) share old new (TensorLine first.labels.items second.labels.items) ts vs
tensor-step outline at share first second fork old mid new s t [] vs k a b a2 b2 e f h f1 f2 d = cc
tensor-step outline at share first second fork old mid new s t (x ∷ []) vs k a b a2 b2 e f h f1 f2 d = cc
tensor-step outline at share first second fork old mid new s t (x ∷ y ∷ us) vs k a b a2 b2 e f h f1 f2 d =
    let i : TensorNode s t x y ∷ us ≡ vs = cc in
    let g1 : SpansFit outline.spans.items at (TensorNode s t x y ∷ us) = subst (SpansFit outline.spans.items at) (sym i) f1 in
    let d1 = d ∙ ap (all_picks (share.level ∷ levels (reverse old))) (sym i) in
    subst (IsNodeStep outline (at + 1) share old new (TensorLine first.labels.items second.labels.items) (x ∷ y ∷ us)) i
    (children-step outline at share first second old mid new (TensorLine first.labels.items second.labels.items) (TensorNode s t x y) x y us
    (tensor_lines share.labels.items first.labels.items second.labels.items
    (a ∙ filter-same (goes_to_first outline.uses fork) (λ n. goes_to (uses n x) (uses n y) (erases x)) (goes g1 d1) share.labels.items)
    (a2 ∙ filter-same (λ n. not (goes_to_first outline.uses fork n)) (λ n. not (goes_to (uses n x) (uses n y) (erases x))) (λ n. ap not (goes g1 d1 n))
    share.labels.items))
    (ap (λ m. None ∷ (picks_of m x ++ picks_of share.level y)) (sym b) ∙ ap (λ m. None ∷ (picks_of first.level x ++ picks_of m y)) (sym b2)) e f d1)
  where
    tensor_lines : (d m o : List ℕ) → m ≡ filter (λ n. goes_to (uses n x) (uses n y) (erases x)) d
        → o ≡ filter (λ n. not (goes_to (uses n x) (uses n y) (erases x))) d
        → lines (deal d (TensorNode s t x y)) ≡ TensorLine m o ∷ (lines (deal m x) ++ lines (deal o y))
    tensor_lines d m o p q =
        let o2 = filter (λ n. not (goes_to (uses n x) (uses n y) (erases x))) d in
        ap (λ z. TensorLine z o2 ∷ (lines (deal z x) ++ lines (deal o2 y))) (sym p) ∙ ap (λ z. TensorLine m z ∷ (lines (deal m x) ++ lines (deal z y))) (sym q)

    goes : SpansFit outline.spans.items at (TensorNode s t x y ∷ us)
        → drop at outline.uses ≡ all_picks (share.level ∷ levels (reverse old)) (TensorNode s t x y ∷ us) → (n : ℕ)
        → goes_to_first outline.uses fork n ≡ goes_to (uses n x) (uses n y) (erases x)
    goes g1 d1 n =
        let q1 : fork.first.end ≡ at + 1 + nodes x = ap (λ (z : Span). z.end) (k.first ∙ f2.0) in
        let q2 : fork.end ≡ at + suc (nodes x + nodes y) = k.end ∙ ap (λ (z : Span). z.end) g1.0 in
        let c1 = picks-count share.level x in let c2 = picks-count share.level y in let kf = k.from in
        let dr : drop fork.from outline.uses ≡ picks_of share.level x ++ (picks_of share.level y ++ all_picks (levels (reverse old)) us) =
        ap (λ j. drop j outline.uses) k.from ∙ (drop-next at outline.uses
        ((picks_of share.level x ++ picks_of share.level y) ++ all_picks (levels (reverse old)) us) None d1
        ∙ append_assoc (picks_of share.level x) (picks_of share.level y) (all_picks (levels (reverse old)) us)) in
        fork-goes outline.uses (picks_of share.level x) (picks_of share.level y) (all_picks (levels (reverse old)) us) fork n dr (omega (arith, q1, c1, kf))
        (omega (arith, q1, q2, c2))
        ∙ (ap (λ u. goes_to u (list_any (is_pick n fork.level) (picks_of share.level y)) fork.first.erases)
        (ap (λ m. list_any (is_pick n m) (picks_of share.level x)) k.level ∙ picks-uses n share.level x)
        ∙ (ap (λ v. goes_to (uses n x) v fork.first.erases) (ap (λ m. list_any (is_pick n m) (picks_of share.level y)) k.level ∙ picks-uses n share.level y)
        ∙ ap (λ z. goes_to (uses n x) (uses n y) z) (ap (λ (z : Span). z.erases) (k.first ∙ f2.0))))

-- a rule that hands its share on, whatever the bank
pub record IsPassingRule (r : Rule) : Type 0 where
  pub mk : Nodes → Tree → Tree
  pub passing : (bank : Nodes) → IsPassing (line_of bank r) (mk bank)

pub passing-rule : (r : Rule) → (r ≡ Num → ⊥) → (r ≡ One → ⊥) → (r ≡ Erase → ⊥) → ((s t : Vec ℕ Global) → r ≡ Tensor s t → ⊥) → (r ≡ With → ⊥) → (r ≡ Bang → ⊥)
    → ((n : ℕ) → r ≡ Lolli n → ⊥)
    → ((n k : ℕ) (us : Vec At Global) (ps : Vec Part Global) → r ≡ Clause n k us ps → ⊥) → IsPassingRule r
passing-rule One z a b c d e f g = absurd (a refl)
passing-rule Num z a b c d e f g = absurd (z refl)
passing-rule Erase z a b c d e f g = absurd (b refl)
passing-rule (Tensor s t) z a b c d e f g = absurd (c s t refl)
passing-rule With z a b c d e f g = absurd (d refl)
passing-rule Left z a b c d e f g = record { mk = λ bank. LeftNode; passing = λ bank. left-passing }
passing-rule Right z a b c d e f g = record { mk = λ bank. RightNode; passing = λ bank. right-passing }
passing-rule Bang z a b c d e f g = absurd (e refl)
passing-rule (Lolli n) z a b c d e f g = absurd (f n refl)
passing-rule (Imp n) z a b c d e f g = record { mk = λ bank. ImpNode n; passing = λ bank. imp-passing n }
passing-rule (Forall n) z a b c d e f g = record { mk = λ bank. ForallNode n; passing = λ bank. forall-passing n }
passing-rule (Exists t) z a b c d e f g = record { mk = λ bank. ExistsNode (term_tree bank t.0); passing = λ bank. exists-passing (term_tree bank t.0) }
passing-rule Use z a b c d e f g = record { mk = λ bank. UseNode; passing = λ bank. use-passing }
passing-rule (Clause n k us ps) z a b c d e f g = absurd (g n k us ps refl)

-- ---- the premises of a clause node, one after the other

-- what is left of them behind some
pub record PartsAt (outline : Outline) (from end b : ℕ) (first : List ℕ) (all : Parts) (ts us : List Tree) (more : List (Option Pick)) (ls : List PartLine)
    (labels : List ℕ) (dealt : List Part) (shares : List Share) (trees : List Tree) (parts : Parts) : Type 0 where
  pub cut : cut_parts ls trees ≡ Cuts parts us
  pub fits : SpansFit outline.spans.items from trees
  pub reach : end ≡ from + part_nodes parts
  pub dropped : drop from outline.uses ≡ picks_of_parts b parts ++ more
  pub lines : map part_line dealt ++ part_lines (deal_parts labels parts) ≡ part_lines (deal_parts first all)
  pub done : List Line
  pub dones : done ++ lines_of_parts (deal_parts labels parts) ≡ lines_of_parts (deal_parts first all)
  pub shown : (ss : List Share) → all_dealt (shares ++ ss) ts ≡ done ++ all_dealt ss trees
  pub picked : List (Option Pick)
  pub picks : picked ++ picks_of_parts b parts ≡ picks_of_parts b all
  pub seen : (bs : List ℕ) → all_picks (levels shares ++ bs) ts ≡ picked ++ all_picks bs trees
  pub count : length shares + length trees ≡ length ts

pub record PartsDealt (outline : Outline) (from end b : ℕ) (first : List ℕ) (all : Parts) (ts us : List Tree) (more : List (Option Pick)) (ls : List PartLine)
    (labels : List ℕ) (dealt : List Part) (shares : List Share) : Type 0 where
  pub trees : List Tree
  pub parts : Parts
  pub at : PartsAt outline from end b first all ts us more ls labels dealt shares trees parts

pub dealt-start : (outline : Outline) (from end b : ℕ) (first : List ℕ) (all : Parts) (ts us : List Tree) (more : List (Option Pick)) (ls : List PartLine)
    (dealt : List Part) (shares : List Share) → dealt ≡ [] → shares ≡ []
    → cut_parts ls ts ≡ Cuts all us → SpansFit outline.spans.items from ts → end ≡ from + part_nodes all → drop from outline.uses ≡ picks_of_parts b all ++ more
    → PartsDealt outline from end b first all ts us more ls first dealt shares
dealt-start outline from end b first all ts us more ls dealt shares e f h g k d = record {
  trees = ts;
  parts = all;
  at = record {
    cut = h;
    fits = g;
    reach = k;
    dropped = d;
    lines = ap (λ ps. map part_line ps ++ part_lines (deal_parts first all)) e;
    done = [];
    dones = refl;
    shown = λ ss. ap (λ zs. all_dealt (zs ++ ss) ts) f;
    picked = [];
    picks = refl;
    seen = λ bs. ap (λ zs. all_picks (levels zs ++ bs) ts) f;
    count = let i = ap length f in omega (arith, i);
  };
}

-- one premise more
one_more : (outline : Outline) (from next end b : ℕ) (first : List ℕ) (all : Parts) (ts us : List Tree) (more : List (Option Pick)) (p : PartLine)
    (ls : List PartLine) (labels rest : List ℕ) (dealt dealt2 : List Part) (shares shares2 : List Share) (q : Part) (s : Share) (x : Tree) (trees : List Tree)
    (parts qs : Parts)
    → cut_parts ls trees ≡ Cuts qs us → next ≡ from + nodes x → part_nodes parts ≡ nodes x + part_nodes qs
    → part_lines (deal_parts labels parts) ≡ part_line q ∷ part_lines (deal_parts rest qs)
    → lines_of_parts (deal_parts labels parts) ≡ lines (deal s.labels.items x) ++ lines_of_parts (deal_parts rest qs)
    → picks_of_parts b parts ≡ picks_of s.level x ++ picks_of_parts b qs → dealt2 ≡ dealt ++ q ∷ [] → shares2 ≡ shares ++ s ∷ []
    → PartsAt outline from end b first all ts us more (p ∷ ls) labels dealt shares (x ∷ trees) parts
    → PartsAt outline next end b first all ts us more ls rest dealt2 shares2 trees qs
one_more outline from next end b first all ts us more p ls labels rest dealt dealt2 shares shares2 q s x trees parts qs h e n pl ll pk ed es w = record {
  cut = h;
  fits = subst (λ i. SpansFit outline.spans.items i trees) (sym e) w.fits.1;
  reach = let i = w.reach in omega (arith, i, e, n);
  dropped =
      let c = picks-count s.level x in
      drop-on from next outline.uses (picks_of s.level x) (picks_of_parts b qs ++ more)
      (w.dropped ∙ (ap (λ ps. ps ++ more) pk ∙ append_assoc (picks_of s.level x) (picks_of_parts b qs) more)) (omega (arith, c, e));
  lines =
      ap (λ ps. map part_line ps ++ part_lines (deal_parts rest qs)) ed
      ∙ (ap (λ ps. ps ++ part_lines (deal_parts rest qs)) (map-append part_line dealt (q ∷ []))
      ∙ (append_assoc (map part_line dealt) (part_line q ∷ []) (part_lines (deal_parts rest qs))
      ∙ (ap (λ ps. map part_line dealt ++ ps) (sym pl) ∙ w.lines)));
  done = w.done ++ lines (deal s.labels.items x);
  dones = append_assoc w.done (lines (deal s.labels.items x)) (lines_of_parts (deal_parts rest qs)) ∙ (ap (λ ps. w.done ++ ps) (sym ll) ∙ w.dones);
  shown = λ ss.
      ap (λ zs. all_dealt (zs ++ ss) ts) es
      ∙ (ap (λ zs. all_dealt zs ts) (append_assoc shares (s ∷ []) ss)
      ∙ (w.shown (s ∷ ss) ∙ sym (append_assoc w.done (lines (deal s.labels.items x)) (all_dealt ss trees))));
  picked = w.picked ++ picks_of s.level x;
  picks = append_assoc w.picked (picks_of s.level x) (picks_of_parts b qs) ∙ (ap (λ ps. w.picked ++ ps) (sym pk) ∙ w.picks);
  seen = λ bs.
      ap (λ zs. all_picks (levels zs ++ bs) ts) es
      ∙ (ap (λ zs. all_picks (zs ++ bs) ts) (map-append (λ (z : Share). z.level) shares (s ∷ []))
      ∙ (ap (λ zs. all_picks zs ts) (append_assoc (levels shares) (s.level ∷ []) bs)
      ∙ (w.seen (s.level ∷ bs) ∙ sym (append_assoc w.picked (picks_of s.level x) (all_picks bs trees)))));
  count = let i = w.count in let j = ap length es in let k = length-append shares (s ∷ []) in omega (arith, i, j, k);
}

-- the fork of a bounded premise
pub record IsPartFork (outline : Outline) (start stop b : ℕ) (fork : Fork) : Type 0 where
  pub level : fork.level ≡ b
  pub from : fork.from ≡ start
  pub first : fork.first ≡ span_or_none outline.spans.items start
  pub end : fork.end ≡ stop

pub bounded-step : (outline : Outline) (from next end b : ℕ) (first : List ℕ) (all : Parts) (ts us : List Tree) (more : List (Option Pick)) (old : List ℕ)
    (ls : List PartLine) (labels rest : List ℕ) (dealt dealt2 : List Part) (shares shares2 : List Share) (q : Part) (s : Share) (fork : Fork)
    → IsPartFork outline from end b fork → next ≡ (span_or_none outline.spans.items from).end → s.labels.items ≡ filter (goes_to_first outline.uses fork) labels
    → s.level ≡ b → rest ≡ filter (λ n. not (goes_to_first outline.uses fork n)) labels → part_line q ≡ Labels s.labels.items
    → dealt2 ≡ dealt ++ q ∷ [] → shares2 ≡ shares ++ s ∷ [] → PartsDealt outline from end b first all ts us more (Labels old ∷ ls) labels dealt shares
    → PartsDealt outline next end b first all ts us more ls rest dealt2 shares2
bounded-step outline from next end b first all ts us more old ls labels rest dealt dealt2 shares shares2 q s fork k e a lv o ql ed es w =
    step (cut-step (Labels old) ls w.trees w.parts us w.at.cut)
  where
    at_part : (trees : List Tree) (x : Tree) (qs : Parts) → cut_parts ls trees ≡ Cuts qs us
        → PartsAt outline from end b first all ts us more (Labels old ∷ ls) labels dealt shares (x ∷ trees) (BoundedPart old x qs)
        → PartsAt outline next end b first all ts us more ls rest dealt2 shares2 trees qs
    at_part trees x qs h z =
        let q1 : next ≡ from + nodes x = e ∙ ap (λ (y : Span). y.end) z.fits.0 in
        let q2 : fork.first.end ≡ from + nodes x = ap (λ (y : Span). y.end) (k.first ∙ z.fits.0) in
        let c1 = picks-count b x in let c2 = parts-count b qs in let kf = k.from in let ke = k.end in let ze = z.reach in
        let dr : drop fork.from outline.uses ≡ picks_of b x ++ (picks_of_parts b qs ++ more) =
        ap (λ j. drop j outline.uses) k.from ∙ (z.dropped ∙ append_assoc (picks_of b x) (picks_of_parts b qs) more) in
        let goes : (n : ℕ) → goes_to_first outline.uses fork n ≡ goes_to (uses n x) (uses_part n qs) (erases x) = λ n.
        fork-goes outline.uses (picks_of b x) (picks_of_parts b qs) more fork n dr (omega (arith, q2, c1, kf)) (omega (arith, q2, ke, ze, c2))
        ∙ (ap (λ u. goes_to u (list_any (is_pick n fork.level) (picks_of_parts b qs)) fork.first.erases)
        (ap (λ m. list_any (is_pick n m) (picks_of b x)) k.level ∙ picks-uses n b x)
        ∙ (ap (λ v. goes_to (uses n x) v fork.first.erases) (ap (λ m. list_any (is_pick n m) (picks_of_parts b qs)) k.level ∙ parts-uses n b qs)
        ∙ ap (λ y. goes_to (uses n x) (uses_part n qs) y) (ap (λ (y : Span). y.erases) (k.first ∙ z.fits.0)))) in
        let m1 : s.labels.items ≡ filter (λ n. goes_to (uses n x) (uses_part n qs) (erases x)) labels =
        a ∙ filter-same (goes_to_first outline.uses fork) (λ n. goes_to (uses n x) (uses_part n qs) (erases x)) goes labels in
        let m2 : rest ≡ filter (λ n. not (goes_to (uses n x) (uses_part n qs) (erases x))) labels =
        o ∙ filter-same (λ n. not (goes_to_first outline.uses fork n)) (λ n. not (goes_to (uses n x) (uses_part n qs) (erases x))) (λ n. ap not (goes n)) labels
        in
        one_more outline from next end b first all ts us more (Labels old) ls labels rest dealt dealt2 shares shares2 q s x trees (BoundedPart old x qs) qs h q1
        refl
        (ap (λ y. Labels y ∷ part_lines (deal_parts (filter (λ n. not (goes_to (uses n x) (uses_part n qs) (erases x))) labels) qs)) (sym m1)
        ∙ (ap (λ y. Labels s.labels.items ∷ part_lines (deal_parts y qs)) (sym m2) ∙ ap (λ y. y ∷ part_lines (deal_parts rest qs)) (sym ql)))
        (ap (λ y. lines (deal y x) ++ lines_of_parts (deal_parts (filter (λ n. not (goes_to (uses n x) (uses_part n qs) (erases x))) labels) qs)) (sym m1)
        ∙ ap (λ y. lines (deal s.labels.items x) ++ lines_of_parts (deal_parts y qs)) (sym m2))
        (ap (λ y. picks_of y x ++ picks_of_parts b qs) (sym lv)) ed es z

    step : IsCutStep (Labels old) ls w.trees w.parts us → PartsDealt outline next end b first all ts us more ls rest dealt2 shares2
    step c = record {
      trees = c.trees;
      parts = c.parts;
      at = at_part c.trees c.first c.parts c.cut
          (subst (λ y. PartsAt outline from end b first all ts us more (Labels old ∷ ls) labels dealt shares (c.first ∷ c.trees) y) c.is_parts
          (subst (λ y. PartsAt outline from end b first all ts us more (Labels old ∷ ls) labels dealt shares y w.parts) c.is_trees w.at));
    }

pub unbounded-step : (outline : Outline) (from next end b : ℕ) (first : List ℕ) (all : Parts) (ts us : List Tree) (more : List (Option Pick))
    (ls : List PartLine) (labels rest : List ℕ) (dealt dealt2 : List Part) (shares shares2 : List Share) (q : Part) (s : Share)
    → next ≡ (span_or_none outline.spans.items from).end → s.labels.items ≡ [] → s.level ≡ b + 1 → rest ≡ labels → part_line q ≡ Free
    → dealt2 ≡ dealt ++ q ∷ [] → shares2 ≡ shares ++ s ∷ [] → PartsDealt outline from end b first all ts us more (Free ∷ ls) labels dealt shares
    → PartsDealt outline next end b first all ts us more ls rest dealt2 shares2
unbounded-step outline from next end b first all ts us more ls labels rest dealt dealt2 shares shares2 q s e a lv o ql ed es w =
    step (cut-step Free ls w.trees w.parts us w.at.cut)
  where
    at_part : (trees : List Tree) (x : Tree) (qs : Parts) → cut_parts ls trees ≡ Cuts qs us
        → PartsAt outline from end b first all ts us more (Free ∷ ls) labels dealt shares (x ∷ trees) (UnboundedPart x qs)
        → PartsAt outline next end b first all ts us more ls rest dealt2 shares2 trees qs
    at_part trees x qs h z =
        let q1 : next ≡ from + nodes x = e ∙ ap (λ (y : Span). y.end) z.fits.0 in
        one_more outline from next end b first all ts us more Free ls labels rest dealt dealt2 shares shares2 q s x trees (UnboundedPart x qs) qs h q1 refl
        (ap (λ y. Free ∷ part_lines (deal_parts y qs)) (sym o) ∙ ap (λ y. y ∷ part_lines (deal_parts rest qs)) (sym ql))
        (ap (λ y. lines (deal y x) ++ lines_of_parts (deal_parts labels qs)) (sym a)
        ∙ ap (λ y. lines (deal s.labels.items x) ++ lines_of_parts (deal_parts y qs)) (sym o))
        (ap (λ y. picks_of y x ++ picks_of_parts b qs) (sym lv)) ed es z

    step : IsCutStep Free ls w.trees w.parts us → PartsDealt outline next end b first all ts us more ls rest dealt2 shares2
    step c = record {
      trees = c.trees;
      parts = c.parts;
      at = at_part c.trees c.first c.parts c.cut
          (subst (λ y. PartsAt outline from end b first all ts us more (Free ∷ ls) labels dealt shares (c.first ∷ c.trees) y) c.is_parts
          (subst (λ y. PartsAt outline from end b first all ts us more (Free ∷ ls) labels dealt shares y w.parts) c.is_trees w.at));
    }

pub dealt-end : (outline : Outline) (from end b : ℕ) (first : List ℕ) (all : Parts) (ts us : List Tree) (more : List (Option Pick)) (labels : List ℕ)
    (dealt : List Part) (shares : List Share) → PartsDealt outline from end b first all ts us more [] labels dealt shares
    → ArePartsDealt first b all dealt shares ts us
dealt-end outline from end b first all ts us more labels dealt shares w = step (cut-end w.trees w.parts us w.at.cut)
  where
    last : PartsAt outline from end b first all ts us more [] labels dealt shares us NoParts → ArePartsDealt first b all dealt shares ts us
    last z = record {
      lines = sym (append-nil (map part_line dealt)) ∙ z.lines;
      shown = λ ss. ap (λ ls. ls ++ all_dealt ss us) (sym z.dones ∙ append-nil z.done) ∙ sym (z.shown ss);
      picks = λ bs. ap (λ ps. ps ++ all_picks bs us) (sym z.picks ∙ append-nil z.picked) ∙ sym (z.seen bs);
      count = z.count;
    }

    step : IsCutEnd w.trees w.parts us → ArePartsDealt first b all dealt shares ts us
    step c = last (subst (λ y. PartsAt outline from end b first all ts us more [] labels dealt shares us y) c.parts
        (subst (λ y. PartsAt outline from end b first all ts us more [] labels dealt shares y w.parts) c.trees w.at))

twice : (xs : List Share) → reverse (reverse xs) ≡ xs
twice [] = refl
twice (x ∷ xs) = ap (λ ys. reverse ys) (reverse-append (x ∷ []) xs) ∙ (newest (reverse xs) x ∙ ap (λ ys. x ∷ ys) (twice xs))

pub clause-step : (n k : ℕ) (terms : List Term) (outline : Outline) (at : ℕ) (share : Share) (parts dealt : List Part) (shares old new : List Share)
    (labels : List ℕ) (end : ℕ) (ts vs : List Tree) → labels ≡ without n share.labels.items → end ≡ (span_or_none outline.spans.items at).end
    → new ≡ old ++ reverse shares
    → ((us : List Tree) (ps : Parts) (more : List (Option Pick)) → cut_parts (map part_line parts) ts ≡ Cuts ps us → SpansFit outline.spans.items (at + 1) ts
    → end ≡ at + 1 + part_nodes ps → drop (at + 1) outline.uses ≡ picks_of_parts share.level ps ++ more
    → ArePartsDealt labels share.level ps dealt shares ts us)
    → put (ClauseLine n k terms (map part_line parts)) ts ≡ Some vs → SpansFit outline.spans.items at vs → SpansFit outline.spans.items (at + 1) ts
    → drop at outline.uses ≡ all_picks (share.level ∷ levels (reverse old)) vs
    → IsNodeStep outline (at + 1) share old new (ClauseLine n k terms (map part_line dealt)) ts vs
clause-step n k terms outline at share parts dealt shares old new labels end ts vs e1 e2 e3 go h f1 f2 d =
    step (clause-made n k terms (map part_line parts) ts vs h)
  where
    step : IsClauseMade n k terms (map part_line parts) ts vs → IsNodeStep outline (at + 1) share old new (ClauseLine n k terms (map part_line dealt)) ts vs
    step m =
        let g1 : SpansFit outline.spans.items at (ClauseNode n k terms m.parts ∷ m.left) = subst (SpansFit outline.spans.items at) (sym m.is) f1 in
        let d1 = drop-next at outline.uses (picks_of_parts share.level m.parts ++ all_picks (levels (reverse old)) m.left)
        (Some (record { label = n; level = share.level })) (d ∙ ap (all_picks (share.level ∷ levels (reverse old))) (sym m.is)) in
        let q = ap (λ (z : Span). z.end) g1.0 in
        let g = go m.left m.parts (all_picks (levels (reverse old)) m.left) m.cut f2 (omega (arith, e2, q)) d1 in
        let r : reverse new ≡ shares ++ reverse old = ap reverse e3 ∙ (reverse-append old (reverse shares) ∙ ap (λ ss. ss ++ reverse old) (twice shares)) in
        subst (IsNodeStep outline (at + 1) share old new (ClauseLine n k terms (map part_line dealt)) ts) m.is (record {
          same =
              ap (λ (ds : List ℕ). ClauseLine n k terms (part_lines (deal_parts ds m.parts))
              ∷ (lines_of_parts (deal_parts ds m.parts) ++ all_dealt (reverse old) m.left)) (sym e1)
              ∙ (ap (λ ps. ClauseLine n k terms ps ∷ (lines_of_parts (deal_parts labels m.parts) ++ all_dealt (reverse old) m.left)) (sym g.lines)
              ∙ ap (λ ls. ClauseLine n k terms (map part_line dealt) ∷ ls) (g.shown (reverse old) ∙ ap (λ ss. all_dealt ss ts) (sym r)));
          picks =
              d1 ∙ (g.picks (levels (reverse old)) ∙ (ap (λ bs. all_picks bs ts) (sym (map-append (λ (z : Share). z.level) shares (reverse old)))
              ∙ ap (λ ss. all_picks (levels ss) ts) (sym r)));
          count = λ c. let i = g.count in let j = ap length e3 in let l = length-append old (reverse shares) in let o = length-reverse shares in
              omega (arith, c, i, j, l, o);
        })

-- ---- the labels that pass a test, one after the other

pub keep-step : (f : ℕ → Bool) (xs : List ℕ) (k : ℕ) (done more : List ℕ) (b : Bool) → k < length xs → f (get_or xs k 0) ≡ b
    → more ≡ cond b (done ++ get_or xs k 0 ∷ []) done → done ++ filter f (drop k xs) ≡ filter f xs → more ++ filter f (drop (k + 1) xs) ≡ filter f xs
keep-step f xs k done more b lt e m h = step b e m
  where
    dropped : drop k xs ≡ get_or xs k 0 ∷ drop (k + 1) xs
    dropped = let q : suc k ≡ k + 1 = omega arith in drop-cons xs k 0 lt ∙ ap (λ (i : ℕ). get_or xs k 0 ∷ drop i xs) q

    step : (b : Bool) → f (get_or xs k 0) ≡ b → more ≡ cond b (done ++ get_or xs k 0 ∷ []) done → more ++ filter f (drop (k + 1) xs) ≡ filter f xs
    step true e m =
        ap (λ ys. ys ++ filter f (drop (k + 1) xs)) m
        ∙ (append_assoc done (get_or xs k 0 ∷ []) (filter f (drop (k + 1) xs))
        ∙ (ap (λ c. done ++ cond c (get_or xs k 0 ∷ filter f (drop (k + 1) xs)) (filter f (drop (k + 1) xs))) (sym e)
        ∙ (ap (λ ys. done ++ filter f ys) (sym dropped) ∙ h)))
    step false e m =
        ap (λ ys. ys ++ filter f (drop (k + 1) xs)) m
        ∙ (ap (λ c. done ++ cond c (get_or xs k 0 ∷ filter f (drop (k + 1) xs)) (filter f (drop (k + 1) xs))) (sym e)
        ∙ (ap (λ ys. done ++ filter f ys) (sym dropped) ∙ h))

pub keep-end : (f : ℕ → Bool) (xs : List ℕ) (k : ℕ) (done : List ℕ) → length xs ≤ k → done ++ filter f (drop k xs) ≡ filter f xs → done ≡ filter f xs
keep-end f xs k done l h = sym (append-nil done) ∙ (ap (λ ys. done ++ filter f ys) (sym (drop_all k xs l)) ∙ h)

-- ---- the whole list

-- what is left to deal after some nodes
pub record DealLeft (ls : List Line) (x : Tree) (labels : List ℕ) (done : List Line) (pending : List Share) (left : List (Option Pick)) : Type 0 where
  pub trees : List Tree
  pub is : trees_of ls ≡ Some trees
  pub same : done ++ all_dealt (reverse pending) trees ≡ lines (deal labels x)
  pub picks : left ≡ all_picks (levels (reverse pending)) trees
  pub count : length pending ≡ length trees

pub deal-start : (ls : List Line) (x : Tree) (labels : List ℕ) (done : List Line) (pending : List Share) (picks : List (Option Pick)) (share : Share)
    → done ≡ [] → pending ≡ share ∷ [] → share.labels.items ≡ labels → picks ≡ picks_of share.level x → trees_of ls ≡ Some (x ∷ [])
    → DealLeft ls x labels done pending picks
deal-start ls x labels done pending picks share d e f p h = record {
  trees = x ∷ [];
  is = h;
  same = ap (λ ps. ps ++ all_dealt (reverse pending) (x ∷ [])) d
      ∙ (ap (λ ss. all_dealt (reverse ss) (x ∷ [])) e ∙ (append-nil (lines (deal share.labels.items x)) ∙ ap (λ ds. lines (deal ds x)) f));
  picks = p ∙ (sym (append-nil (picks_of share.level x)) ∙ ap (λ ss. all_picks (levels (reverse ss)) (x ∷ [])) (sym e));
  count = ap length e;
}

pub deal-step : (l l2 : Line) (ls : List Line) (x : Tree) (labels : List ℕ) (done more : List Line) (pending rest new : List Share) (top : Option Share)
    (share default : Share) (outline : Outline) (at : ℕ) → pending ≡ rest ++ option_to_list top → share ≡ unwrap_or top default → more ≡ done ++ l2 ∷ []
    → (0 < length pending → IsSome top)
    → ((ts : List Tree) → trees_of (l ∷ ls) ≡ Some ts → SpansFit outline.spans.items at ts)
    → ((ts : List Tree) → trees_of ls ≡ Some ts → SpansFit outline.spans.items (at + 1) ts)
    → ((ts vs : List Tree) → put l ts ≡ Some vs → SpansFit outline.spans.items at vs → SpansFit outline.spans.items (at + 1) ts
    → drop at outline.uses ≡ all_picks (share.level ∷ levels (reverse rest)) vs → IsNodeStep outline (at + 1) share rest new l2 ts vs)
    → DealLeft (l ∷ ls) x labels done pending (drop at outline.uses) → DealLeft ls x labels more new (drop (at + 1) outline.uses)
deal-step l l2 ls x labels done more pending rest new None share default outline at b e f v s1 s2 go w = let m = first-made l ls w.trees w.is in
    let k = w.count in let z = made-some l w.trees m.trees m.made in let q = v (omega (arith, k, z)) in cc
deal-step l l2 ls x labels done more pending rest new (Some a) share default outline at b e f v s1 s2 go w =
    let m = first-made l ls w.trees w.is in
    let r : reverse pending ≡ share ∷ reverse rest = ap reverse b ∙ (newest rest a ∙ ap (λ (i : Share). i ∷ reverse rest) (sym e)) in
    let s = go m.trees w.trees m.made (s1 w.trees w.is) (s2 m.trees m.is) (w.picks ∙ ap (λ ss. all_picks (levels ss) w.trees) r) in
    record {
      trees = m.trees;
      is = m.is;
      same = ap (λ ps. ps ++ all_dealt (reverse new) m.trees) f
          ∙ (append_assoc done (l2 ∷ []) (all_dealt (reverse new) m.trees)
          ∙ (ap (λ ps. done ++ ps) (sym s.same) ∙ (ap (λ ss. done ++ all_dealt ss w.trees) (sym r) ∙ w.same)));
      picks = s.picks;
      count = s.count (let j = ap length b in let i = length-append rest (a ∷ []) in let k = w.count in omega (arith, j, i, k));
    }

pub deal-end : (x : Tree) (labels : List ℕ) (done : List Line) (pending : List Share) (picks : List (Option Pick)) → DealLeft [] x labels done pending picks
    → done ≡ lines (deal labels x)
deal-end x labels done pending picks w = let e : [] ≡ w.trees = (let h = w.is in cc) in
    sym (append-nil done) ∙ (ap (λ ps. done ++ ps) (none (reverse pending)) ∙ (ap (λ ts. done ++ all_dealt (reverse pending) ts) e ∙ w.same))
  where
    none : (ss : List Share) → [] ≡ all_dealt ss []
    none [] = refl
    none (s ∷ ss) = refl

-- one rule more
pub deal-more : (bank : Nodes) (old : List Rule) (outline : Outline) (at : ℕ) (node dealt : Rule) (left : List Rule) (x : Tree) (labels : List ℕ)
    (done more : List Rule) (pending rest new : List Share) (top : Option Share) (share default : Share) → AreSpans old outline.spans.items
    → drop at old ≡ node ∷ left
    → pending ≡ rest ++ option_to_list top → share ≡ unwrap_or top default → (0 < length pending → IsSome top) → GivesRule outline at node share rest new dealt
    → more ≡ done ++ dealt ∷ []
    → DealLeft (map (line_of bank) (node ∷ left)) x labels (map (line_of bank) done) pending (drop at outline.uses)
    → DealLeft (map (line_of bank) left) x labels (map (line_of bank) more) new (drop (at + 1) outline.uses)
deal-more bank old outline at node dealt left x labels done more pending rest new top share default spans dr b e v gives m w =
    let nx : drop (at + 1) old ≡ left = sym (drop-drop 1 at old) ∙ ap (drop 1) dr in
    deal-step (line_of bank node) (line_of bank dealt) (map (line_of bank) left) x labels (map (line_of bank) done) (map (line_of bank) more) pending rest new
    top share default outline at b e
    (ap (map (line_of bank)) m ∙ map-append (line_of bank) done (dealt ∷ [])) v
    (λ ts k. spans bank at ts (ap trees_of (drop-map (line_of bank) at old ∙ ap (map (line_of bank)) dr) ∙ k))
    (λ ts k. spans bank (at + 1) ts (ap trees_of (drop-map (line_of bank) (at + 1) old ∙ ap (map (line_of bank)) nx) ∙ k))
    (λ ts vs p f1 f2 d. gives bank ts vs p f1 f2 d) w

pub given-tensor : (outline : Outline) (at : ℕ) (rule : Rule) (share : Share) (old new : List Share) (dealt : Rule) (s t : Vec ℕ Global) → rule ≡ Tensor s t
    → GivesTensor outline at share old new dealt → GivesRule outline at rule share old new dealt
given-tensor outline at rule share old new dealt s t e g = λ bank ts vs h f1 f2 d.
    g s.items t.items bank ts vs (subst (λ (r : Rule). put (line_of bank r) ts ≡ Some vs) e h) f1 f2 d

pub given-anywhere : (outline : Outline) (at : ℕ) (rule : Rule) (share : Share) (old new : List Share) (dealt : Rule) (l : Line)
    → ((bank : Nodes) → line_of bank rule ≡ l) → GivesAnywhere l share old new dealt → GivesRule outline at rule share old new dealt
given-anywhere outline at rule share old new dealt l e g = λ bank ts vs h f1 f2 d.
    g outline at bank ts vs (subst (λ (x : Line). put x ts ≡ Some vs) (e bank) h) f1 f2 d
