-- The lines of a derivation's text are those of the text, and no node lacks in them.
use Rattle.std.proofs.Common.{◌≡◌, ℕ, suc, ◌+◌, ◌<◌, ◌^◌, Bool, true, false, List, [], ◌∷◌, ◌++◌, length, map, All, refl, ap, sym, ◌∙◌, arith, decimal, codes}
use Rattle.std.proofs.Common.{append_assoc, append-nil, inl, inr, Option, Some, None, FitsSigned, ℤ, pos, negsuc}
use Rattle.std.specs.Prelude.{◌⊎◌, ◌==◌, option_and_then}
use Rattle.std.specs.Fmt.{signed_decimal}
use Rattle.std.specs.Int.{w64}
use Rattle.std.specs.List.{list_all, flat_map}
use Rattle.std.proofs.lemmas.Bool.{ne_eqb}
use Rattle.std.proofs.lemmas.Bool.Decides.{nat_tests}
use Rattle.std.proofs.lemmas.List.{append_cancel_right}
use Rattle.std.proofs.lemmas.List.Concat.{flat_map-append}
use Rattle.std.proofs.lemmas.List.Elements.{All-head, All-tail}
use Rattle.std.proofs.lemmas.List.Folds.{list_all-append}
use Rattle.ll_list_laws.proofs.CallerLemmas.{and_true_both as both}
use Rattle.ll_bank.specs.Term.{Term}
use Rattle.ll_lexer.specs.Spelling.{is_name, is_lower, is_word_byte}
use Rattle.ll_laws.specs.Shows.{Tree, OneNode, EraseNode, TensorNode, WithNode, LeftNode, RightNode, BangNode, LolliNode, ImpNode, ForallNode, ExistsNode}
use Rattle.ll_laws.specs.Shows.{UseNode, ClauseNode, NumNode, Parts}
use Rattle.ll_laws.specs.Line.{PartLine, Labels, Free, Line, OneLine, EraseLine, TensorLine, WithLine, LeftLine, RightLine, BangLine, UseLine, LolliLine}
use Rattle.ll_laws.specs.Line.{ImpLine, ForallLine, ExistsLine, ClauseLine, NumLine, Cut, Short, Cuts, add_part, cut_parts, put_clause, put, trees_of}
use Rattle.ll_laws.specs.Line.{DerivationLines}
use Rattle.ll_laws.specs.Output.{line as with_end, term_text, argument_text}
use Rattle.ll_laws.specs.ProofText.{field, labels_text, set_text, term_field, part_field, node_text, proof_text}
use Rattle.ll_prooftext.specs.Admitted.{AreLabels, IsSpelledTerm, IsSpelledPart, IsSpelledLine}
use Rattle.ll_prooftext.specs.Reading.{text_lines, children, missing, Begins, IsTextOf}
use Rattle.ll_prooftext.specs.Words.{is_not}
use Rattle.ll_prooftext.specs.Terms.{Shape, Wanted, Bare, Applied, Closed, name, eigen, variable, number, IsWord, Frame, frame, FirstWay, first_bracket}
use Rattle.ll_prooftext.specs.Terms.{first_word, PartWay, bracket, word, sign, whole, argument, item, WaysOn, Accepts, closed, goes}
use Rattle.ll_prooftext.proofs.spelling.Numerals.{mag_small}
use Rattle.ll_prooftext.proofs.reading.Labels.{decimal_not, labels_avoid}
use Rattle.ll_prooftext.proofs.spelling.Spellings.{name_shaped}
use Rattle.ll_prooftext.proofs.reading.LinesRead.{lines_more, lines_last}
use Rattle.ll_prooftext.proofs.unambiguous.OneVerdict.{clause_text}
use Rattle.ll_prooftext.proofs.unambiguous.OneField.{IsForm, plain, bracketed, form}

-- ---- trees and nodes

-- trees were made of so many more than a number
record ArePut (c : ℕ) (ts us : List Tree) : Type 0 where
  pub others : ℕ
  pub many : length us ≡ suc others
  pub from : length ts ≡ c + others

put_one : (c : ℕ) (y : Tree) (rest ts us : List Tree) → Some (y ∷ rest) ≡ Some us → length ts ≡ c + length rest → ArePut c ts us
put_one c y rest ts us e f = record { others = length rest; many = ap length (let q : us ≡ y ∷ rest = cc in q); from = f }

cut_back : (ps : List PartLine) (ts : List Tree) (parts : Parts) (others : List Tree) → cut_parts ps ts ≡ Cuts parts others
    → length ts ≡ length ps + length others
cut_back [] ts parts others e = let q : ts ≡ others = cc in let l = ap length q in omega arith
cut_back (p ∷ ps) [] parts others e = absurd cc
cut_back (p ∷ ps) (t ∷ ts) parts others e = by_cut p (cut_parts ps ts) refl e (λ q us f. cut_back ps ts q us f)
  where
    front : (us : List Tree) → length ts ≡ length ps + length us → us ≡ others → length (t ∷ ts) ≡ length (p ∷ ps) + length others
    front us l g = let m = ap length g in omega arith

    by_cut : (r : PartLine) (c : Cut) → cut_parts ps ts ≡ c → add_part r t c ≡ Cuts parts others
        → ((q : Parts) (us : List Tree) → cut_parts ps ts ≡ Cuts q us → length ts ≡ length ps + length us) → length (t ∷ ts) ≡ length (p ∷ ps) + length others
    by_cut (Labels s) Short f g ih = absurd cc
    by_cut Free Short f g ih = absurd cc
    by_cut (Labels s) (Cuts q us) f g ih = front us (ih q us f) cc
    by_cut Free (Cuts q us) f g ih = front us (ih q us f) cc

put_back : (n : Line) (ts us : List Tree) → put n ts ≡ Some us → ArePut (children n) ts us
put_back OneLine ts us e = put_one 0 OneNode ts ts us e (omega arith)
put_back EraseLine ts us e = put_one 0 EraseNode ts ts us e (omega arith)
put_back NumLine ts us e = put_one 0 NumNode ts ts us e (omega arith)
put_back (TensorLine s t) [] us e = absurd cc
put_back (TensorLine s t) (x ∷ []) us e = absurd cc
put_back (TensorLine s t) (x ∷ y ∷ ts) us e = put_one 2 (TensorNode s t x y) ts (x ∷ y ∷ ts) us e (omega arith)
put_back WithLine [] us e = absurd cc
put_back WithLine (x ∷ []) us e = absurd cc
put_back WithLine (x ∷ y ∷ ts) us e = put_one 2 (WithNode x y) ts (x ∷ y ∷ ts) us e (omega arith)
put_back LeftLine [] us e = absurd cc
put_back LeftLine (x ∷ ts) us e = put_one 1 (LeftNode x) ts (x ∷ ts) us e (omega arith)
put_back RightLine [] us e = absurd cc
put_back RightLine (x ∷ ts) us e = put_one 1 (RightNode x) ts (x ∷ ts) us e (omega arith)
put_back BangLine [] us e = absurd cc
put_back BangLine (x ∷ ts) us e = put_one 1 (BangNode x) ts (x ∷ ts) us e (omega arith)
put_back UseLine [] us e = absurd cc
put_back UseLine (x ∷ ts) us e = put_one 1 (UseNode x) ts (x ∷ ts) us e (omega arith)
put_back (LolliLine n) [] us e = absurd cc
put_back (LolliLine n) (x ∷ ts) us e = put_one 1 (LolliNode n x) ts (x ∷ ts) us e (omega arith)
put_back (ImpLine n) [] us e = absurd cc
put_back (ImpLine n) (x ∷ ts) us e = put_one 1 (ImpNode n x) ts (x ∷ ts) us e (omega arith)
put_back (ForallLine n) [] us e = absurd cc
put_back (ForallLine n) (x ∷ ts) us e = put_one 1 (ForallNode n x) ts (x ∷ ts) us e (omega arith)
put_back (ExistsLine t) [] us e = absurd cc
put_back (ExistsLine t) (x ∷ ts) us e = put_one 1 (ExistsNode t x) ts (x ∷ ts) us e (omega arith)
put_back (ClauseLine n k ws ps) ts us e = by_cut (cut_parts ps ts) refl e
  where
    by_cut : (c : Cut) → cut_parts ps ts ≡ c → put_clause n k ws c ≡ Some us → ArePut (length ps) ts us
    by_cut Short f g = absurd cc
    by_cut (Cuts parts others) f g = put_one (length ps) (ClauseNode n k ws parts) others ts us g (cut_back ps ts parts others f)

-- nodes that make so many trees lack no node, where so many are wanted
pub trees_missing : (ns : List Line) (ts : List Tree) → trees_of ns ≡ Some ts → missing (length ts) ns ≡ Some 0
trees_missing [] ts e = ap (λ z. Some z) (let q : ts ≡ [] = cc in ap length q)
trees_missing (n ∷ ns) us e = by_trees (trees_of ns) refl e (λ ts f. trees_missing ns ts f)
  where
    by_trees : (o : Option (List Tree)) → trees_of ns ≡ o → option_and_then (put n) o ≡ Some us
        → ((ts : List Tree) → trees_of ns ≡ Some ts → missing (length ts) ns ≡ Some 0) → missing (length us) (n ∷ ns) ≡ Some 0
    by_trees None f g ih = absurd cc
    by_trees (Some ts) f g ih =
        let p = put_back n ts us g in
        ap (λ z. missing z (n ∷ ns)) p.many ∙ (ap (λ z. missing z ns) (sym p.from) ∙ ih ts f)

-- ---- no LF

abbrev pub HasNoEnd : List ℕ → Type 0
HasNoEnd w = list_all (is_not 10) w ≡ true

pub joined : (a b : List ℕ) → HasNoEnd a → HasNoEnd b → HasNoEnd (a ++ b)
joined a b h l = list_all-append (is_not 10) a b ∙ (rw (h, l) refl)

higher : (b : ℕ) → 10 < b → is_not 10 b ≡ true
higher b h = let e : (b == 10) ≡ false = ne_eqb b 10 (λ q. omega arith) in rw e refl

lower_high : (b : ℕ) → is_lower b ≡ true → 10 < b
unfolding is_lower
lower_high b h = grind (arith, nat_tests)

word_high : (b : ℕ) → is_word_byte b ≡ true → 10 < b
unfolding is_word_byte
word_high b h = grind (arith, nat_tests)

words_free : (w : List ℕ) → list_all is_word_byte w ≡ true → HasNoEnd w
words_free [] h = refl
words_free (b ∷ w) h = let k = both (is_word_byte b) (list_all is_word_byte w) h in let a = higher b (word_high b k.0) in let t = words_free w k.1 in
    rw (a, t) refl

name_free : (w : List ℕ) → is_name w ≡ true → HasNoEnd w
name_free [] h = refl
name_free (b ∷ w) h = let k = both (is_lower b) (list_all is_word_byte w) h in let a = higher b (lower_high b k.0) in let t = words_free w k.1 in rw (a, t) refl

pub number_free : (n : ℕ) → n < 2 ^ 64 → HasNoEnd (decimal n)
number_free n h = decimal_not 10 n h (inl (omega arith))

pub small_free : (n : ℕ) → n < 2 ^ 32 → HasNoEnd (decimal n)
small_free n h = number_free n (omega arith)

signed_free : (z : ℤ) → FitsSigned w64 z → HasNoEnd (signed_decimal z)
signed_free (pos n) f = let l : n < 2 ^ 63 = mag_small (pos n) f in number_free n (omega arith)
signed_free (negsuc n) f = let l : n < 2 ^ 63 = mag_small (negsuc n) f in number_free (suc n) (omega arith)

pub word_free : (w : List ℕ) (p : Shape) → IsWord w p → HasNoEnd w
word_free w Wanted i = absurd i
word_free w Applied i = absurd i
word_free w Bare (name p) = name_free w (name_shaped w p.spelled)
word_free w Bare (eigen n e i) = ap (list_all (is_not 10)) (e ∙ ap (λ z. 35 ∷ z) i.is) ∙ small_free i.number i.small
word_free w Closed (variable n e i) = ap (list_all (is_not 10)) (e ∙ ap (λ z. 63 ∷ z) i.is) ∙ number_free i.number i.small
word_free w Closed (number i) = ap (list_all (is_not 10)) i.is ∙ signed_free i.value i.fits

first_free : (c : Bool) (fs : List Frame) (bytes : List ℕ) (gs : List Frame) (left : List ℕ) → FirstWay c fs bytes gs left → HasNoEnd left → HasNoEnd bytes
first_free c fs bytes gs left (first_bracket e h) l = ap (list_all (is_not 10)) e ∙ l
first_free c fs bytes gs left (first_word w p i s e h) l = ap (list_all (is_not 10)) e ∙ joined w left (word_free w p i) l

part_free : (c : Bool) (p : Shape) (fs : List Frame) (bytes : List ℕ) (gs : List Frame) (left : List ℕ) → PartWay c p fs bytes gs left → HasNoEnd left
    → HasNoEnd bytes
part_free c p fs bytes gs left (bracket t e h) l = ap (list_all (is_not 10)) e ∙ l
part_free c p fs bytes gs left (word t w q i s e h) l = ap (list_all (is_not 10)) e ∙ joined w left (word_free w q i) l
part_free c p fs bytes gs left (sign e h) l = ap (list_all (is_not 10)) e ∙ l
part_free c p fs bytes gs left (whole t n e h) l = ap (list_all (is_not 10)) e ∙ l
part_free c p fs bytes gs left (argument t d q hs n u e h) l = ap (list_all (is_not 10)) e ∙ l
part_free c p fs bytes gs left (item t d hs n e h) l = ap (list_all (is_not 10)) e ∙ l

way_free : (fs : List Frame) (bytes : List ℕ) (gs : List Frame) (left : List ℕ) → WaysOn fs bytes gs left → HasNoEnd left → HasNoEnd bytes
way_free [] bytes gs left w l = absurd w
way_free (frame c Wanted ∷ fs) bytes gs left w l = first_free c fs bytes gs left w l
way_free (frame c Bare ∷ fs) bytes gs left w l = part_free c Bare fs bytes gs left w l
way_free (frame c Applied ∷ fs) bytes gs left w l = part_free c Applied fs bytes gs left w l
way_free (frame c Closed ∷ fs) bytes gs left w l = part_free c Closed fs bytes gs left w l

accepted_free : (end : List ℕ) (fs : List Frame) (bytes : List ℕ) → Accepts end fs bytes → HasNoEnd end → HasNoEnd bytes
accepted_free end fs bytes (closed e b) h = ap (list_all (is_not 10)) b ∙ h
accepted_free end fs bytes (goes gs left w a) h = way_free fs bytes gs left w (accepted_free end gs left a h)

form_free : (text : List ℕ) → IsForm text → HasNoEnd text
form_free text (plain p i) = word_free text p i
form_free text (bracketed u e a) = ap (list_all (is_not 10)) e ∙ accepted_free [] _ (u ++ 41 ∷ []) (a []) refl

term_free : (names : List (List ℕ)) (t : Term) → IsSpelledTerm names t → HasNoEnd (term_field names t)
term_free names t s = form_free (argument_text t (term_text names t)) (form names t s)

set_free : (ns : List ℕ) → AreLabels ns → HasNoEnd (field (set_text ns))
set_free ns a = joined (labels_text ns) (125 ∷ []) (labels_avoid 10 (inl (omega arith)) refl ns a) refl

terms_free : (names : List (List ℕ)) (ts : List Term) → All (IsSpelledTerm names) ts → HasNoEnd (flat_map (term_field names) ts)
terms_free names [] a = refl
terms_free names (t ∷ ts) a = joined (term_field names t) (flat_map (term_field names) ts) (term_free names t (All-head (IsSpelledTerm names) t ts a))
    (terms_free names ts (All-tail (IsSpelledTerm names) t ts a))

pub parts_free : (ps : List PartLine) → All IsSpelledPart ps → HasNoEnd (flat_map part_field ps)
parts_free [] a = refl
parts_free (Labels s ∷ ps) a = joined (field (set_text s)) (flat_map part_field ps) (set_free s (All-head IsSpelledPart (Labels s) ps a))
    (parts_free ps (All-tail IsSpelledPart (Labels s) ps a))
parts_free (Free ∷ ps) a = parts_free ps (All-tail IsSpelledPart Free ps a)

-- ---- lines

-- a line that a text can hold, and some bytes
abbrev pub IsFull : List ℕ → Type 0
IsFull w = HasNoEnd w × (w ≡ [] → ⊥)

pub full : (b : ℕ) (w : List ℕ) → b ∷ w ≡ [] → ⊥
full b w e = cc

pub node_full : (names : List (List ℕ)) (x : Line) → IsSpelledLine names x → IsFull (node_text names x)
node_full names OneLine s = (refl, full _ _)
node_full names EraseLine s = (refl, full _ _)
node_full names WithLine s = (refl, full _ _)
node_full names LeftLine s = (refl, full _ _)
node_full names RightLine s = (refl, full _ _)
node_full names BangLine s = (refl, full _ _)
node_full names UseLine s = (refl, full _ _)
node_full names NumLine s = (refl, full _ _)
node_full names (TensorLine s t) a = (joined (field (set_text s)) (field (set_text t)) (set_free s a.0) (set_free t a.1), full _ _)
node_full names (LolliLine n) s = (small_free n s, full _ _)
node_full names (ImpLine n) s = (small_free n s, full _ _)
node_full names (ForallLine n) s = (small_free n s, full _ _)
node_full names (ExistsLine t) s = (term_free names t s, full _ _)
node_full names (ClauseLine n k ts ps) s =
    let behind = flat_map (term_field names) ts ++ flat_map part_field ps in
    let f = joined (flat_map (term_field names) ts) (flat_map part_field ps) (terms_free names ts s.1.1.0) (parts_free ps s.1.1.1) in
    let g = joined (decimal n) (field (decimal k) ++ behind) (small_free n s.0) (joined (decimal k) behind (small_free k s.1.0) f) in
    (ap (list_all (is_not 10)) (clause_text names n k ts ps) ∙ g, full _ _)

abbrev pub AreFull : List (List ℕ) → Type 0
AreFull [] = Unit {0}
AreFull (l ∷ ls) = IsFull l × AreFull ls

nodes_full : (names : List (List ℕ)) (xs : List Line) → All (IsSpelledLine names) xs → AreFull (map (node_text names) xs ++ [])
nodes_full names [] a = tt
nodes_full names (x ∷ xs) a = (node_full names x (All-head (IsSpelledLine names) x xs a), nodes_full names xs (All-tail (IsSpelledLine names) x xs a))

lets_full : (names : List (List ℕ)) (ts : List Term) (rest : List (List ℕ)) → All (IsSpelledTerm names) ts → AreFull rest
    → AreFull (map (λ t. codes "let" ++ term_field names t) ts ++ rest)
lets_full names [] rest a f = f
lets_full names (t ∷ ts) rest a f = (
  (term_free names t (All-head (IsSpelledTerm names) t ts a), full _ _),
  lets_full names ts rest (All-tail (IsSpelledTerm names) t ts a) f,
)

-- lines with their ends are taken apart again
pub lines_of_ended : (ls : List (List ℕ)) → AreFull ls → text_lines (flat_map with_end ls) ≡ ls
lines_of_ended [] f = refl
lines_of_ended (l ∷ ls) f =
    ap text_lines (append_assoc l (10 ∷ []) (flat_map with_end ls)) ∙ (lines_more l (flat_map with_end ls) f.0.0 ∙ ap (λ z. l ∷ z) (lines_of_ended ls f.1))

-- a text that lacks its last LF begins with a line and one
record IsCutAt (text l rest : List ℕ) : Type 0 where
  pub others : List ℕ
  pub is : text ≡ l ++ 10 ∷ others
  pub end : others ++ 10 ∷ [] ≡ rest

filled : (l rest : List ℕ) → [] ≡ l ++ 10 ∷ rest → ⊥
filled [] rest e = cc
filled (b ∷ l) rest e = cc

cut_line : (l text rest : List ℕ) → text ++ 10 ∷ [] ≡ l ++ 10 ∷ rest → (rest ≡ [] → ⊥) → IsCutAt text l rest
cut_line [] [] rest e f = absurd (f cc)
cut_line [] (t ∷ ts) rest e f = record { others = ts; is = ap (λ z. z ∷ ts) (let q : t ≡ 10 = cc in q); end = cc }
cut_line (c ∷ l) [] rest e f = absurd (filled l rest (let q : [] ≡ l ++ 10 ∷ rest = cc in q))
cut_line (c ∷ l) (t ∷ ts) rest e f =
    let tails : ts ++ 10 ∷ [] ≡ l ++ 10 ∷ rest = cc in
    let heads : t ≡ c = cc in
    let k = cut_line l ts rest tails f in
    record { others = k.others; is = ap (λ z. z ∷ ts) heads ∙ ap (λ z. c ∷ z) k.is; end = k.end }

ended_full : (l : List ℕ) (rest : List ℕ) → with_end l ++ rest ≡ [] → ⊥
ended_full [] rest e = cc
ended_full (b ∷ l) rest e = cc

nothing_ends : (text : List ℕ) → text ++ 10 ∷ [] ≡ [] → ⊥
nothing_ends [] e = cc
nothing_ends (b ∷ bs) e = cc

pub lines_of_open : (ls : List (List ℕ)) (text : List ℕ) → AreFull ls → text ++ 10 ∷ [] ≡ flat_map with_end ls → text_lines text ≡ ls
lines_of_open [] text f e = absurd (nothing_ends text e)
lines_of_open (l ∷ []) text f e =
    let q : text ≡ l = append_cancel_right text l (10 ∷ []) (e ∙ append-nil (with_end l)) in
    ap text_lines q ∙ lines_last l f.0.0 f.0.1
lines_of_open (l ∷ m ∷ ls) text f e =
    let behind = flat_map with_end (m ∷ ls) in
    let k = cut_line l text behind (e ∙ append_assoc l (10 ∷ []) behind) (ended_full m (flat_map with_end ls)) in
    ap text_lines k.is ∙ (lines_more l k.others f.0.0 ∙ ap (λ z. l ∷ z) (lines_of_open (m ∷ ls) k.others f.1 k.end))

-- ---- texts of derivations

ended_map : {X : Type 0} (f : X → List ℕ) (xs : List X) → flat_map with_end (map f xs) ≡ flat_map (λ x. with_end (f x)) xs
ended_map f [] = refl
ended_map f (x ∷ xs) = ap (λ z. with_end (f x) ++ z) (ended_map f xs)

abbrev pub lines_of : List (List ℕ) → DerivationLines → List (List ℕ)
lines_of names d = codes "proof 1" ∷ (map (λ t. codes "let" ++ term_field names t) d.asked ++ (map (node_text names) d.nodes ++ []))

proof_ended : (names : List (List ℕ)) (d : DerivationLines) → flat_map with_end (lines_of names d) ≡ proof_text names d
proof_ended names d =
    let ls = map (λ (t : Term). codes "let" ++ term_field names t) d.asked in
    let ns = map (node_text names) d.nodes in
    ap (λ z. with_end (codes "proof 1") ++ flat_map with_end (ls ++ z)) (append-nil ns)
    ∙ (ap (λ z. with_end (codes "proof 1") ++ z) (flat_map-append with_end ls ns)
    ∙ (ap (λ z. with_end (codes "proof 1") ++ (z ++ flat_map with_end ns)) (ended_map (λ (t : Term). codes "let" ++ term_field names t) d.asked)
    ∙ (ap (λ z. with_end (codes "proof 1") ++ (flat_map (λ (t : Term). with_end (codes "let" ++ term_field names t)) d.asked ++ z))
    (ended_map (node_text names) d.nodes)
    ∙ sym (append_assoc (with_end (codes "proof 1")) (flat_map (λ (t : Term). with_end (codes "let" ++ term_field names t)) d.asked)
    (flat_map (λ (n : Line). with_end (node_text names n)) d.nodes)))))

lines_is : (names : List (List ℕ)) (text : List ℕ) (d : DerivationLines) → AreFull (lines_of names d)
    → (text ≡ proof_text names d) ⊎ (text ++ 10 ∷ [] ≡ proof_text names d) → text_lines text ≡ lines_of names d
lines_is names text d f (inl e) = ap text_lines (e ∙ sym (proof_ended names d)) ∙ lines_of_ended (lines_of names d) f
lines_is names text d f (inr e) = lines_of_open (lines_of names d) text f (e ∙ sym (proof_ended names d))

-- the text of a derivation is its lines
pub its_lines : (names : List (List ℕ)) (text : List ℕ) (d : DerivationLines) → IsTextOf names text d → text_lines text ≡ lines_of names d
its_lines names text d t =
    lines_is names text d (
      (refl, full _ _),
      lets_full names d.asked (map (node_text names) d.nodes ++ []) t.spelled.asked
          (nodes_full names d.nodes t.spelled.nodes),
    ) t.is

-- and lacks no node
pub text_begins : (names : List (List ℕ)) (text : List ℕ) (d : DerivationLines) → IsTextOf names text d → Begins (text_lines text) [] 0
text_begins names text d t = record {
  names = names;
  asked = d.asked;
  nodes = d.nodes;
  is = its_lines names text d t;
  closed = t.spelled.whole.asked;
  ordered = t.spelled.whole.nodes;
  spelled_terms = t.spelled.asked;
  spelled_nodes = t.spelled.nodes;
  still = trees_missing d.nodes (t.spelled.whole.tree ∷ []) t.spelled.whole.is_tree;
}
