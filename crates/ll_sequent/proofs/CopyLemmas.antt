-- Copies of the terms of a derivation, in a bank that grows.
use Rattle.std.proofs.Common.{◌≡◌, ℕ, suc, ◌<◌, ◌≤◌, refl, sym, subst, List, [], ◌∷◌, ◌++◌, map, length, get_or, All, inl, inr, ap, ◌∙◌, arith}
use Rattle.std.proofs.Common.{Vec, Global}
use Rattle.std.proofs.Math.ListN.{get_or-append}
use Rattle.std.proofs.lemmas.Bool.{cases_lt}
use Rattle.std.proofs.lemmas.List.{length_push, get_or_push}
use Rattle.std.proofs.lemmas.List.Elements.{All-map, All-weaker}
use Rattle.ll_bank.specs.declared.At.{At}
use Rattle.ll_bank.specs.Nodes.{Nodes, term_tree, term_trees, HasTerm, AllInTerms, ShowsTerm, Extends}
use Rattle.ll_bank.proofs.CallerLemmas.{term_tree-extends, term_trees-extends, ShowsTerm-extends}
use Rattle.ll_laws.specs.declared.Part.{Part}
use Rattle.ll_laws.specs.declared.Rule.{Rule}
use Rattle.ll_laws.specs.declared.Rule.TheVariants.{One, Erase, Tensor, With, Left, Right, Bang, Lolli, Imp, Forall, Exists, Use, Clause, Num}
use Rattle.ll_laws.specs.Line.{ExistsLine, ClauseLine}
use Rattle.ll_laws.specs.ShownLines.{part_line, line_of}
use Rattle.ll_sequent.specs.Copied.{AreCopies, AreBelow, IsLineBelow, copied_places, copied_line}

-- ---- places below a number

pub below_more : (n m : ℕ) → n ≤ m → (places : List At) → AreBelow n places → AreBelow m places
below_more n m l places h = All-weaker (λ (a : At). a.0 < n) (λ (a : At). a.0 < m) (λ a k. omega arith) places h

pub line_below_more : (n m : ℕ) → n ≤ m → (r : Rule) → IsLineBelow n r → IsLineBelow m r
line_below_more n m l (Exists t) h = omega arith
line_below_more n m l (Clause k i ts ps) h = below_more n m l ts.items h
line_below_more n m l One h = tt
line_below_more n m l Erase h = tt
line_below_more n m l (Tensor s t) h = tt
line_below_more n m l With h = tt
line_below_more n m l Left h = tt
line_below_more n m l Right h = tt
line_below_more n m l Bang h = tt
line_below_more n m l (Lolli k) h = tt
line_below_more n m l (Imp k) h = tt
line_below_more n m l (Forall k) h = tt
line_below_more n m l Use h = tt
line_below_more n m l Num h = tt

-- a rule that has no terms
pub line_free : (n : ℕ) (r : Rule) → ((t : At) → r ≡ Exists t → ⊥)
    → ((k i : ℕ) (ts : Vec At Global) (ps : Vec Part Global) → r ≡ Clause k i ts ps → ⊥) → IsLineBelow n r
line_free n (Exists t) a b = absurd (a t refl)
line_free n (Clause k i ts ps) a b = absurd (b k i ts ps refl)
line_free n One a b = tt
line_free n Erase a b = tt
line_free n (Tensor s t) a b = tt
line_free n With a b = tt
line_free n Left a b = tt
line_free n Right a b = tt
line_free n Bang a b = tt
line_free n (Lolli k) a b = tt
line_free n (Imp k) a b = tt
line_free n (Forall k) a b = tt
line_free n Use a b = tt
line_free n Num a b = tt

pub lines_below_more : (n m : ℕ) → n ≤ m → (rs : List Rule) → All (IsLineBelow n) rs → All (IsLineBelow m) rs
lines_below_more n m l rs h = All-weaker (IsLineBelow n) (IsLineBelow m) (line_below_more n m l) rs h

-- ---- copies

-- copies stay as the bank grows
pub copies_stay : {old new : Nodes} → Extends old new → (terms : Nodes) (copies : List At) → AreCopies terms old copies → AreCopies terms new copies
copies_stay keeps terms copies h = λ at d l. ShowsTerm-extends keeps (h at d l)

-- one copy more
pub copies_more : (terms old new : Nodes) → Extends old new → (copies : List At) (copy : At) → AreCopies terms old copies
    → ShowsTerm new copy.0 (term_tree terms (length copies)) → AreCopies terms new (copies ++ copy ∷ [])
copies_more terms old new keeps copies copy h s = λ at d m. elim (cases_lt at (length copies)) [
  | inl k ↦ subst (λ (a : At). ShowsTerm new a.0 (term_tree terms at)) (sym (get_or-append copies (copy ∷ []) d at k)) (copies_stay keeps terms copies h at d k)
  | inr k ↦
      let e : length copies ≡ at = (let q = length_push copies copy in omega arith) in
      subst (λ (a : At). ShowsTerm new a.0 (term_tree terms at)) (sym (get_or_push copies copy d at e))
      (subst (λ i. ShowsTerm new copy.0 (term_tree terms i)) e s)
]

-- copies are places of the bank
pub copies_inside : (terms bank : Nodes) (copies : List At) → AreCopies terms bank copies → AllInTerms bank copies
copies_inside terms bank copies h = λ k d l. (h k d l).inside

-- so are those of some places
pub copied_inside : (bank : Nodes) (copies places : List At) → AllInTerms bank copies → AreBelow (length copies) places
    → AllInTerms bank (copied_places copies places)
copied_inside bank copies places h b =
    All-map (λ (a : At). HasTerm bank a.0) (λ (a : At). get_or copies a.0 a) places
    (All-weaker (λ (a : At). a.0 < length copies) (λ (a : At). HasTerm bank (get_or copies a.0 a).0) (λ a l. h a.0 a l) places b)

-- they show the terms of the places
pub copied_trees : (terms bank : Nodes) (copies : List At) → AreCopies terms bank copies → (places : List At) → AreBelow (length copies) places
    → term_trees bank (copied_places copies places) ≡ term_trees terms places
copied_trees terms bank copies h [] b = refl
copied_trees terms bank copies h (a ∷ places) b = λ i. (h a.0 a (b 0 a (omega arith))).tree i
    ∷ copied_trees terms bank copies h places (λ k d l. b (suc k) d (omega arith)) i

-- ---- lines

-- the line of a rule with copies of its terms is the rule's
pub copied_same : (terms bank : Nodes) (copies : List At) → AreCopies terms bank copies → (r : Rule) → IsLineBelow (length copies) r
    → copied_line bank copies r ≡ line_of terms r
copied_same terms bank copies h (Exists t) b = ap ExistsLine (h t.0 t b).tree
copied_same terms bank copies h (Clause n k ts ps) b = ap (λ xs. ClauseLine n k xs (map part_line ps.items)) (copied_trees terms bank copies h ts.items b)
copied_same terms bank copies h One b = refl
copied_same terms bank copies h Erase b = refl
copied_same terms bank copies h (Tensor s t) b = refl
copied_same terms bank copies h With b = refl
copied_same terms bank copies h Left b = refl
copied_same terms bank copies h Right b = refl
copied_same terms bank copies h Bang b = refl
copied_same terms bank copies h (Lolli n) b = refl
copied_same terms bank copies h (Imp n) b = refl
copied_same terms bank copies h (Forall n) b = refl
copied_same terms bank copies h Use b = refl
copied_same terms bank copies h Num b = refl

pub copied_lines : (terms bank : Nodes) (copies : List At) → AreCopies terms bank copies → (rs : List Rule) → All (IsLineBelow (length copies)) rs
    → map (copied_line bank copies) rs ≡ map (line_of terms) rs
copied_lines terms bank copies h [] b = refl
copied_lines terms bank copies h (r ∷ rs) b = λ i. copied_same terms bank copies h r (b 0 r (omega arith)) i
    ∷ copied_lines terms bank copies h rs (λ k d l. b (suc k) d (omega arith)) i

-- the line stays as the bank grows
pub copied_stays : {old new : Nodes} → Extends old new → (copies : List At) → AllInTerms old copies → (r : Rule) → IsLineBelow (length copies) r
    → copied_line new copies r ≡ copied_line old copies r
copied_stays keeps copies h (Exists t) b = ap ExistsLine (term_tree-extends keeps (get_or copies t.0 t).0 (h t.0 t b))
copied_stays {old} keeps copies h (Clause n k ts ps) b = ap (λ xs. ClauseLine n k xs (map part_line ps.items))
    (term_trees-extends keeps (copied_places copies ts.items) (copied_inside old copies ts.items h b))
copied_stays keeps copies h One b = refl
copied_stays keeps copies h Erase b = refl
copied_stays keeps copies h (Tensor s t) b = refl
copied_stays keeps copies h With b = refl
copied_stays keeps copies h Left b = refl
copied_stays keeps copies h Right b = refl
copied_stays keeps copies h Bang b = refl
copied_stays keeps copies h (Lolli n) b = refl
copied_stays keeps copies h (Imp n) b = refl
copied_stays keeps copies h (Forall n) b = refl
copied_stays keeps copies h Use b = refl
copied_stays keeps copies h Num b = refl

-- the rule at a place
pub below_here : (copies : List At) (rules : List Rule) (k : ℕ) (r : Rule) → r ≡ get_or rules k r → k < length rules → All (IsLineBelow (length copies)) rules
    → IsLineBelow (length copies) r
below_here copies rules k r is l b = let P : Rule → Type 0 = IsLineBelow (length copies) in subst P (sym is) (b k r l)

-- its line, in a bank that grew
pub line_here : {old new : Nodes} → Extends old new → (copies slice : List At) → slice ≡ copies → AllInTerms old copies → (rules : List Rule) (k : ℕ) (r : Rule)
    → r ≡ get_or rules k r → k < length rules
    → All (IsLineBelow (length copies)) rules → copied_line new slice r ≡ copied_line old copies r
line_here {old} {new} keeps copies slice e h rules k r is l b =
    ap (λ cs. copied_line new cs r) e ∙ copied_stays keeps copies h r (below_here copies rules k r is l b)
