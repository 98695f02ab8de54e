-- A derivation that was read to its end, and the faults of a text.
use Rattle.std.proofs.Common.{◌≡◌, ℕ, zero, suc, ◌+◌, true, List, [], ◌∷◌, ◌++◌, length, map, All, refl, ap, sym, ◌∙◌, arith, codes, append_assoc, append-nil}
use Rattle.std.proofs.Common.{Option, Some, None, inl, inr}
use Rattle.std.specs.Prelude.{◌⊎◌, option_and_then}
use Rattle.std.specs.List.{list_all, flat_map}
use Rattle.std.proofs.lemmas.List.Concat.{flat_map-append}
use Rattle.std.proofs.lemmas.List.Elements.{All-nil, All-cons, All-weaker, All-head, All-tail}
use Rattle.ll_bank.specs.declared.At.{At}
use Rattle.ll_bank.specs.Names.{with_names}
use Rattle.ll_bank.specs.Term.{is_closed}
use Rattle.ll_bank.specs.Nodes.{Nodes, term_tree, term_trees, HasTerm, AllInTerms}
use Rattle.ll_laws.specs.Shows.{Tree, OneNode, EraseNode, TensorNode, WithNode, LeftNode, RightNode, BangNode, LolliNode, ImpNode, ForallNode, ExistsNode}
use Rattle.ll_laws.specs.Shows.{UseNode, ClauseNode, NumNode, Parts, NoParts, BoundedPart, UnboundedPart}
use Rattle.ll_laws.specs.Line.{Line, OneLine, EraseLine, TensorLine, WithLine, LeftLine, RightLine, BangLine, UseLine, LolliLine, ImpLine, ForallLine}
use Rattle.ll_laws.specs.Line.{ExistsLine, ClauseLine, NumLine, is_line, rises, part_rises, PartLine, Labels, Free, Cut, Cuts, add_part, cut_parts, put_clause}
use Rattle.ll_laws.specs.Line.{put, trees_of, DerivationLines}
use Rattle.ll_laws.specs.Output.{line as with_end}
use Rattle.ll_laws.specs.ProofText.{term_field, node_text, proof_text}
use Rattle.ll_laws.specs.ShownLines.{line_of, part_line, HasLine, HasLines}
use Rattle.ll_laws.specs.declared.Rule.{Rule}
use Rattle.ll_laws.specs.declared.Rule.TheVariants as rule
use Rattle.ll_prooftext.specs.declared.reader.Lines.{Lines}
use Rattle.ll_prooftext.specs.declared.reader.Reading.{Reading}
use Rattle.ll_prooftext.specs.Reader.{read_so_far}
use Rattle.ll_prooftext.specs.Admitted.{IsSpelledTerm, IsSpelledLine}
use Rattle.ll_prooftext.specs.Reading.{text_lines, children, missing, Begins, IsTextOf}
use Rattle.ll_prooftext.specs.Mentions.{line_names, text_names}
use Rattle.ll_prooftext.specs.Terms.{IsSpelledAt}
use Rattle.ll_prooftext.specs.RowWords.{IsGoodRule}
use Rattle.ll_prooftext.proofs.writing.Writing.{flat_map-map}
use Rattle.ll_prooftext.proofs.reading.LinesRead.{lines_back}
use Rattle.ll_prooftext.proofs.reading.SoFar.{IsSoFar}

-- ---- one tree

-- as many trees as are wanted
pub record AreTrees (o : Option (List Tree)) (k : ℕ) : Type 0 where
  pub trees : List Tree
  pub is : o ≡ Some trees
  pub many : length trees ≡ k

record AreCut (c : Cut) (k : ℕ) : Type 0 where
  pub parts : Parts
  pub others : List Tree
  pub is : c ≡ Cuts parts others
  pub many : length others ≡ k

cut_parts_many : (ps : List PartLine) (ts : List Tree) (k : ℕ) → length ts ≡ length ps + k → AreCut (cut_parts ps ts) k
cut_parts_many [] ts k e = record { parts = NoParts; others = ts; is = refl; many = omega arith }
cut_parts_many (p ∷ ps) [] k e = absurd (omega arith)
cut_parts_many (Labels s ∷ ps) (t ∷ ts) k e = let c = cut_parts_many ps ts k (omega arith) in
    record { parts = BoundedPart s t c.parts; others = c.others; is = ap (add_part (Labels s) t) c.is; many = c.many }
cut_parts_many (Free ∷ ps) (t ∷ ts) k e = let c = cut_parts_many ps ts k (omega arith) in
    record { parts = UnboundedPart t c.parts; others = c.others; is = ap (add_part Free t) c.is; many = c.many }

one_less : (x : Tree) (xs : List Tree) (k : ℕ) → length (x ∷ xs) ≡ 1 + k → length xs ≡ k
one_less x xs k e = omega arith

put_many : (n : Line) (ts : List Tree) (k : ℕ) → length ts ≡ children n + k → AreTrees (put n ts) (suc k)
put_many OneLine ts k e = record { trees = OneNode ∷ ts; is = refl; many = omega arith }
put_many EraseLine ts k e = record { trees = EraseNode ∷ ts; is = refl; many = omega arith }
put_many NumLine ts k e = record { trees = NumNode ∷ ts; is = refl; many = omega arith }
put_many (TensorLine s t) [] k e = absurd (omega arith)
put_many (TensorLine s t) (x ∷ []) k e = absurd (omega arith)
put_many (TensorLine s t) (x ∷ y ∷ ts) k e = record { trees = TensorNode s t x y ∷ ts; is = refl; many = omega arith }
put_many WithLine [] k e = absurd (omega arith)
put_many WithLine (x ∷ []) k e = absurd (omega arith)
put_many WithLine (x ∷ y ∷ ts) k e = record { trees = WithNode x y ∷ ts; is = refl; many = omega arith }
put_many LeftLine [] k e = absurd (omega arith)
put_many LeftLine (x ∷ ts) k e = record { trees = LeftNode x ∷ ts; is = refl; many = omega arith }
put_many RightLine [] k e = absurd (omega arith)
put_many RightLine (x ∷ ts) k e = record { trees = RightNode x ∷ ts; is = refl; many = omega arith }
put_many BangLine [] k e = absurd (omega arith)
put_many BangLine (x ∷ ts) k e = record { trees = BangNode x ∷ ts; is = refl; many = omega arith }
put_many UseLine [] k e = absurd (omega arith)
put_many UseLine (x ∷ ts) k e = record { trees = UseNode x ∷ ts; is = refl; many = omega arith }
put_many (LolliLine n) [] k e = absurd (omega arith)
put_many (LolliLine n) (x ∷ ts) k e = record { trees = LolliNode n x ∷ ts; is = refl; many = omega arith }
put_many (ImpLine n) [] k e = absurd (omega arith)
put_many (ImpLine n) (x ∷ ts) k e = record { trees = ImpNode n x ∷ ts; is = refl; many = omega arith }
put_many (ForallLine n) [] k e = absurd (omega arith)
put_many (ForallLine n) (x ∷ ts) k e = record { trees = ForallNode n x ∷ ts; is = refl; many = omega arith }
put_many (ExistsLine t) [] k e = absurd (omega arith)
put_many (ExistsLine t) (x ∷ ts) k e = record { trees = ExistsNode t x ∷ ts; is = refl; many = omega arith }
put_many (ClauseLine n k us ps) ts j e =
    let c = cut_parts_many ps ts j e in
    record { trees = ClauseNode n k us c.parts ∷ c.others; is = ap (put_clause n k us) c.is; many = let m = c.many in omega arith }

pub trees_many : (ns : List Line) (k : ℕ) → missing k ns ≡ Some 0 → AreTrees (trees_of ns) k
trees_many [] k e = record { trees = []; is = refl; many = let q : k ≡ 0 = cc in sym q }
trees_many (n ∷ ns) zero e = let x : ◌≡◌ {A = Option ℕ} None (Some 0) = e in let y : ⊥ = cc in absurd y
trees_many (n ∷ ns) (suc k) e =
    let ts = trees_many ns (children n + k) e in
    let us = put_many n ts.trees k ts.many in
    record { trees = us.trees; is = ap (λ o. option_and_then (put n) o) ts.is ∙ us.is; many = us.many }

pub record IsOneTree (ns : List Line) : Type 0 where
  pub tree : Tree
  pub is : trees_of ns ≡ Some (tree ∷ [])

pub one_tree : (ns : List Line) → missing 1 ns ≡ Some 0 → IsOneTree ns
one_tree ns e = by_trees (trees_many ns 1 e)
  where
    by_list : (ts : List Tree) → trees_of ns ≡ Some ts → length ts ≡ 1 → IsOneTree ns
    by_list [] e m = absurd (omega arith)
    by_list (t ∷ []) e m = record { tree = t; is = e }
    by_list (t ∷ u ∷ ts) e m = absurd (omega arith)

    by_trees : AreTrees (trees_of ns) 1 → IsOneTree ns
    by_trees a = by_list a.trees a.is a.many

-- ---- terms and nodes

pub terms_closed : (names : List (List ℕ)) (bank : Nodes) (ts : List At) → All (λ a. IsSpelledAt names bank a.0) ts
    → list_all is_closed (term_trees bank ts) ≡ true
terms_closed names bank [] a = refl
terms_closed names bank (t ∷ ts) a =
    let x : is_closed (term_tree bank t.0) ≡ true = (All-head (λ (b : At). IsSpelledAt names bank b.0) t ts a).closed in
    let y = terms_closed names bank ts (All-tail (λ (b : At). IsSpelledAt names bank b.0) t ts a) in
    rw (x, y) refl

pub terms_spelled : (names : List (List ℕ)) (bank : Nodes) (ts : List At) → All (λ a. IsSpelledAt names bank a.0) ts
    → All (IsSpelledTerm names) (term_trees bank ts)
terms_spelled names bank [] a = All-nil (IsSpelledTerm names)
terms_spelled names bank (t ∷ ts) a =
    All-cons (IsSpelledTerm names) (term_tree bank t.0) (term_trees bank ts) (All-head (λ (b : At). IsSpelledAt names bank b.0) t ts a).spelled
    (terms_spelled names bank ts (All-tail (λ (b : At). IsSpelledAt names bank b.0) t ts a))

pub terms_inside : (names : List (List ℕ)) (bank : Nodes) (ts : List At) → All (λ a. IsSpelledAt names bank a.0) ts → AllInTerms bank ts
terms_inside names bank ts a = All-weaker (λ (t : At). IsSpelledAt names bank t.0) (λ (t : At). HasTerm bank t.0) (λ t s. s.inside) ts a

record IsSoundRule (names : List (List ℕ)) (bank : Nodes) (r : Rule) : Type 0 where
  pub has : HasLine bank r
  pub spelled : IsSpelledLine names (line_of bank r)
  pub ordered : is_line (line_of bank r) ≡ true

rule_sound : (names : List (List ℕ)) (bank : Nodes) (r : Rule) → IsGoodRule names bank r → IsSoundRule names bank r
rule_sound names bank rule.One h = record { has = tt; spelled = tt; ordered = refl }
rule_sound names bank rule.Erase h = record { has = tt; spelled = tt; ordered = refl }
rule_sound names bank rule.With h = record { has = tt; spelled = tt; ordered = refl }
rule_sound names bank rule.Left h = record { has = tt; spelled = tt; ordered = refl }
rule_sound names bank rule.Right h = record { has = tt; spelled = tt; ordered = refl }
rule_sound names bank rule.Bang h = record { has = tt; spelled = tt; ordered = refl }
rule_sound names bank rule.Use h = record { has = tt; spelled = tt; ordered = refl }
rule_sound names bank rule.Num h = record { has = tt; spelled = tt; ordered = refl }
rule_sound names bank (rule.Tensor s t) h = record {
  has = tt;
  spelled = h.0;
  ordered = let a : rises s.items ≡ true = h.1.0 in
      let b : rises t.items ≡ true = h.1.1 in rw (a, b) refl;
}
rule_sound names bank (rule.Lolli n) h = record { has = tt; spelled = h; ordered = refl }
rule_sound names bank (rule.Imp n) h = record { has = tt; spelled = h; ordered = refl }
rule_sound names bank (rule.Forall n) h = record { has = tt; spelled = h; ordered = refl }
rule_sound names bank (rule.Exists t) h = record { has = h.inside; spelled = h.spelled; ordered = h.closed }
rule_sound names bank (rule.Clause n k ts ps) h = record {
  has = terms_inside names bank ts.items h.1.0;
  spelled = (h.0.0, (h.0.1, (terms_spelled names bank ts.items h.1.0, h.1.1.0)));
  ordered = let a = terms_closed names bank ts.items h.1.0 in let b : list_all part_rises (map part_line ps.items) ≡ true = h.1.1.1 in rw (a, b) refl;
}

pub rules_inside : (names : List (List ℕ)) (bank : Nodes) (rs : List Rule) → All (IsGoodRule names bank) rs → HasLines bank rs
rules_inside names bank rs a = All-weaker (IsGoodRule names bank) (HasLine bank) (λ r h. (rule_sound names bank r h).has) rs a

pub rules_spelled : (names : List (List ℕ)) (bank : Nodes) (rs : List Rule) → All (IsGoodRule names bank) rs → All (IsSpelledLine names) (map (line_of bank) rs)
rules_spelled names bank [] a = All-nil (IsSpelledLine names)
rules_spelled names bank (r ∷ rs) a =
    All-cons (IsSpelledLine names) (line_of bank r) (map (line_of bank) rs) (rule_sound names bank r (All-head (IsGoodRule names bank) r rs a)).spelled
    (rules_spelled names bank rs (All-tail (IsGoodRule names bank) r rs a))

pub rules_ordered : (names : List (List ℕ)) (bank : Nodes) (rs : List Rule) → All (IsGoodRule names bank) rs → list_all is_line (map (line_of bank) rs) ≡ true
rules_ordered names bank [] a = refl
rules_ordered names bank (r ∷ rs) a =
    let x : is_line (line_of bank r) ≡ true = (rule_sound names bank r (All-head (IsGoodRule names bank) r rs a)).ordered in
    let y = rules_ordered names bank rs (All-tail (IsGoodRule names bank) r rs a) in
    rw (x, y) refl

-- ---- what was read

abbrev pub so_far_begins : (text : List ℕ) (old names : List (List ℕ)) (o : Reading) (p : Lines) (rest : List (List ℕ)) (k : ℕ) → IsSoFar text old names o p
    → text_lines p.rest.now ≡ rest → o.lacking ≡ k → Begins (text_lines text) rest k
so_far_begins text old names o p rest k s r l = record {
  names = names;
  asked = term_trees o.bank o.asked.items;
  nodes = map (line_of o.bank) o.nodes.items;
  is =
      s.lines ∙ ap (λ z. codes "proof 1" ∷ (map (λ t. codes "let" ++ term_field names t) (term_trees o.bank o.asked.items)
      ++ (map (node_text names) (map (line_of o.bank) o.nodes.items) ++ z))) r;
  closed = terms_closed names o.bank o.asked.items s.asked;
  ordered = rules_ordered names o.bank o.nodes.items s.nodes;
  spelled_terms = terms_spelled names o.bank o.asked.items s.asked;
  spelled_nodes = rules_spelled names o.bank o.nodes.items s.nodes;
  still = s.still ∙ ap (λ z. Some z) l;
}

whole_text : (names : List (List ℕ)) (d : DerivationLines) → flat_map with_end
    (codes "proof 1" ∷ (map (λ t. codes "let" ++ term_field names t) d.asked ++ (map (node_text names) d.nodes ++ []))) ≡ proof_text names d
whole_text names d =
    let ls = map (λ t. codes "let" ++ term_field names t) d.asked in
    let ns = map (node_text names) d.nodes in
    ap (λ z. with_end (codes "proof 1") ++ flat_map with_end (ls ++ z)) (append-nil ns)
    ∙ (ap (λ z. with_end (codes "proof 1") ++ z) (flat_map-append with_end ls ns)
    ∙ (ap (λ z. with_end (codes "proof 1") ++ (z ++ flat_map with_end ns)) (sym (flat_map-map (λ t. codes "let" ++ term_field names t) with_end d.asked))
    ∙ (ap (λ z. with_end (codes "proof 1") ++ (flat_map (λ t. with_end (codes "let" ++ term_field names t)) d.asked ++ z))
    (sym (flat_map-map (node_text names) with_end d.nodes))
    ∙ sym (append_assoc (with_end (codes "proof 1")) (flat_map (λ t. with_end (codes "let" ++ term_field names t)) d.asked)
    (flat_map (λ n. with_end (node_text names n)) d.nodes)))))

-- the text of what was read, once no line is left and no node lacks
pub text_read : (text : List ℕ) (old names : List (List ℕ)) (o : Reading) (p : Lines) → IsSoFar text old names o p → p.rest.now ≡ [] → o.lacking ≡ 0
    → IsTextOf names text (read_so_far o)
text_read text old names o p s r l =
    let b = so_far_begins text old names o p [] 0 s (ap text_lines r) l in
    let tree = one_tree (map (line_of o.bank) o.nodes.items) b.still in
    let all : flat_map with_end (text_lines text) ≡ proof_text names (read_so_far o) = ap (flat_map with_end) b.is ∙ whole_text names (read_so_far o) in
    record {
      spelled = record {
        whole = record { tree = tree.tree; is_tree = tree.is; asked = b.closed; nodes = b.ordered };
        asked = b.spelled_terms;
        nodes = b.spelled_nodes;
      };
      is = by_end all (lines_back text);
    }
  where
    by_end : flat_map with_end (text_lines text) ≡ proof_text names (read_so_far o)
        → (text ≡ flat_map with_end (text_lines text)) ⊎ (text ++ 10 ∷ [] ≡ flat_map with_end (text_lines text))
        → (text ≡ proof_text names (read_so_far o)) ⊎ (text ++ 10 ∷ [] ≡ proof_text names (read_so_far o))
    by_end e (inl f) = inl (f ∙ e)
    by_end e (inr f) = inr (f ∙ e)

-- the names that were added
pub names_read : (text : List ℕ) (old names : List (List ℕ)) (o : Reading) (p : Lines) → IsSoFar text old names o p → p.rest.now ≡ []
    → names ≡ with_names old (text_names text)
unfolding text_names
names_read text old names o p s r = sym (s.names_on ∙ ap (λ z. with_names names (flat_map line_names (text_lines z))) r)
