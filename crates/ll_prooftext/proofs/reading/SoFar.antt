-- A derivation on its way, line by line.
use Rattle.std.proofs.Common.{◌≡◌, ℕ, zero, suc, ◌+◌, ◌-◌, ◌<◌, ◌≤◌, true, false, List, [], ◌∷◌, ◌++◌, length, map, All, refl, ap, sym, subst, ◌∙◌, arith}
use Rattle.std.proofs.Common.{codes, append_assoc, length-append, Some, None, inl, inr, decimal}
use Rattle.std.specs.List.{flat_map}
use Rattle.std.proofs.lemmas.List.{map-append}
use Rattle.std.proofs.lemmas.List.Sums.{fold-append}
use Rattle.std.proofs.lemmas.List.Elements.{All-nil, All-push, All-weaker, All-head, All-tail}
use Rattle.ll_bank.specs.declared.At.{At}
use Rattle.ll_bank.specs.Names.{with_name, with_names}
use Rattle.ll_bank.specs.Nodes.{Nodes, term_tree, term_trees, HasTerm, AllInTerms, Extends}
use Rattle.ll_bank.proofs.CallerLemmas.{term_trees-extends}
use Rattle.ll_laws.specs.Line.{Line, OneLine, EraseLine, TensorLine, WithLine, LeftLine, RightLine, BangLine, UseLine, LolliLine, ImpLine, ForallLine}
use Rattle.ll_laws.specs.Line.{ExistsLine, ClauseLine, NumLine, PartLine, Labels, Free}
use Rattle.ll_laws.specs.ProofText.{field, term_field, part_field, node_text}
use Rattle.ll_laws.specs.ShownLines.{line_of, part_line}
use Rattle.ll_laws.specs.declared.Rule.{Rule}
use Rattle.ll_laws.specs.declared.Rule.TheVariants as rule
use Rattle.ll_lexer.specs.declared.Place.{Place}
use Rattle.ll_lexer.specs.Reading.{place_at}
use Rattle.ll_prooftext.specs.declared.reader.TextLine.{TextLine}
use Rattle.ll_prooftext.specs.declared.reader.Lines.{Lines}
use Rattle.ll_prooftext.specs.declared.reader.Reading.{Reading}
use Rattle.ll_prooftext.specs.Reading.{text_lines, is_none, children, missing}
use Rattle.ll_prooftext.specs.Terms.{Grows, IsSpelledAt, argument_at}
use Rattle.ll_lexer.specs.Spelling.{is_lower, is_word_byte}
use Rattle.ll_prooftext.specs.Mentions.{scanned, name_here, word_run, mentions, line_names}
use Rattle.ll_prooftext.specs.RowWords.{IsGoodRule, IsNodeRow, IsLetRow}
use Rattle.ll_prooftext.specs.Reader.{end_from, IsNext, TakesLine, IsBehindVersion, AddsLine, variable, node}
use Rattle.ll_prooftext.proofs.spelling.Extended.{at_kept}
use Rattle.ll_prooftext.proofs.spelling.Kept.{grows_none, grows_on, flat_same, arg_same, arg_good, args_fields}

-- ---- rules under more names

record IsKeptRule (names : List (List ℕ)) (bank : Nodes) (new : List (List ℕ)) (over : Nodes) (r : Rule) : Type 0 where
  pub good : IsGoodRule new over r
  pub same : line_of over r ≡ line_of bank r
  pub text : node_text new (line_of over r) ≡ node_text names (line_of bank r)

module _ (names : List (List ℕ)) (bank : Nodes) (new : List (List ℕ)) (over : Nodes) (g : Grows names new) (e : Extends bank over) where
  terms_text : (ts : List At) → All (λ a. IsSpelledAt names bank a.0) ts
      → flat_map (term_field new) (term_trees over ts) ≡ flat_map (term_field names) (term_trees bank ts)
  terms_text ts a =
      sym (args_fields new over ts) ∙ (flat_same (λ (t : At). IsSpelledAt names bank t.0) (λ (t : At). field (argument_at new over t.0))
      (λ (t : At). field (argument_at names bank t.0)) (arg_same names bank new over g e) ts a ∙ args_fields names bank ts)

  terms_inside : (ts : List At) → All (λ a. IsSpelledAt names bank a.0) ts → AllInTerms bank ts
  terms_inside ts a = All-weaker (λ (t : At). IsSpelledAt names bank t.0) (λ (t : At). HasTerm bank t.0) (λ t s. s.inside) ts a

  pub terms_good : (ts : List At) → All (λ a. IsSpelledAt names bank a.0) ts → All (λ a. IsSpelledAt new over a.0) ts
  terms_good ts a = All-weaker (λ (t : At). IsSpelledAt names bank t.0) (λ (t : At). IsSpelledAt new over t.0) (arg_good names bank new over g e) ts a

  rule_kept : (r : Rule) → IsGoodRule names bank r → IsKeptRule names bank new over r
  rule_kept rule.One h = record { good = tt; same = refl; text = refl }
  rule_kept rule.Erase h = record { good = tt; same = refl; text = refl }
  rule_kept rule.With h = record { good = tt; same = refl; text = refl }
  rule_kept rule.Left h = record { good = tt; same = refl; text = refl }
  rule_kept rule.Right h = record { good = tt; same = refl; text = refl }
  rule_kept rule.Bang h = record { good = tt; same = refl; text = refl }
  rule_kept rule.Use h = record { good = tt; same = refl; text = refl }
  rule_kept rule.Num h = record { good = tt; same = refl; text = refl }
  rule_kept (rule.Tensor s t) h = record { good = h; same = refl; text = refl }
  rule_kept (rule.Lolli n) h = record { good = h; same = refl; text = refl }
  rule_kept (rule.Imp n) h = record { good = h; same = refl; text = refl }
  rule_kept (rule.Forall n) h = record { good = h; same = refl; text = refl }
  rule_kept (rule.Exists t) h =
      let k = at_kept names bank new over t.0 g e h in
      record { good = k.good; same = ap ExistsLine k.tree; text = ap (λ z. codes "exists" ++ field z) k.argument }
  rule_kept (rule.Clause n k ts ps) h = record {
    good = (h.0, (terms_good ts.items h.1.0, h.1.1));
    same = ap (λ z. ClauseLine n k z (map part_line ps.items)) (term_trees-extends e ts.items (terms_inside ts.items h.1.0));
    text = ap (λ z. codes "clause" ++ field (decimal n) ++ field (decimal k) ++ z ++ flat_map part_field (map part_line ps.items)) (terms_text ts.items h.1.0);
  }

  -- all of them
  pub rules_good : (rs : List Rule) → All (IsGoodRule names bank) rs → All (IsGoodRule new over) rs
  rules_good rs a = All-weaker (IsGoodRule names bank) (IsGoodRule new over) (λ r h. (rule_kept r h).good) rs a

  pub rules_same : (rs : List Rule) → All (IsGoodRule names bank) rs → map (line_of over) rs ≡ map (line_of bank) rs
  rules_same [] a = refl
  rules_same (r ∷ rs) a =
      let x = (rule_kept r (All-head (IsGoodRule names bank) r rs a)).same in
      let y = rules_same rs (All-tail (IsGoodRule names bank) r rs a) in
      ap (λ z. z ∷ map (line_of over) rs) x ∙ ap (λ z. line_of bank r ∷ z) y

  pub rules_text : (rs : List Rule) → All (IsGoodRule names bank) rs
      → map (node_text new) (map (line_of over) rs) ≡ map (node_text names) (map (line_of bank) rs)
  rules_text [] a = refl
  rules_text (r ∷ rs) a =
      let x = (rule_kept r (All-head (IsGoodRule names bank) r rs a)).text in
      let y = rules_text rs (All-tail (IsGoodRule names bank) r rs a) in
      ap (λ z. z ∷ map (node_text new) (map (line_of over) rs)) x ∙ ap (λ z. node_text names (line_of bank r) ∷ z) y

  pub lets_text : (ts : List At) → All (λ a. IsSpelledAt names bank a.0) ts
      → map (λ t. codes "let" ++ term_field new t) (term_trees over ts) ≡ map (λ t. codes "let" ++ term_field names t) (term_trees bank ts)
  lets_text [] a = refl
  lets_text (t ∷ ts) a =
      let x = ap (λ z. codes "let" ++ field z) (at_kept names bank new over t.0 g e (All-head (λ (u : At). IsSpelledAt names bank u.0) t ts a)).argument in
      let y = lets_text ts (All-tail (λ (u : At). IsSpelledAt names bank u.0) t ts a) in
      ap (λ z. z ∷ map (λ u. codes "let" ++ term_field new u) (term_trees over ts)) x ∙ ap (λ z. (codes "let" ++ term_field names (term_tree bank t.0)) ∷ z) y

-- ---- how many nodes lack

pub missing_push : (k : ℕ) (ns : List Line) (n : Line) (j : ℕ) → missing k ns ≡ Some (suc j) → missing k (ns ++ n ∷ []) ≡ Some (children n + j)
missing_push zero [] n j e = let x : Some zero ≡ Some (suc j) = e in let y : ⊥ = cc in absurd y
missing_push (suc k) [] n j e = let x : suc k ≡ suc j = cc in let q : k ≡ j = omega arith in ap (λ z. Some (children n + z)) q
missing_push zero (m ∷ ns) n j e = let x : None ≡ Some (suc j) = e in let y : ⊥ = cc in absurd y
missing_push (suc k) (m ∷ ns) n j e = missing_push (children m + k) ns n j e

pub parts_few : (ps : List PartLine) → length ps ≤ length (flat_map part_field ps)
parts_few [] = omega arith
parts_few (p ∷ ps) = let ih = parts_few ps in let l = length-append (part_field p) (flat_map part_field ps) in let f = full p in omega arith
  where
    full : (p : PartLine) → 0 < length (part_field p)
    full (Labels s) = omega arith
    full Free = omega arith

pub children_few : (names : List (List ℕ)) (l : Line) → children l ≤ length (node_text names l)
children_few names OneLine = omega arith
children_few names EraseLine = omega arith
children_few names (TensorLine s t) = omega arith
children_few names WithLine = omega arith
children_few names LeftLine = omega arith
children_few names RightLine = omega arith
children_few names BangLine = omega arith
children_few names UseLine = omega arith
children_few names NumLine = omega arith
children_few names (LolliLine n) = omega arith
children_few names (ImpLine n) = omega arith
children_few names (ForallLine n) = omega arith
children_few names (ExistsLine t) = omega arith
children_few names (ClauseLine n k ts ps) =
    let front = codes "clause" ++ field (decimal n) ++ field (decimal k) ++ flat_map (term_field names) ts in
    let f = parts_few ps in
    let e : node_text names (ClauseLine n k ts ps) ≡ front ++ flat_map part_field ps = refl in
    let l = ap length e in
    let a = length-append front (flat_map part_field ps) in
    omega arith

-- ---- the names of lines

-- the first line mentions none
version_names : line_names (codes "proof 1") ≡ []
unfolding line_names mentions name_here scanned word_run is_lower is_word_byte
version_names = refl

pub names_more : (names new : List (List ℕ)) (line : List ℕ) (ls rest : List (List ℕ)) → ls ≡ line ∷ rest → with_names names (line_names line) ≡ new
    → with_names names (flat_map line_names ls) ≡ with_names new (flat_map line_names rest)
names_more names new line ls rest e h =
    ap (λ z. with_names names (flat_map line_names z)) e ∙ (fold-append with_name names (line_names line) (flat_map line_names rest)
    ∙ ap (λ z. with_names z (flat_map line_names rest)) h)

-- ---- so far

-- the first lines were read, and these are still to come
pub record IsSoFar (text : List ℕ) (old names : List (List ℕ)) (o : Reading) (p : Lines) : Type 0 where
  pub lines : text_lines text ≡ codes "proof 1" ∷ (map (λ t. codes "let" ++ term_field names t) (term_trees o.bank o.asked.items)
      ++ (map (node_text names) (map (line_of o.bank) o.nodes.items) ++ text_lines p.rest.now))
  pub asked : All (λ a. IsSpelledAt names o.bank a.0) o.asked.items
  pub nodes : All (IsGoodRule names o.bank) o.nodes.items
  pub still : missing 1 (map (line_of o.bank) o.nodes.items) ≡ Some o.lacking
  pub grows : Grows old names
  pub names_on : with_names old (flat_map line_names (text_lines text)) ≡ with_names names (flat_map line_names (text_lines p.rest.now))
  pub room : length names + length p.rest.now ≤ length old + length text
  pub end : end_from p.at p.rest.now ≡ place_at text (length text)
  pub next : IsNext (length o.asked.items + length o.nodes.items + 2) p.rest.now p.at
  pub low : p.at.line + length p.rest.now ≤ 1 + length text
  pub few : o.lacking + length p.rest.now ≤ 1 + length text

pub so_far_none : (text : List ℕ) (names : List (List ℕ)) (o : Reading) (p : Lines) → IsBehindVersion (codes "proof 1") text p → o.asked.items ≡ []
    → o.nodes.items ≡ [] → o.lacking ≡ 1 → IsSoFar text names names o p
so_far_none text names o p b a n l = record {
  lines = rw (a, n) b.lines;
  asked = subst (All (λ (t : At). IsSpelledAt names o.bank t.0)) (sym a) (All-nil (λ (t : At). IsSpelledAt names o.bank t.0));
  nodes = subst (All (IsGoodRule names o.bank)) (sym n) (All-nil (IsGoodRule names o.bank));
  still = ap (λ z. missing 1 (map (line_of o.bank) z)) n ∙ ap (λ z. Some z) (sym l);
  grows = grows_none names;
  names_on = names_more names names (codes "proof 1") (text_lines text) (text_lines p.rest.now) b.lines (ap (with_names names) version_names);
  room = let s = b.shorter in omega arith;
  end = b.end;
  next = subst (λ j. IsNext j p.rest.now p.at) (let x = ap length a in let y = ap length n in
      let q : 2 ≡ length o.asked.items + length o.nodes.items + 2 = omega arith in q) b.next;
  low = b.low;
  few = let s = b.shorter in omega arith;
}

-- the number of the line that is taken
pub its_number : (text : List ℕ) (old names : List (List ℕ)) (o : Reading) (p q : Lines) (line : TextLine) → IsSoFar text old names o p → TakesLine p line q
    → line.number ≡ length o.asked.items + length o.nodes.items + 2
its_number text old names o p q line s t = t.number ∙ by_next s.next
  where
    some : p.rest.now ≡ [] → ⊥
    some e = let l = ap length e in let k = t.shorter in let x : ⊥ = omega arith in x

    by_next : IsNext (length o.asked.items + length o.nodes.items + 2) p.rest.now p.at → p.at.line ≡ length o.asked.items + length o.nodes.items + 2
    by_next (inl e) = absurd (some e)
    by_next (inr e) = ap (λ (z : Place). z.line) e

pub empty : {X : Type 0} (xs : List X) → is_none xs ≡ true → xs ≡ []
empty [] e = refl
empty (x ∷ xs) e = let y : false ≡ true = e in let z : ⊥ = cc in absurd z

let_between : (ls : List (List ℕ)) (b : List ℕ) (ns rest : List (List ℕ)) → ns ≡ [] → ls ++ (ns ++ b ∷ rest) ≡ (ls ++ b ∷ []) ++ (ns ++ rest)
let_between ls b ns rest e = rw e (sym (append_assoc ls (b ∷ []) rest))

node_between : (ls ns : List (List ℕ)) (b : List ℕ) (rest : List (List ℕ)) → ls ++ (ns ++ b ∷ rest) ≡ ls ++ ((ns ++ b ∷ []) ++ rest)
node_between ls ns b rest = ap (λ z. ls ++ z) (sym (append_assoc ns (b ∷ []) rest))

-- one line more
module _ (text : List ℕ) (old names : List (List ℕ)) (o : Reading) (p : Lines) (line : TextLine) (q : Lines) (new : List (List ℕ)) (r : Reading)
    (s : IsSoFar text old names o p) (t : TakesLine p line q) (lacks : 0 < o.lacking) where
  abbrev spelled : At → Type 0
  spelled a = IsSpelledAt names o.bank a.0

  abbrev spelled_now : At → Type 0
  spelled_now a = IsSpelledAt new r.bank a.0

  next_on : length r.asked.items + length r.nodes.items ≡ length o.asked.items + length o.nodes.items + 1
      → IsNext (length r.asked.items + length r.nodes.items + 2) q.rest.now q.at
  next_on e =
      let n = its_number text old names o p q line s t in
      let m = t.number in
      subst (λ j. IsNext j q.rest.now q.at) (let k : p.at.line + 1 ≡ length r.asked.items + length r.nodes.items + 2 = omega arith in k) t.next

  bytes_there : text_lines text ≡ codes "proof 1" ∷ (map (λ u. codes "let" ++ term_field names u) (term_trees o.bank o.asked.items)
      ++ (map (node_text names) (map (line_of o.bank) o.nodes.items) ++ line.bytes.now ∷ text_lines q.rest.now))
  bytes_there =
      s.lines ∙ ap (λ z. codes "proof 1" ∷ (map (λ u. codes "let" ++ term_field names u) (term_trees o.bank o.asked.items)
      ++ (map (node_text names) (map (line_of o.bank) o.nodes.items) ++ z))) t.lines

  let_more : (at : At) → IsLetRow names o.bank line.bytes.now (is_none o.nodes.items) new r.bank at.0 → r.asked.items ≡ o.asked.items ++ at ∷ []
      → r.nodes.items ≡ o.nodes.items → r.lacking ≡ o.lacking → IsSoFar text old new r q
  let_more at w a n l =
      let g = w.moves.grows in
      let e = w.moves.keeps in
      let none : o.nodes.items ≡ [] = empty o.nodes.items w.may in
      let none_now : r.nodes.items ≡ [] = n ∙ none in
      let ls = map (λ u. codes "let" ++ term_field names u) (term_trees o.bank o.asked.items) in
      let asked_text : map (λ u. codes "let" ++ term_field new u) (term_trees r.bank r.asked.items) ≡ ls ++ line.bytes.now ∷ [] =
      ap (λ z. map (λ u. codes "let" ++ term_field new u) (term_trees r.bank z)) a
      ∙ (ap (map (λ u. codes "let" ++ term_field new u)) (map-append (λ (b : At). term_tree r.bank b.0) o.asked.items (at ∷ []))
      ∙ (map-append (λ u. codes "let" ++ term_field new u) (term_trees r.bank o.asked.items) (term_tree r.bank at.0 ∷ [])
      ∙ (ap (λ z. z ++ (codes "let" ++ term_field new (term_tree r.bank at.0)) ∷ []) (lets_text names o.bank new r.bank g e o.asked.items s.asked)
      ∙ ap (λ z. ls ++ z ∷ []) (sym w.is)))) in
      let nodes_text : map (node_text names) (map (line_of o.bank) o.nodes.items) ≡ [] = ap (λ z. map (node_text names) (map (line_of o.bank) z)) none in
      let nodes_now : map (node_text new) (map (line_of r.bank) r.nodes.items) ≡ map (node_text names) (map (line_of o.bank) o.nodes.items) =
      ap (λ z. map (node_text new) (map (line_of r.bank) z)) none_now ∙ sym nodes_text in
      let two = ap length a in
      let three = length-append o.asked.items (at ∷ []) in
      let four = ap length n in
      let f = w.moves.few in
      let room = s.room in
      let less = t.room in
      let low = t.low in
      let low_then = s.low in
      let few = s.few in
      let shorter = t.shorter in
      record {
        lines = bytes_there ∙ ap (λ z. codes "proof 1" ∷ z) (let_between ls line.bytes.now (map (node_text names) (map (line_of o.bank) o.nodes.items))
            (text_lines q.rest.now) nodes_text
            ∙ (ap (λ z. z ++ (map (node_text names) (map (line_of o.bank) o.nodes.items) ++ text_lines q.rest.now)) (sym asked_text)
            ∙ ap (λ z. map (λ u. codes "let" ++ term_field new u) (term_trees r.bank r.asked.items) ++ (z ++ text_lines q.rest.now)) (sym nodes_now)));
        asked = subst (All spelled_now) (sym a) (All-push spelled_now o.asked.items at (terms_good names o.bank new r.bank g e o.asked.items s.asked) w.good);
        nodes = subst (All (IsGoodRule new r.bank)) (sym none_now) (All-nil (IsGoodRule new r.bank));
        still = ap (λ z. missing 1 (map (line_of r.bank) z)) none_now
            ∙ (sym (ap (λ z. missing 1 (map (line_of o.bank) z)) none) ∙ (s.still ∙ ap (λ z. Some z) (sym l)));
        grows = grows_on old names new s.grows g;
        names_on = s.names_on ∙ names_more names new line.bytes.now (text_lines p.rest.now) (text_lines q.rest.now) t.lines w.moves.names_on;
        room = omega arith;
        end = t.end ∙ s.end;
        next = next_on (omega arith);
        low = omega arith;
        few = omega arith;
      }

  node_more : (x : Rule) → IsNodeRow names o.bank line.bytes.now new r.bank x → r.nodes.items ≡ o.nodes.items ++ x ∷ [] → r.asked.items ≡ o.asked.items
      → r.lacking ≡ o.lacking - 1 + children (line_of r.bank x) → IsSoFar text old new r q
  node_more x w n a l =
      let g = w.moves.grows in
      let e = w.moves.keeps in
      let ns = map (node_text names) (map (line_of o.bank) o.nodes.items) in
      let lines_now : map (line_of r.bank) r.nodes.items ≡ map (line_of o.bank) o.nodes.items ++ line_of r.bank x ∷ [] =
      ap (map (line_of r.bank)) n ∙ (map-append (line_of r.bank) o.nodes.items (x ∷ [])
      ∙ ap (λ z. z ++ line_of r.bank x ∷ []) (rules_same names o.bank new r.bank g e o.nodes.items s.nodes)) in
      let nodes_now : map (node_text new) (map (line_of r.bank) r.nodes.items) ≡ ns ++ line.bytes.now ∷ [] =
      ap (λ z. map (node_text new) (map (line_of r.bank) z)) n
      ∙ (ap (map (node_text new)) (map-append (line_of r.bank) o.nodes.items (x ∷ []))
      ∙ (map-append (node_text new) (map (line_of r.bank) o.nodes.items) (line_of r.bank x ∷ [])
      ∙ (ap (λ z. z ++ node_text new (line_of r.bank x) ∷ []) (rules_text names o.bank new r.bank g e o.nodes.items s.nodes)
      ∙ ap (λ z. ns ++ z ∷ []) (sym w.is)))) in
      let ls = map (λ u. codes "let" ++ term_field names u) (term_trees o.bank o.asked.items) in
      let asked_now : map (λ u. codes "let" ++ term_field new u) (term_trees r.bank r.asked.items) ≡ ls =
      ap (λ z. map (λ u. codes "let" ++ term_field new u) (term_trees r.bank z)) a ∙ lets_text names o.bank new r.bank g e o.asked.items s.asked in
      let j = o.lacking - 1 in
      let sucs : o.lacking ≡ suc j = omega arith in
      let sum : children (line_of r.bank x) + j ≡ r.lacking = omega arith in
      let two = ap length n in
      let three = length-append o.nodes.items (x ∷ []) in
      let four = ap length a in
      let f = w.moves.few in
      let room = s.room in
      let less = t.room in
      let low = t.low in
      let low_then = s.low in
      let few = s.few in
      let shorter = t.shorter in
      let long = ap length w.is in
      let under = children_few new (line_of r.bank x) in
      record {
        lines = bytes_there ∙ ap (λ z. codes "proof 1" ∷ z) (node_between ls ns line.bytes.now (text_lines q.rest.now)
            ∙ (ap (λ z. z ++ ((ns ++ line.bytes.now ∷ []) ++ text_lines q.rest.now)) (sym asked_now)
            ∙ ap (λ z. map (λ u. codes "let" ++ term_field new u) (term_trees r.bank r.asked.items) ++ (z ++ text_lines q.rest.now)) (sym nodes_now)));
        asked = subst (All spelled_now) (sym a) (terms_good names o.bank new r.bank g e o.asked.items s.asked);
        nodes = subst (All (IsGoodRule new r.bank)) (sym n) (All-push (IsGoodRule new r.bank) o.nodes.items x
            (rules_good names o.bank new r.bank g e o.nodes.items s.nodes) w.good);
        still = ap (missing 1) lines_now ∙ (missing_push 1 (map (line_of o.bank) o.nodes.items) (line_of r.bank x) j (s.still ∙ ap (λ z. Some z) sucs)
            ∙ ap (λ z. Some z) sum);
        grows = grows_on old names new s.grows g;
        names_on = s.names_on ∙ names_more names new line.bytes.now (text_lines p.rest.now) (text_lines q.rest.now) t.lines w.moves.names_on;
        room = omega arith;
        end = t.end ∙ s.end;
        next = next_on (omega arith);
        low = omega arith;
        few = omega arith;
      }

  pub so_far_more : AddsLine names o line.bytes.now new r → IsSoFar text old new r q
  so_far_more (variable at w a n l) = let_more at w a n l
  so_far_more (node x w n a l) = node_more x w n a l
