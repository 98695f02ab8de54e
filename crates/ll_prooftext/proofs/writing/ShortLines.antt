-- Lines over a table.
use Rattle.std.proofs.Common.{◌≡◌, ℕ, ◌<◌, true, false, List, [], ◌∷◌, ◌++◌, length, map, All, refl, ap, sym, ◌∙◌, append_assoc, codes, decimal, Option, Some}
use Rattle.std.proofs.Common.{None, true≢false}
use Rattle.std.specs.Prelude.{unwrap_or}
use Rattle.std.specs.List.{flat_map}
use Rattle.std.proofs.lemmas.List.{append-nil, map-append}
use Rattle.std.proofs.lemmas.List.Elements.{All-nil, All-cons, All-head, All-tail, All-append}
use Rattle.ll_bank.specs.declared.At.{At}
use Rattle.ll_bank.specs.declared.Head.{Head}
use Rattle.ll_bank.specs.Term.{Term, Var, Int, Con, Ap, apply, app}
use Rattle.ll_bank.specs.Nodes.{Nodes, term_tree, term_trees, AllInTerms}
use Rattle.ll_laws.specs.declared.Rule.{Rule}
use Rattle.ll_laws.specs.declared.Rule.TheVariants.{One, Erase, Tensor, With, Left, Right, Bang, Lolli, Imp, Forall, Exists, Use, Num, Clause}
use Rattle.ll_laws.specs.Output.{line, head_text, term_text, has_arguments}
use Rattle.ll_laws.specs.Line.{PartLine, ExistsLine, ClauseLine, DerivationLines}
use Rattle.ll_laws.specs.ProofText.{field, part_field}
use Rattle.ll_laws.specs.ShownLines.{line_of, HasLine, HasLines}
use Rattle.ll_prooftext.specs.Rows.{row_text}
use Rattle.ll_prooftext.specs.declared.table.Table.{Table}
use Rattle.ll_prooftext.specs.Table.{row_of, line_terms, field_terms, completed, rows_in, table}
use Rattle.ll_prooftext.specs.Tables.{HasNumberAt, row_at, IsRowOf, IsTableOf}
use Rattle.ll_prooftext.specs.ProofText2.{short_field, spine_text, share_line, node_text_by, lines_by, proof_text2}
use Rattle.ll_prooftext.specs.Short.{rule_places, has_terms}
use Rattle.ll_prooftext.proofs.tabling.TableTerms.{none_below}

-- a head and its arguments
spine_apply : (names : List (List ℕ)) (rows : List Term) (f : Term) (ts : List Term)
    → spine_text names rows (apply f ts) ≡ spine_text names rows f ++ flat_map (short_field names rows) ts
spine_apply names rows f [] = sym (append-nil (spine_text names rows f))
spine_apply names rows f (t ∷ ts) = spine_apply names rows (Ap f t) ts
    ∙ append_assoc (spine_text names rows f) (short_field names rows t) (flat_map (short_field names rows) ts)

pub spine_app : (names : List (List ℕ)) (rows : List Term) (h : Head) (ts : List Term)
    → spine_text names rows (app h ts) ≡ head_text names h ++ flat_map (short_field names rows) ts
spine_app names rows h ts = spine_apply names rows (Con h) ts

-- a term with arguments stands by its row, and any other as it is
pub field_by_row : (names : List (List ℕ)) (rows : List Term) (t : Term) → has_arguments t ≡ true
    → codes " @" ++ decimal (row_of rows t) ≡ short_field names rows t
field_by_row names rows (Ap f a) h = refl
field_by_row names rows (Var n) h = absurd (true≢false (sym h))
field_by_row names rows (Int z) h = absurd (true≢false (sym h))
field_by_row names rows (Con k) h = absurd (true≢false (sym h))

pub field_itself : (names : List (List ℕ)) (rows : List Term) (t : Term) → has_arguments t ≡ false → codes " " ++ term_text names t ≡ short_field names rows t
field_itself names rows (Ap f a) h = absurd (true≢false h)
field_itself names rows (Var n) h = refl
field_itself names rows (Int z) h = refl
field_itself names rows (Con k) h = refl

-- the row of a term, or how many there are
pub row_is : (bank : Nodes) (t : Table) (rows : List Term) → IsTableOf bank t rows → (at : ℕ) → HasNumberAt t at
    → unwrap_or (row_at t at) (length rows) ≡ row_of rows (term_tree bank at)
row_is bank t rows h at n = by (row_at t at) (h.numbered at n.inside)
  where
    by : (o : Option ℕ) → IsRowOf rows (term_tree bank at) o → unwrap_or o (length rows) ≡ row_of rows (term_tree bank at)
    by None f = sym (none_below rows (term_tree bank at) f)
    by (Some k) f = sym f.1

-- the line of a row
pub share_bare : (names : List (List ℕ)) (rows : List Term) (t : Term) (o mid out : List ℕ) → mid ≡ o ++ codes "share " → spine_text names rows t ≡ []
    → out ≡ mid ++ 10 ∷ [] → out ≡ o ++ share_line names rows t
share_bare names rows t o mid out first bare last =
    last ∙ (ap (λ m. m ++ 10 ∷ []) first ∙ (append_assoc o (codes "share ") (10 ∷ []) ∙ ap (λ text. o ++ line (codes "share" ++ field text)) (sym bare)))

pub share_full : (names : List (List ℕ)) (rows : List Term) (h : Head) (ts : List Term) (t : Term) (o begun head full out : List ℕ)
    → begun ≡ o ++ codes "share " → head ≡ begun ++ head_text names h
    → full ≡ head ++ flat_map (short_field names rows) ts → t ≡ app h ts → out ≡ full ++ 10 ∷ [] → out ≡ o ++ share_line names rows t
share_full names rows h ts t o begun head full out first second third is last =
    let spine = head_text names h ++ flat_map (short_field names rows) ts in
    last
    ∙
    (ap (λ m. m ++ 10 ∷ []) (third ∙ (ap (λ m. m ++ flat_map (short_field names rows) ts) second
    ∙ (append_assoc begun (head_text names h) (flat_map (short_field names rows) ts) ∙ ap (λ m. m ++ spine) first)))
    ∙ (append_assoc (o ++ codes "share ") spine (10 ∷ [])
    ∙ (append_assoc o (codes "share ") (spine ++ 10 ∷ [])
    ∙ ap (λ text. o ++ line (codes "share" ++ field text)) (sym (ap (spine_text names rows) is ∙ spine_app names rows h ts)))))

-- both parts of a list
pub All-left : (P : At → Type 0) (xs ys : List At) → All P (xs ++ ys) → All P xs
All-left P [] ys h = All-nil P
All-left P (x ∷ xs) ys h = All-cons P x xs (All-head P x (xs ++ ys) h) (All-left P xs ys (All-tail P x (xs ++ ys) h))

pub All-right : (P : At → Type 0) (xs ys : List At) → All P (xs ++ ys) → All P ys
All-right P [] ys h = h
All-right P (x ∷ xs) ys h = All-right P xs ys (All-tail P x (xs ++ ys) h)

-- the places of a derivation's fields show the terms of its fields
line_terms-of : (bank : Nodes) (r : Rule) → term_trees bank (rule_places r) ≡ line_terms (line_of bank r)
line_terms-of bank One = refl
line_terms-of bank Erase = refl
line_terms-of bank (Tensor s t) = refl
line_terms-of bank With = refl
line_terms-of bank Left = refl
line_terms-of bank Right = refl
line_terms-of bank Bang = refl
line_terms-of bank (Lolli n) = refl
line_terms-of bank (Imp n) = refl
line_terms-of bank (Forall c) = refl
line_terms-of bank (Exists t) = refl
line_terms-of bank Use = refl
line_terms-of bank Num = refl
line_terms-of bank (Clause n k ts ps) = refl

pub places_terms : (bank : Nodes) (rs : List Rule) → term_trees bank (flat_map rule_places rs) ≡ flat_map line_terms (map (line_of bank) rs)
places_terms bank [] = refl
places_terms bank (r ∷ rs) =
    map-append (λ (a : At). term_tree bank a.0) (rule_places r) (flat_map rule_places rs)
    ∙ (ap (λ ts. ts ++ term_trees bank (flat_map rule_places rs)) (line_terms-of bank r) ∙ ap (λ ts. line_terms (line_of bank r) ++ ts) (places_terms bank rs))

-- what holds of all of them holds of each node's
pub each_node : (P : At → Type 0) (rs : List Rule) → All P (flat_map rule_places rs) → All (λ r. All P (rule_places r)) rs
each_node P [] h = All-nil (λ r. All P (rule_places r))
each_node P (r ∷ rs) h = All-cons (λ r. All P (rule_places r)) r rs (All-left P (rule_places r) (flat_map rule_places rs) h)
    (each_node P rs (All-right P (rule_places r) (flat_map rule_places rs) h))

-- the places of nodes in the bank are places in the bank
inside_node : (bank : Nodes) (r : Rule) → HasLine bank r → AllInTerms bank (rule_places r)
inside_node bank (Exists t) h = All-cons (λ (a : At). a.0 < length bank.terms) t [] h (All-nil (λ (a : At). a.0 < length bank.terms))
inside_node bank (Clause n k ts ps) h = h
inside_node bank One h = All-nil (λ (a : At). a.0 < length bank.terms)
inside_node bank Erase h = All-nil (λ (a : At). a.0 < length bank.terms)
inside_node bank (Tensor s t) h = All-nil (λ (a : At). a.0 < length bank.terms)
inside_node bank With h = All-nil (λ (a : At). a.0 < length bank.terms)
inside_node bank Left h = All-nil (λ (a : At). a.0 < length bank.terms)
inside_node bank Right h = All-nil (λ (a : At). a.0 < length bank.terms)
inside_node bank Bang h = All-nil (λ (a : At). a.0 < length bank.terms)
inside_node bank (Lolli n) h = All-nil (λ (a : At). a.0 < length bank.terms)
inside_node bank (Imp n) h = All-nil (λ (a : At). a.0 < length bank.terms)
inside_node bank (Forall c) h = All-nil (λ (a : At). a.0 < length bank.terms)
inside_node bank Use h = All-nil (λ (a : At). a.0 < length bank.terms)
inside_node bank Num h = All-nil (λ (a : At). a.0 < length bank.terms)

pub inside_nodes : (bank : Nodes) (rs : List Rule) → HasLines bank rs → AllInTerms bank (flat_map rule_places rs)
inside_nodes bank [] h = All-nil (λ (a : At). a.0 < length bank.terms)
inside_nodes bank (r ∷ rs) h =
    All-append (λ (a : At). a.0 < length bank.terms) (rule_places r) (flat_map rule_places rs) (inside_node bank r (All-head (HasLine bank) r rs h))
    (inside_nodes bank rs (All-tail (HasLine bank) r rs h))

-- a node without terms has the same line, however terms are shown
pub plain_node : (names : List (List ℕ)) (bank : Nodes) (show : Term → List ℕ) (r : Rule) → has_terms r ≡ false
    → row_text names bank r ≡ line (node_text_by show (line_of bank r))
plain_node names bank show One k = refl
plain_node names bank show Erase k = refl
plain_node names bank show (Tensor s t) k = refl
plain_node names bank show With k = refl
plain_node names bank show Left k = refl
plain_node names bank show Right k = refl
plain_node names bank show Bang k = refl
plain_node names bank show (Lolli n) k = refl
plain_node names bank show (Imp n) k = refl
plain_node names bank show (Forall c) k = refl
plain_node names bank show Use k = refl
plain_node names bank show Num k = refl
plain_node names bank show (Exists t) k = absurd (true≢false k)
plain_node names bank show (Clause n l ts ps) k = absurd (true≢false k)

-- the line of a node with fields for terms, piece by piece
pub exists_written : (show : Term → List ℕ) (t : Term) (o begun shown out : List ℕ) → begun ≡ o ++ codes "exists" → shown ≡ begun ++ show t
    → out ≡ shown ++ 10 ∷ [] → out ≡ o ++ line (node_text_by show (ExistsLine t))
exists_written show t o begun shown out first second last =
    last ∙ (ap (λ m. m ++ 10 ∷ []) (second ∙ (ap (λ m. m ++ show t) first ∙ append_assoc o (codes "exists") (show t)))
    ∙ append_assoc o (codes "exists" ++ show t) (10 ∷ []))

pub clause_written : (show : Term → List ℕ) (n k : ℕ) (ts : List Term) (ps : List PartLine) (o begun label leaf terms parts out : List ℕ)
    → begun ≡ o ++ codes "clause" → label ≡ begun ++ field (decimal n)
    → leaf ≡ label ++ field (decimal k) → terms ≡ leaf ++ flat_map show ts → parts ≡ terms ++ flat_map part_field ps → out ≡ parts ++ 10 ∷ []
    → out ≡ o ++ line (node_text_by show (ClauseLine n k ts ps))
clause_written show n k ts ps o begun label leaf terms parts out e f g h i last =
    let a = codes "clause" in let b = a ++ field (decimal n) in let c = b ++ field (decimal k) in let d = c ++ flat_map show ts in
    let first : label ≡ o ++ b = f ∙ (ap (λ m. m ++ field (decimal n)) e ∙ append_assoc o a (field (decimal n))) in
    let second : leaf ≡ o ++ c = g ∙ (ap (λ m. m ++ field (decimal k)) first ∙ append_assoc o b (field (decimal k))) in
    let third : terms ≡ o ++ d = h ∙ (ap (λ m. m ++ flat_map show ts) second ∙ append_assoc o c (flat_map show ts)) in
    let fourth : parts ≡ o ++ (d ++ flat_map part_field ps) = i ∙ (ap (λ m. m ++ flat_map part_field ps) third ∙ append_assoc o d (flat_map part_field ps)) in
    last ∙ (ap (λ m. m ++ 10 ∷ []) fourth ∙ append_assoc o (d ++ flat_map part_field ps) (10 ∷ []))

-- ---- the whole text

-- parts that are written one after the other
pub four_parts : (a b c d first second third fourth : List ℕ) → first ≡ a → second ≡ first ++ b → third ≡ second ++ c → fourth ≡ third ++ d
    → fourth ≡ a ++ (b ++ (c ++ d))
four_parts a b c d first second third fourth e f g h =
    h ∙ (ap (λ m. m ++ d) (g ∙ ap (λ m. m ++ c) (f ∙ ap (λ m. m ++ b) e)) ∙ (append_assoc (a ++ b) c d ∙ append_assoc a b (c ++ d)))

-- the fields of places
pub fields_of : (bank : Nodes) (asked : List At) (nodes : List Rule)
    → term_trees bank (asked ++ flat_map rule_places nodes) ≡ field_terms (record { asked = term_trees bank asked; nodes = map (line_of bank) nodes })
fields_of bank asked nodes = map-append (λ (a : At). term_tree bank a.0) asked (flat_map rule_places nodes)
    ∙ ap (λ ts. term_trees bank asked ++ ts) (places_terms bank nodes)

pub text2_is : (names : List (List ℕ)) (d : DerivationLines) (rows : List Term) → rows ≡ rows_in (flat_map completed (field_terms d))
    → line (codes "proof 2") ++ (flat_map (share_line names rows) rows ++ lines_by (short_field names rows) d) ≡ proof_text2 names d
unfolding table proof_text2
text2_is names d rows e = ap (λ rs. line (codes "proof 2") ++ (flat_map (share_line names rs) rs ++ lines_by (short_field names rs) d)) e
