-- Texts on their way.
use Rattle.std.proofs.Common.{◌≡◌, ℕ, zero, suc, ◌+◌, ◌<◌, ◌≤◌, List, [], ◌∷◌, ◌++◌, length, get_or, take, drop, map, refl, ap, sym, ◌∙◌, arith, append_assoc}
use Rattle.std.proofs.Common.{codes, decimal}
use Rattle.std.specs.List.{flat_map}
use Rattle.std.proofs.lemmas.List.{append-nil, take_all}
use Rattle.ll_bank.specs.Nodes.{Nodes, term_trees}
use Rattle.ll_laws.specs.declared.Rule.{Rule}
use Rattle.ll_laws.specs.declared.Rule.TheVariants.{One, Erase, Tensor, With, Left, Right, Bang, Lolli, Imp, Forall, Exists, Use, Num, Clause}
use Rattle.ll_laws.specs.Output.{line}
use Rattle.ll_laws.specs.ProofText.{field, labels_text, node_text, term_field, part_field}
use Rattle.ll_laws.specs.ShownLines.{line_of, part_line}
use Rattle.ll_printer.specs.Pieces.{BeginsText}
use Rattle.ll_printer.proofs.CallerLemmas.{begins_before}
use Rattle.ll_prooftext.specs.Rows.{word_text, fields_text, row_text}

-- a text of two parts
module _ (a b text o p q : List ℕ) (is : text ≡ a ++ b) (first : p ≡ o ++ a) where
  pub both_text : q ≡ p ++ b → q ≡ o ++ text
  both_text second = second ∙ (ap (λ t. t ++ b) first ∙ (append_assoc o a b ∙ ap (λ t. o ++ t) (sym is)))

  pub both_whole : q ≡ p ++ b → BeginsText text o q
  both_whole second = record { written = text; rest = []; is = both_text second; begun = sym (append-nil text) }

  pub both_stopped : BeginsText b p q → BeginsText text o q
  both_stopped w = record {
    written = a ++ w.written;
    rest = w.rest;
    is = w.is ∙ (ap (λ t. t ++ w.written) first ∙ append_assoc o a w.written);
    begun = is ∙ (ap (λ t. a ++ t) w.begun ∙ sym (append_assoc a w.written w.rest));
  }

-- the texts of items, one after the other
module _ {X : Type 0} (f : X → List ℕ) where
  -- up to some item, that item, and the others
  pub parts_split : (xs : List X) (i : ℕ) (d : X) → i < length xs
      → flat_map f xs ≡ flat_map f (take i xs) ++ (f (get_or xs i d) ++ flat_map f (drop (suc i) xs))
  parts_split [] i d l = absurd (omega arith)
  parts_split (x ∷ xs) zero d l = refl
  parts_split (x ∷ xs) (suc i) d l = ap (λ t. f x ++ t) (parts_split xs i d (omega arith))
      ∙ sym (append_assoc (f x) (flat_map f (take i xs)) (f (get_or xs i d) ++ flat_map f (drop (suc i) xs)))

  pub parts_more : (xs : List X) (i : ℕ) (d : X) → i < length xs → flat_map f (take (suc i) xs) ≡ flat_map f (take i xs) ++ f (get_or xs i d)
  parts_more [] i d l = absurd (omega arith)
  parts_more (x ∷ xs) zero d l = append-nil (f x)
  parts_more (x ∷ xs) (suc i) d l = ap (λ t. f x ++ t) (parts_more xs i d (omega arith)) ∙ sym (append_assoc (f x) (flat_map f (take i xs)) (f (get_or xs i d)))

  module _ (xs : List X) (i : ℕ) (d : X) (start now next : List ℕ) (before : now ≡ start ++ flat_map f (take i xs)) where
    -- one item more
    pub parts_on : i < length xs → next ≡ now ++ f (get_or xs i d) → next ≡ start ++ flat_map f (take (i + 1) xs)
    parts_on l e =
        e ∙ (ap (λ t. t ++ f (get_or xs i d)) before ∙ (append_assoc start (flat_map f (take i xs)) (f (get_or xs i d))
        ∙ ap (λ t. start ++ t) (sym (ap (λ j. flat_map f (take j xs)) (let z : i + 1 ≡ suc i = omega arith in z) ∙ parts_more xs i d l))))

    -- a refusal in it
    pub parts_refused : i < length xs → BeginsText (f (get_or xs i d)) now next → BeginsText (flat_map f xs) start next
    parts_refused l b =
        both_stopped (flat_map f (take i xs)) (f (get_or xs i d) ++ flat_map f (drop (suc i) xs)) (flat_map f xs) start now next (parts_split xs i d l) before
        (begins_before (f (get_or xs i d)) (flat_map f (drop (suc i) xs)) (f (get_or xs i d) ++ flat_map f (drop (suc i) xs)) now next refl b)

    -- all of them
    pub parts_whole : length xs ≤ i → now ≡ start ++ flat_map f xs
    parts_whole l = before ∙ ap (λ ys. start ++ flat_map f ys) (take_all i xs l)

    pub parts_ended : length xs ≤ i → BeginsText (flat_map f xs) start now
    parts_ended l = record { written = flat_map f xs; rest = []; is = parts_whole l; begun = sym (append-nil (flat_map f xs)) }

-- the texts of what items show
pub flat_map-map : {X Y : Type 0} (g : X → Y) (f : Y → List ℕ) (xs : List X) → flat_map (λ x. f (g x)) xs ≡ flat_map f (map g xs)
flat_map-map g f [] = refl
flat_map-map g f (x ∷ xs) = ap (λ t. f (g x) ++ t) (flat_map-map g f xs)

-- a first number, and the others
pub labels_all : (n : ℕ) (ns : List ℕ) → labels_text (n ∷ ns) ≡ decimal n ++ flat_map (λ m. field (decimal m)) ns
labels_all n [] = sym (append-nil (decimal n))
labels_all n (m ∷ ns) = ap (λ t. decimal n ++ field t) (labels_all m ns)

-- the text of a node by its word and its fields
pub node_parts : (names : List (List ℕ)) (bank : Nodes) (r : Rule) → node_text names (line_of bank r) ≡ word_text r ++ fields_text names (line_of bank r)
node_parts names bank One = refl
node_parts names bank Erase = refl
node_parts names bank (Tensor s t) = refl
node_parts names bank With = refl
node_parts names bank Left = refl
node_parts names bank Right = refl
node_parts names bank Bang = refl
node_parts names bank (Lolli n) = refl
node_parts names bank (Imp n) = refl
node_parts names bank (Forall c) = refl
node_parts names bank (Exists t) = refl
node_parts names bank Use = refl
node_parts names bank Num = refl
node_parts names bank (Clause n k ts ps) =
    let us = flat_map (term_field names) (term_trees bank ts.items) in
    let qs = flat_map part_field (map part_line ps.items) in
    ap (λ t. codes "clause" ++ t) (append_assoc (field (decimal n) ++ field (decimal k)) us qs
    ∙ append_assoc (field (decimal n)) (field (decimal k)) (us ++ qs))

-- the lines of nodes
pub nodes_text : (names : List (List ℕ)) (bank : Nodes) (rs : List Rule)
    → flat_map (row_text names bank) rs ≡ flat_map (λ n. line (node_text names n)) (map (line_of bank) rs)
nodes_text names bank [] = refl
nodes_text names bank (r ∷ rs) =
    ap (λ t. line t ++ flat_map (row_text names bank) rs) (sym (node_parts names bank r))
    ∙ ap (λ t. line (node_text names (line_of bank r)) ++ t) (nodes_text names bank rs)
