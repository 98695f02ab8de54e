-- Worked examples of texts: what they are read as, and their first faults.
use Rattle.std.proofs.Common.{◌≡◌, ℕ, ◌<◌, ◌^◌, refl, List, [], ◌∷◌, All, codes, arith, inr}
use Rattle.std.specs.Fmt.{digits}
use Rattle.std.proofs.lemmas.List.Elements.{All-cons}
use Rattle.ll_laws.specs.Shows.{EraseNode}
use Rattle.ll_laws.specs.Line.{EraseLine, WithLine, TensorLine, ClauseLine}
use Rattle.ll_lexer.specs.Spelling.{is_lower, is_word_byte}
use Rattle.ll_prooftext.specs.Admitted.{IsSpelledTerm, IsSpelledPart, IsSpelledLine, AreLabels}
use Rattle.ll_prooftext.specs.Reading.{IsTextOf, Set, Then, Nothing, none, one, lacks, Begins, HasFault, unknown_word, bad_field, nodes_missing, left_over}
use Rattle.ll_prooftext.specs.Reading.{version, text_lines}
use Rattle.ll_prooftext.specs.Mentions.{text_names, line_names, mentions, name_here, scanned, word_run}

-- no item
nothing : {X : Type 0} (P : X → Type 0) → All P []
nothing P = λ k d l. absurd (omega arith)

-- one item
alone : {X : Type 0} (P : X → Type 0) (x : X) → P x → All P (x ∷ [])
alone P x p = All-cons P x [] p (nothing P)

-- one label
small : (n : ℕ) → n < 2 ^ 32 → AreLabels (n ∷ [])
small n l = alone (λ m. m < 2 ^ 32) n l

-- ---- derivations

-- one node, and the last LF lacks
erased : IsTextOf [] (codes "proof 1\nerase") (record { asked = []; nodes = EraseLine ∷ [] })
erased = record {
  spelled = record {
    whole = record { tree = EraseNode; is_tree = refl; asked = refl; nodes = refl };
    asked = nothing (IsSpelledTerm []);
    nodes = alone (IsSpelledLine []) EraseLine tt;
  };
  is = inr refl;
}

-- ---- faults

-- the text has no first line
empty_text : HasFault [] (record { at = record { line = 1; column = 1 }; kind = 14 })
empty_text = version (λ rest e. let x : ⊥ = grind arith in x)

-- nothing but the version
begun : (bytes : List ℕ) (text : List ℕ) → text_lines text ≡ codes "proof 1" ∷ bytes ∷ [] → Begins (text_lines text) (bytes ∷ []) 1
begun bytes text e = record {
  names = [];
  asked = [];
  nodes = [];
  is = e;
  closed = refl;
  ordered = refl;
  spelled_terms = nothing (IsSpelledTerm []);
  spelled_nodes = nothing (IsSpelledLine []);
  still = refl;
}

-- a word that is none
word_unknown : HasFault (codes "proof 1\nfoo\n") (record { at = record { line = 2; column = 1 }; kind = 13 })
unfolding begun
word_unknown = unknown_word (codes "foo") [] 0 (begun (codes "foo") (codes "proof 1\nfoo\n") refl) refl

-- one set for two: the place is the end of the line
set_lacks : HasFault (codes "proof 1\ntensor {0}\n") (record { at = record { line = 2; column = 11 }; kind = 14 })
unfolding digits begun
set_lacks =
    bad_field (codes "tensor {0}") [] 0 11 (begun (codes "tensor {0}") (codes "proof 1\ntensor {0}\n") refl)
    (record {
      word = codes "tensor";
      good = codes " {0}";
      rest = [];
      asked = Then Set (Then Set Nothing);
      left = Then Set Nothing;
      is = refl;
      known = refl;
      fields = one Set (codes "{0}") (Then Set Nothing) refl (record { labels = 0 ∷ []; small = small 0 (omega arith); rising = refl; is = refl }) none;
      stop = lacks refl;
    })

-- `(erase & a) , b` from `LINEAR a. LINEAR b.`, without its last node: the place is the end of the text
first_nodes : Begins (text_lines (codes "proof 1\ntensor {0} {1}\nwith\nerase\nclause 0 0\n")) [] 1
unfolding digits
first_nodes = record {
  names = [];
  asked = [];
  nodes = TensorLine (0 ∷ []) (1 ∷ []) ∷ WithLine ∷ EraseLine ∷ ClauseLine 0 0 [] [] ∷ [];
  is = refl;
  closed = refl;
  ordered = refl;
  spelled_terms = nothing (IsSpelledTerm []);
  spelled_nodes =
      All-cons (IsSpelledLine []) (TensorLine (0 ∷ []) (1 ∷ [])) (WithLine ∷ EraseLine ∷ ClauseLine 0 0 [] [] ∷ []) (
        small 0 (omega arith),
        small 1 (omega arith),
      )
      (All-cons (IsSpelledLine []) WithLine (EraseLine ∷ ClauseLine 0 0 [] [] ∷ []) tt
      (All-cons (IsSpelledLine []) EraseLine (ClauseLine 0 0 [] [] ∷ []) tt
      (alone (IsSpelledLine []) (ClauseLine 0 0 [] []) (omega arith, (omega arith, (nothing (IsSpelledTerm []), nothing IsSpelledPart))))));
  still = refl;
}

last_node_lacks : HasFault (codes "proof 1\ntensor {0} {1}\nwith\nerase\nclause 0 0\n") (record { at = record { line = 6; column = 1 }; kind = 15 })
last_node_lacks = nodes_missing 0 first_nodes

-- a line behind the last node
node_left_over : HasFault (codes "proof 1\nerase\ntrue\n") (record { at = record { line = 3; column = 1 }; kind = 16 })
node_left_over =
    left_over (codes "true") []
    (record {
      names = [];
      asked = [];
      nodes = EraseLine ∷ [];
      is = refl;
      closed = refl;
      ordered = refl;
      spelled_terms = nothing (IsSpelledTerm []);
      spelled_nodes = alone (IsSpelledLine []) EraseLine tt;
      still = refl;
    })

-- ---- names

-- each name in the fields of a line, and the sign of a list; words of lines, numbers, sets and constants are none
mentioned : text_names (codes "proof 1\nlet (1::nil)\nclause 1 0 (f a_2B ?7) #0 {0 2} !\nbang\n") ≡ codes "::" ∷ codes "nil" ∷ codes "f" ∷ codes "a_2B" ∷ []
unfolding text_names line_names mentions name_here scanned word_run is_lower is_word_byte
mentioned = refl
