-- What the trees to come get of the labels.
use Rattle.std.specs.Prelude.{◌≡◌, ℕ, suc, ◌+◌, Bool, List, [], ◌∷◌, ◌++◌, map, drop, reverse, length, Option, Some}
use Rattle.ll_bank.specs.Nodes.{Nodes}
use Rattle.ll_laws.specs.declared.Part.{Part}
use Rattle.ll_laws.specs.declared.Rule.{Rule}
use Rattle.ll_bank.specs.Term.{Term}
use Rattle.ll_laws.specs.Dealing.{deal, deal_parts, goes_to}
use Rattle.ll_laws.specs.Line.{Line, put, Cuts, cut_parts, lines, lines_of_parts, part_lines, TensorLine, ClauseLine}
use Rattle.ll_laws.specs.Shows.{Tree, Parts, part_nodes}
use Rattle.ll_laws.specs.ShownLines.{line_of, part_line, HasLine}
use Rattle.ll_trace.specs.declared.deal.Fork.{Fork}
use Rattle.ll_trace.specs.declared.deal.Outline.{Outline}
use Rattle.ll_trace.specs.declared.picks.Pick.{Pick}
use Rattle.ll_trace.specs.declared.deal.Share.{Share}
use Rattle.ll_trace.specs.Picks.{all_picks, picks_of_parts, is_used_between}
use Rattle.ll_trace.specs.Spans.{SpansFit}

-- the nodes of trees in prefix order, with their shares dealt out
abbrev pub all_dealt : List Share → List Tree → List Line
all_dealt (s ∷ ss) (x ∷ xs) = lines (deal s.labels.items x) ++ all_dealt ss xs
all_dealt _ _ = []

-- the levels of shares
abbrev pub levels : List Share → List ℕ
levels ss = map (λ (s : Share). s.level) ss

-- whether a label goes to the first tree of a fork
abbrev pub goes_to_first : List (Option Pick) → Fork → ℕ → Bool
goes_to_first picks fork n =
    goes_to (is_used_between picks n fork.level fork.from fork.first.end) (is_used_between picks n fork.level fork.first.end fork.end) fork.first.erases

-- A node before and after its share is dealt out. With the labels dealt out, its line is the first one of those left, and its children's
-- shares come in place of its own.
pub record IsNodeStep (outline : Outline) (first : ℕ) (share : Share) (old new : List Share) (dealt : Line) (ts vs : List Tree) : Type 0 where
  pub same : all_dealt (share ∷ reverse old) vs ≡ dealt ∷ all_dealt (reverse new) ts
  pub picks : drop first outline.uses ≡ all_picks (levels (reverse new)) ts
  pub count : suc (length old) ≡ length vs → length new ≡ length ts

-- what a node of these trees becomes, and what the trees to come get
abbrev pub GivesLine : Outline → ℕ → (Nodes → Line) → Share → List Share → List Share → (Nodes → Line) → Type 0
GivesLine outline at line share old new dealt =
    (bank : Nodes) (ts vs : List Tree) → put (line bank) ts ≡ Some vs → SpansFit outline.spans.items at vs → SpansFit outline.spans.items (at + 1) ts
    → drop at outline.uses ≡ all_picks (share.level ∷ levels (reverse old)) vs → IsNodeStep outline (at + 1) share old new (dealt bank) ts vs

-- the same of a rule
abbrev pub GivesRule : Outline → ℕ → Rule → Share → List Share → List Share → Rule → Type 0
GivesRule outline at rule share old new dealt = GivesLine outline at (λ bank. line_of bank rule) share old new (λ bank. line_of bank dealt)

-- the same of a tensor node
abbrev pub GivesTensor : Outline → ℕ → Share → List Share → List Share → Rule → Type 0
GivesTensor outline at share old new dealt = (s t : List ℕ) → GivesLine outline at (λ _. TensorLine s t) share old new (λ bank. line_of bank dealt)

-- the same of a node that is dealt out alike wherever it stands
abbrev pub GivesAnywhere : Line → Share → List Share → List Share → Rule → Type 0
GivesAnywhere line share old new dealt = (outline : Outline) (at : ℕ) → GivesLine outline at (λ _. line) share old new (λ bank. line_of bank dealt)

-- the same of a clause node, whose premises become these
abbrev pub GivesClause : Outline → ℕ → ℕ → List Part → Share → List Share → List Share → List Part → Type 0
GivesClause outline at label parts share old new dealt =
    (leaf : ℕ) (terms : Nodes → List Term)
    → GivesLine outline at (λ bank. ClauseLine label leaf (terms bank) (map part_line parts)) share old new
    (λ bank. ClauseLine label leaf (terms bank) (map part_line dealt))

-- the places of a rule stay in a bank
abbrev pub KeepsTerms : Rule → Rule → Type 0
KeepsTerms rule dealt = (bank : Nodes) → HasLine bank rule → HasLine bank dealt

-- the premises of a clause node and what their trees get
pub record ArePartsDealt (labels : List ℕ) (b : ℕ) (ps : Parts) (dealt : List Part) (shares : List Share) (ts us : List Tree) : Type 0 where
  pub lines : map part_line dealt ≡ part_lines (deal_parts labels ps)
  pub shown : (ss : List Share) → lines_of_parts (deal_parts labels ps) ++ all_dealt ss us ≡ all_dealt (shares ++ ss) ts
  pub picks : (bs : List ℕ) → picks_of_parts b ps ++ all_picks bs us ≡ all_picks (levels shares ++ bs) ts
  pub count : length shares + length us ≡ length ts

-- what premises become that take these trees, and what those get
abbrev pub GivesParts : Outline → ℕ → ℕ → ℕ → List ℕ → List Part → List Part → List Share → Type 0
GivesParts outline from end b labels parts dealt shares =
    (ts us : List Tree) (ps : Parts) (more : List (Option Pick)) → cut_parts (map part_line parts) ts ≡ Cuts ps us → SpansFit outline.spans.items from ts
    → end ≡ from + part_nodes ps → drop from outline.uses ≡ picks_of_parts b ps ++ more → ArePartsDealt labels b ps dealt shares ts us
