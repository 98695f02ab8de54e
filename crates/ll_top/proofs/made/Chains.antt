-- A chain has no fault.
use Rattle.std.proofs.Common.{◌≡◌, ◌≤◌, ◌*◌, ◌+◌, ◌-◌, ℕ, zero, suc, List, [], ◌∷◌, ◌++◌, length, map, codes, refl, sym, ap, subst, ◌∙◌, append_assoc}
use Rattle.std.proofs.Common.{append-nil, arith}
use Rattle.std.specs.List.{AllByRecursion}
use Rattle.ll_lexer.specs.declared.TokenKind.TheVariants as kind
use Rattle.ll_lexer.specs.Spelling.{Spells, kind_of, fixed_spellings, is_lower, is_word_byte}
use Rattle.ll_parser.specs.Tokens.{IsSpelled}
use Rattle.ll_parser.specs.Text.{clauses_tokens, clause_tree}
use Rattle.ll_parser.specs.Printed.{clause_text, clauses_text, line_end}
use Rattle.ll_polarity.specs.Faults.{clauses_faults}
use Rattle.ll_make.specs.declared.kind.MakeKind.TheVariants.{Chain}
use Rattle.ll_make.specs.Numbered.{numbered}
use Rattle.ll_make.specs.Programs.{line, lines_text, link, links, program_text}
use Rattle.ll_top.proofs.made.Names.{place-name}
use Rattle.ll_top.proofs.made.Opened.{opened}
use Rattle.ll_top.proofs.made.Shapes.{follows, lower_clauses, chain_clauses}
use Rattle.ll_top.proofs.made.Whole.{AreClausesOf}

-- ---- texts

follows-text : (h b : List ℕ) → clause_text (clause_tree (follows h b)) ≡ h ++ (codes " :- " ++ (b ++ line_end))
follows-text h b = simp (append-nil, append_assoc)

link-text : (below : ℕ) → clause_text (clause_tree (follows (numbered (codes "p") (below + 1)) (numbered (codes "p") below))) ≡ line (link below)
link-text below = follows-text (numbered (codes "p") (below + 1)) (numbered (codes "p") below) ∙ simp append_assoc

clauses-text : (k : ℕ) → clauses_text (map clause_tree (lower_clauses k)) ≡ lines_text (links k ++ codes "p1." ∷ [])
clauses-text zero = refl
clauses-text (suc k) =
    ap (λ t. t ++ clauses_text (map clause_tree (lower_clauses k))) (link-text (k + 1))
    ∙ ap (λ t. line (link (k + 1)) ++ t) (clauses-text k)

first-text : (n : ℕ) → clause_text (clause_tree (follows (codes "go") (numbered (codes "p") n))) ≡ line (numbered (codes "go :- p") n ++ codes ".")
first-text n = follows-text (codes "go") (numbered (codes "p") n) ∙ simp append_assoc

chain-text : (n : ℕ) → clauses_text (map clause_tree (chain_clauses n)) ++ [] ≡ program_text Chain n
chain-text n =
    append-nil (clauses_text (map clause_tree (chain_clauses n)))
    ∙ (ap (λ t. t ++ clauses_text (map clause_tree (lower_clauses (n - 1)))) (first-text n)
    ∙ ap (λ t. line (numbered (codes "go :- p") n ++ codes ".") ++ t) (clauses-text (n - 1)))

-- ---- tokens

go-name : Spells kind.Name (codes "go") × (length (codes "go") ≤ 255)
unfolding kind_of fixed_spellings is_lower is_word_byte
go-name = (refl, omega arith)

p1-name : Spells kind.Name (codes "p1") × (length (codes "p1") ≤ 255)
unfolding kind_of fixed_spellings is_lower is_word_byte
p1-name = (refl, omega arith)

clauses-spelled : (k : ℕ) → k + 1 ≤ 100000 → AllByRecursion IsSpelled (clauses_tokens (lower_clauses k))
clauses-spelled zero h = (p1-name, (tt, tt))
clauses-spelled (suc k) h = (place-name (k + 1 + 1) (omega arith), (tt, (place-name (k + 1) (omega arith), (tt, clauses-spelled k (omega arith)))))

clauses-few : (k : ℕ) → length (clauses_tokens (lower_clauses k)) ≡ k * 4 + 2
clauses-few zero = refl
clauses-few (suc k) = let h = clauses-few k in omega arith

clauses-opened : (k : ℕ) → opened (clauses_tokens (lower_clauses k)) ≡ 0
clauses-opened zero = refl
clauses-opened (suc k) = let h = clauses-opened k in omega arith

-- ---- faults

clauses-faultless : (k : ℕ) → clauses_faults [] [] (map clause_tree (lower_clauses k)) ≡ []
clauses-faultless zero = refl
clauses-faultless (suc k) = clauses-faultless k

pub chain-clauses : (n : ℕ) → 1 ≤ n → n ≤ 100000 → AreClausesOf (chain_clauses n) (program_text Chain n)
chain-clauses n l g =
    let cs = chain_clauses n in
    let rest = append-nil (clauses_tokens cs) in
    let count = clauses-few (n - 1) in
    let none = clauses-opened (n - 1) in
    let names : AllByRecursion IsSpelled (clauses_tokens cs) = (go-name, (tt, (place-name n g, (tt, clauses-spelled (n - 1) (omega arith))))) in
    record {
      printed = chain-text n;
      spelled = subst (AllByRecursion IsSpelled) (sym rest) names;
      few = subst (λ ts. length ts ≤ 16777216) (sym rest) (omega arith);
      brackets = subst (λ ts. opened ts ≤ 1000) (sym rest) (omega arith);
      faultless = clauses-faultless (n - 1);
    }
