-- What callers may cite: a program is far shorter than the longest text.
use Rattle.std.proofs.Common.{◌≤◌, ℕ, zero, suc, ◌+◌, ◌*◌, ◌-◌, List, [], ◌∷◌, ◌++◌, length, map, sym, subst, arith, length-append}
use Rattle.std.specs.Prelude.{codes, decimal, flat_map}
use Rattle.std.specs.List.{range_with_len}
use Rattle.std.proofs.lemmas.Fmt.{length-decimal-le}
use Rattle.std.proofs.lemmas.Grind.{flat_map-append}
use Rattle.ll_make.specs.declared.kind.MakeKind.{MakeKind}
use Rattle.ll_make.specs.declared.kind.MakeKind.TheVariants.{Perm, Choice, Chain}
use Rattle.ll_make.specs.Kinds.{InRange, query_text}
use Rattle.ll_make.specs.Numbered.{numbered, names_to, elements_text, list_argument, goals}
use Rattle.ll_make.specs.Programs.{line, lines_text, link, links, program_text}

digits-short : (k : ℕ) → k ≤ 100000 → length (decimal k) ≤ 6
digits-short k h = length-decimal-le 6 k (omega arith) (omega arith) (omega arith)

numbered-short : (name : List ℕ) (k : ℕ) → k ≤ 100000 → length (numbered name k) ≤ length name + 6
numbered-short name k h = let d = digits-short k h in omega (arith, length-append name (decimal k))

-- what is made of each of some numbered names
each-short : (f : List ℕ → List ℕ) (name : List ℕ) (most : ℕ) → ((k : ℕ) → k ≤ 100000 → length (f (numbered name k)) ≤ most)
    → (a n : ℕ) → a + n ≤ 100001 → length (flat_map f (map (numbered name) (range_with_len a n))) ≤ n * most
each-short f name most short a zero h = omega arith
each-short f name most short a (suc n) h =
    let here = short a (omega arith) in
    let later = each-short f name most short (a + 1) n (omega arith) in
    omega (arith, length-append (f (numbered name a)) (flat_map f (map (numbered name) (range_with_len (a + 1) n))))

elements-short : (name : List ℕ) (n : ℕ) → n ≤ 100000 → length (elements_text (names_to name n)) ≤ n * (length name + 8)
elements-short name n h =
    each-short (λ element. element ++ codes "::") name (length name + 8)
    (λ k l. let d = numbered-short name k l in omega (arith, length-append (numbered name k) (codes "::"))) 1 n (omega arith)

argument-short : (name : List ℕ) (n : ℕ) → n ≤ 100000 → length (list_argument (names_to name n)) ≤ n * (length name + 8) + 5
argument-short name zero h = omega arith
argument-short name (suc n) h =
    let d = elements-short name (suc n) h in
    omega (arith, length-append (elements_text (names_to name (suc n))) (codes "nil)"))

goals-short : (n : ℕ) → n ≤ 100000 → length (goals (codes "bit ") (names_to (codes "X") n)) ≤ n * 14
goals-short zero h = omega arith
goals-short (suc n) h =
    let first = numbered-short (codes "bit X") 1 (omega arith) in
    let later = each-short (λ argument. codes " , bit " ++ argument) (codes "X") 14 (λ k l. numbered-short (codes " , bit X") k l) 2 n (omega arith) in
    omega (
      arith,
      length-append (numbered (codes "bit X") 1)
          (flat_map (λ argument. codes " , bit " ++ argument) (map (numbered (codes "X")) (range_with_len 2 n))),
    )

link-short : (below : ℕ) → below + 1 ≤ 100000 → length (line (link below)) ≤ 20
link-short below h =
    let over = digits-short (below + 1) h in
    let under = digits-short below (omega arith) in
    omega (
      arith,
      length-append (decimal (below + 1)) (numbered (codes " :- p") below),
      length-append (numbered (codes "p") (below + 1) ++ numbered (codes " :- p") below) (codes "."),
      length-append (link below) (10 ∷ []),
    )

links-short : (k : ℕ) → k + 1 ≤ 100000 → length (lines_text (links k)) ≤ k * 20
links-short zero h = omega arith
links-short (suc k) h =
    let here = link-short (k + 1) (omega arith) in
    let later = links-short k (omega arith) in
    omega (arith, length-append (line (link (k + 1))) (lines_text (links k)))

-- a program is no longer than a text may be
pub program_short : (kind : MakeKind) (n : ℕ) → InRange kind n → length (program_text kind n) ≤ 16777216
program_short Perm n h = let d = argument-short [] n (let m = h.1 in omega arith) in simp length-append (let m = h.1 in omega arith)
program_short Choice n h =
    let d = argument-short (codes "X") n (let m = h.1 in omega arith) in
    let g = goals-short n (let m = h.1 in omega arith) in
    simp length-append (let m = h.1 in omega arith)
program_short Chain n h =
    let first = numbered (codes "go :- p") n ++ codes "." in
    let d = digits-short n h.1 in
    let l = links-short (n - 1) (let m = h.0 in let o = h.1 in omega arith) in
    subst (λ text. length text ≤ 16777216) (sym (flat_map-append line (first ∷ links (n - 1)) (codes "p1." ∷ [])))
    (simp length-append (let m = h.0 in let o = h.1 in omega arith))

-- nor is a query
pub query_short : (kind : MakeKind) → length (query_text kind) ≤ 16777216
query_short Perm = omega arith
query_short Choice = omega arith
query_short Chain = omega arith
