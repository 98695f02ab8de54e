-- Tokens with few opening brackets have no more open at once.
use Rattle.std.proofs.Common.{◌≤◌, ◌+◌, ◌-◌, ℕ, zero, suc, cond, List, [], ◌∷◌, take, arith}
use Rattle.ll_parser.specs.Tokens.{Tok, paren_left, paren_right, brace_left, brace_right}
use Rattle.ll_parser.specs.Reads.{open_after, opens, Within}

-- the number of brackets that open
abbrev pub opened : List Tok → ℕ
opened [] = 0
opened (t ∷ ts) = cond (opens t) 1 0 + opened ts

open-few : (ts : List Tok) (n : ℕ) → open_after n ts ≤ n + opened ts
open-few [] n = omega arith
open-few (paren_left at ∷ ts) n = let h = open-few ts (suc n) in omega arith
open-few (brace_left at ∷ ts) n = let h = open-few ts (suc n) in omega arith
open-few (paren_right at ∷ ts) n = let h = open-few ts (n - 1) in omega arith
open-few (brace_right at ∷ ts) n = let h = open-few ts (n - 1) in omega arith
open-few (t ∷ ts) n = let h = open-few ts n in omega arith

opened-take : (i : ℕ) (ts : List Tok) → opened (take i ts) ≤ opened ts
opened-take zero [] = omega arith
opened-take (suc i) [] = omega arith
opened-take zero (t ∷ ts) = omega arith
opened-take (suc i) (t ∷ ts) = let h = opened-take i ts in omega arith

pub few-within : (limit : ℕ) (ts : List Tok) → opened ts ≤ limit → Within limit ts
few-within limit ts h = λ n. let a = open-few (take n ts) 0 in let b = opened-take n ts in omega arith
