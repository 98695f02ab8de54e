-- Images of places, as they are given one by one.
use Rattle.std.proofs.Common.{◌≡◌, ℕ, ◌+◌, ◌<◌, true, false, List, [], ◌∷◌, ◌++◌, length, map, take, get_or, refl, ap, sym, ◌∙◌, arith, Option}
use Rattle.std.proofs.lemmas.List.{take-map, map_more}
use Rattle.ll_bank.specs.declared.At.{At}
use Rattle.ll_bank.specs.Term.{Term}
use Rattle.ll_bank.specs.Nodes.{Nodes, term_tree, term_trees}
use Rattle.ll_cover.specs.Matching.{Agrees, Adds, Meets}

-- ---- lists, one element more

record Last {X : Type 0} (xs ys : List X) (x y : X) : Type 0 where
  front : xs ≡ ys
  last : x ≡ y

snoc : {X : Type 0} (xs ys : List X) (x y : X) → xs ++ x ∷ [] ≡ ys ++ y ∷ [] → Last xs ys x y
snoc [] [] x y e = record { front = refl; last = cc }
snoc [] (z ∷ []) x y e = cc
snoc [] (z ∷ w ∷ ys) x y e = cc
snoc (z ∷ []) [] x y e = cc
snoc (z ∷ w ∷ xs) [] x y e = cc
snoc (z ∷ xs) (w ∷ ys) x y e =
    let r = snoc xs ys x y (cc) in let f = r.front in let h : z ≡ w = cc in record { front = cc; last = r.last }

module _ (f g : At → Term) (xs ys : List At) (i : ℕ) (d : At) (l : i < length xs) (m : i < length ys) where
  more_same : map f (take i xs) ≡ map g (take i ys) → f (get_or xs i d) ≡ g (get_or ys i d) → map f (take (i + 1) xs) ≡ map g (take (i + 1) ys)
  more_same e h = let a = map_more f xs i d l in let b = map_more g ys i d m in cc

  less_same : map f (take (i + 1) xs) ≡ map g (take (i + 1) ys) → Last (map f (take i xs)) (map g (take i ys)) (f (get_or xs i d)) (g (get_or ys i d))
  less_same e = snoc _ _ _ _ (sym (map_more f xs i d l) ∙ (e ∙ map_more g ys i d m))

all_same : (f g : At → Term) (xs ys : List At) (n : ℕ) → map f xs ≡ map g ys → map f (take n xs) ≡ map g (take n ys)
all_same f g xs ys n e = sym (take-map f n xs) ∙ (ap (take n) e ∙ take-map g n ys)

-- ---- images of places

-- what is asked of the first places and their images
abbrev pub AsksFirst : Nodes → List At → List At → ℕ → (ℕ → Term) → Type 0
AsksFirst bank places others n want = map (λ a. want a.0) (take n places) ≡ term_trees bank (take n others)

module _ (bank : Nodes) (places others : List At) (n : length places ≡ length others) (i : ℕ) (d : At) (l : i < length places) (old now next : ℕ → Option At)
    (a : Adds bank (AsksFirst bank places others i) old now) where
  tree : At → Term
  tree b = term_tree bank b.0

  pub adds_more : Meets bank (λ want. want (get_or places i d).0 ≡ term_tree bank (get_or others i d).0) now next true
      → Adds bank (AsksFirst bank places others (i + 1)) old next
  unfolding tree
  adds_more m = record {
    keeps = λ want h. a.keeps want (m.keeps want h);
    asks = λ want h. more_same (λ b. want b.0) tree places others i d l (omega arith) (a.asks want (m.keeps want h)) (m.asks want h);
    enough = λ want h e.
        let r = less_same (λ b. want b.0) tree places others i d l (omega arith) e in m.enough want (a.enough want h r.front) r.last;
  }

  pub meets_no : Meets bank (λ want. want (get_or places i d).0 ≡ term_tree bank (get_or others i d).0) now next false
      → (want : ℕ → Term) → Agrees bank old want → map (λ b. want b.0) places ≡ term_trees bank others → ⊥
  unfolding tree
  meets_no m want h e =
      let r = less_same (λ b. want b.0) tree places others i d l (omega arith) (all_same (λ b. want b.0) tree places others (i + 1) e) in
      m want (a.enough want h r.front) r.last
