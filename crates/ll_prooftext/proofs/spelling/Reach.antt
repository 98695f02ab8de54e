-- Each term that a text can spell is read to its end, bracket by bracket.
use Rattle.std.proofs.Common.{◌≡◌, ℕ, Bool, true, false, List, [], ◌∷◌, ◌++◌, refl, ap, sym, subst, ◌∙◌, decimal, codes, append_assoc, inl, inr}
use Rattle.std.specs.Prelude.{if◌then◌else◌}
use Rattle.std.specs.Fmt.{signed_decimal}
use Rattle.ll_bank.specs.declared.Head.{Head}
use Rattle.ll_bank.specs.declared.Head.TheVariants.{Name, Eigen, Bound}
use Rattle.ll_bank.specs.Term.{Term, Var, Int, Con, Ap}
use Rattle.ll_laws.specs.Output.{head_text, is_cons_head, is_cons, bracket_if, has_arguments, term_text, applied_text, argument_text}
use Rattle.ll_prooftext.specs.Admitted.{IsPlainHead, IsPairHead, IsSpelledTerm, IsSpelledSpine}
use Rattle.ll_prooftext.specs.Words.{Stops, at_byte}
use Rattle.ll_prooftext.specs.Terms.{is_part, Shape, Wanted, Bare, Applied, Closed, IsHeadWord, name, eigen, variable, number, IsWord, Frame, frame, takes}
use Rattle.ll_prooftext.specs.Terms.{closes, fresh, first_bracket, first_word, PartWay, bracket, word, sign, whole, argument, item, WaysOn, Accepts, goes}
use Rattle.ll_prooftext.specs.Terms.{closed as all_closed}

-- what stands in a bracket once a term was read there
abbrev pub chain_after : List (List ℕ) → Bool → Term → Bool
chain_after names c (Ap (Ap (Con h) x) l) = if is_cons_head names h then chain_after names true l else c
chain_after names c _ = c

abbrev pub shape_after : List (List ℕ) → Term → Shape
shape_after names (Var n) = Closed
shape_after names (Int z) = Closed
shape_after names (Con h) = Bare
shape_after names (Ap (Ap (Con h) x) l) = if is_cons_head names h then shape_after names l else Applied
shape_after names (Ap f a) = Applied

abbrev spine_shape : Term → Shape
spine_shape (Ap f a) = Applied
spine_shape _ = Bare

abbrev pub is_wanted : Shape → Bool
is_wanted Wanted = true
is_wanted _ = false

shape_full : (names : List (List ℕ)) (t : Term) → is_wanted (shape_after names t) ≡ false
shape_full names (Var n) = refl
shape_full names (Int z) = refl
shape_full names (Con h) = refl
shape_full names (Ap (Ap (Con h) x) l) = by_test (is_cons_head names h) (shape_full names l)
  where
    by_test : (v : Bool) → is_wanted (shape_after names l) ≡ false → is_wanted (if v then shape_after names l else Applied) ≡ false
    by_test true ih = ih
    by_test false ih = refl
shape_full names (Ap f a) = refl

chain_on : (names : List (List ℕ)) (t : Term) → chain_after names true t ≡ true
chain_on names (Var n) = refl
chain_on names (Int z) = refl
chain_on names (Con h) = refl
chain_on names (Ap (Ap (Con h) x) l) = by_test (is_cons_head names h) (chain_on names l)
  where
    by_test : (v : Bool) → chain_after names true l ≡ true → (if v then chain_after names true l else true) ≡ true
    by_test true ih = ih
    by_test false ih = refl
chain_on names (Ap f a) = refl

chain_of_cons : (names : List (List ℕ)) (c : Bool) (t : Term) → is_cons names t ≡ true → chain_after names c t ≡ true
chain_of_cons names c (Ap (Ap (Con h) x) l) e = rw e (chain_on names l)
chain_of_cons names c (Var n) e = absurd cc
chain_of_cons names c (Int z) e = absurd cc
chain_of_cons names c (Con h) e = absurd cc
chain_of_cons names c (Ap f a) e = absurd cc

-- a term with arguments may stand in brackets
closing : (names : List (List ℕ)) (t : Term) → has_arguments t ≡ true → closes (chain_after names false t) (shape_after names t) ≡ true
closing names (Var n) e = absurd cc
closing names (Int z) e = absurd cc
closing names (Con h) e = absurd cc
closing names (Ap (Ap (Con h) x) l) e = by_test (is_cons_head names h) (chain_on names l)
  where
    by_test : (v : Bool) → chain_after names true l ≡ true → closes (if v then chain_after names true l else false) (if v then shape_after names l else Applied)
        ≡ true
    by_test true ih = rw ih refl
    by_test false ih = refl
closing names (Ap f a) e = refl

part_goes : (c : Bool) (p : Shape) (fs : List Frame) (bytes : List ℕ) (gs : List Frame) (left : List ℕ) → is_wanted p ≡ false → PartWay c p fs bytes gs left
    → WaysOn (frame c p ∷ fs) bytes gs left
part_goes c Wanted fs bytes gs left e w = absurd cc
part_goes c Bare fs bytes gs left e w = w
part_goes c Applied fs bytes gs left e w = w
part_goes c Closed fs bytes gs left e w = w

takes_full : (p : Shape) → takes p ≡ true → is_wanted p ≡ false
takes_full Wanted e = absurd cc
takes_full Bare e = refl
takes_full Applied e = refl
takes_full Closed e = absurd cc

stop : (b : ℕ) (bs : List ℕ) → is_part b ≡ false → Stops is_part (b ∷ bs)
stop b bs h = at_byte b bs refl h

pub head_word : (names : List (List ℕ)) (h : Head) → IsPlainHead names h → IsHeadWord (head_text names h)
head_word names (Name n) p = name p
head_word names (Eigen n) p = eigen (decimal n) refl (record { number = n; small = p; is = refl })
head_word names (Bound n) p = absurd p

-- a term is read where a part is wanted
abbrev Reached : List ℕ → List (List ℕ) → Term → Type 0
Reached end names t = (c : Bool) (fs : List Frame) (bs : List ℕ) → Stops is_part bs → Accepts end (frame (chain_after names c t) (shape_after names t) ∷ fs) bs
    → Accepts end (frame c Wanted ∷ fs) (term_text names t ++ bs)

-- an argument is read behind a head
argument_word : (end : List ℕ) (c : Bool) (p : Shape) (fs : List Frame) (bs w : List ℕ) (q : Shape) → takes p ≡ true → IsWord w q → Stops is_part bs
    → Accepts end (frame c Applied ∷ fs) bs → Accepts end (frame c p ∷ fs) (32 ∷ (w ++ bs))
argument_word end c p fs bs w q t i s a = goes (frame c Applied ∷ fs) bs
    (part_goes c p fs (32 ∷ (w ++ bs)) (frame c Applied ∷ fs) bs (takes_full p t) (word t w q i s refl refl)) a

argument_bracket : (end : List ℕ) (names : List (List ℕ)) (a : Term) → has_arguments a ≡ true → Reached end names a
    → (c : Bool) (p : Shape) (fs : List Frame) (bs : List ℕ) → takes p ≡ true → Accepts end (frame c Applied ∷ fs) bs
    → Accepts end (frame c p ∷ fs) (32 ∷ (bracket_if true (term_text names a) ++ bs))
argument_bracket end names a h r c p fs bs t acc =
    let text = term_text names a in
    let d = chain_after names false a in
    let q = shape_after names a in
    let inner : Accepts end (frame d q ∷ frame c p ∷ fs) (41 ∷ bs) =
    goes (frame c Applied ∷ fs) bs (part_goes d q (frame c p ∷ fs) (41 ∷ bs) (frame c Applied ∷ fs) bs (shape_full names a)
    (argument (closing names a h) c p fs refl t refl refl)) acc in
    let body : Accepts end (fresh ∷ frame c p ∷ fs) (text ++ 41 ∷ bs) = r false (frame c p ∷ fs) (41 ∷ bs) (stop 41 bs refl) inner in
    let bytes : 32 ∷ 40 ∷ (text ++ 41 ∷ bs) ≡ 32 ∷ 40 ∷ ((text ++ 41 ∷ []) ++ bs) = ap (λ z. 32 ∷ 40 ∷ z) (sym (append_assoc text (41 ∷ []) bs)) in
    subst (Accepts end (frame c p ∷ fs)) bytes (goes (fresh ∷ frame c p ∷ fs) (text ++ 41 ∷ bs)
    (part_goes c p fs (32 ∷ 40 ∷ (text ++ 41 ∷ bs)) (fresh ∷ frame c p ∷ fs) (text ++ 41 ∷ bs) (takes_full p t) (bracket t refl refl)) body)

argument_read : (end : List ℕ) (names : List (List ℕ)) (a : Term) → IsSpelledTerm names a → Reached end names a
    → (c : Bool) (p : Shape) (fs : List Frame) (bs : List ℕ) → takes p ≡ true → Stops is_part bs → Accepts end (frame c Applied ∷ fs) bs
    → Accepts end (frame c p ∷ fs) (32 ∷ (argument_text a (term_text names a) ++ bs))
argument_read end names (Var n) s r c p fs bs t st acc = argument_word end c p fs bs (term_text names (Var n)) Closed t
    (variable (decimal n) refl (record { number = n; small = s; is = refl })) st acc
argument_read end names (Int z) s r c p fs bs t st acc = argument_word end c p fs bs (signed_decimal z) Closed t
    (number (record { value = z; fits = s; is = refl })) st acc
argument_read end names (Con h) s r c p fs bs t st acc = argument_word end c p fs bs (head_text names h) Bare t (head_word names h s) st acc
argument_read end names (Ap f a) s r c p fs bs t st acc = argument_bracket end names (Ap f a) refl r c p fs bs t acc

head_read : (end : List ℕ) (names : List (List ℕ)) (h : Head) → IsPlainHead names h → (c : Bool) (fs : List Frame) (bs : List ℕ) → Stops is_part bs
    → Accepts end (frame c Bare ∷ fs) bs → Accepts end (frame c Wanted ∷ fs) (head_text names h ++ bs)
head_read end names h p c fs bs st acc = goes (frame c Bare ∷ fs) bs (first_word (head_text names h) Bare (head_word names h p) st refl refl) acc

-- a term in front of a `::`
item_read : (end : List ℕ) (names : List (List ℕ)) (x : Term) → Reached end names x → (c : Bool) (fs : List Frame) (bs : List ℕ)
    → Accepts end (frame true Wanted ∷ fs) bs → Accepts end (frame c Wanted ∷ fs) (bracket_if (is_cons names x) (term_text names x) ++ 58 ∷ 58 ∷ bs)
item_read end names x r c fs bs acc = by_test (is_cons names x) refl
  where
    text : List ℕ
    text = term_text names x

    by_test : (v : Bool) → is_cons names x ≡ v → Accepts end (frame c Wanted ∷ fs) (bracket_if v (term_text names x) ++ 58 ∷ 58 ∷ bs)
    by_test false e = r c fs (58 ∷ 58 ∷ bs) (stop 58 (58 ∷ bs) refl)
        (goes (frame true Wanted ∷ fs) bs (part_goes (chain_after names c x) (shape_after names x) fs (58 ∷ 58 ∷ bs) (frame true Wanted ∷ fs) bs
        (shape_full names x) (sign refl refl)) acc)
    by_test true e =
        let d = chain_after names false x in
        let q = shape_after names x in
        let rest = 58 ∷ 58 ∷ bs in
        let inner : Accepts end (frame d q ∷ frame c Wanted ∷ fs) (41 ∷ 58 ∷ 58 ∷ bs) =
        goes (frame true Wanted ∷ fs) bs (part_goes d q (frame c Wanted ∷ fs) (41 ∷ 58 ∷ 58 ∷ bs) (frame true Wanted ∷ fs) bs (shape_full names x)
        (item (chain_of_cons names false x e) c fs refl refl refl)) acc in
        let body : Accepts end (fresh ∷ frame c Wanted ∷ fs) (term_text names x ++ 41 ∷ 58 ∷ 58 ∷ bs) =
        r false (frame c Wanted ∷ fs) (41 ∷ 58 ∷ 58 ∷ bs) (stop 41 (58 ∷ 58 ∷ bs) refl) inner in
        let bytes : 40 ∷ (term_text names x ++ 41 ∷ 58 ∷ 58 ∷ bs) ≡ 40 ∷ ((term_text names x ++ 41 ∷ []) ++ 58 ∷ 58 ∷ bs) =
        ap (λ z. 40 ∷ z) (sym (append_assoc (term_text names x) (41 ∷ []) (58 ∷ 58 ∷ bs))) in
        subst (Accepts end (frame c Wanted ∷ fs)) bytes (goes (fresh ∷ frame c Wanted ∷ fs) (term_text names x ++ 41 ∷ 58 ∷ 58 ∷ bs) (first_bracket refl refl)
        body)

-- a `::`, or a head with two arguments
pair_read : (end : List ℕ) (names : List (List ℕ)) (h : Head) (x l : Term) → IsPairHead names h → IsSpelledTerm names x → IsSpelledTerm names l
    → Reached end names x → Reached end names l → Reached end names (Ap (Ap (Con h) x) l)
pair_read end names h x l p sx sl rx rl c fs bs st acc = by_test (is_cons_head names h) refl acc
  where
    together : (i t bs : List ℕ) → i ++ 58 ∷ 58 ∷ (t ++ bs) ≡ (i ++ codes "::" ++ t) ++ bs
    together i t bs = simp append_assoc

    plain : IsPairHead names h → is_cons_head names h ≡ false → IsPlainHead names h
    plain (inl q) e = q
    plain (inr q) e = let z : false ≡ true = sym e ∙ q in absurd cc

    by_test : (v : Bool) → is_cons_head names h ≡ v → Accepts end
        (frame (if v then chain_after names true l else c) (if v then shape_after names l else Applied) ∷ fs) bs
        → Accepts end (frame c Wanted ∷ fs)
        ((if v then bracket_if (is_cons names x) (term_text names x) ++ codes "::" ++ term_text names l else head_text names h ++ codes " "
        ++ argument_text x (term_text names x) ++ codes " " ++ argument_text l (term_text names l)) ++ bs)
    by_test true e a =
        let i = bracket_if (is_cons names x) (term_text names x) in
        let t = term_text names l in
        let r : Accepts end (frame true Wanted ∷ fs) (t ++ bs) = rl true fs bs st a in
        subst (Accepts end (frame c Wanted ∷ fs)) (together i t bs) (item_read end names x rx c fs (t ++ bs) r)
    by_test false e a =
        let hd = head_text names h in
        let ax = argument_text x (term_text names x) in
        let al = argument_text l (term_text names l) in
        let r : Accepts end (frame c Applied ∷ fs) (32 ∷ (al ++ bs)) = argument_read end names l sl rl c Applied fs bs refl st a in
        let s : Accepts end (frame c Bare ∷ fs) (32 ∷ (ax ++ 32 ∷ (al ++ bs))) =
        argument_read end names x sx rx c Bare fs (32 ∷ (al ++ bs)) refl (stop 32 (al ++ bs) refl) r in
        let u : Accepts end (frame c Wanted ∷ fs) (hd ++ 32 ∷ (ax ++ 32 ∷ (al ++ bs))) =
        head_read end names h (plain p e) c fs (32 ∷ (ax ++ 32 ∷ (al ++ bs))) (stop 32 (ax ++ 32 ∷ (al ++ bs)) refl) s in
        subst (Accepts end (frame c Wanted ∷ fs)) (regroup hd ax al bs) u
      where
        regroup : (hd ax al bs : List ℕ) → hd ++ 32 ∷ (ax ++ 32 ∷ (al ++ bs)) ≡ (hd ++ codes " " ++ ax ++ codes " " ++ al) ++ bs
        regroup hd ax al bs = simp append_assoc

-- a head with arguments
applied_read : (end : List ℕ) (names : List (List ℕ)) (f : List ℕ) (a : Term) (c : Bool) (p : Shape) (fs : List Frame) (bs : List ℕ) → takes p ≡ true
    → IsSpelledTerm names a → Reached end names a
    → ((bs : List ℕ) → Stops is_part bs → Accepts end (frame c p ∷ fs) bs → Accepts end (frame c Wanted ∷ fs) (f ++ bs)) → Stops is_part bs
    → Accepts end (frame c Applied ∷ fs) bs
    → Accepts end (frame c Wanted ∷ fs) ((f ++ codes " " ++ argument_text a (term_text names a)) ++ bs)
applied_read end names f a c p fs bs t s r front st acc =
    let x = argument_text a (term_text names a) in
    let u = front (32 ∷ (x ++ bs)) (stop 32 (x ++ bs) refl) (argument_read end names a s r c p fs bs t st acc) in
    subst (Accepts end (frame c Wanted ∷ fs)) (together f x bs) u
  where
    together : (f x bs : List ℕ) → f ++ 32 ∷ (x ++ bs) ≡ (f ++ codes " " ++ x) ++ bs
    together f x bs = simp append_assoc

takes_spine : (f : Term) → takes (spine_shape f) ≡ true
takes_spine (Var n) = refl
takes_spine (Int z) = refl
takes_spine (Con h) = refl
takes_spine (Ap f a) = refl

mutual
  pub reach : (end : List ℕ) (names : List (List ℕ)) (t : Term) → IsSpelledTerm names t → Reached end names t
  reach end names (Var n) s c fs bs st acc = goes (frame c Closed ∷ fs) bs
      (first_word (term_text names (Var n)) Closed (variable (decimal n) refl (record { number = n; small = s; is = refl })) st refl refl) acc
  reach end names (Int z) s c fs bs st acc = goes (frame c Closed ∷ fs) bs
      (first_word (signed_decimal z) Closed (number (record { value = z; fits = s; is = refl })) st refl refl) acc
  reach end names (Con h) s c fs bs st acc = head_read end names h s c fs bs st acc
  reach end names (Ap (Ap (Con h) x) l) s c fs bs st acc = pair_read end names h x l s.0 s.1.0 s.1.1 (reach end names x s.1.0) (reach end names l s.1.1) c fs bs
      st acc
  reach end names (Ap f a) s c fs bs st acc =
      applied_read end names (applied_text names f) a c (spine_shape f) fs bs (takes_spine f) s.1 (reach end names a s.1)
      (λ cs u b. reach_spine end names f s.0 c fs cs u b) st acc

  reach_spine : (end : List ℕ) (names : List (List ℕ)) (f : Term) → IsSpelledSpine names f → (c : Bool) (fs : List Frame) (bs : List ℕ) → Stops is_part bs
      → Accepts end (frame c (spine_shape f) ∷ fs) bs → Accepts end (frame c Wanted ∷ fs) (applied_text names f ++ bs)
  reach_spine end names (Var n) s c fs bs st acc = absurd s
  reach_spine end names (Int z) s c fs bs st acc = absurd s
  reach_spine end names (Con h) s c fs bs st acc = head_read end names h s c fs bs st acc
  reach_spine end names (Ap f a) s c fs bs st acc =
      applied_read end names (applied_text names f) a c (spine_shape f) fs bs (takes_spine f) s.1 (reach end names a s.1)
      (λ cs u b. reach_spine end names f s.0 c fs cs u b) st acc

-- the outermost bracket
pub accepts_whole : (names : List (List ℕ)) (t : Term) → IsSpelledTerm names t → has_arguments t ≡ true → (rest : List ℕ)
    → Accepts rest (fresh ∷ []) (term_text names t ++ 41 ∷ rest)
accepts_whole names t s h rest =
    reach rest names t s false [] (41 ∷ rest) (stop 41 rest refl)
    (goes [] rest (part_goes (chain_after names false t) (shape_after names t) [] (41 ∷ rest) [] rest (shape_full names t)
    (whole (closing names t h) refl refl refl)) (all_closed refl refl))
