-- What was written of a list whose elements were given one after the other, each with its own text.
use Rattle.std.proofs.Common.{◌≡◌, ℕ, subst, ap, sym, ◌∙◌, List, [], ◌∷◌, ◌++◌, append_assoc}
use Rattle.std.specs.Prelude.{Option}
use Rattle.std.specs.Io.KnownBytes.{append_known}
use Rattle.std.proofs.lemmas.List.{append-nil}
use Rattle.ll_edge.specs.Pieces.{AppendsFront}
use Rattle.ll_edge.proofs.CallerLemmas.{append_known-nil, append_known-append, front_in, no_front}
use Rattle.ll_order.specs.Outlets.{Gives, Refuses}

module _ {W X : Type 0} (takes breaks : W → X → W → Type 0) where
  -- what each call keeps
  module _ (Kept : W → W → Type 0) (same : (x : W) → Kept x x) (on : (x y z : W) → Kept x y → Kept y z → Kept x z) (took : (x : W) (e : X) (y : W) → takes x e y
      → Kept x y) (broke : (x : W) (e : X) (y : W) → breaks x e y → Kept x y) where
    pub given-kept : (x y : W) (es : List X) → Gives takes x es y → Kept x y
    given-kept x y [] g = subst (λ w. Kept x w) (sym g) (same x)
    given-kept x y (e ∷ es) (z, h, g) = on x z y (took x e z h) (given-kept z y es g)

    pub refused-kept : (x y : W) (es : List X) → Refuses takes breaks x es y → Kept x y
    refused-kept x y es r = on x r.between y (given-kept x r.between r.front r.given) (broke r.between r.refused y r.broke)

  -- each has a text, and these together are the lines of all
  module _ (written : W → Option (List ℕ)) (text : W → X → List ℕ) (lines : W → List X → List ℕ) (none : (x : W)
      → lines x [] ≡ []) (wrote : (x : W) (e : X) (y : W) → takes x e y → written y ≡ append_known (written x) (text x e))
      (goes_on : (x : W) (e : X) (y : W) (es : List X) → takes x e y → text x e ++ lines y es ≡ lines x (e ∷ es)) (begins : (x : W) (e : X) (es : List X)
      → (rest : List ℕ) × (text x e ++ rest ≡ lines x (e ∷ es)))
      (cut : (x : W) (e : X) (y : W) → breaks x e y → AppendsFront (written x) (text x e) (written y)) where
    -- all of them were given
    pub given-written : (x y : W) (es : List X) → Gives takes x es y → written y ≡ append_known (written x) (lines x es)
    given-written x y [] g = ap written g ∙ (sym (append_known-nil (written x)) ∙ ap (append_known (written x)) (sym (none x)))
    given-written x y (e ∷ es) (z, h, g) =
        given-written z y es g ∙ (ap (λ o. append_known o (lines z es)) (wrote x e z h)
        ∙ (append_known-append (written x) (text x e) (lines z es) ∙ ap (append_known (written x)) (goes_on x e z es h)))

    -- what comes behind a first element, in a text that ends with some last bytes
    later-front : (x z : W) (e : X) (es : List X) (last : List ℕ) (after : Option (List ℕ)) → takes x e z → AppendsFront (written z) (lines z es ++ last) after
        → AppendsFront (written x) (lines x (e ∷ es) ++ last) after
    later-front x z e es last after h f =
        let rest = lines z es ++ last in
        front_in (written x) (written z) after (text x e) rest [] (lines x (e ∷ es) ++ last) (wrote x e z h)
        (ap (λ xs. text x e ++ xs) (append-nil rest) ∙ (sym (append_assoc (text x e) (lines z es) last) ∙ ap (λ xs. xs ++ last) (goes_on x e z es h))) f

    -- only the first of them were given
    pub front-given : (x y : W) (front back : List X) (last : List ℕ) → Gives takes x front y
        → AppendsFront (written x) (lines x (front ++ back) ++ last) (written y)
    front-given x y [] back last g = subst (λ w. AppendsFront (written x) (lines x back ++ last) (written w)) (sym g)
        (no_front (written x) (lines x back ++ last))
    front-given x y (e ∷ front) back last (z, h, g) = later-front x z e (front ++ back) last (written y) h (front-given z y front back last g)

    -- and the next one was refused
    refused-here : (x y : W) (e : X) (back : List X) (last : List ℕ) → breaks x e y → AppendsFront (written x) (lines x (e ∷ back) ++ last) (written y)
    refused-here x y e back last b =
        let s = begins x e back in
        front_in (written x) (written x) (written y) [] (text x e) (s.0 ++ last) (lines x (e ∷ back) ++ last) (sym (append_known-nil (written x)))
        (sym (append_assoc (text x e) s.0 last) ∙ ap (λ xs. xs ++ last) s.1) (cut x e y b)

    front-refused : (x between y : W) (front : List X) (e : X) (back : List X) (last : List ℕ) → Gives takes x front between → breaks between e y
        → AppendsFront (written x) (lines x (front ++ e ∷ back) ++ last) (written y)
    front-refused x between y [] e back last g b = subst (λ w. AppendsFront (written w) (lines w (e ∷ back) ++ last) (written y)) g
        (refused-here between y e back last b)
    front-refused x between y (d ∷ front) e back last (z, h, g) b =
        later-front x z d (front ++ e ∷ back) last (written y) h (front-refused z between y front e back last g b)

    pub refused-written : (x y : W) (es : List X) (last : List ℕ) → Refuses takes breaks x es y → AppendsFront (written x) (lines x es ++ last) (written y)
    refused-written x y es last r = subst (λ xs. AppendsFront (written x) (lines x xs ++ last) (written y)) (sym r.order)
        (front-refused x r.between y r.front r.refused r.back last r.given r.broke)
