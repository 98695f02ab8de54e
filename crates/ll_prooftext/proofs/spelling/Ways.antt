-- What each step allows, seen from the brackets and the bytes before it.
use Rattle.std.proofs.Common.{◌≡◌, ℕ, Bool, true, false, List, [], ◌∷◌, ◌++◌, refl, ap, sym, subst, ◌∙◌}
use Rattle.std.specs.Prelude.{◌==◌}
use Rattle.std.proofs.lemmas.Bool.{eq-eqb}
use Rattle.ll_lexer.specs.Spelling.{is_lower}
use Rattle.ll_prooftext.specs.Words.{Stops, BeginsNot}
use Rattle.ll_prooftext.specs.Terms.{is_part, Shape, Wanted, Bare, Applied, Closed, IsWord, HasNoWord, Frame, frame, takes, closes, fresh, FirstWay}
use Rattle.ll_prooftext.specs.Terms.{first_bracket, first_word, PartWay, bracket, word, sign, whole, argument, item, WaysOn, Accepts, goes, closed}
use Rattle.ll_prooftext.proofs.spelling.Spellings.{word_parts, one_word, one_shape, head_start, leaf_start, head_first, leaf_first}
use Rattle.ll_prooftext.proofs.spelling.Reach.{is_wanted}

-- one step, and what follows it
record Goer (end : List ℕ) (fs : List Frame) (bytes : List ℕ) : Type 0 where
  pub next : List Frame
  pub left : List ℕ
  pub way : WaysOn fs bytes next left
  pub rest : Accepts end next left

goer : (end : List ℕ) (f : Frame) (fs : List Frame) (bytes : List ℕ) → Accepts end (f ∷ fs) bytes → Goer end (f ∷ fs) bytes
goer end f fs bytes (closed e b) = absurd cc
goer end f fs bytes (goes gs left w a) = record { next = gs; left = left; way = w; rest = a }

part_way : (c : Bool) (p : Shape) (fs : List Frame) (bytes : List ℕ) (gs : List Frame) (left : List ℕ) → is_wanted p ≡ false
    → WaysOn (frame c p ∷ fs) bytes gs left → PartWay c p fs bytes gs left
part_way c Wanted fs bytes gs left e w = absurd cc
part_way c Bare fs bytes gs left e w = w
part_way c Applied fs bytes gs left e w = w
part_way c Closed fs bytes gs left e w = w

-- two lists that begin with different bytes, and two with the same
pub byte_apart : (a b : ℕ) (us vs : List ℕ) → a ∷ us ≡ b ∷ vs → (a == b) ≡ false → ⊥
byte_apart a b us vs e f = let q : a ≡ b = cc in let t : (a == b) ≡ true = eq-eqb a b q in let x : ⊥ = cc in x

pub behind_byte : (a : ℕ) (us vs : List ℕ) → a ∷ us ≡ a ∷ vs → us ≡ vs
behind_byte a us vs e = cc

moved : (end : List ℕ) (fs gs : List Frame) (bs cs : List ℕ) → fs ≡ gs → bs ≡ cs → Accepts end fs bs → Accepts end gs cs
moved end fs gs bs cs e f a = subst (λ hs. Accepts end hs cs) e (subst (Accepts end fs) f a)

-- no word begins with a bracket
pub no_bracket : (w left bs : List ℕ) (p : Shape) → IsWord w p → w ++ left ≡ 40 ∷ bs → ⊥
unfolding is_lower
no_bracket w left bs Wanted i e = i
no_bracket w left bs Applied i e = i
no_bracket w left bs Bare i e =
    let s = head_first w i in
    let f : s.byte ∷ (s.others ++ left) ≡ 40 ∷ bs = ap (λ z. z ++ left) (sym s.is) ∙ e in
    let q : s.byte ≡ 40 = cc in
    let g : false ≡ true = ap head_start (sym q) ∙ s.passes in
    let x : ⊥ = cc in x
no_bracket w left bs Closed i e =
    let s = leaf_first w i in
    let f : s.byte ∷ (s.others ++ left) ≡ 40 ∷ bs = ap (λ z. z ++ left) (sym s.is) ∙ e in
    let q : s.byte ≡ 40 = cc in
    let g : false ≡ true = ap leaf_start (sym q) ∙ s.passes in
    let x : ⊥ = cc in x

same_frames : (end : List ℕ) (gs hs : List Frame) (left bs : List ℕ) → gs ≡ hs → bs ≡ left → Accepts end gs left → Accepts end hs bs
same_frames end gs hs left bs e f a = moved end gs hs left bs e (sym f) a

-- ---- where a part is wanted

pub first_bracket_on : (end : List ℕ) (c : Bool) (fs : List Frame) (bs : List ℕ) → Accepts end (frame c Wanted ∷ fs) (40 ∷ bs)
    → Accepts end (fresh ∷ frame c Wanted ∷ fs) bs
first_bracket_on end c fs bs a = let g = goer end (frame c Wanted) fs (40 ∷ bs) a in by_way g.next g.left g.way g.rest
  where
    by_way : (gs : List Frame) (left : List ℕ) → FirstWay c fs (40 ∷ bs) gs left → Accepts end gs left → Accepts end (fresh ∷ frame c Wanted ∷ fs) bs
    by_way gs left (first_bracket e h) r = same_frames end gs (fresh ∷ frame c Wanted ∷ fs) left bs h (behind_byte 40 bs left e) r
    by_way gs left (first_word w p i s e h) r = absurd (no_bracket w left bs p i (sym e))

pub first_word_on : (end : List ℕ) (c : Bool) (fs : List Frame) (bytes w bs : List ℕ) (p : Shape) → IsWord w p → Stops is_part bs → bytes ≡ w ++ bs
    → Accepts end (frame c Wanted ∷ fs) bytes → Accepts end (frame c p ∷ fs) bs
first_word_on end c fs bytes w bs p i s e a = let g = goer end (frame c Wanted) fs bytes a in by_way g.next g.left g.way g.rest
  where
    by_way : (gs : List Frame) (left : List ℕ) → FirstWay c fs bytes gs left → Accepts end gs left → Accepts end (frame c p ∷ fs) bs
    by_way gs left (first_bracket f h) r = absurd (no_bracket w bs left p i (sym e ∙ f))
    by_way gs left (first_word v q j t f h) r =
        let k = one_word w bs v left q (word_parts w p i) s j t (sym e ∙ f) in
        let o : p ≡ q = one_shape w p q i (subst (λ z. IsWord z q) (sym k.0) j) in
        same_frames end gs (frame c p ∷ fs) left bs (h ∙ ap (λ x. frame c x ∷ fs) (sym o)) k.1 r

pub first_none : (end : List ℕ) (c : Bool) (fs : List Frame) (bytes : List ℕ) → BeginsNot 40 bytes → HasNoWord bytes → Accepts end (frame c Wanted ∷ fs) bytes
    → ⊥
first_none end c fs bytes b n a = let g = goer end (frame c Wanted) fs bytes a in by_way g.next g.left g.way
  where
    by_way : (gs : List Frame) (left : List ℕ) → FirstWay c fs bytes gs left → ⊥
    by_way gs left (first_bracket e h) = b left e
    by_way gs left (first_word w p i s e h) = n w left p i e s

-- ---- behind a part

module _ (end : List ℕ) (c : Bool) (p : Shape) (fs : List Frame) (bytes : List ℕ) (full : is_wanted p ≡ false) where
  -- what holds of each way
  by_ways : (P : Type 0) → ((gs : List Frame) (left : List ℕ) → PartWay c p fs bytes gs left → Accepts end gs left → P) → Accepts end (frame c p ∷ fs) bytes → P
  by_ways P f a = let g = goer end (frame c p) fs bytes a in f g.next g.left (part_way c p fs bytes g.next g.left full g.way) g.rest

pub argument_bracket_on : (end : List ℕ) (c : Bool) (p : Shape) (fs : List Frame) (bs : List ℕ) → is_wanted p ≡ false
    → Accepts end (frame c p ∷ fs) (32 ∷ 40 ∷ bs) → Accepts end (fresh ∷ frame c p ∷ fs) bs
argument_bracket_on end c p fs bs full a = by_ways end c p fs (32 ∷ 40 ∷ bs) full (Accepts end (fresh ∷ frame c p ∷ fs) bs) by_way a
  where
    by_way : (gs : List Frame) (left : List ℕ) → PartWay c p fs (32 ∷ 40 ∷ bs) gs left → Accepts end gs left → Accepts end (fresh ∷ frame c p ∷ fs) bs
    by_way gs left (bracket t e h) r = same_frames end gs (fresh ∷ frame c p ∷ fs) left bs h (behind_byte 40 bs left (behind_byte 32 (40 ∷ bs) (40 ∷ left) e)) r
    by_way gs left (word t w q i s e h) r = absurd (no_bracket w left bs q i (sym (behind_byte 32 (40 ∷ bs) (w ++ left) e)))
    by_way gs left (sign e h) r = absurd (byte_apart _ _ _ _ e refl)
    by_way gs left (whole t n e h) r = absurd (byte_apart _ _ _ _ e refl)
    by_way gs left (argument t d q hs n u e h) r = absurd (byte_apart _ _ _ _ e refl)
    by_way gs left (item t d hs n e h) r = absurd (byte_apart _ _ _ _ e refl)

pub argument_word_on : (end : List ℕ) (c : Bool) (p : Shape) (fs : List Frame) (bytes w bs : List ℕ) (q : Shape) → is_wanted p ≡ false → IsWord w q
    → Stops is_part bs → bytes ≡ w ++ bs → Accepts end (frame c p ∷ fs) (32 ∷ bytes) → Accepts end (frame c Applied ∷ fs) bs
argument_word_on end c p fs bytes w bs q full i s e a = by_ways end c p fs (32 ∷ bytes) full (Accepts end (frame c Applied ∷ fs) bs) by_way a
  where
    by_way : (gs : List Frame) (left : List ℕ) → PartWay c p fs (32 ∷ bytes) gs left → Accepts end gs left → Accepts end (frame c Applied ∷ fs) bs
    by_way gs left (bracket t f h) r = absurd (no_bracket w bs left q i (sym e ∙ behind_byte 32 bytes (40 ∷ left) f))
    by_way gs left (word t v o j u f h) r =
        let g : bytes ≡ v ++ left = behind_byte 32 bytes (v ++ left) f in
        let k = one_word w bs v left o (word_parts w q i) s j u (sym e ∙ g) in
        same_frames end gs (frame c Applied ∷ fs) left bs h k.1 r
    by_way gs left (sign f h) r = absurd (byte_apart _ _ _ _ f refl)
    by_way gs left (whole t n f h) r = absurd (byte_apart _ _ _ _ f refl)
    by_way gs left (argument t d o hs n u f h) r = absurd (byte_apart _ _ _ _ f refl)
    by_way gs left (item t d hs n f h) r = absurd (byte_apart _ _ _ _ f refl)

pub argument_none : (end : List ℕ) (c : Bool) (p : Shape) (fs : List Frame) (bytes : List ℕ) → is_wanted p ≡ false → BeginsNot 40 bytes → HasNoWord bytes
    → Accepts end (frame c p ∷ fs) (32 ∷ bytes) → ⊥
argument_none end c p fs bytes full b n a = by_ways end c p fs (32 ∷ bytes) full ⊥ by_way a
  where
    by_way : (gs : List Frame) (left : List ℕ) → PartWay c p fs (32 ∷ bytes) gs left → Accepts end gs left → ⊥
    by_way gs left (bracket t f h) r = b left (behind_byte 32 bytes (40 ∷ left) f)
    by_way gs left (word t v o j u f h) r = n v left o j (behind_byte 32 bytes (v ++ left) f) u
    by_way gs left (sign f h) r = byte_apart _ _ _ _ f refl
    by_way gs left (whole t m f h) r = byte_apart _ _ _ _ f refl
    by_way gs left (argument t d o hs m u f h) r = byte_apart _ _ _ _ f refl
    by_way gs left (item t d hs m f h) r = byte_apart _ _ _ _ f refl

-- no argument stands behind a term that takes none
pub argument_refused : (end : List ℕ) (c : Bool) (fs : List Frame) (bytes : List ℕ) → Accepts end (frame c Closed ∷ fs) (32 ∷ bytes) → ⊥
argument_refused end c fs bytes a = by_ways end c Closed fs (32 ∷ bytes) refl ⊥ by_way a
  where
    by_way : (gs : List Frame) (left : List ℕ) → PartWay c Closed fs (32 ∷ bytes) gs left → Accepts end gs left → ⊥
    by_way gs left (bracket t f h) r = let x : ⊥ = cc in x
    by_way gs left (word t v o j u f h) r = let x : ⊥ = cc in x
    by_way gs left (sign f h) r = byte_apart _ _ _ _ f refl
    by_way gs left (whole t m f h) r = byte_apart _ _ _ _ f refl
    by_way gs left (argument t d o hs m u f h) r = byte_apart _ _ _ _ f refl
    by_way gs left (item t d hs m f h) r = byte_apart _ _ _ _ f refl

pub sign_on : (end : List ℕ) (c : Bool) (p : Shape) (fs : List Frame) (bs : List ℕ) → is_wanted p ≡ false → Accepts end (frame c p ∷ fs) (58 ∷ 58 ∷ bs)
    → Accepts end (frame true Wanted ∷ fs) bs
sign_on end c p fs bs full a = by_ways end c p fs (58 ∷ 58 ∷ bs) full (Accepts end (frame true Wanted ∷ fs) bs) by_way a
  where
    by_way : (gs : List Frame) (left : List ℕ) → PartWay c p fs (58 ∷ 58 ∷ bs) gs left → Accepts end gs left → Accepts end (frame true Wanted ∷ fs) bs
    by_way gs left (bracket t f h) r = absurd (byte_apart _ _ _ _ f refl)
    by_way gs left (word t v o j u f h) r = absurd (byte_apart _ _ _ _ f refl)
    by_way gs left (sign f h) r = same_frames end gs (frame true Wanted ∷ fs) left bs h (behind_byte 58 bs left (behind_byte 58 (58 ∷ bs) (58 ∷ left) f)) r
    by_way gs left (whole t m f h) r = absurd (byte_apart _ _ _ _ f refl)
    by_way gs left (argument t d o hs m u f h) r = absurd (byte_apart _ _ _ _ f refl)
    by_way gs left (item t d hs m f h) r = absurd (byte_apart _ _ _ _ f refl)

-- ---- the end of a bracket

pub close_none : (end : List ℕ) (c : Bool) (p : Shape) (fs : List Frame) (bs : List ℕ) → is_wanted p ≡ false → c ≡ false → closes c p ≡ false
    → Accepts end (frame c p ∷ fs) (41 ∷ bs) → ⊥
close_none end c p fs bs full n k a = by_ways end c p fs (41 ∷ bs) full ⊥ by_way a
  where
    by_way : (gs : List Frame) (left : List ℕ) → PartWay c p fs (41 ∷ bs) gs left → Accepts end gs left → ⊥
    by_way gs left (bracket t f h) r = byte_apart _ _ _ _ f refl
    by_way gs left (word t v o j u f h) r = byte_apart _ _ _ _ f refl
    by_way gs left (sign f h) r = byte_apart _ _ _ _ f refl
    by_way gs left (whole t m f h) r = let x : false ≡ true = sym k ∙ t in let y : ⊥ = cc in y
    by_way gs left (argument t d o hs m u f h) r = let x : false ≡ true = sym k ∙ t in let y : ⊥ = cc in y
    by_way gs left (item t d hs m f h) r = let x : false ≡ true = sym n ∙ t in let y : ⊥ = cc in y

pub close_whole : (end : List ℕ) (c : Bool) (p : Shape) (fs : List Frame) (bs : List ℕ) → is_wanted p ≡ false → fs ≡ [] → Accepts end (frame c p ∷ fs) (41 ∷ bs)
    → bs ≡ end
close_whole end c p fs bs full none a = by_ways end c p fs (41 ∷ bs) full (bs ≡ end) by_way a
  where
    ended : (gs : List Frame) (left : List ℕ) → gs ≡ [] → Accepts end gs left → left ≡ end
    ended gs left e (closed f b) = b
    ended [] left e (goes hs more w a) = absurd w
    ended (g ∷ gs) left e (goes hs more w a) = absurd cc

    by_way : (gs : List Frame) (left : List ℕ) → PartWay c p fs (41 ∷ bs) gs left → Accepts end gs left → bs ≡ end
    by_way gs left (bracket t f h) r = absurd (byte_apart _ _ _ _ f refl)
    by_way gs left (word t v o j u f h) r = absurd (byte_apart _ _ _ _ f refl)
    by_way gs left (sign f h) r = absurd (byte_apart _ _ _ _ f refl)
    by_way gs left (whole t m f h) r = behind_byte 41 bs left f ∙ ended gs left h r
    by_way gs left (argument t d o hs m u f h) r = absurd cc
    by_way gs left (item t d hs m f h) r = absurd cc

frame_parts : (d e : Bool) (p q : Shape) (fs gs : List Frame) → frame d p ∷ fs ≡ frame e q ∷ gs → (d ≡ e) × ((p ≡ q) × (fs ≡ gs))
frame_parts d e p q fs gs h = let f : frame d p ≡ frame e q = cc in (cc, (cc, cc))

pub close_argument : (end : List ℕ) (c : Bool) (p : Shape) (d : Bool) (q : Shape) (fs : List Frame) (bs : List ℕ) → is_wanted p ≡ false → takes q ≡ true
    → Accepts end (frame c p ∷ frame d q ∷ fs) (41 ∷ bs) → Accepts end (frame d Applied ∷ fs) bs
close_argument end c p d q fs bs full tk a = by_ways end c p (frame d q ∷ fs) (41 ∷ bs) full (Accepts end (frame d Applied ∷ fs) bs) by_way a
  where
    by_way : (gs : List Frame) (left : List ℕ) → PartWay c p (frame d q ∷ fs) (41 ∷ bs) gs left → Accepts end gs left → Accepts end (frame d Applied ∷ fs) bs
    by_way gs left (bracket t f h) r = absurd (byte_apart _ _ _ _ f refl)
    by_way gs left (word t v o j u f h) r = absurd (byte_apart _ _ _ _ f refl)
    by_way gs left (sign f h) r = absurd (byte_apart _ _ _ _ f refl)
    by_way gs left (whole t m f h) r = absurd cc
    by_way gs left (argument t e o hs m u f h) r =
        let k = frame_parts d e q o fs hs m in
        let x : d ≡ e = k.0 in
        let y : fs ≡ hs = k.1.1 in
        same_frames end gs (frame d Applied ∷ fs) left bs (h ∙ (let z : frame e Applied ∷ hs ≡ frame d Applied ∷ fs = cc in z)) (behind_byte 41 bs left f) r
    by_way gs left (item t e hs m f h) r =
        let k = frame_parts d e q Wanted fs hs m in
        let x : true ≡ false = sym tk ∙ ap takes k.1.0 in absurd cc

pub close_refused : (end : List ℕ) (c : Bool) (p : Shape) (d : Bool) (fs : List Frame) (bs : List ℕ) → is_wanted p ≡ false
    → Accepts end (frame c p ∷ frame d Closed ∷ fs) (41 ∷ bs) → ⊥
close_refused end c p d fs bs full a = by_ways end c p (frame d Closed ∷ fs) (41 ∷ bs) full ⊥ by_way a
  where
    by_way : (gs : List Frame) (left : List ℕ) → PartWay c p (frame d Closed ∷ fs) (41 ∷ bs) gs left → Accepts end gs left → ⊥
    by_way gs left (bracket t f h) r = byte_apart _ _ _ _ f refl
    by_way gs left (word t v o j u f h) r = byte_apart _ _ _ _ f refl
    by_way gs left (sign f h) r = byte_apart _ _ _ _ f refl
    by_way gs left (whole t m f h) r = let x : ⊥ = cc in x
    by_way gs left (argument t e o hs m u f h) r =
        let k = frame_parts d e Closed o fs hs m in
        let x : true ≡ false = sym u ∙ ap takes (sym k.1.0) in let y : ⊥ = cc in y
    by_way gs left (item t e hs m f h) r =
        let k = frame_parts d e Closed Wanted fs hs m in
        let x : Closed ≡ Wanted = k.1.0 in let y : ⊥ = cc in y

pub close_item_on : (end : List ℕ) (c : Bool) (p : Shape) (d : Bool) (fs : List Frame) (bs : List ℕ) → is_wanted p ≡ false
    → Accepts end (frame c p ∷ frame d Wanted ∷ fs) (41 ∷ 58 ∷ 58 ∷ bs) → Accepts end (frame true Wanted ∷ fs) bs
close_item_on end c p d fs bs full a = by_ways end c p (frame d Wanted ∷ fs) (41 ∷ 58 ∷ 58 ∷ bs) full (Accepts end (frame true Wanted ∷ fs) bs) by_way a
  where
    by_way : (gs : List Frame) (left : List ℕ) → PartWay c p (frame d Wanted ∷ fs) (41 ∷ 58 ∷ 58 ∷ bs) gs left → Accepts end gs left
        → Accepts end (frame true Wanted ∷ fs) bs
    by_way gs left (bracket t f h) r = absurd (byte_apart _ _ _ _ f refl)
    by_way gs left (word t v o j u f h) r = absurd (byte_apart _ _ _ _ f refl)
    by_way gs left (sign f h) r = absurd (byte_apart _ _ _ _ f refl)
    by_way gs left (whole t m f h) r = absurd cc
    by_way gs left (argument t e o hs m u f h) r =
        let k = frame_parts d e Wanted o fs hs m in
        let x : true ≡ false = sym u ∙ ap takes (sym k.1.0) in absurd cc
    by_way gs left (item t e hs m f h) r =
        let k = frame_parts d e Wanted Wanted fs hs m in
        let y : fs ≡ hs = k.1.1 in
        same_frames end gs (frame true Wanted ∷ fs) left bs (h ∙ ap (λ z. frame true Wanted ∷ z) (sym y))
        (behind_byte 58 bs left (behind_byte 58 (58 ∷ bs) (58 ∷ left) (behind_byte 41 (58 ∷ 58 ∷ bs) (58 ∷ 58 ∷ left) f))) r

pub close_item_none : (end : List ℕ) (c : Bool) (p : Shape) (d : Bool) (fs : List Frame) (bs : List ℕ) → is_wanted p ≡ false
    → (c ≡ true → (rest : List ℕ) → bs ≡ 58 ∷ 58 ∷ rest → ⊥) → Accepts end (frame c p ∷ frame d Wanted ∷ fs) (41 ∷ bs) → ⊥
close_item_none end c p d fs bs full none a = by_ways end c p (frame d Wanted ∷ fs) (41 ∷ bs) full ⊥ by_way a
  where
    by_way : (gs : List Frame) (left : List ℕ) → PartWay c p (frame d Wanted ∷ fs) (41 ∷ bs) gs left → Accepts end gs left → ⊥
    by_way gs left (bracket t f h) r = byte_apart _ _ _ _ f refl
    by_way gs left (word t v o j u f h) r = byte_apart _ _ _ _ f refl
    by_way gs left (sign f h) r = byte_apart _ _ _ _ f refl
    by_way gs left (whole t m f h) r = let x : ⊥ = cc in x
    by_way gs left (argument t e o hs m u f h) r =
        let k = frame_parts d e Wanted o fs hs m in
        let x : true ≡ false = sym u ∙ ap takes (sym k.1.0) in let y : ⊥ = cc in y
    by_way gs left (item t e hs m f h) r = none t left (behind_byte 41 bs (58 ∷ 58 ∷ left) f)
