-- Numbers as they are written.
use Rattle.std.proofs.Common.{◌≡◌, ℕ, ◌<◌, ◌^◌, List, ap, sym, subst, ◌∙◌, arith, decimal, Ok, Err, Result, true, false, rules, to_z, of_z}
use Rattle.std.specs.Prelude.{IsTrue, ℤ, pos, negsuc, FitsSigned}
use Rattle.std.specs.Fmt.{signed_decimal}
use Rattle.std.specs.Int.{w64}
use Rattle.std.specs.Int.Signed.{mag}
use Rattle.std.proofs.lemmas.Int.{to_z-of_z}
use Rattle.std.specs.Str.{IsUtf8, IsAscii}
use Rattle.std.specs.Str.Parse.{ParsesUnsigned, ParsesSigned}
use Rattle.std.proofs.lemmas.Fmt.{parse-decimal, parse-signed_decimal, IsAscii-decimal}
use Rattle.std.proofs.lemmas.Str.{IsUtf8-from_ascii}
use Rattle.itoa.proofs.Decimal.{IsAscii-signed_decimal}
use Rattle.ll_prooftext.specs.Reading.{IsNumber, IsDecimal, IsInteger}

-- a spelling is text
pub number_utf8 : (bytes : List ℕ) → IsNumber bytes → IsUtf8 bytes
number_utf8 bytes h = IsUtf8-from_ascii bytes (subst IsAscii (sym h.is) (IsAscii-decimal h.number (let l = h.small in omega arith)))

pub wide_utf8 : (bytes : List ℕ) → IsDecimal 64 bytes → IsUtf8 bytes
wide_utf8 bytes h = IsUtf8-from_ascii bytes (subst IsAscii (sym h.is) (IsAscii-decimal h.number h.small))

pub integer_utf8 : (bytes : List ℕ) → IsInteger bytes → IsUtf8 bytes
integer_utf8 bytes h = IsUtf8-from_ascii bytes (subst IsAscii (sym h.is) (IsAscii-signed_decimal h.value h.fits))

-- 64 bits hold the size of a whole number
pub mag_small : (z : ℤ) → FitsSigned w64 z → mag z < 2 ^ 63
mag_small (pos n) f = search rules
mag_small (negsuc n) f = search rules

-- the parser finds its number
number_parsed : {E : Type 0} (bytes : List ℕ) (r : Result ℕ E) → (h : IsNumber bytes) → ParsesUnsigned 32 10 bytes r → r ≡ Ok h.number
number_parsed bytes r h p = parse-decimal 32 h.number bytes r h.small (let l = h.small in omega arith) h.is p

wide_parsed : {E : Type 0} (bytes : List ℕ) (r : Result ℕ E) → (h : IsDecimal 64 bytes) → ParsesUnsigned 64 10 bytes r → r ≡ Ok h.number
wide_parsed bytes r h p = parse-decimal 64 h.number bytes r h.small h.small h.is p

integer_parsed : {E : Type 0} (bytes : List ℕ) (r : Result ℤ E) → (h : IsInteger bytes) → ParsesSigned w64 10 bytes r → r ≡ Ok h.value
integer_parsed bytes r h p = parse-signed_decimal w64 h.value bytes r h.fits (mag_small h.value h.fits) h.is p

-- so where it finds none there is none
pub no_number : {E : Type 0} (bytes : List ℕ) (e : E) → ParsesUnsigned 32 10 bytes (Err e) → IsNumber bytes → ⊥
no_number bytes e p h = let q = number_parsed bytes (Err e) h p in let x : ⊥ = cc in x

pub no_wide : {E : Type 0} (bytes : List ℕ) (e : E) → ParsesUnsigned 64 10 bytes (Err e) → IsDecimal 64 bytes → ⊥
no_wide bytes e p h = let q = wide_parsed bytes (Err e) h p in let x : ⊥ = cc in x

pub no_integer : {E : Type 0} (bytes : List ℕ) (e : E) → ParsesSigned w64 10 bytes (Err e) → IsInteger bytes → ⊥
no_integer bytes e p h = let q = integer_parsed bytes (Err e) h p in let x : ⊥ = cc in x

-- and where it finds one it is that one
pub its_number : (bytes : List ℕ) (n : ℕ) → ParsesUnsigned {E = ℕ} 32 10 bytes (Ok n) → IsNumber bytes → bytes ≡ decimal n
its_number bytes n p h = let q = number_parsed {E = ℕ} bytes (Ok n) h p in let e : h.number ≡ n = cc in h.is ∙ ap decimal e

pub its_wide : (bytes : List ℕ) (n : ℕ) → ParsesUnsigned {E = ℕ} 64 10 bytes (Ok n) → IsDecimal 64 bytes → bytes ≡ decimal n
its_wide bytes n p h = let q = wide_parsed {E = ℕ} bytes (Ok n) h p in let e : h.number ≡ n = cc in h.is ∙ ap decimal e

pub its_integer : (bytes : List ℕ) (z : ℤ) → ParsesSigned {E = ℕ} w64 10 bytes (Ok z) → IsInteger bytes → bytes ≡ signed_decimal (to_z w64 (of_z w64 z))
its_integer bytes z p h =
    let q = integer_parsed {E = ℕ} bytes (Ok z) h p in
    let e : h.value ≡ z = cc in
    h.is ∙ ap signed_decimal (e ∙ sym (to_z-of_z w64 z (subst (FitsSigned w64) e h.fits)))

-- a test that fails does not hold
pub not_failed : {P : Type 0} → (P → IsTrue false) → P → ⊥
not_failed f p = let e : false ≡ true = f p in let x : ⊥ = cc in x
