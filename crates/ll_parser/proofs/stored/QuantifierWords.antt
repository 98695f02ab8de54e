-- The word of a quantifier, for those who do not tell the two apart.
use Rattle.std.proofs.Common.{◌≡◌, refl}
use Rattle.ll_lexer.specs.declared.Place.{Place}
use Rattle.ll_parser.specs.declared.Quantifier.{Quantifier}
use Rattle.ll_parser.specs.declared.Quantifier.TheVariants as quantifier
use Rattle.ll_parser.specs.Tokens.{Identifier, tok_place}
use Rattle.ll_parser.specs.Raw.{Raw, universal, existential}
use Rattle.ll_parser.specs.Grammar.{quantifier_token, quantifier_raw}

-- what holds of both quantifiers
pub either_quantifier : (P : Raw → Type 0) (q : Quantifier) (at : Place) (n : Identifier) (r : Raw) → P (universal at n r) → P (existential at n r)
    → P (quantifier_raw q at n r)
either_quantifier P quantifier.Forall at n r u e = u
either_quantifier P quantifier.Exists at n r u e = e

pub quantifier_place : (q : Quantifier) (at : Place) → tok_place (quantifier_token q at) ≡ at
quantifier_place quantifier.Forall at = refl
quantifier_place quantifier.Exists at = refl
