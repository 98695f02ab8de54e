-- The token that a row of the list stands for.
use Rattle.ll_lexer.specs.declared.Row.{Row}
use Rattle.ll_lexer.specs.declared.Token.{Token}

abbrev pub token_of : Row → Token
token_of row = record { kind = row.kind; at = row.at; from = row.from; to = row.to }
