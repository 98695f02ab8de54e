use Rattle.std.proofs.lemmas.Result.{IfOk-from_err}
use Rattle.std.proofs.lemmas.Str.{IsUtf8-from_ascii}
use Rattle.ll_parser.proofs.stored.Naming.{is-ok, ok-value, named-text}
use Rattle.ll_parser.proofs.symbols.word.Goals as goal

pub unwrap-text-requires : goal.unwrap-text-requires
unwrap-text-requires c = is-ok c.from_utf8.result _ _ _ c.from_utf8.ensures.cases (IsUtf8-from_ascii c.args.bytes.now c.requires.ascii)

pub returns-clause-text : goal.returns-clause-text
returns-clause-text c =
    named-text c.add.new.self c.in_ok-name.name c.args.at _ c.args.bytes.now c.in_ok-name.ensures.text
    (ok-value c.from_utf8.result _ _ c.unwrap-text.result c.unwrap-text.ensures c.from_utf8.ensures.cases).0

pub returns-in_err-name-clause-names : goal.returns-in_err-name-clause-names
returns-in_err-name-clause-names c = IfOk-from_err c.from_residual.result _ c.from_residual.ensures.0

pub returns-in_err-name-clause-text : goal.returns-in_err-name-clause-text
returns-in_err-name-clause-text c = IfOk-from_err c.from_residual.result _ c.from_residual.ensures.0
