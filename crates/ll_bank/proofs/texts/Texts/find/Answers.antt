use Rattle.std.proofs.Common.{ap, ◌∙◌}
use Rattle.std.specs.Str.{bytes_eq}
use Rattle.std.specs.String.{string_bytes}
use Rattle.ll_bank.specs.Names.{number_of}
use Rattle.ll_bank.proofs.NameLaws.{position_of_text}
use Rattle.ll_bank.proofs.texts.Texts.find.Goals as goal

pub returns : goal.returns
returns c =
    c.get_index_of.ensures.index ∙ (position_of_text string_bytes (bytes_eq c.args.text.now) c.self.inside.texts.keys
    ∙ ap (λ texts. number_of texts c.args.text.now) c.self.view_is)
