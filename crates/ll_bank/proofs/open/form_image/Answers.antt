use Rattle.std.proofs.Common.{sym, ap, ◌∙◌, option_copied}
use Rattle.std.specs.BTreeMap.{get}
use Rattle.ll_bank.specs.Instantiated.{by_spot}
use Rattle.ll_bank.proofs.ImageLemmas.{some_copied}
use Rattle.ll_bank.proofs.open.form_image.Goals as goal

pub unwrap-requires : goal.unwrap-requires
unwrap-requires c = some_copied c.get.result (get by_spot c.args.forms.now (c.args.form.0, c.args.level)) c.get.ensures.value c.requires

pub returns : goal.returns
returns c = sym c.get.ensures.value ∙ ap option_copied c.unwrap.ensures
