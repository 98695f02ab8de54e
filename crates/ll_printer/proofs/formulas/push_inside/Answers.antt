use Rattle.std.proofs.Common.{refl}
use Rattle.ll_list_laws.proofs.CallerLemmas.{OnOk-weaker as on_ok}
use Rattle.ll_printer.specs.declared.formulas.Word.TheVariants as word
use Rattle.ll_printer.proofs.Parts.{word-inside, inside-braces, inside-bound, inside-binary, inside-number, inside-load, inside-head}
use Rattle.ll_printer.proofs.formulas.push_inside.Goals as goal

pub returns-in-True : goal.returns-in-True
returns-in-True c =
    on_ok c.push_part.result (λ e. word-inside c.args.source.now.names.now c.args.source.now.forms.now c.args.at c.args.followed c.args.parts.now.items
    c.push_part.new.parts.items _ word.True (c.in-True.ensures.tree c.args.source.now.names.now) e refl) c.push_part.ensures

pub returns-in-Erase : goal.returns-in-Erase
returns-in-Erase c =
    on_ok c.push_part-in-Erase.result (λ e. word-inside c.args.source.now.names.now c.args.source.now.forms.now c.args.at c.args.followed c.args.parts.now.items
    c.push_part-in-Erase.new.parts.items _ word.Erase (c.in-Erase.ensures.tree c.args.source.now.names.now) e refl) c.push_part-in-Erase.ensures

pub returns-in-Any : goal.returns-in-Any
returns-in-Any c =
    on_ok c.push_part-in-Any.result (λ e. word-inside c.args.source.now.names.now c.args.source.now.forms.now c.args.at c.args.followed c.args.parts.now.items
    c.push_part-in-Any.new.parts.items _ word.True (c.in-Any.ensures.tree c.args.source.now.names.now) e refl) c.push_part-in-Any.ensures

pub returns-in-Int : goal.returns-in-Int
returns-in-Int c =
    on_ok c.push_part-in-Int.result (λ e. word-inside c.args.source.now.names.now c.args.source.now.forms.now c.args.at c.args.followed c.args.parts.now.items
    c.push_part-in-Int.new.parts.items _ word.True (c.in-Int.ensures.tree c.args.source.now.names.now) e refl) c.push_part-in-Int.ensures

pub returns-in-Load : goal.returns-in-Load
returns-in-Load c =
    on_ok c.push_load.result
    (inside-load c.args.source.now.names.now c.args.source.now.forms.now c.args.at c.in-Load.goal c.in-Load.name c.in-Load.args.now c.args.followed _
    c.args.parts.now.items c.push_load.new.parts.items c.requires (c.in-Load.ensures.tree c.args.source.now.names.now) c.in-Load.ensures.parts.0
    c.in-Load.ensures.parts.1)
    c.push_load.ensures

pub returns-in-Head : goal.returns-in-Head
returns-in-Head c =
    on_ok c.push_head.result
    (inside-head c.args.source.now.names.now c.args.source.now.forms.now c.args.at c.in-Head.name c.in-Head.args.now c.args.followed c.args.parts.now.items
    c.push_head.new.parts.items c.requires (c.in-Head.ensures.tree c.args.source.now.names.now) c.in-Head.ensures.parts)
    c.push_head.ensures

pub returns-in-Braces : goal.returns-in-Braces
returns-in-Braces c =
    on_ok c.push_all.result
    (inside-braces c.args.source.now.names.now c.args.source.now.forms.now c.args.at c.in-Braces.goal c.args.followed _ c.args.parts.now.items
    c.push_all.new.parts.items c.requires (c.in-Braces.ensures.tree c.args.source.now.names.now) c.in-Braces.ensures.parts)
    c.push_all.ensures

pub returns-in-Forall : goal.returns-in-Forall
returns-in-Forall c =
    on_ok c.push_bound.result
    (inside-bound c.args.source.now.names.now c.args.source.now.forms.now c.args.at c.in-Forall.body c.args.followed c.in-Forall.name word.Forall _
    c.args.parts.now.items c.push_bound.new.parts.items c.requires (c.in-Forall.ensures.tree c.args.source.now.names.now) c.in-Forall.ensures.parts refl refl)
    c.push_bound.ensures

pub returns-in-Exists : goal.returns-in-Exists
returns-in-Exists c =
    on_ok c.push_bound-in-Exists.result
    (inside-bound c.args.source.now.names.now c.args.source.now.forms.now c.args.at c.in-Exists.body c.args.followed c.in-Exists.name word.Exists _
    c.args.parts.now.items c.push_bound-in-Exists.new.parts.items c.requires (c.in-Exists.ensures.tree c.args.source.now.names.now) c.in-Exists.ensures.parts
    refl refl)
    c.push_bound-in-Exists.ensures

pub returns-in-Binary : goal.returns-in-Binary
returns-in-Binary c =
    on_ok c.push_all-in-Binary.result
    (inside-binary c.args.source.now.names.now c.args.source.now.forms.now c.args.at c.in-Binary.left c.in-Binary.right c.in-Binary.op
    c.left_level.result c.right_level.result c.args.followed _ c.args.parts.now.items c.push_all-in-Binary.new.parts.items c.requires
    (c.in-Binary.ensures.tree c.args.source.now.names.now) c.in-Binary.ensures.parts.0 c.in-Binary.ensures.parts.1 c.left_level.ensures
    c.right_level.ensures)
    c.push_all-in-Binary.ensures

pub returns-in-Is : goal.returns-in-Is
returns-in-Is c =
    on_ok c.push_number.result
    (inside-number c.args.source.now.names.now c.args.source.now.forms.now c.args.at c.in-Is.left c.in-Is.right word.Is c.args.followed _
    c.args.parts.now.items c.push_number.new.parts.items c.requires (c.in-Is.ensures.tree c.args.source.now.names.now) c.in-Is.ensures.parts refl refl)
    c.push_number.ensures

pub returns-in-Less : goal.returns-in-Less
returns-in-Less c =
    on_ok c.push_number-in-Less.result
    (inside-number c.args.source.now.names.now c.args.source.now.forms.now c.args.at c.in-Less.left c.in-Less.right word.Less c.args.followed _
    c.args.parts.now.items c.push_number-in-Less.new.parts.items c.requires (c.in-Less.ensures.tree c.args.source.now.names.now) c.in-Less.ensures.parts refl
    refl)
    c.push_number-in-Less.ensures

pub returns-in-Most : goal.returns-in-Most
returns-in-Most c =
    on_ok c.push_number-in-Most.result
    (inside-number c.args.source.now.names.now c.args.source.now.forms.now c.args.at c.in-Most.left c.in-Most.right word.Most c.args.followed _
    c.args.parts.now.items c.push_number-in-Most.new.parts.items c.requires (c.in-Most.ensures.tree c.args.source.now.names.now) c.in-Most.ensures.parts refl
    refl)
    c.push_number-in-Most.ensures
