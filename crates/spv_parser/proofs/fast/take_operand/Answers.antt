use Rattle.std.proofs.Common.{◌∙◌, sym, ap}
use Rattle.spv_table.specs.declared.form.Form.TheVariants.{Leaf}
use Rattle.spv_parser.proofs.fast.take_operand.Goals as goal

pub returns-in-Id-clause-taken : goal.returns-in-Id-clause-taken
returns-in-Id-clause-taken c =
    λ line d h i k. c.take_id.ensures c.args.setting.now.table.now c.args.kind
    (sym c.requires.form ∙ (c.in-Leaf.is ∙ ap Leaf c.in-Id.is)) line d h

pub returns-in-Integer-clause-taken : goal.returns-in-Integer-clause-taken
returns-in-Integer-clause-taken c =
    λ line d h i k. c.take_word.ensures.integer c.args.setting.now.table.now c.args.kind
    (sym c.requires.form ∙ (c.in-Leaf.is ∙ ap Leaf c.in-Integer.is)) line d h

pub returns-in-Word-clause-taken : goal.returns-in-Word-clause-taken
returns-in-Word-clause-taken c =
    λ line d h i k. c.take_word-in-Word.ensures.word c.args.setting.now.table.now c.args.kind
    (sym c.requires.form ∙ (c.in-Leaf.is ∙ ap Leaf c.in-Word.is)) line d h

pub returns-in-Text-clause-taken : goal.returns-in-Text-clause-taken
returns-in-Text-clause-taken c =
    λ line d h i k. c.take_text.ensures c.args.setting.now.table.now c.args.kind
    (sym c.requires.form ∙ (c.in-Leaf.is ∙ ap Leaf c.in-Text.is)) line d h

pub returns-else-not-is_narrow-clause-taken : goal.returns-else-not-is_narrow-clause-taken
returns-else-not-is_narrow-clause-taken c = λ line d h i k.
    c.take_word-in-ContextNumber.ensures.number c.args.setting.now.table.now c.args.kind
    (sym c.requires.form ∙ (c.in-Leaf.is ∙ ap Leaf c.in-ContextNumber.is)) line d h
    (rw i (c.is_narrow.ensures d.before k c.if-not-is_narrow.false))
