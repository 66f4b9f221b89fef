use Rattle.std.proofs.Common.{◌∙◌, sym}
use Rattle.spv_module.specs.Module.{plain_inst}
use Rattle.spv_declarations.proofs.Stated.{on_ok, pairs_build}
use Rattle.spv_declarations.proofs.built_in.BuiltIns.note.Goals as goal

pub returns-in_default-clause-members : goal.returns-in_default-clause-members
returns-in_default-clause-members c = on_ok c.note_pairs.result _ _
    (pairs_build c.requires.said.0 c.args.definitions.now c.args.said.now (plain_inst c.args.inst.now)
    c.args.self.now.members c.note_pairs.new.self.members c.requires.said.1 c.requires.inst
    (sym c.member_given.ensures ∙ c.in_default.is)) c.note_pairs.ensures.members
