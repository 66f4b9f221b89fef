use Rattle.std.proofs.Common.{◌≡◌, ◌∙◌, sym}
use Rattle.spv_commands.specs.inner.Asked.{reads_of}
use Rattle.spv_commands.specs.declared.asked.Reads.TheVariants.{Module, Nothing}
use Rattle.spv_streams.proofs.Replies.{any_bytes, reads_nothing}
use Rattle.spv_streams.proofs.reading.content_on.Goals as goal

pub returns-in-Nothing-clause-known : goal.returns-in-Nothing-clause-known
returns-in-Nothing-clause-known g c =
    let reads : reads_of c.args.command.now ≡ Nothing = cc (c.reads_of.ensures, c.in-Nothing.is) in
    rw reads (any_bytes _ _ tt)

pub returns-in-Module-clause-known : goal.returns-in-Module-clause-known
returns-in-Module-clause-known g c =
    let reads : reads_of c.args.command.now ≡ Module = cc (c.reads_of.ensures, c.in-Module.is) in
    rw reads c.module_on.ensures.known

pub returns-in-Module-clause-unread : goal.returns-in-Module-clause-unread
returns-in-Module-clause-unread g c = λ n.
    let reads : reads_of c.args.command.now ≡ Module = cc (c.reads_of.ensures, c.in-Module.is) in
    let none : Nothing ≡ Module = sym (reads_nothing c.args.command.now n) ∙ reads in cc
