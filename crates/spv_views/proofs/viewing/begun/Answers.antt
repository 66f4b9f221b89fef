use Rattle.std.proofs.Common.{◌≡◌, ℕ, List, drop, subst}
use Rattle.spv_module.specs.Instruction.{IsListing}
use Rattle.spv_module.specs.Malformed.{IsMalformed}
use Rattle.spv_module.specs.Module.{plain_insts}
use Rattle.spv_module.specs.Operand.{PlainInst}
use Rattle.spv_views.proofs.Beginnings.{dead_least, headed, part_of}
use Rattle.spv_views.proofs.Viewings.{spelled}
use Rattle.spv_views.proofs.viewing.begun.Goals as goal

pub text_of-requires-clause-spelled : goal.text_of-requires-clause-spelled
text_of-requires-clause-spelled c =
    let d = c.in-Ok-decode in
    spelled c.args.table.now c.in-Ok.start d.module c.len-words.ensures.fit
    (record { listing = d.ensures.found; header = d.ensures.header })

pub returns-clause-begun : goal.returns-clause-begun
returns-clause-begun c =
    let G = c.args.table.now in
    let words = c.args.image.now in
    let start = c.in-Ok.start in
    let b = c.in-Ok.ensures in
    let d = b.dead in
    let m = c.in-Ok-decode.module in
    let is = plain_insts m in
    let found = c.in-Ok-decode.ensures.found in
    let listed : IsListing G is d.part = subst (λ (z : List ℕ). IsListing G is z)
    (part_of G words start b.rule b.place d b.all) found in
    let same : d.insts ≡ is = c.one_listing.ensures G d.insts is d.part d.listing listed in
    let s = (c.shown_reads_back.ensures.shown G m.header is (drop 5 start) found).1 in (
      m,
      record {
        header = headed words start b.place m.header
            (dead_least G words b.rule b.place d) b.all c.in-Ok-decode.ensures.header;
        rule = b.rule;
        word = d.word;
        part = d.part;
        rest = d.rest;
        all = d.all;
        listed = listed;
        malformed = subst (λ (js : List PlainInst). IsMalformed G js d.rest b.rule d.word) same d.malformed;
      },
      c.in_ok-text.ensures s.lines s.shown,
    )
