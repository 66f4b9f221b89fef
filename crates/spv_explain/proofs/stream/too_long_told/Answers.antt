use Rattle.std.proofs.Common.{Ok, ap, sym}
use Rattle.spv_words.specs.declared.words.WordError.TheVariants.{W8}
use Rattle.spv_explain.proofs.Tellings.{refused_told}
use Rattle.spv_explain.proofs.stream.too_long_told.Goals as goal

pub returns-in-Ok : goal.returns-in-Ok
returns-in-Ok c = λ detail G reach bytes h.
    refused_told c.one_refusal.ensures.once c.one_refusal.ensures.never detail G reach bytes W8 (Ok c.in-Ok.told) h
    (ap Ok (sym c.in-Ok.ensures.verdict)) c.in-Ok.ensures.lines
