use Rattle.std.proofs.Common.{ℕ, Vec, Global, ap, ◌∙◌, is_some}
use Rattle.spv_table.specs.declared.table.Entry.{Entry}
use Rattle.std.proofs.lemmas.Result.{err_from_is_err_and}
use Rattle.spv_table.specs.Table.{Sort}
use Rattle.spv_grammar.specs.Made.{all_of, entry_from, sort_from}
use Rattle.spv_grammar.proofs.Whole.{only_memory, file_entries, file_sorts}
use Rattle.spv_grammar.proofs.Apart.{made_whole}
use Rattle.spv_grammar.proofs.load.made.Goals as goal

pub returns-in_err-entries-clause-memory : goal.returns-in_err-entries-clause-memory
returns-in_err-entries-clause-memory c =
    let p = err_from_is_err_and c.from_residual.result c.from_residual.ensures.1 in
    rw (p.1, p.2) (only_memory (λ (v : Vec (ℕ × Entry) Global). v.items) c.in_err-entries.field-0.0 (all_of (entry_from c.args.numbers.now) c.as_slice.result.now) c.in_err-entries.ensures (ap (λ is. is_some (all_of (entry_from c.args.numbers.now) is)) c.as_slice.ensures ∙ file_entries c.args.file.now c.args.numbers.now c.requires.numbered c.requires.unbroken))

pub returns-in_err-sorts-clause-memory : goal.returns-in_err-sorts-clause-memory
returns-in_err-sorts-clause-memory c =
    let p = err_from_is_err_and c.from_residual-in_err-sorts.result c.from_residual-in_err-sorts.ensures.1 in
    rw (p.1, p.2) (only_memory (λ (v : Vec Sort Global). v.items) c.in_err-sorts.field-0.0 (all_of (sort_from c.args.numbers.now) c.args.numbers.now) c.in_err-sorts.ensures (file_sorts c.args.file.now c.args.numbers.now c.requires.numbered c.requires.unbroken))

pub new-requires : goal.new-requires
new-requires c = made_whole c.args.file.now c.args.numbers.now _ c.requires.numbered c.requires.unbroken c.in_ok-sorts.ensures c.requires.few
