use Rattle.spv_table.proofs.table.Table.told.Goals as goal

pub invariant_of-result : goal.invariant_of-result
invariant_of-result c =
    let r = c.requires in
    rw (c.told-sorts.ensures, c.told-entries.ensures, c.lent.ensures, c.lent-2.ensures, c.lent-3.ensures, c.lent-4.ensures)
    (r.whole, r.places, r.forms, r.results, r.fronts)
