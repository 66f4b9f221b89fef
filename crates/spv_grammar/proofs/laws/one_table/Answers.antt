use Rattle.std.proofs.Common.{◌≡◌, ap, sym, subst, ◌∙◌}
use Rattle.spv_grammar.specs.declared.file.File.{File}
use Rattle.spv_table.specs.Table.{Table}
use Rattle.spv_grammar.specs.Made.{IsTable}
use Rattle.spv_grammar.specs.Answer.{read_breaks}
use Rattle.spv_grammar.proofs.Whole.{some_same, not_some}
use Rattle.spv_grammar.proofs.laws.one_table.Goals as goal

same_table : (f : File) (G H : Table) → IsTable f G → IsTable f H → G ≡ H
same_table f G H g h =
    let es : G.entries ≡ H.entries = some_same (sym g.entries ∙ h.entries) in
    let ks : G.kinds ≡ H.kinds = some_same (sym g.kinds ∙ h.kinds) in
    λ i. record { kinds = ks i; entries = es i }

pub returns : goal.returns
returns c = record {
  once = λ d G H g h.
      let f : g.file ≡ h.file = some_same (sym g.is_file ∙ h.is_file) in
      same_table h.file G H (let P : File → Type 0 = λ f. IsTable f G in subst P f g.table) h.table;
  never = λ d G e g told. not_some e (sym g.unbroken ∙ ap read_breaks (sym g.is_file) ∙ told);
}
