-- Operands of an instruction that is read already, put in a buffer.
use Rattle.std.proofs.Common.{◌≡◌, ◌∙◌, ◌≤◌, ◌+◌, ℕ, List, None, true, length, sym, refl, ap, false}
use Rattle.std.specs.Option.{option_or}
use Rattle.spv_table.specs.Table.{Table}
use Rattle.spv_module.specs.Operand.{Plain, Number, result_in, type_in}
use Rattle.std.proofs.Common.{[], ◌∷◌}
use Rattle.spv_inst.specs.declared.definitions.Definitions.{Definitions}
use Rattle.spv_lines.specs.Operand.{shown_operand}
use Rattle.spv_printer.specs.declared.fast_operand.Draft.{Draft}
use Rattle.spv_printer.specs.inner.Fast.{IsNameAdded, IsOneMore, IsTextAdded, is_no_number}
use Rattle.spv_printer.proofs.Drafts.{drafted_more, or_none}

-- an operand that is no number, no result and no type has its text added
pub text_more : (G : Table) (defined : Definitions) (o : Plain) (c next : Draft) (old new : List ℕ)
    → length new ≡ length old → c.at + 96 ≤ length old → is_no_number o ≡ true → result_in (o ∷ []) ≡ None
    → type_in (o ∷ []) ≡ None → IsTextAdded (shown_operand G false o) c.at next.at old new → next.result ≡ c.result
    → next.type_id ≡ c.type_id → IsOneMore G defined o c next old new
text_more G defined o c next old new l room y n t p r i = record {
  added = λ os h. drafted_more G defined os o c next old new l h p y n r
      (i ∙ (sym (or_none c.type_id) ∙ ap (λ z. option_or c.type_id z) (sym t))) room;
}

-- so does one that is shown by a name
pub name_more : (G : Table) (defined : Definitions) (o : Plain) (name : List ℕ) (c next : Draft) (old new : List ℕ)
    → length new ≡ length old → c.at + 96 ≤ length old → is_no_number o ≡ true → result_in (o ∷ []) ≡ None
    → type_in (o ∷ []) ≡ None → shown_operand G false o ≡ name → IsNameAdded name c next old new
    → IsOneMore G defined o c next old new
name_more G defined o name c next old new l room y n t s a =
    text_more G defined o c next old new l room y n t (rw s a.piece) a.result a.type_id

-- a number of one word
pub number_is : (low high words : ℕ) → high ≡ 0 → words ≡ 1 → Number low high words ≡ Number low 0 1
number_is low high words h w = rw (h, w) refl
