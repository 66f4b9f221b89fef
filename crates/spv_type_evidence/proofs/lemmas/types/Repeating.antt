-- Instructions that are alike.
use Rattle.std.proofs.Common.{◌≡◌, ◌∙◌, ◌<◌, ◌+◌, ◌↔◌, inl, inr, ℕ, List, Bool, true, false, Some, refl, sym, ap, subst}
use Rattle.std.proofs.Common.{length, map, get_or, arith}
use Rattle.std.specs.Prelude.{slice_get, IsTrue, option_map}
use Rattle.std.proofs.lemmas.Option.{slice_get-map, slice_get_read}
use Rattle.std.proofs.lemmas.Bool.{cases_lt}
use Rattle.spv_table.specs.Table.{Table}
use Rattle.spv_module.specs.Operand.{PlainInst}
use Rattle.spv_module.specs.Module.{plain_inst}
use Rattle.spv_module.specs.declared.module.Inst.{Inst}
use Rattle.spv_module.specs.declared.fault.Rule.TheVariants.{Y3}
use Rattle.spv_type_rules.specs.Repeat.{Repeats}
use Rattle.spv_type_rules.specs.inner.Repeat.{AreAlike, is_declared_once}
use Rattle.spv_evidence.specs.declared.evidence.Evidence.TheVariants as evidence
use Rattle.spv_type_evidence.specs.types.Evidence.{Shows}

inst_there : (xs : List Inst) (k : ℕ) (x : Inst) → k < length xs → x ≡ get_or xs k x
    → slice_get (map plain_inst xs) k ≡ Some (plain_inst x)
inst_there xs k x l e =
    slice_get-map plain_inst xs k ∙ ap (option_map plain_inst) (slice_get_read xs (length xs) k x refl l e)

is_once : (is : List PlainInst) (n : ℕ) (i : PlainInst) (b : Bool) → is_declared_once i.opcode ≡ b
    → ¬ (¬ (Repeats is n i)) → is_declared_once i.opcode ≡ true
is_once is n i true e h = e
is_once is n i false e h = absurd (h (λ r. let yes : is_declared_once i.opcode ≡ true = r.once in cc))

pub alike_shows : (G : Table) (xs : List Inst) (n m : ℕ) (i : PlainInst) (x : Inst) (b : Bool) → m < n → m < length xs
    → x ≡ get_or xs m x → b ≡ true → (IsTrue b ↔ AreAlike i (plain_inst x))
    → ¬ (¬ (Repeats (map plain_inst xs) n i)) → Shows G (map plain_inst xs) n i Y3 (evidence.Earlier m)
alike_shows G xs n m i x b l w e on h broken =
    let is = map plain_inst xs in
    let r : Repeats is n i = record {
      once = is_once is n i (is_declared_once i.opcode) refl broken;
      place = m;
      earlier = l;
      other = plain_inst x;
      there = inst_there xs m x w e;
      alike = h.0 on;
    } in
    Shows.again r

pub not_before : (xs : List Inst) (m : ℕ) (i : PlainInst) (x : Inst) (b : Bool) → m < length xs → x ≡ get_or xs m x
    → b ≡ false → (IsTrue b ↔ AreAlike i (plain_inst x))
    → ((k : ℕ) (j : PlainInst) → k < m → slice_get (map plain_inst xs) k ≡ Some j → ¬ (AreAlike i j))
    → (k : ℕ) (j : PlainInst) → k < m + 1 → slice_get (map plain_inst xs) k ≡ Some j → ¬ (AreAlike i j)
not_before xs m i x b w e off h before k j below at = elim (cases_lt k m) [
  | inl u ↦ before k j u at
  | inr u ↦
      let same : k ≡ m = omega arith in
      let there : slice_get (map plain_inst xs) m ≡ Some j = ap (slice_get (map plain_inst xs)) (sym same) ∙ at in
      let one : Some (plain_inst x) ≡ Some j = sym (inst_there xs m x w e) ∙ there in
      let it : plain_inst x ≡ j = cc in
      λ alike. let yes : b ≡ true = h.1 (subst (AreAlike i) (sym it) alike) in cc
]
