use Rattle.std.proofs.Common.{◌≡◌, ◌++◌, flat_map, drop}
use Rattle.spv_fault_json.specs.inner.Texts.{text_token}
use Rattle.spv_fault_json.proofs.arrays.push_texts.Given as goal

abbrev pub invariant-loop-text : goal.invariant-loop-text
invariant-loop-text l =
    l.out ++ flat_map text_token (drop l.text-index l.fn.texts) ≡ l.initial.out ++ flat_map text_token l.fn.texts
