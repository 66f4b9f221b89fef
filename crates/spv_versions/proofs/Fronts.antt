-- What is told of the instructions of a module that have all its OpExtensions is told of the module.
use Rattle.std.proofs.Common.{◌≡◌, ◌<◌, ◌≤◌, ℕ, zero, suc, List, [], ◌∷◌, Bool, Some, take, codes, arith}
use Rattle.std.specs.Prelude.{slice_get}
use Rattle.std.proofs.lemmas.Option.{none-some}
use Rattle.spv_module.specs.declared.opcode.TheConstants as opcode
use Rattle.spv_module.specs.Operand.{PlainInst}
use Rattle.spv_versions.specs.Named.{IsDeclared}
use Rattle.spv_versions.specs.inner.Told.{AreTold}

got_whole : (is : List PlainInst) (n k : ℕ) (i : PlainInst) → slice_get (take n is) k ≡ Some i → slice_get is k ≡ Some i
got_whole is zero k i e = absurd (none-some i e)
got_whole [] (suc n) k i e = e
got_whole (j ∷ is) (suc n) zero i e = e
got_whole (j ∷ is) (suc n) (suc k) i e = got_whole is n k i e

got_front : (is : List PlainInst) (n k : ℕ) (i : PlainInst) → k < n → slice_get is k ≡ Some i
    → slice_get (take n is) k ≡ Some i
got_front is zero k i l e = absurd (omega (arith, l))
got_front [] (suc n) k i l e = e
got_front (j ∷ is) (suc n) zero i l e = e
got_front (j ∷ is) (suc n) (suc k) i l e = got_front is n k i (let m : suc k < suc n = l in omega (arith, m)) e

declared_whole : (is : List PlainInst) (n : ℕ) (x : List ℕ) → IsDeclared (take n is) x → IsDeclared is x
declared_whole is n x d = record {
  place = d.place;
  inst = d.inst;
  there = got_whole is n d.place d.inst d.there;
  opcode = d.opcode;
  rest = d.rest;
  operands = d.operands;
}

abbrev pub AreInFront : List PlainInst → ℕ → Type 0
AreInFront is front = (n : ℕ) (i : PlainInst) → slice_get is n ≡ Some i → i.opcode ≡ opcode.EXTENSION → n < front

declared_front : (is : List PlainInst) (front n : ℕ) (x : List ℕ) → front ≤ n → AreInFront is front → IsDeclared is x
    → IsDeclared (take n is) x
declared_front is front n x past all d =
    let within = all d.place d.inst d.there d.opcode in
    record {
      place = d.place;
      inst = d.inst;
      there = got_front is n d.place d.inst (omega (arith, within, past)) d.there;
      opcode = d.opcode;
      rest = d.rest;
      operands = d.operands;
    }

pub told_front : (minor : ℕ) (is : List PlainInst) (front n : ℕ) (flags : List Bool) (b : Bool) → front ≤ n
    → AreInFront is front → AreTold minor (take n is) flags b → AreTold minor is flags b
told_front minor is front n flags b past all told = record {
  each = λ k l e.
      let t = told.each k l e in (
        λ f. let m = t.0 f in (m.0, λ name has d. m.1 name has (declared_front is front n name.now past all d)),
        λ m. t.1 (m.0, λ name has d. m.1 name has (declared_whole is n name.now d)),
      );
  meaning = (
    λ f.
        let m = told.meaning.0 f in
        (m.0, λ d. m.1 (declared_front is front n (codes "SPV_KHR_non_semantic_info") past all d)),
    λ m. told.meaning.1 (m.0, λ d. m.1 (declared_whole is n (codes "SPV_KHR_non_semantic_info") d)),
  );
}
