use Rattle.std.proofs.Common.{List, ℕ, length, subst, sym}
use Rattle.std.proofs.lemmas.Result.{IfOk-weaker}
use Rattle.spv_ids.specs.Outcome.{IsOnly}
use Rattle.spv_type_forms.specs.inner.Matching.{IsKey, found_in}
use Rattle.spv_type_forms.proofs.Numbering.{keyed, unkeyed, undefined}
use Rattle.spv_type_forms.proofs.matching.Matching.next_number.Goals as goal

pub returns-in_default-clause-matched : goal.returns-in_default-clause-matched
returns-in_default-clause-matched c =
    let is = c.args.definitions.now in
    undefined is c.args.self.now.numbers.items (found_in c.args.self.now.keys.entries) 0
    c.requires.matching (λ t one. c.in_default.ensures t (subst (IsOnly is t) (sym c.requires.next) one))

pub returns-in-Some-2-clause-matched : goal.returns-in-Some-2-clause-matched
returns-in-Some-2-clause-matched c =
    let is = c.args.definitions.now in
    let cs = c.args.self.now.numbers.items in
    let t = c.in-Some.t in
    let key = c.in-Some-2.key.items in
    let one = subst (IsOnly is t) c.requires.next c.in-Some.ensures in
    let is_key = subst (λ (ns : List ℕ). IsKey is ns (length ns) t key) c.as_slice.ensures.value
    (rw c.in-Some-2.is at c.in_ok-key.ensures) in
    IfOk-weaker c.number_for.result _ _ (λ d h. keyed is cs (found_in c.args.self.now.keys.entries)
    (found_in c.number_for.new.self.keys.entries) t d key c.requires.matching one is_key h) c.number_for.ensures.keeps

pub returns-in-None-clause-matched : goal.returns-in-None-clause-matched
returns-in-None-clause-matched c =
    let is = c.args.definitions.now in
    let cs = c.args.self.now.numbers.items in
    let t = c.in-Some.t in
    let one = subst (IsOnly is t) c.requires.next c.in-Some.ensures in
    let none = subst (λ (ns : List ℕ). (k : List ℕ) → IsKey is ns (length ns) t k → ⊥) c.as_slice.ensures.value
    (rw c.in-None.is at c.in_ok-key.ensures) in
    unkeyed is cs (found_in c.args.self.now.keys.entries) t c.requires.matching one none
