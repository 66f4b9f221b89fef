use Rattle.std.proofs.Common.{◌≡◌, ◌≤◌, List, length, map, sym, ap, subst, ◌∙◌, arith}
use Rattle.spv_module.specs.declared.module.Inst.{Inst}
use Rattle.spv_module.specs.declared.operand.Operand.{Operand}
use Rattle.spv_module.specs.Module.{plain_inst, plain_operands}
use Rattle.spv_extended.specs.Sets.{set_in}
use Rattle.spv_extended.specs.Opened.{opened}
use Rattle.spv_extended.specs.inner.Found.{Finds, set_found}
use Rattle.spv_extended.specs.inner.Parts.{all_opened, given, operands_in}
use Rattle.spv_extended.proofs.Parting.{given_all, none_opened, on_ok, room_for}
use Rattle.spv_extended.proofs.opening.open.Goals as goal

pub returns-then-count-eq0-clause-opened : goal.returns-then-count-eq0-clause-opened
returns-then-count-eq0-clause-opened c =
    let is = map plain_inst c.args.«module».now.insts.items in
    let e : operands_in is ≡ 0 = sym (ap (λ (l : List Inst). operands_in (map plain_inst l)) c.as_slice-insts.ensures.value) ∙ (sym c.in-Some.ensures.0 ∙ c.if-count-eq0.true) in
    sym (none_opened (set_in is) is e)

pub give-requires-clause-enough : goal.give-requires-clause-enough
give-requires-clause-enough c =
    let xs = c.args.«module».now.insts.items in
    let sets = set_found c.in_ok-sets.sets in
    let all : plain_operands c.in_ok-operands.operands.items ≡ all_opened sets (map plain_inst xs)
    = c.in_ok-operands.ensures ∙ ap (λ (l : List Inst). all_opened sets (map plain_inst l)) c.as_slice-insts.ensures.value in
    let r : length c.in_ok-operands.operands.items ≡ operands_in (map plain_inst xs) = room_for sets xs c.in_ok-operands.operands.items all in
    let s : length c.in-Ok.shared.value.items ≡ length c.in_ok-operands.operands.items = ap (λ v. length v.items) c.in-Ok.ensures.ok in
    omega arith

pub give-requires-clause-few : goal.give-requires-clause-few
give-requires-clause-few c =
    let xs = c.args.«module».now.insts.items in
    let sets = set_found c.in_ok-sets.sets in
    let all : plain_operands c.in_ok-operands.operands.items ≡ all_opened sets (map plain_inst xs)
    = c.in_ok-operands.ensures ∙ ap (λ (l : List Inst). all_opened sets (map plain_inst l)) c.as_slice-insts.ensures.value in
    let r : length c.in_ok-operands.operands.items ≡ operands_in (map plain_inst xs) = room_for sets xs c.in_ok-operands.operands.items all in
    let s : length c.in-Ok.shared.value.items ≡ length c.in_ok-operands.operands.items = ap (λ v. length v.items) c.in-Ok.ensures.ok in
    let n : c.in-Some.count ≡ operands_in (map plain_inst xs) = c.in-Some.ensures.0 ∙ ap (λ (l : List Inst). operands_in (map plain_inst l)) c.as_slice-insts.ensures.value in
    let few : c.in-Some.count ≤ 4294967295 = c.in-Some.ensures.1 in
    omega arith

pub returns-clause-opened : goal.returns-clause-opened
returns-clause-opened c =
    let xs = c.args.«module».now.insts.items in
    let new = map plain_inst c.give.new.insts.items in
    let sets = set_found c.in_ok-sets.sets in
    let os = c.in_ok-operands.operands.items in
    let finds : Finds (map plain_inst xs) c.in_ok-sets.sets = subst (λ (l : List Inst). Finds (map plain_inst l) c.in_ok-sets.sets) c.as_slice-insts.ensures.value c.in_ok-sets.ensures in
    let all : plain_operands os ≡ all_opened sets (map plain_inst xs)
    = c.in_ok-operands.ensures ∙ ap (λ (l : List Inst). all_opened sets (map plain_inst l)) c.as_slice-insts.ensures.value in
    let s : c.in-Ok.shared.value.items ≡ os = ap (λ v. v.items) c.in-Ok.ensures.ok in
    on_ok c.give.result (new ≡ given (plain_operands c.in-Ok.shared.value.items) (map plain_inst xs)) (new ≡ opened (map plain_inst xs))
    (λ h. given_all sets xs os new finds all (h ∙ ap (λ (l : List Operand). given (plain_operands l) (map plain_inst xs)) s)) c.give.ensures
