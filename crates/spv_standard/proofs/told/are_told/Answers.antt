use Rattle.std.proofs.Common.{◌≡◌, ◌-◌, ℕ, List, length, arith, subst, sym, take, drop}
use Rattle.std.specs.List.{AllByRecursion}
use Rattle.std.proofs.lemmas.Bool.{iff_false}
use Rattle.std.proofs.lemmas.List.{length-map, length-drop, drop-map, take_all}
use Rattle.spv_module.specs.Module.{plain_operand, plain_operands}
use Rattle.spv_module.specs.Operand.{Plain}
use Rattle.spv_module.specs.declared.operand.Operand.{Operand}
use Rattle.spv_standard.specs.inner.Silent.{IsSilent}
use Rattle.spv_standard.specs.inner.Told.{AreTold}
use Rattle.spv_standard.proofs.Silences.{never_told, none_told}
use Rattle.spv_standard.proofs.told.are_told.Goals as goal

pub returns-then-operands-front : goal.returns-then-operands-front
returns-then-operands-front c = λ floors silent none.
    let os = plain_operands c.args.operands.now in
    let same : length os ≡ length c.args.operands.now = length-map c.args.operands.now plain_operand in
    let whole : take c.args.silent os ≡ os = take_all c.args.silent os (omega arith) in
    (never_told c.args.late.now os (subst (AllByRecursion IsSilent) whole silent), omega arith)

pub returns : goal.returns
returns c = λ floors silent none.
    let os = plain_operands c.args.operands.now in
    let few : length os ≡ length c.args.operands.now = length-map c.args.operands.now plain_operand in
    let xs = c.args.operands.now in
    let l = c.args.late.now in
    let front = c.from-front.result in
    let most : length (drop front xs) ≡ length xs - front = length-drop front xs in
    let whole : take (length xs - front) (drop front xs) ≡ drop front xs =
    take_all (length xs - front) (drop front xs) (omega (arith, most)) in
    let some : ¬ (AreTold l (plain_operands (drop front xs))) =
    subst (λ (ys : List Operand). ¬ (AreTold l (plain_operands ys))) whole (iff_false (c.has_told.ensures floors) none) in
    let apart : ¬ (AreTold l (drop front os)) =
    subst (λ (ys : List Plain). ¬ (AreTold l ys)) (sym (drop-map plain_operand front xs)) some in
    let rest = subst (λ (n : ℕ). ¬ (AreTold l (drop n os))) c.from-front.ensures apart in
    (none_told c.args.late.now c.args.silent os silent rest, omega (arith, few))
