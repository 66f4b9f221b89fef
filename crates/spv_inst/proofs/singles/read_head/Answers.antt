use Rattle.std.proofs.Common.{◌≡◌, ◌++◌, ◌∷◌, ◌∙◌, ◌≤◌, ◌+◌, ℕ, List, [], drop, length, refl, sym, ap, arith, length-append}
use Rattle.std.proofs.lemmas.List.{drop-append-le}
use Rattle.spv_table.specs.Table.{kind_of}
use Rattle.spv_table.specs.declared.form.Form.TheVariants.{Leaf as LeafForm}
use Rattle.spv_table.specs.declared.form.Leaf.TheVariants as leaf
use Rattle.spv_table.specs.inner.Form.{form_at}
use Rattle.spv_module.specs.declared.operand.Operand.{Operand}
use Rattle.spv_module.specs.declared.operand.Operand.TheVariants as code
use Rattle.spv_module.specs.Module.{plain_operand, plain_operands}
use Rattle.spv_module.specs.Operand.{after, start}
use Rattle.spv_module.specs.Shape.{alone}
use Rattle.spv_module.specs.Spelling.{Takes}
use Rattle.spv_inst.proofs.Shapes.{shape_leaf}
use Rattle.spv_inst.proofs.Turns.{word_next, plain-push}
use Rattle.spv_inst.proofs.singles.read_head.Goals as goal

-- an operand more at the end
pushed : (n : ℕ) (os ps : List Operand) (o : Operand) → n ≤ length os → ps ≡ os ++ (o ∷ [])
    → plain_operands (drop n ps) ≡ plain_operands (drop n os) ++ (plain_operand o ∷ [])
pushed n os ps o r e = rw e (ap plain_operands (drop-append-le n os (o ∷ []) r) ∙ plain-push (drop n os) _ o refl)

pub returns-clause-sofar : goal.returns-clause-sofar
returns-clause-sofar c = λ b pattern s.
    let G = c.args.scene.now.table.now in
    let n = c.args.begin in
    let os = c.args.operands.now.items in
    let ps = c.push_reserved.new.self.items in
    let first = c.args.place.first in
    let long = c.if-place-lt2.false in
    let room = c.requires.room in
    let o = code.OfType c.word.result in
    let i = c.push_reserved.ensures.items in
    let l = length-append os (o ∷ []) in
    let room2 : n ≤ length ps = rw i (omega arith) in
    let e : form_at (kind_of G c.in-Some.one) ≡ LeafForm leaf.ResultType =
    sym (c.form_in.ensures G c.requires.forms) ∙ c.is_type.ensures c.if-not-is_type.false in
    let f : form_at (kind_of G c.in-Some-next_single.two) ≡ LeafForm leaf.Result =
    sym (c.form_in-else-not-is_type.ensures G c.requires.forms) ∙ c.is_result.ensures c.if-not-is_result.false in
    let c1 = after (start b c.args.place.opcode) (plain_operands (drop n os)) in
    let c2 = after (start b c.args.place.opcode) (plain_operands (drop n ps)) in
    let s1 = word_next G (start b c.args.place.opcode) _ _ _ (plain_operands (drop n ps)) _ _ _ c.in-Some.one []
    c.args.scene.now.image.now first first c.args.place.end _ _ s (omega arith) (omega arith) c.requires.fits
    c.in-Some.ensures c.word.ensures
    (rw (shape_leaf G c1 (alone c.in-Some.one) leaf.ResultType leaf.ResultType e refl)
    (Takes.result_type c.word.result))
    (pushed n os ps o room i) refl in
    let s2 = word_next G (start b c.args.place.opcode) _ _ _ (plain_operands (drop n c.push_reserved-2.new.self.items))
    _ _ _ c.in-Some-next_single.two [] c.args.scene.now.image.now first (first + 1) c.args.place.end _ _ s1
    (omega arith) (omega arith) c.requires.fits c.in-Some-next_single.ensures c.word-2.ensures
    (rw (shape_leaf G c2 (alone c.in-Some-next_single.two) leaf.Result leaf.Result f refl)
    (Takes.result c.word-2.result))
    (pushed n ps c.push_reserved-2.new.self.items (code.Result c.word-2.result) room2 c.push_reserved-2.ensures.items)
    refl in
    let q : (first + 1) + 1 ≡ first + 2 = omega arith in
    rw q at s2
