use Rattle.std.proofs.Common.{◌≡◌, ◌∙◌, ◌++◌, ◌∷◌, ◌<◌, ◌≤◌, ◌⊎◌, inl, inr, ℕ, List, [], map, length, slice_index, sym}
use Rattle.std.proofs.Common.{ap}
use Rattle.spv_table.specs.Table.{Table, kind_of}
use Rattle.spv_table.specs.declared.form.Form.TheVariants.{Leaf as LeafForm}
use Rattle.spv_table.specs.declared.form.Leaf.TheVariants as leaf
use Rattle.spv_table.specs.declared.form.Leaf.{Leaf}
use Rattle.spv_table.specs.inner.Form.{form_at}
use Rattle.spv_module.specs.declared.operand.Operand.{Operand}
use Rattle.spv_module.specs.declared.operand.Operand.TheVariants as code
use Rattle.spv_module.specs.Module.{plain_operand}
use Rattle.spv_module.specs.Operand.{Context, Word}
use Rattle.spv_module.specs.Shape.{alone, shape_of}
use Rattle.spv_module.specs.Spelling.{Takes}
use Rattle.spv_inst.specs.declared.definitions.Definitions.{Definitions}
use Rattle.spv_inst.specs.Reading.{enumerants_at}
use Rattle.spv_inst.specs.inner.Pushed.{IsPushed}
use Rattle.spv_inst.proofs.Between.{take_one}
use Rattle.spv_inst.proofs.Shapes.{shape_leaf}
use Rattle.spv_inst.proofs.singles.push_next.Goals.{in-ResultType, in-Result, in-Id, in-Integer}
use Rattle.spv_inst.proofs.singles.push_next.Goals.{in-Value+in_ok-kinds-in-Value, in-Mask+in_ok-kinds-in-Mask}
use Rattle.spv_inst.proofs.singles.push_next.Goals.{in-Text+in_ok-words-in-Text}
use Rattle.spv_inst.proofs.singles.push_next.Goals.{in-ContextNumber+in_ok-words-in-ContextNumber}
use Rattle.spv_inst.proofs.singles.push_next.Goals as goal

-- an operand of one word was added
pushed_word : (G : Table) (known : Definitions) (image : List ℕ) (begin kind at end w : ℕ) (old new : List Operand)
    (o : Operand) (ks : List ℕ)
    → new ≡ old ++ (o ∷ []) → at < end → end ≤ length image → w ≡ slice_index image at
    → ((c : Context) → Takes kind (shape_of G c (alone kind)) (plain_operand o) (w ∷ []) (map alone ks))
    → IsPushed G known image begin kind at end old new 1 ks
pushed_word G known image begin kind at end w old new o ks a h l e t = record {
  operand = o;
  added = a;
  taken = λ c k f. rw (take_one image at end w h l e) (t c);
}

takes_literal : (G : Table) (c : Context) (kind w : ℕ) (l : Leaf) → form_at (kind_of G kind) ≡ LeafForm l
    → (l ≡ leaf.Integer) ⊎ (l ≡ leaf.Word)
    → Takes kind (shape_of G c (alone kind)) (Word w) (w ∷ []) []
takes_literal G c kind w l e (inl i) = rw (shape_leaf G c (alone kind) l leaf.Integer e i) (Takes.word w)
takes_literal G c kind w l e (inr i) = rw (shape_leaf G c (alone kind) l leaf.Word e i) (Takes.word w)

pub returns-clause-pushed : goal.returns-clause-pushed
returns-clause-pushed c =
    let G = c.args.scene.now.table.now in
    let d = c.args.scene.now.definitions.now in
    let image = c.args.scene.now.image.now in
    let old = c.args.operands.now.items in
    let kind = c.args.kind in
    let at = c.args.at in
    let end = c.args.end in
    let w = c.word-first.result in
    let e = sym (c.form_in.ensures G c.requires.forms) ∙ c.in-Leaf.is in
    let es = enumerants_at (kind_of G kind) in
    elim c.match-leaf.branch [
      | in-ResultType b ↦
          rw (b.operands-is, b.words-is, b.kinds-is)
          (pushed_word G d image c.args.begin kind at end w old _
          (code.OfType w) [] b.push_reserved.ensures.items c.requires.order c.requires.fits c.word-first.ensures
          (λ k. rw (shape_leaf G k (alone kind) c.in-Leaf.leaf leaf.ResultType e b.in-ResultType.is)
          (Takes.result_type w)))
      | in-Result b ↦
          rw (b.operands-is, b.words-is, b.kinds-is)
          (pushed_word G d image c.args.begin kind at end w old _
          (code.Result w) [] b.push_reserved-in-Result.ensures.items c.requires.order c.requires.fits
          c.word-first.ensures
          (λ k. rw (shape_leaf G k (alone kind) c.in-Leaf.leaf leaf.Result e b.in-Result.is) (Takes.result w)))
      | in-Id b ↦
          rw (b.operands-is, b.words-is, b.kinds-is)
          (pushed_word G d image c.args.begin kind at end w old _
          (code.Id w) [] b.push_reserved-in-Id.ensures.items c.requires.order c.requires.fits c.word-first.ensures
          (λ k. rw (shape_leaf G k (alone kind) c.in-Leaf.leaf leaf.Id e b.in-Id.is) (Takes.id w)))
      | in-Integer b ↦
          rw (b.operands-is, b.words-is, b.kinds-is)
          (pushed_word G d image c.args.begin kind at end w old _
          (code.Word w) [] b.push_reserved-in-Integer.ensures.items c.requires.order c.requires.fits
          c.word-first.ensures
          (λ k. takes_literal G k kind w c.in-Leaf.leaf e b.in-Integer.is))
      | in-Value+in_ok-kinds-in-Value b ↦
          rw (b.operands-is, b.words-is, b.kinds-is)
          (pushed_word G d image c.args.begin kind at end w old _
          (code.Value kind w) b.in_ok-kinds-in-Value.kinds.now b.push_reserved-in-Value.ensures.items
          c.requires.order c.requires.fits c.word-first.ensures
          (λ k. rw (shape_leaf G k (alone kind) c.in-Leaf.leaf leaf.Value e b.in-Value.is)
          (Takes.value es w _ (sym b.in_ok-kinds-in-Value.ensures))))
      | in-Mask+in_ok-kinds-in-Mask b ↦
          rw (b.operands-is, b.words-is, b.kinds-is)
          (pushed_word G d image c.args.begin kind at end w old _
          (code.Mask kind w) b.in_ok-kinds-in-Mask.kinds.now b.push_reserved-in-Mask.ensures.items c.requires.order
          c.requires.fits c.word-first.ensures
          (λ k. rw (shape_leaf G k (alone kind) c.in-Leaf.leaf leaf.Mask e b.in-Mask.is)
          (Takes.mask es w _ b.in_ok-kinds-in-Mask.ensures)))
      | in-Text+in_ok-words-in-Text b ↦
          rw (b.operands-is, b.words-is, b.kinds-is)
          (b.in_ok-words-in-Text.ensures.pushed kind (e ∙ ap LeafForm b.in-Text.is))
      | in-ContextNumber+in_ok-words-in-ContextNumber b ↦
          rw (b.operands-is, b.words-is, b.kinds-is) (b.in_ok-words-in-ContextNumber.ensures.pushed G kind (e ∙ ap LeafForm b.in-ContextNumber.is))
    ]
