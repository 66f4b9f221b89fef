-- Whether a pattern has a result.
use Rattle.std.proofs.Common.{◌≡◌, ◌∙◌, ℕ, List, [], ◌∷◌, Option, Some, Bool, true, false, refl, sym, ap}
use Rattle.std.specs.List.{list_any}
use Rattle.spv_table.specs.declared.table.Entry.{Entry}
use Rattle.spv_table.specs.declared.form.Leaf as declared
use Rattle.spv_table.specs.declared.form.Leaf.TheVariants as leaf
use Rattle.spv_table.specs.declared.form.Form.{Form}
use Rattle.spv_table.specs.declared.form.Form.TheVariants.{Leaf, Parts}
use Rattle.spv_table.specs.Table.{Table, Item, One, Maybe, Many, kind_of, pattern_of}
use Rattle.spv_table.specs.inner.Form.{form_at}
use Rattle.spv_table.specs.inner.Results.{is_result_form, is_result_kind, has_result, entry_has_result}
use Rattle.spv_module.specs.Operand.{Context}
use Rattle.spv_module.specs.Shape.{alone, shape_of}
use Rattle.spv_lines.specs.Fault.{is_result_shape, may_have_result, must_have_result}
use Rattle.spv_parser.proofs.Headed.{kind_result, kind_other, kind_parts}

module _ (G : Table) (c : Context) where
  leaf_same : (k : ℕ) (l : declared.Leaf) → Leaf l ≡ form_at (kind_of G k)
      → is_result_form (Leaf l) ≡ is_result_shape (shape_of G c (alone k))
  leaf_same k leaf.Result e = kind_result G c k leaf.Result e refl
  leaf_same k leaf.ResultType e = kind_other G c k leaf.ResultType e (λ n. cc)
  leaf_same k leaf.Id e = kind_other G c k leaf.Id e (λ n. cc)
  leaf_same k leaf.Integer e = kind_other G c k leaf.Integer e (λ n. cc)
  leaf_same k leaf.Word e = kind_other G c k leaf.Word e (λ n. cc)
  leaf_same k leaf.ContextNumber e = kind_other G c k leaf.ContextNumber e (λ n. cc)
  leaf_same k leaf.Text e = kind_other G c k leaf.Text e (λ n. cc)
  leaf_same k leaf.Value e = kind_other G c k leaf.Value e (λ n. cc)
  leaf_same k leaf.Mask e = kind_other G c k leaf.Mask e (λ n. cc)
  leaf_same k leaf.Nothing e = kind_other G c k leaf.Nothing e (λ n. cc)

  form_same : (k : ℕ) (f : Form) → f ≡ form_at (kind_of G k)
      → is_result_form f ≡ is_result_shape (shape_of G c (alone k))
  form_same k (Leaf l) e = leaf_same k l e
  form_same k (Parts p) e = kind_parts G c k p e

  -- a kind that is that of a result
  kind_same : (k : ℕ) → is_result_kind G k ≡ is_result_shape (shape_of G c (alone k))
  kind_same k = form_same k (form_at (kind_of G k)) refl

  may_item : (i : Item) → has_result true G i ≡ may_have_result G c i
  may_item (One k) = kind_same k
  may_item (Maybe k) = kind_same k
  may_item (Many k) = kind_same k

  must_item : (i : Item) → has_result false G i ≡ must_have_result G c i
  must_item (One k) = kind_same k
  must_item (Maybe k) = refl
  must_item (Many k) = refl

  any_same : (f g : Item → Bool) → ((i : Item) → f i ≡ g i) → (is : List Item) → list_any f is ≡ list_any g is
  any_same f g h [] = refl
  any_same f g h (i ∷ is) = rw (h i, any_same f g h is) refl

  -- what the table tells of an entry
  pub may_have : (o : Option Entry) (e : Entry) (r : Bool) → r ≡ entry_has_result true G o → o ≡ Some e
      → list_any (may_have_result G c) (pattern_of e) ≡ r
  may_have o e r h k = sym (h ∙ (ap (entry_has_result true G) k
      ∙ any_same (has_result true G) (may_have_result G c) may_item (pattern_of e)))

  pub must_have : (o : Option Entry) (e : Entry) (r : Bool) → r ≡ entry_has_result false G o → o ≡ Some e
      → list_any (must_have_result G c) (pattern_of e) ≡ r
  must_have o e r h k =
      sym (h ∙ (ap (entry_has_result false G) k
      ∙ any_same (has_result false G) (must_have_result G c) must_item (pattern_of e)))
