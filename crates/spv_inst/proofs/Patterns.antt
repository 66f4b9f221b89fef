-- The next item of a pattern that is due.
use Rattle.std.proofs.Common.{◌≡◌, ◌<◌, ◌≤◌, ◌+◌, ℕ, suc, List, [], ◌∷◌, Bool, true, false, map, length, get_or, drop}
use Rattle.std.proofs.Common.{refl, arith}
use Rattle.std.proofs.lemmas.List.{drop_more}
use Rattle.std.proofs.Math.ListN.{drop_of_length-le}
use Rattle.spv_table.specs.declared.table.Item as declared
use Rattle.spv_table.specs.declared.table.Quantifier.{Quantifier}
use Rattle.spv_table.specs.declared.table.Quantifier.TheVariants as quantifier
use Rattle.spv_table.specs.Table.{quantified}
use Rattle.spv_module.specs.Shape.{alone}
use Rattle.spv_table.specs.inner.Pattern.{EndsOptional}
use Rattle.spv_inst.specs.Flat.{Due, OneOf, ManyOf, due}
use Rattle.spv_inst.specs.inner.Items.{items_of, settled}

-- what is due from a place of a pattern on
abbrev pub due_from : List declared.Item → ℕ → List Due
due_from items i = map due (items_of (drop i items))

pub item_is : (items : List declared.Item) (i : ℕ) (d : declared.Item) → i < length items
    → due_from items i ≡ due (quantified (get_or items i d).quantifier (get_or items i d).kind) ∷ due_from items (i + 1)
item_is items i d h = rw (drop_more items i d h) refl

pub at_one : (items : List declared.Item) (i : ℕ) (d : declared.Item) (more : Bool) → i < length items
    → (get_or items i d).quantifier ≡ quantifier.One
    → settled more (due_from items i) ≡ OneOf (alone (get_or items i d).kind) ∷ due_from items (i + 1)
at_one items i d more h q = rw (item_is items i d h, q) refl

pub at_present : (items : List declared.Item) (i : ℕ) (d : declared.Item) (more : Bool) → more ≡ true → i < length items
    → (get_or items i d).quantifier ≡ quantifier.Maybe
    → settled more (due_from items i) ≡ OneOf (alone (get_or items i d).kind) ∷ due_from items (i + 1)
at_present items i d more m h q = rw (m, item_is items i d h, q) refl

pub at_several : (items : List declared.Item) (i : ℕ) (d : declared.Item) (more : Bool) → more ≡ true → i < length items
    → (get_or items i d).quantifier ≡ quantifier.Many
    → settled more (due_from items i) ≡ OneOf (alone (get_or items i d).kind) ∷ due_from items i
at_several items i d more m h q =
    let e = item_is items i d h in
    let f : due_from items i ≡ ManyOf (alone (get_or items i d).kind) ∷ due_from items (i + 1) = rw q at e in
    rw (m, f) refl

pub at_absent : (items : List declared.Item) (i : ℕ) (d : declared.Item) (more : Bool) → more ≡ false → i < length items
    → (get_or items i d).quantifier ≡ quantifier.Maybe
    → settled more (due_from items i) ≡ settled more (due_from items (i + 1))
at_absent items i d more m h q = rw (m, item_is items i d h, q) refl

pub at_none : (items : List declared.Item) (i : ℕ) (d : declared.Item) (more : Bool) → more ≡ false → i < length items
    → (get_or items i d).quantifier ≡ quantifier.Many
    → settled more (due_from items i) ≡ settled more (due_from items (i + 1))
at_none items i d more m h q = rw (m, item_is items i d h, q) refl

pub at_pattern_end : (items : List declared.Item) (i : ℕ) (more : Bool) → length items ≤ i
    → settled more (due_from items i) ≡ []
at_pattern_end items i more h = rw (drop_of_length-le items h) refl

-- where each item left is optional, none is due once no word is left
pub none_due : (items : List declared.Item)
    → ((k : ℕ) (d : declared.Item) → k < length items → (get_or items k d).quantifier ≡ quantifier.One → ⊥)
    → settled false (due_from items 0) ≡ []
none_due [] optional = refl
none_due (i ∷ is) optional = by i.quantifier refl (none_due is (λ k d h. optional (suc k) d (omega (arith, h))))
  where
    by : (q : Quantifier) → i.quantifier ≡ q → settled false (due_from is 0) ≡ []
        → settled false (due_from (i ∷ is) 0) ≡ []
    by quantifier.One e later = absurd (optional 0 i (omega arith) e)
    by quantifier.Maybe e later = rw e later
    by quantifier.Many e later = rw e later

-- behind an item, as many items at the end are optional
pub ends_later : (n : ℕ) (i : declared.Item) (items : List declared.Item) → EndsOptional n (i ∷ items)
    → EndsOptional n items
ends_later n i items h = λ k d from within. h (suc k) d (omega (arith, from)) (omega (arith, within))
