-- One turn of a loop that makes something of each element of a list.
use Rattle.std.proofs.Common.{◌≡◌, ℕ, ◌+◌, List, [], ◌∷◌, ◌++◌, Option, Some, None, drop, slice_get, refl, ◌∙◌, add-one, drop-cons}
use Rattle.std.proofs.lemmas.Option.{slice_get_within, get_or_from_slice_get}
use Rattle.std.specs.Prelude.{Err}
use Rattle.spv_grammar.specs.declared.error.GrammarError.{GrammarError}
use Rattle.spv_grammar.specs.declared.error.GrammarError.TheVariants.{J1, J2, J3, J4, J5, J6, J7, J8}
use Rattle.serde_json.specs.Data.{Data}
use Rattle.json_tree.specs.View.{Content, view, items_left, items_view}
use Rattle.spv_grammar.specs.File.{each}
use Rattle.spv_grammar.specs.Made.{all_of}
use Rattle.spv_grammar.specs.inner.Made.{Makes}
use Rattle.spv_grammar.proofs.Fronts.{with_front, joined}

-- what is left, at an element
pub here : {A : Type 0} (xs : List A) (i : ℕ) (x : A) → slice_get xs i ≡ Some x → drop i xs ≡ x ∷ drop (i + 1) xs
here xs i x at = rw (add-one, drop-cons xs i x (slice_get_within xs i x at), get_or_from_slice_get xs i x x at) refl

module _ {A B : Type 0} (make : A → Option B) (xs : List A) (i : ℕ) (x : A) (whole : Option (List B)) (front found : List B) where
  -- an element that is made
  pub made_step : (b : B) → slice_get xs i ≡ Some x → whole ≡ with_front front (all_of make (drop i xs)) → make x ≡ Some b → found ≡ front ++ b ∷ [] → whole ≡ with_front found (all_of make (drop (i + 1) xs))
  made_step b at w made grown = w ∙ (rw (here xs i x at, made, grown) (joined front b (all_of make (drop (i + 1) xs))))

  -- an element that is not
  pub none_step : slice_get xs i ≡ Some x → whole ≡ with_front front (all_of make (drop i xs)) → make x ≡ None → whole ≡ None
  none_step at w none = w ∙ (rw (here xs i x at, none) refl)

-- an error of an element is the error of the whole
pub refused : {X Y V W : Type 0} (view : X → Y) (whole_view : V → W) (e : GrammarError) (made : Option Y) (whole : Option W) → Makes view (Err e) made → (made ≡ None → whole ≡ None) → Makes whole_view (Err e) whole
refused view whole_view J1 made whole m none = none m
refused view whole_view J2 made whole m none = none m
refused view whole_view J3 made whole m none = none m
refused view whole_view J4 made whole m none = none m
refused view whole_view J5 made whole m none = none m
refused view whole_view J6 made whole m none = none m
refused view whole_view J7 made whole m none = none m
refused view whole_view J8 made whole m none = m

-- an item that is read
pub read_step : {A : Type 0} (read : Data → Option A) (was is : List Content × ℕ) (x : List Content) (a : A) (whole : Option (List A)) (front found : List A) → items_left was ≡ view x ∷ items_left is
    → whole ≡ with_front front (each read (items_view was)) → read (view x) ≡ Some a → found ≡ front ++ a ∷ [] → whole ≡ with_front found (each read (items_view is))
read_step read was is x a whole front found first w made grown = w ∙ (rw (first, made, grown) (joined front a (each read (items_view is))))
