-- Nodes stay what they are while numbers and texts are added.
use Rattle.std.proofs.Common.{◌≡◌, ℕ, zero, suc, ◌<◌, List, [], ◌∷◌, ◌++◌, map, length, slice_get, Bor, Some, refl, ap, ap₂, ◌∙◌, arith}
use Rattle.std.proofs.lemmas.List.{map-append}
use Rattle.std.proofs.lemmas.List.Elements.{All-head, All-tail}
use Rattle.std.specs.List.{All}
use Rattle.serde_json.specs.declared.number.Number.{Number}
use Rattle.json_tree.specs.View.{Content}
use Rattle.json_tree.specs.inner.Stored.{numbered, text_of, content_of, IsStored}
use Rattle.json_tree.specs.declared.nodes.Stored.{Stored}
use Rattle.json_tree.specs.declared.nodes.Stored.TheVariants as is

-- what stands in a list stays where it is when the list grows
pub kept : {A : Type 0} (xs : List A) (y : A) (i : ℕ) → i < length xs → slice_get (xs ++ y ∷ []) i ≡ slice_get xs i
kept [] y i l = absurd (omega arith)
kept (x ∷ xs) y zero l = refl
kept (x ∷ xs) y (suc i) l = kept xs y i (omega arith)

pub added : {A : Type 0} (xs : List A) (y : A) → slice_get (xs ++ y ∷ []) (length xs) ≡ Some y
added [] y = refl
added (x ∷ xs) y = added xs y

module _ (source : List ℕ) (numbers numbers_after : List Number) (texts texts_after : List (Bor (List ℕ))) (same_numbers : (i : ℕ) → i < length numbers → slice_get numbers_after i ≡ slice_get numbers i)
    (same_texts : (i : ℕ) → i < length texts → slice_get texts_after i ≡ slice_get texts i) where
  same_content : (s : Stored) → IsStored source numbers texts s → content_of source numbers_after texts_after s ≡ content_of source numbers texts s
  same_content is.Null k = refl
  same_content (is.Bool b) k = refl
  same_content (is.Whole n) k = refl
  same_content (is.Number i) k = ap numbered (same_numbers i k)
  same_content (is.Near l p) k = refl
  same_content (is.Far i) k = ap text_of (same_texts i k)
  same_content (is.Array n) k = refl
  same_content (is.Object n) k = refl

  pub same_contents : (ss : List Stored) → All (IsStored source numbers texts) ss → map (content_of source numbers_after texts_after) ss ≡ map (content_of source numbers texts) ss
  same_contents [] all = refl
  same_contents (s ∷ ss) all =
      ap₂ (λ (x : Content) (xs : List Content). x ∷ xs) (same_content s (All-head (IsStored source numbers texts) s ss all)) (same_contents ss (All-tail (IsStored source numbers texts) s ss all))

  -- with one more node
  pub one_more : (ss : List Stored) (s : Stored) (c : Content) → All (IsStored source numbers texts) ss → content_of source numbers_after texts_after s ≡ c
      → map (content_of source numbers_after texts_after) (ss ++ s ∷ []) ≡ map (content_of source numbers texts) ss ++ c ∷ []
  one_more ss s c all is = map-append (content_of source numbers_after texts_after) ss (s ∷ []) ∙ ap₂ (λ (x : List Content) (y : Content). x ++ y ∷ []) (same_contents ss all) is
