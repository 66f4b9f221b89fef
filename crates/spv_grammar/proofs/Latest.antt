-- The members of an object, one after another: of equal keys the last one counts.
use Rattle.std.proofs.Common.{◌≡◌, ℕ, Bool, true, false, if◌then◌else◌, List, [], ◌∷◌, ◌++◌, Option, Some, bytes_eq, refl, sym, ap, ◌∙◌, append_assoc}
use Rattle.serde_json.specs.Data.{Data}
use Rattle.serde_json.specs.Find.{get_member}
use Rattle.json_tree.specs.View.{Content, members_of, members_left}
use Rattle.json_tree.proofs.Pairs.{last_named, last_other}

latest_step : (name key : List ℕ) (d : Data) (done : List (List ℕ × Data)) (old : Option Data) (b : Bool) → bytes_eq key name ≡ b → old ≡ get_member name (members_of done) → (if b then Some d else old) ≡ get_member name (members_of (done ++ (key, d) ∷ []))
latest_step name key d done old true e same = sym (last_named name done (key, d) e)
latest_step name key d done old false e same = same ∙ sym (last_other name done (key, d) e)

-- what is kept after one more member
pub latest : (name key : List ℕ) (d : Data) (done : List (List ℕ × Data)) (old new : Option Data) → new ≡ (if bytes_eq key name then Some d else old) → old ≡ get_member name (members_of done) → new ≡ get_member name (members_of (done ++ (key, d) ∷ []))
latest name key d done old new is same = is ∙ latest_step name key d done old (bytes_eq key name) refl same

-- one more member is done
pub one_done : (all was is : List Content × ℕ) (m : List ℕ × Data) (done : List (List ℕ × Data)) → members_left all ≡ done ++ members_left was → members_left was ≡ m ∷ members_left is → members_left all ≡ (done ++ m ∷ []) ++ members_left is
one_done all was is m done whole first = whole ∙ ap (λ (ms : List (List ℕ × Data)). done ++ ms) first ∙ sym (append_assoc done (m ∷ []) (members_left is))
